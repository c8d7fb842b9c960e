use Rattle.std.proofs.Common.{◌≡◌, Option, Some, None, refl, subst, sym, ap}
use Rattle.std.specs.Prelude.{IfOk}
use Rattle.v2_frame.specs.declared.command.Command.{Command}
use Rattle.v2_frame.specs.declared.frame.Frame.{Frame}
use Rattle.floor_acts.specs.Replies.{KnowsOf, reply_in}
use Rattle.floor_acts.specs.declared.command.Replied.{Replied}
use Rattle.floor_acts.proofs.Replying.{handed_said, handed_short, handed_value}
use Rattle.floor_acts.proofs.command.answer.Goals as goal

pub returns-in-Sub : goal.returns-in-Sub
returns-in-Sub c = record {
  value = handed_value (λ (f : Frame). Some f) c.subscribe_reply.result c.certain.result c.certain.ensures _ _ c.subscribe_reply.ensures.value (sym (ap (reply_in c.args.hall.now c.args.client.now) c.in-Sub.is));
  said = handed_said (λ (f : Frame). Some f) c.subscribe_reply.result c.certain.result c.certain.ensures (KnowsOf c.args.hall.now.options c.args.command.now) (λ x. subst (λ command. KnowsOf c.args.hall.now.options command (Some x) None) (sym c.in-Sub.is) refl);
  short = handed_short (λ (f : Frame). Some f) c.subscribe_reply.result c.certain.result c.certain.ensures c.subscribe_reply.ensures.short;
}

pub returns-in-Pub : goal.returns-in-Pub
returns-in-Pub c = record {
  value = handed_value (λ (f : Frame). Some f) c.publish_reply.result c.certain-in-Pub.result c.certain-in-Pub.ensures _ _ c.publish_reply.ensures.value (sym (ap (reply_in c.args.hall.now c.args.client.now) c.in-Pub.is));
  said = handed_said (λ (f : Frame). Some f) c.publish_reply.result c.certain-in-Pub.result c.certain-in-Pub.ensures (KnowsOf c.args.hall.now.options c.args.command.now) (λ x. subst (λ command. KnowsOf c.args.hall.now.options command (Some x) None) (sym c.in-Pub.is) refl);
  short = handed_short (λ (f : Frame). Some f) c.publish_reply.result c.certain-in-Pub.result c.certain-in-Pub.ensures c.publish_reply.ensures.short;
}

pub returns-in-Mpub : goal.returns-in-Mpub
returns-in-Mpub c = record {
  value = handed_value (λ (f : Frame). Some f) c.batch_reply.result c.certain-in-Mpub.result c.certain-in-Mpub.ensures _ _ c.batch_reply.ensures.value (sym (ap (reply_in c.args.hall.now c.args.client.now) c.in-Mpub.is));
  said = handed_said (λ (f : Frame). Some f) c.batch_reply.result c.certain-in-Mpub.result c.certain-in-Mpub.ensures (KnowsOf c.args.hall.now.options c.args.command.now) (λ x. subst (λ command. KnowsOf c.args.hall.now.options command (Some x) None) (sym c.in-Mpub.is) refl);
  short = handed_short (λ (f : Frame). Some f) c.batch_reply.result c.certain-in-Mpub.result c.certain-in-Mpub.ensures c.batch_reply.ensures.short;
}

pub returns-in-Dpub-clause-said : goal.returns-in-Dpub-clause-said
returns-in-Dpub-clause-said c = handed_said (λ (f : Frame). Some f) c.delayed_reply.result c.certain-in-Dpub.result c.certain-in-Dpub.ensures (KnowsOf c.args.hall.now.options c.args.command.now) (λ x. subst (λ command. KnowsOf c.args.hall.now.options command (Some x) None) (sym c.in-Dpub.is) refl)

pub returns-in-Dpub-clause-short : goal.returns-in-Dpub-clause-short
returns-in-Dpub-clause-short c = handed_short (λ (f : Frame). Some f) c.delayed_reply.result c.certain-in-Dpub.result c.certain-in-Dpub.ensures c.delayed_reply.ensures.short

pub returns-in-Rdy-clause-said : goal.returns-in-Rdy-clause-said
returns-in-Rdy-clause-said c = handed_said (λ (f : Option Frame). f) c.ready_reply.result c.perhaps.result c.perhaps.ensures (KnowsOf c.args.hall.now.options c.args.command.now) (λ x. subst (λ command. KnowsOf c.args.hall.now.options command x None) (sym c.in-Rdy.is) refl)

pub returns-in-Rdy-clause-short : goal.returns-in-Rdy-clause-short
returns-in-Rdy-clause-short c = handed_short (λ (f : Option Frame). f) c.ready_reply.result c.perhaps.result c.perhaps.ensures c.ready_reply.ensures.short

pub returns-in-Cls : goal.returns-in-Cls
returns-in-Cls c = record {
  value = handed_value (λ (f : Frame). Some f) c.close_reply.result c.certain-in-Cls.result c.certain-in-Cls.ensures _ _ c.close_reply.ensures.value (sym (ap (reply_in c.args.hall.now c.args.client.now) c.in-Cls.is));
  said = handed_said (λ (f : Frame). Some f) c.close_reply.result c.certain-in-Cls.result c.certain-in-Cls.ensures (KnowsOf c.args.hall.now.options c.args.command.now) (λ x. subst (λ command. KnowsOf c.args.hall.now.options command (Some x) None) (sym c.in-Cls.is) refl);
  short = handed_short (λ (f : Frame). Some f) c.close_reply.result c.certain-in-Cls.result c.certain-in-Cls.ensures c.close_reply.ensures.short;
}

pub returns-in-Fin-clause-value : goal.returns-in-Fin-clause-value
returns-in-Fin-clause-value c =
    subst (λ (command : Command). IfOk c.message_reply.result (λ (r : Replied). r.reply ≡ reply_in c.args.hall.now c.args.client.now command)) (sym c.in-Fin.is) c.message_reply.ensures.value

pub returns-in-Fin-clause-said : goal.returns-in-Fin-clause-said
returns-in-Fin-clause-said c =
    subst (λ (command : Command). IfOk c.message_reply.result (λ (r : Replied). KnowsOf c.args.hall.now.options command r.reply r.said)) (sym c.in-Fin.is) c.message_reply.ensures.said

pub returns-in-Req-clause-value : goal.returns-in-Req-clause-value
returns-in-Req-clause-value c =
    subst (λ (command : Command). IfOk c.message_reply-in-Req.result (λ (r : Replied). r.reply ≡ reply_in c.args.hall.now c.args.client.now command)) (sym c.in-Req.is) c.message_reply-in-Req.ensures.value

pub returns-in-Req-clause-said : goal.returns-in-Req-clause-said
returns-in-Req-clause-said c =
    subst (λ (command : Command). IfOk c.message_reply-in-Req.result (λ (r : Replied). KnowsOf c.args.hall.now.options command r.reply r.said)) (sym c.in-Req.is) c.message_reply-in-Req.ensures.said

pub returns-in-Touch-clause-value : goal.returns-in-Touch-clause-value
returns-in-Touch-clause-value c =
    subst (λ (command : Command). IfOk c.message_reply-in-Touch.result (λ (r : Replied). r.reply ≡ reply_in c.args.hall.now c.args.client.now command)) (sym c.in-Touch.is) c.message_reply-in-Touch.ensures.value

pub returns-in-Touch-clause-said : goal.returns-in-Touch-clause-said
returns-in-Touch-clause-said c =
    subst (λ (command : Command). IfOk c.message_reply-in-Touch.result (λ (r : Replied). KnowsOf c.args.hall.now.options command r.reply r.said)) (sym c.in-Touch.is) c.message_reply-in-Touch.ensures.said
