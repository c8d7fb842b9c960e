use Rattle.std.proofs.Common.{◌≢◌, List, ◌++◌, ◌≡◌, Option, Some, refl, ap, subst, sym, ◌∙◌}
use Rattle.std.specs.Prelude.{IfSome}
use Rattle.v2_frame.specs.declared.message.Message.{Message}
use Rattle.backlog.specs.Seen.{FitsLimit}
use Rattle.backlog.specs.Lists.{list_with}
use Rattle.backlog.specs.declared.backlog.Lent.TheVariants.{Nothing}
use Rattle.broker_history.specs.State.{Taken}
use Rattle.topic_core.specs.Seen.{Seen, with_owed}
use Rattle.topic_core.proofs.Heads.{head_undone, if_head, undone_head}
use Rattle.topic_core.proofs.topic_queue.TopicQueue.undo_head.Goals as goal

pub undo-requires-clause-drawn : goal.undo-requires-clause-drawn
undo-requires-clause-drawn c = subst (λ (q : Seen). q.backlog.lent ≢ Nothing) (sym c.self.view_is) c.requires

pub undo-requires-clause-short : goal.undo-requires-clause-short
undo-requires-clause-short c = subst (λ (h : Option Message). IfSome h FitsLimit) (sym c.in-Some.ensures.value) c.self.invariant.owes.short

pub returns : goal.returns
returns c =
    let inside = c.self.inside in
    let old = c.args.self.now in
    let view = c.self.view_is in
    let m = c.in-Some.message in
    let taken : Taken = record { message = m; owed = inside.owed.items } in
    let there : old.head ≡ Some taken = ap (λ (q : Seen). q.head) (sym view) ∙ ap (λ (h : Option Message). with_owed h inside.owed.items) (sym c.in-Some.ensures.value) in
    let undone = undone_head inside.name inside.paused inside.message_count inside.backlog c.undo.new.self inside.head c.take.new.self inside.owed.items c.clear.new.self.items m old view c.take.ensures.after c.undo.ensures.seen in
    record {
      settled_now = c.undo.ensures.nothing_now;
      queue = c.undo.ensures.queue ∙ ap (λ (q : Seen). q.backlog.queue) view;
      seen = if_head old.head _ (λ head is. undone taken head there is refl);
      row = λ files. head_undone old _ files taken there c.requires (undone taken taken there there refl) (subst (λ (q : Seen). (disk : List Message) → c.undo.new.self.ring ++ disk ≡ list_with q.backlog m disk) view c.undo.ensures.first);
    }
