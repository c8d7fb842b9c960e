use Rattle.std.proofs.Common.{◌<◌, length, arith}
use Rattle.std.proofs.lemmas.Iterator.Adapters.{YieldsList-from_vec}
use Rattle.std.proofs.lemmas.Iterator.Consumers.{YieldsList-turn}
use Rattle.floor_topics.proofs.Bodies.{messages_push, pushed_count}
use Rattle.floor_topics.proofs.messages.messages_of.Goals as goal

pub make-requires-clause-number : goal.make-requires-clause-number
make-requires-clause-number c =
    let t = YieldsList-turn (YieldsList-from_vec c.args.bodies.items (cc) (cc)) c.loop-body.yielded c.loop-body.body-iterator c.loop-body.yielded_by c.next.result c.next.new.self c.in-Some.body c.in-Some.is c.next.ensures.steps in
    let within : length c.loop-body.yielded < length c.args.bodies.items = t.0 in
    omega (arith, within, c.loop-body.invariant.number, c.requires.ids)

pub loop-body-preserved : goal.loop-body-preserved
loop-body-preserved c = record {
  items =
      messages_push c.args.hall.now.epoch c.args.hall.now.ids_used c.args.hall.now.moment c.args.delay c.loop-body.yielded c.in-Some.body c.loop-body.messages.items c.push.new.self.items c.loop-body.number c.make.result c.loop-body.invariant.items c.loop-body.invariant.number c.make.ensures
      c.in_ok-push.ensures.items;
  number = pushed_count c.args.hall.now.ids_used c.loop-body.number c.loop-body.yielded c.in-Some.body c.loop-body.invariant.number;
}
