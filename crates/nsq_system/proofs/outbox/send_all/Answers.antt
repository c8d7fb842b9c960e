use Rattle.std.proofs.Common.{sym, subst}
use Rattle.std.proofs.lemmas.Bool.{false≢true}
use Rattle.std.proofs.lemmas.List.{take_rest}
use Rattle.nsq_system.specs.Sendings.{SendsUpTo}
use Rattle.nsq_system.proofs.Deliveries.{sends_none, sends_more, sends_no_more, sends_whole, shorter_rest}
use Rattle.nsq_system.proofs.outbox.send_all.Goals as goal

pub loop-rest-init : goal.loop-rest-init
loop-rest-init g c = sends_none (g.W.Write.contents c.args.writer.now) c.args.bytes.now

pub loop-rest-smaller : goal.loop-rest-smaller
loop-rest-smaller g c = shorter_rest c.loop-rest.rest.now c.in-Some.sent c.in-Some.ensures.some c.in-Some.ensures.bound

pub loop-rest-preserved : goal.loop-rest-preserved
loop-rest-preserved g c =
    let held = g.W.Write.contents in
    let rest = c.loop-rest.rest.now in
    let n = c.in-Some.sent in
    subst (λ r. SendsUpTo (held c.args.writer.now) (held c.send.new.writer) c.args.bytes.now r) (sym (take_rest rest n))
    (sends_more (held c.args.writer.now) (held c.loop-rest.writer) (held c.send.new.writer) c.args.bytes.now rest n c.loop-rest.invariant c.in-Some.ensures.sent)

pub returns-in_default : goal.returns-in_default
returns-in_default g c = record {
  all = λ yes. absurd (false≢true yes);
  some = (c.loop-rest.rest.now, sends_no_more (g.W.Write.contents c.args.writer.now) (g.W.Write.contents c.loop-rest.writer) (g.W.Write.contents c.send.new.writer) c.args.bytes.now c.loop-rest.rest.now c.loop-rest.invariant c.in_default.ensures.none);
}

pub returns : goal.returns
returns g c = record {
  all = λ _. sends_whole (g.W.Write.contents c.args.writer.now) (g.W.Write.contents c.loop-rest.writer) c.args.bytes.now c.loop-rest.rest.now c.loop-rest-test.ensures c.loop-rest.invariant;
  some = (c.loop-rest.rest.now, c.loop-rest.invariant);
}
