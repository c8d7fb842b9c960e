use Rattle.std.proofs.Common.{take, arith}
use Rattle.nsq_system.proofs.Deliveries.{keeps_same, keeps_again, keeps_then}
use Rattle.nsq_system.proofs.outbox.send.Goals as goal

pub loop-init : goal.loop-init
loop-init g c = keeps_same (g.W.Write.contents c.args.writer.now)

pub loop-preserved : goal.loop-preserved
loop-preserved g c = keeps_again (g.W.Write.contents c.args.writer.now) (g.W.Write.contents c.loop.writer) (g.W.Write.contents c.write.new.self) c.loop.invariant c.in-Err.ensures.bytes

pub returns-in-Ok : goal.returns-in-Ok
returns-in-Ok g c = record {
  some = omega arith;
  bound = c.in-Ok.ensures.bound;
  sent = keeps_then (g.W.Write.contents c.args.writer.now) (g.W.Write.contents c.loop.writer) (g.W.Write.contents c.write.new.self) (take c.in-Ok.sent c.args.bytes.now) c.loop.invariant c.in-Ok.ensures.bytes;
  none = tt;
}

pub returns-in-Err-2 : goal.returns-in-Err-2
returns-in-Err-2 g c = record {
  some = tt;
  bound = tt;
  sent = tt;
  none = keeps_again (g.W.Write.contents c.args.writer.now) (g.W.Write.contents c.loop.writer) (g.W.Write.contents c.write.new.self) c.loop.invariant c.in-Err-2.ensures.bytes;
}

pub returns : goal.returns
returns g c = record { some = tt; bound = tt; sent = tt; none = c.loop.invariant }
