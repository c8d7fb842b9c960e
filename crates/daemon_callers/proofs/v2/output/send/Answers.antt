use Rattle.std.proofs.Common.{sym, subst, Some}
use Rattle.broker_history.specs.declared.ended.Ended.{Ended}
use Rattle.daemon_callers.specs.Outputs.{WritesFrame}
use Rattle.daemon_callers.proofs.Causing.{memory_cause}
use Rattle.daemon_callers.proofs.v2.output.send.Goals as goal

pub returns-then-is_err : goal.returns-then-is_err
returns-then-is_err g c =
    let up = c.give_up in
    record {
      told = λ told. subst (λ (x : Ended). WritesFrame c.args.frame.now (g.K.Sink.written c.args.conn.now) (g.K.Sink.written up.new.conn) (Some x)) (sym up.ensures.memory) (up.ensures.told told);
      warned = up.ensures.warned;
      cause = memory_cause up.result _ _ up.ensures.memory;
      write_faults = up.ensures.write_faults;
      read_faults = up.ensures.read_faults;
      pieces = up.ensures.pieces;
      left = up.ensures.left;
    }

pub returns-then-write_all-clause-warned : goal.returns-then-write_all-clause-warned
returns-then-write_all-clause-warned g c = λ told. tt

pub returns-then-write_all-clause-write_faults : goal.returns-then-write_all-clause-write_faults
returns-then-write_all-clause-write_faults g c = c.write_all.ensures.write_faults

pub returns-then-write_all-clause-read_faults : goal.returns-then-write_all-clause-read_faults
returns-then-write_all-clause-read_faults g c = c.write_all.ensures.read_faults

pub returns-then-write_all-clause-pieces : goal.returns-then-write_all-clause-pieces
returns-then-write_all-clause-pieces g c = c.write_all.ensures.pieces

pub returns-then-write_all-clause-left : goal.returns-then-write_all-clause-left
returns-then-write_all-clause-left g c = c.write_all.ensures.left

pub returns-then-write_all-clause-cause : goal.returns-then-write_all-clause-cause
returns-then-write_all-clause-cause g c = tt

pub returns-else-write_all-clause-warned : goal.returns-else-write_all-clause-warned
returns-else-write_all-clause-warned g c = λ told. tt

pub returns-else-write_all-clause-write_faults : goal.returns-else-write_all-clause-write_faults
returns-else-write_all-clause-write_faults g c = c.write_all.ensures.write_faults

pub returns-else-write_all-clause-read_faults : goal.returns-else-write_all-clause-read_faults
returns-else-write_all-clause-read_faults g c = c.write_all.ensures.read_faults

pub returns-else-write_all-clause-pieces : goal.returns-else-write_all-clause-pieces
returns-else-write_all-clause-pieces g c = c.write_all.ensures.pieces

pub returns-else-write_all-clause-left : goal.returns-else-write_all-clause-left
returns-else-write_all-clause-left g c = c.write_all.ensures.left

pub returns-else-write_all-clause-cause : goal.returns-else-write_all-clause-cause
returns-else-write_all-clause-cause g c = c.write_all.ensures.cause c.if-write_all.false
