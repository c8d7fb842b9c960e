use Rattle.std.proofs.Common.{Some, refl, ap, le_refl}
use Rattle.daemon_callers.proofs.Writing.{reply_told}
use Rattle.daemon_callers.proofs.Causing.{memory_cause}
use Rattle.daemon_callers.proofs.v2.output.answer.Goals as goal

pub returns-in-Quiet : goal.returns-in-Quiet
returns-in-Quiet g c = record {
  told = λ told. rw c.in-Quiet.is (refl, refl);
  warned = λ told. tt;
  cause = tt;
  write_faults = le_refl _;
  read_faults = le_refl _;
  pieces = refl;
  left = refl;
}

pub returns-in-Some : goal.returns-in-Some
returns-in-Some g c =
    let wrote = c.in-Some.ensures in
    record {
      told = λ told. rw c.in-Reply.is (reply_told c.in-Reply.frame c.in-Reply.closing _ _ c.in-Some.ended (wrote.told told));
      warned = wrote.warned;
      cause = wrote.cause;
      write_faults = wrote.write_faults;
      read_faults = wrote.read_faults;
      pieces = wrote.pieces;
      left = wrote.left;
    }

pub returns-then-closing : goal.returns-then-closing
returns-then-closing g c =
    let wrote = c.in-None.ensures in
    record {
      told = λ told. rw c.in-Reply.is (c.if-closing.true, wrote.told told);
      warned = λ told. tt;
      cause = tt;
      write_faults = wrote.write_faults;
      read_faults = wrote.read_faults;
      pieces = wrote.pieces;
      left = wrote.left;
    }

pub returns-in-Reply : goal.returns-in-Reply
returns-in-Reply g c =
    let wrote = c.in-None.ensures in
    record {
      told = λ told. rw c.in-Reply.is (c.if-closing.false, wrote.told told);
      warned = λ told. tt;
      cause = tt;
      write_faults = wrote.write_faults;
      read_faults = wrote.read_faults;
      pieces = wrote.pieces;
      left = wrote.left;
    }

pub returns-in-Memory : goal.returns-in-Memory
returns-in-Memory g c =
    let wrote = c.give_up.ensures in
    record {
      told = λ told. rw c.in-Memory.is (ap Some wrote.memory, wrote.told told);
      warned = wrote.warned;
      cause = memory_cause c.give_up.result _ _ wrote.memory;
      write_faults = wrote.write_faults;
      read_faults = wrote.read_faults;
      pieces = wrote.pieces;
      left = wrote.left;
    }
