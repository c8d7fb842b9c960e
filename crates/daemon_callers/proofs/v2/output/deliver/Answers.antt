use Rattle.std.proofs.Common.{refl, ap, le_refl}
use Rattle.daemon_callers.specs.declared.v2.output.Delivered.TheVariants.{Over}
use Rattle.daemon_callers.proofs.Causing.{memory_cause}
use Rattle.daemon_callers.proofs.v2.output.deliver.Goals as goal

pub returns-in-Idle : goal.returns-in-Idle
returns-in-Idle g c = record {
  told = λ told. rw c.in-Idle.is (refl, refl);
  warned = λ told. tt;
  cause = tt;
  write_faults = le_refl _;
  read_faults = le_refl _;
  pieces = refl;
  left = refl;
}

pub returns-in-Some : goal.returns-in-Some
returns-in-Some g c =
    let wrote = c.in-Some.ensures in
    record {
      told = λ told. rw c.in-Send.is (wrote.told told);
      warned = wrote.warned;
      cause = wrote.cause;
      write_faults = wrote.write_faults;
      read_faults = wrote.read_faults;
      pieces = wrote.pieces;
      left = wrote.left;
    }

pub returns-in-Send : goal.returns-in-Send
returns-in-Send g c =
    let wrote = c.in-None.ensures in
    record {
      told = λ told. rw c.in-Send.is (wrote.told told);
      warned = λ told. tt;
      cause = tt;
      write_faults = wrote.write_faults;
      read_faults = wrote.read_faults;
      pieces = wrote.pieces;
      left = wrote.left;
    }

pub returns-in-Memory : goal.returns-in-Memory
returns-in-Memory g c =
    let wrote = c.give_up.ensures in
    record {
      told = λ told. rw c.in-Memory.is (ap Over wrote.memory, wrote.told told);
      warned = wrote.warned;
      cause = memory_cause c.give_up.result _ _ wrote.memory;
      write_faults = wrote.write_faults;
      read_faults = wrote.read_faults;
      pieces = wrote.pieces;
      left = wrote.left;
    }
