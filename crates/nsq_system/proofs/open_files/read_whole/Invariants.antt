use Rattle.std.proofs.Common.{◌≤◌, length}
use Rattle.nsq_system.proofs.open_files.read_whole.Given as goal

abbrev pub invariant-loop : goal.invariant-loop
invariant-loop g l = l.got ≤ length l.into
