use Rattle.std.proofs.Common.{take}
use Rattle.std.specs.List.{AllByRecursion}
use Rattle.daemon_main.specs.Drills.{NeverFailed}
use Rattle.daemon_main.proofs.drill_run.never_failed.Given as goal

abbrev pub invariant-loop-entry : goal.invariant-loop-entry
invariant-loop-entry l = AllByRecursion NeverFailed (take l.entry-index l.back)
