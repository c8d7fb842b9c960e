use Rattle.std.proofs.Common.{refl}
use Rattle.daemon_main.specs.Drills.{NeverFailed}
use Rattle.drill_parts.proofs.Lists.{all_next}
use Rattle.daemon_main.proofs.drill_run.never_failed.Goals as goal

pub loop-entry-preserved : goal.loop-entry-preserved
loop-entry-preserved c = all_next NeverFailed c.args.back.now c.loop-entry.entry-index _ c.entry-item.result c.entry-item.is c.loop-entry-test.true (c.if-not-has_worked.ensures refl) c.loop-entry.invariant
