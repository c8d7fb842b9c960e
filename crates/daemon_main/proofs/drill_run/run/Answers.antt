use Rattle.std.proofs.Common.{refl}
use Rattle.daemon_main.proofs.DrillRunning.{has_run_home}
use Rattle.daemon_main.proofs.drill_run.run.Goals as goal

pub returns-then-has_no_fault : goal.returns-then-has_no_fault
returns-then-has_no_fault g c =
    has_run_home c.args.publishes.now c.in_ok-host.host c.serve-ended.new.host c.in_ok-options.options c.serve-ended.result c.in_ok-host.ensures c.in_ok-options.ensures.value (c.if-is_clean.ensures.0 refl)
    c.serve-ended.ensures.faults c.serve-ended.ensures.home (c.if-has_no_fault.ensures.accept refl) (c.if-has_no_fault.ensures.folder refl) (c.if-has_no_fault.ensures.back refl)
    (c.serve-ended.ensures.run (record { host = refl; pieces = refl; written = refl; notes = refl; files = refl; readings = refl }))
