use Rattle.std.proofs.Common.{◌≡◌, subst, sym, ◌∙◌}
use Rattle.std.specs.List.{AllByRecursion}
use Rattle.drill_parts.specs.Draws.{publishes}
use Rattle.daemon_main.specs.Drills.{HasRunDrill}
use Rattle.daemon_main.proofs.Drilling.{has_drilled, home_names}
use Rattle.drill_parts.proofs.Spelling.{IsShort, publishes_short}
use Rattle.daemon_main.proofs.drill_run.drill.Goals as goal

pub conclude-requires-clause-names : goal.conclude-requires-clause-names
conclude-requires-clause-names g c =
    let drawn : c.deref.result.now ≡ publishes c.args.seed c.args.count = c.deref.ensures.value ∙ c.in_ok-publishes.ensures in
    home_names c.deref.result.now c.in_ok-host.host (subst (λ all. AllByRecursion IsShort all) (sym drawn) (publishes_short c.args.seed c.args.count)) c.in_ok-host.ensures

pub returns : goal.returns
returns g c =
    let drawn : c.deref.result.now ≡ publishes c.args.seed c.args.count = c.deref.ensures.value ∙ c.in_ok-publishes.ensures in
    has_drilled c.args.seed c.args.count c.in_ok-host.host c.conclude.result (subst (λ all. HasRunDrill all c.in_ok-host.host) drawn c.in_ok-host.ensures) c.requires.count c.conclude.ensures.host c.conclude.ensures.counts
