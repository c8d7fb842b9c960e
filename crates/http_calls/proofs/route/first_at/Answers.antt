use Rattle.std.proofs.Common.{sym, ap, ◌∙◌}
use Rattle.std.specs.Str.{bytes_eq}
use Rattle.http_calls.proofs.RouteLemmas.{find_hit, find_miss}
use Rattle.http_calls.proofs.route.first_at.Goals as goal

pub returns-then-same : goal.returns-then-same
returns-then-same c =
    sym (find_hit _ _ _ _ c.loop-route-test.true c.loop-route.invariant (ap (bytes_eq c.args.path.now) (sym c.path.ensures) ∙ sym c.same.ensures ∙ c.if-same.true))

pub loop-route-preserved : goal.loop-route-preserved
loop-route-preserved c =
    find_miss _ _ _ _ c.loop-route-test.true c.loop-route.invariant (ap (bytes_eq c.args.path.now) (sym c.path.ensures) ∙ sym c.same.ensures ∙ c.if-same.false)
