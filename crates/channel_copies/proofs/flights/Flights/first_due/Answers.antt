use Rattle.std.proofs.Common.{ap, ◌∙◌, arith}
use Rattle.channel_copies.specs.Flights.{Flying, first_due}
use Rattle.channel_copies.proofs.Heaps.{none_first, later_first, due_first}
use Rattle.channel_copies.proofs.flights.Flights.first_due.Goals as goal

pub returns-in_default : goal.returns-in_default
returns-in_default c =
    none_first c.args.now c.self.inside.heap.entries c.first.result c.self.invariant.indexed.fit c.first.ensures.is c.in_default.is ∙ ap (λ (v : Flying). first_due c.args.now v.flights) c.self.view_is

pub returns-then-now-due : goal.returns-then-now-due
returns-then-now-due c =
    later_first c.args.now c.self.inside.heap.entries c.first.result _ c.self.invariant.indexed.fit c.first.ensures.is c.in-Some.is (omega (arith, c.if-now-due.true)) ∙ ap (λ (v : Flying). first_due c.args.now v.flights) c.self.view_is

pub returns : goal.returns
returns c =
    c.get.ensures
    ∙ (due_first c.args.now c.self.inside.heap.entries c.first.result _ c.self.invariant.indexed.fit c.first.ensures.is c.in-Some.is (omega (arith, c.if-now-due.false)) c.in-Some.ensures.live ∙ ap (λ (v : Flying). first_due c.args.now v.flights) c.self.view_is)
