use Rattle.std.proofs.Common.{ap, ◌∙◌, option_map, arith}
use Rattle.channel_copies.specs.Deferred.{Deferring, Waiting, first_waiting}
use Rattle.channel_copies.proofs.Heaps.{none_waits, later_waits, due_waits}
use Rattle.channel_copies.proofs.deferred.Deferred.first_due.Goals as goal

pub returns-in_default : goal.returns-in_default
returns-in_default c =
    ap (option_map (λ (w : Waiting). w.message)) (none_waits c.args.now c.self.inside.heap.entries c.first.result c.first.ensures.is c.in_default.is ∙ ap (λ (v : Deferring). first_waiting c.args.now v.waiting) c.self.view_is)

pub returns-then-now-due : goal.returns-then-now-due
returns-then-now-due c =
    ap (option_map (λ (w : Waiting). w.message)) (later_waits c.args.now c.self.inside.heap.entries c.first.result _ c.first.ensures.is c.in-Some.is (omega (arith, c.if-now-due.true)) ∙ ap (λ (v : Deferring). first_waiting c.args.now v.waiting) c.self.view_is)

pub returns : goal.returns
returns c =
    c.get.ensures
    ∙ (due_waits c.args.now c.self.inside.heap.entries c.first.result _ c.first.ensures.is c.in-Some.is (omega (arith, c.if-now-due.false)) c.in-Some.ensures.live ∙ ap (λ (v : Deferring). option_map (λ (w : Waiting). w.message) (first_waiting c.args.now v.waiting)) c.self.view_is)
