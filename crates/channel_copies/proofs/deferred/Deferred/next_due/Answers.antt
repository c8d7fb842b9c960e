use Rattle.std.proofs.Common.{ℕ, sym, ap, ◌∙◌, option_map}
use Rattle.due_heap.specs.declared.key.Key.{Key}
use Rattle.channel_copies.specs.Deferred.{Deferring, Waiting, soonest_waiting}
use Rattle.channel_copies.proofs.Heaps.{next_waiting}
use Rattle.channel_copies.proofs.deferred.Deferred.next_due.Goals as goal

pub returns-in-Some : goal.returns-in-Some
returns-in-Some c =
    ap (option_map (λ (p : ℕ × Key). p.0)) (sym c.in-Some.is) ∙ (next_waiting c.self.inside.heap.entries c.first.result c.first.ensures.is ∙ ap (λ (v : Deferring). option_map (λ (w : Waiting). w.due) (soonest_waiting v.waiting)) c.self.view_is)

pub returns-in-None : goal.returns-in-None
returns-in-None c =
    ap (option_map (λ (p : ℕ × Key). p.0)) (sym c.in-None.is) ∙ (next_waiting c.self.inside.heap.entries c.first.result c.first.ensures.is ∙ ap (λ (v : Deferring). option_map (λ (w : Waiting). w.due) (soonest_waiting v.waiting)) c.self.view_is)
