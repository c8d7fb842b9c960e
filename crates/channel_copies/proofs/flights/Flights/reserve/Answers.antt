use Rattle.std.proofs.Common.{ap, unwrap_or}
use Rattle.due_heap.specs.Heap.{Heap}
use Rattle.channel_copies.specs.declared.flight.Flight.{Flight}
use Rattle.channel_copies.proofs.Indexing.{kept_alike}
use Rattle.channel_copies.proofs.flights.Flights.reserve.Goals as goal

pub invariant_of-self-in_err-reserve-3 : goal.invariant_of-self-in_err-reserve-3
invariant_of-self-in_err-reserve-3 c = kept_alike c.self.invariant (ap (λ (h : Heap Flight). h.entries) c.reserve.ensures.rest) c.reserve-2.ensures.entries.2 (λ k. ap (λ o. unwrap_or o 0) (c.reserve-3.ensures.entries.2 k))

pub invariant_of-self-2 : goal.invariant_of-self-2
invariant_of-self-2 c = kept_alike c.self.invariant (ap (λ (h : Heap Flight). h.entries) c.reserve.ensures.rest) c.reserve-2.ensures.entries.2 (λ k. ap (λ o. unwrap_or o 0) (c.reserve-3.ensures.entries.2 k))
