-- How many steps a call may add, by the calls of its heaps.
use Rattle.std.specs.Prelude.{◌≡◌, ◌≢◌, ℕ, ◌+◌, ◌*◌, ◌^◌, ◌≤◌, ◌<◌, Bool, true, false, List, length, Option, Some, None}
use Rattle.channel_copies.specs.Flights.{CostsCalls}
use Rattle.channel_core.specs.declared.answers.Offer.{Offer}
use Rattle.channel_core.specs.declared.answers.Offer.TheVariants.{Done, Fault, Memory as WantsMemory}
use Rattle.channel_core.specs.Seen.{Seen}

-- calls of the heap of copies in flight, so many, and of that of deferred ones, so many: each found at most as many copies as there were in its
-- own heap, and no other step was added. Each call adds at most 2d + 2, where d is the greatest with 2^d ≤ copies + 1
abbrev pub CostsHeaps : (flying deferring : ℕ) → Seen → (before now : ℕ) → Type 0
CostsHeaps flying deferring v before now =
    (d e : ℕ) → length v.flights + 1 < 2 ^ (d + 1) → length v.deferred + 1 < 2 ^ (e + 1) → now ≤ before + (flying * (2 * d + 2) + deferring * (2 * e + 2))

-- calls of the one heap, and of the other
abbrev pub CostsFlying : (calls : ℕ) → Seen → (before now : ℕ) → Type 0
CostsFlying calls v before now = CostsCalls calls (length v.flights) before now

abbrev pub CostsDeferred : (calls : ℕ) → Seen → (before now : ℕ) → Type 0
CostsDeferred calls v before now = CostsCalls calls (length v.deferred) before now

-- one call where a copy was deferred, and none where the message came back
abbrev pub OfferCosts : Seen → (before now : ℕ) → Offer → Type 0
OfferCosts v before now Done = CostsDeferred 1 v before now
OfferCosts v before now (Fault back) = now ≡ before
OfferCosts v before now (WantsMemory back) = now ≡ before

-- a copy that is given back at once leaves its heap, and comes into it again where the folder fails; one that is deferred goes from the one heap
-- to the other
pub record RequeueCosts (delay : ℕ) (v : Seen) (before now : ℕ) : Type 0 where
  pub at_once : delay ≡ 0 → CostsFlying 2 v before now
  pub later : delay ≢ 0 → CostsHeaps 1 1 v before now

-- a copy that is due leaves its heap, and comes into it again where the folder fails
abbrev pub MoveCosts : Seen → (before now : ℕ) → Option (List ℕ × Bool) → Type 0
MoveCosts v before now None = now ≡ before
MoveCosts v before now (Some (id, true)) = CostsFlying 2 v before now
MoveCosts v before now (Some (id, false)) = CostsDeferred 2 v before now
