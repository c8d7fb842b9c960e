-- Which clients are there as a channel goes.
use Rattle.std.proofs.Common.{◌≡◌, ℕ, Bool, true, false, if◌then◌else◌, List, Option, Some, None, is_some, option_map, refl, ap, ◌∙◌}
use Rattle.broker_history.specs.State.{Client, Lost as IsLost, has_channel}
use Rattle.broker_history.specs.Changes.{lost}
use Rattle.floor_rooms.proofs.Putting.{found_map}
use Rattle.floor_rooms.specs.Rooms.{client_in}
use Rattle.floor_topics.specs.Losing.{LosesClients}
use Rattle.floor_topics.specs.declared.lost.Lost.{Lost}
use Rattle.floor_topics.specs.declared.lost.Lost.TheVariants.{Done, Fault}

one_lost : (b : Bool) (c : Client) → (if b then record c { phase = IsLost } else c).number ≡ c.number
one_lost true c = refl
one_lost false c = refl

lost_number : (topic channel : List ℕ) (c : Client) → (lost topic channel c).number ≡ c.number
lost_number topic channel c = one_lost (has_channel topic channel c) c

mapped : {X : Type 0} (f : X → X) (o : Option X) → is_some (option_map f o) ≡ is_some o
mapped f None = refl
mapped f (Some x) = refl

-- a client that lost its channel is there still
pub numbers_lost : (r : Lost) (topic channel : List ℕ) (old new : List Client) → LosesClients r topic channel old new → (m : ℕ) → is_some (client_in new m) ≡ is_some (client_in old m)
numbers_lost Done topic channel old new is m = ap (λ cs. is_some (client_in cs m)) is ∙ ap is_some (found_map (lost topic channel) old m (lost_number topic channel)) ∙ mapped (lost topic channel) (client_in old m)
numbers_lost Fault topic channel old new is m = ap (λ cs. is_some (client_in cs m)) is
