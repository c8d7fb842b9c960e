-- What a client is to be sent.
use Rattle.std.specs.Prelude.{◌≡◌, ◌⊎◌, ℕ, false, true, HoldsAt, Some, None}
use Rattle.broker_history.specs.State.{Client, Route, is_lost, is_subscribed}
use Rattle.broker_history.specs.Credit.{is_beat_due, is_quiet, is_silent}
use Rattle.floor_rooms.specs.declared.hall.Hall.{Hall}
use Rattle.floor_rooms.specs.Places.{IsThere}
use Rattle.floor_rooms.specs.Rooms.{channel_name, topic_name}
use Rattle.floor_acts.specs.Replies.{stall_of}
use Rattle.floor_acts.specs.declared.due.NextDue.{NextDue}
use Rattle.floor_acts.specs.declared.due.NextDue.TheVariants.{Dropped, Silent, Beat, Nothing, Message}

-- the client gets messages of the channel at these places
pub record GetsFrom (h : Hall) (c : Client) (i j : ℕ) : Type 0 where
  pub route : Route
  pub on : c.route ≡ Some route
  pub subscribed : is_subscribed c.phase ≡ true
  pub room : IsThere topic_name h.rooms.items route.topic i
  pub stall : HoldsAt (λ r. IsThere channel_name r.stalls.items route.channel j) h.rooms.items i

-- what is due to a client is the first of these that holds; nothing is where it gets no messages, or has no channel that is there
abbrev pub IsDueTo : Hall → Client → NextDue → Type 0
IsDueTo h c Dropped = is_lost c.phase ≡ true
IsDueTo h c Silent = (is_lost c.phase ≡ false) × (is_silent h.moment c ≡ true)
IsDueTo h c Beat = (is_lost c.phase ≡ false) × (is_silent h.moment c ≡ false) × (is_beat_due h.moment c ≡ true)
IsDueTo h c Nothing = (is_quiet h.moment c ≡ true) × ((is_subscribed c.phase ≡ false) ⊎ (stall_of h c ≡ None))
IsDueTo h c (Message i j) = (is_quiet h.moment c ≡ true) × GetsFrom h c i j
