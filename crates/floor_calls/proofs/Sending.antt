-- What a client may be sent, by what a hall has.
use Rattle.std.proofs.Common.{◌≡◌, ◌⊎◌, inl, inr, ℕ, Bool, true, false, not, ◌&&◌, List, Option, Some, None, refl, sym, ap, subst, ◌∙◌}
use Rattle.std.specs.Prelude.{HoldsAt, option_and_then}
use Rattle.std.proofs.lemmas.Bool.{false≢true}
use Rattle.nsq_outside.specs.Files.{Files}
use Rattle.broker_history.specs.State.{Client, Channel, Route, State, channel_at, client_channel, is_lost, is_subscribed}
use Rattle.broker_history.specs.Channels.{has_credit}
use Rattle.broker_history.specs.Credit.{is_beat_due, is_quiet, is_silent, may_get}
use Rattle.floor_rooms.specs.Seen.{held_channel}
use Rattle.floor_laws.proofs.Pairs.{IfBoth}
use Rattle.floor_rooms.specs.declared.room.Room.{Room}
use Rattle.floor_rooms.specs.declared.hall.Hall.{Hall}
use Rattle.floor_rooms.specs.Places.{IsThere}
use Rattle.floor_rooms.specs.Rooms.{channel_name, room_in, stall_at, stall_in, topic_name}
use Rattle.floor_rooms.specs.Standing.{HoldsFor, IsStallOf}
use Rattle.floor_acts.specs.Dues.{GetsFrom}
use Rattle.floor_acts.specs.Replies.{stall_of, stall_on}
use Rattle.floor_acts.proofs.Found.{found_channel, held_route}

-- a client that is neither lost nor silent, and to which no heartbeat is due, is quiet
pub quiet : (at : ℕ) (c : Client) → is_lost c.phase ≡ false → is_silent at c ≡ false → is_beat_due at c ≡ false → is_quiet at c ≡ true
quiet at c lost silent beat = ap (λ b. not b && not (is_silent at c) && not (is_beat_due at c)) lost ∙ ap (λ b. not b && not (is_beat_due at c)) silent ∙ ap not beat

no_stall_gets : (files : Files) (c : Client) (k : Option Channel) → IfBoth (IsStallOf files) None k → may_get c k ≡ false
no_stall_gets files c None h = refl
no_stall_gets files c (Some k) h = absurd h

-- a client may get nothing of a channel that isn't there
none_on : (h : Hall) (c : Client) (route : Option Route) → stall_on h.rooms.items route ≡ None → (files : Files) (s : State) → HoldsFor h files s → may_get c (client_channel s route) ≡ false
none_on h c None none files s holds = refl
none_on h c (Some r) none files s holds =
    no_stall_gets files c (channel_at s r.topic r.channel) (subst (λ o. IfBoth (IsStallOf files) o (channel_at s r.topic r.channel)) none (found_channel h files s holds r.topic r.channel))

-- nor where it isn't subscribed
apart_gets : (c : Client) (k : Option Channel) → is_subscribed c.phase ≡ false → may_get c k ≡ false
apart_gets c None e = refl
apart_gets c (Some k) e = ap (λ b. b && has_credit c.ready c.number k) e

not_lost : (a b : Bool) → (not a && b) ≡ true → a ≡ false
not_lost true b e = absurd (false≢true e)
not_lost false b e = refl

front : (a b : Bool) → (a && b) ≡ true → a ≡ true
front true b e = refl
front false b e = absurd (false≢true e)

quiet_holds : (at : ℕ) (c : Client) → is_quiet at c ≡ true → is_lost c.phase ≡ false
quiet_holds at c e = not_lost (is_lost c.phase) true (ap (λ b. b && true) (front (not (is_lost c.phase)) (not (is_silent at c)) (front (not (is_lost c.phase) && not (is_silent at c)) (not (is_beat_due at c)) e)))

pub nothing_gets : (h : Hall) (c : Client) → is_quiet h.moment c ≡ true → (is_subscribed c.phase ≡ false) ⊎ (stall_of h c ≡ None) → (files : Files) (s : State) → HoldsFor h files s → may_get c (client_channel s c.route) ≡ false
nothing_gets h c calm (inl apart) files s holds = apart_gets c (client_channel s c.route) apart
nothing_gets h c calm (inr none) files s holds =
    none_on h c c.route (ap (stall_on h.rooms.items) (sym (held_route c.phase c.route (quiet_holds h.moment c calm))) ∙ none) files s holds

-- a client's channel isn't there where its topic isn't, or where that has none of its name
pub none_of : (h : Hall) (c : Client) (topic channel : List ℕ) → Some (record { topic = topic; channel = channel }) ≡ held_channel c.phase c.route → None ≡ stall_at h.rooms.items topic channel → stall_of h c ≡ None
none_of h c topic channel held none = ap (stall_on h.rooms.items) (sym held) ∙ sym none

pub no_room : (rooms : List Room) (topic channel : List ℕ) → room_in rooms topic ≡ None → None ≡ stall_at rooms topic channel
no_room rooms topic channel none = sym (ap (option_and_then (λ (r : Room). stall_in r.stalls.items channel)) none)

-- a client gets messages of its channel, which is there
pub gets_from : (h : Hall) (c : Client) (topic channel : List ℕ) (i j : ℕ) → is_lost c.phase ≡ false → is_subscribed c.phase ≡ true → Some (record { topic = topic; channel = channel }) ≡ held_channel c.phase c.route
    → IsThere topic_name h.rooms.items topic i → HoldsAt (λ r. IsThere channel_name r.stalls.items channel j) h.rooms.items i → GetsFrom h c i j
gets_from h c topic channel i j lost subscribed held room stall = record { route = record { topic = topic; channel = channel }; on = sym (held ∙ held_route c.phase c.route lost); subscribed = subscribed; room = room; stall = stall }
