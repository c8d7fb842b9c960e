-- What is found in a hall is what is found in each state that it stands for.
use Rattle.std.proofs.Common.{◌≡◌, ◌≤◌, ℕ, Bool, true, false, ◌&&◌, List, [], ◌∷◌, Option, Some, None, nat_lt, refl, sym, ap, ◌∙◌, arith}
use Rattle.std.specs.Prelude.{option_and_then}
use Rattle.std.specs.List.{HoldsAt}
use Rattle.std.specs.Str.{bytes_eq}
use Rattle.std.proofs.lemmas.Bool.{false≢true, lt-ltb}
use Rattle.nsq_outside.specs.Files.{Files}
use Rattle.v2_frame.specs.declared.message.Message.{Message}
use Rattle.broker_history.specs.State.{Place, Queued, InFlight, Deferred, Finished, Emptied, Dropped, Phase, Fresh, Subscribed, Closing, Lost, Client, Copy, Channel, Topic, State, Route, channel_at, channel_of, client_channel, flying_with, flying_of, is_in_flight, is_lost, is_with, topic_of}
use Rattle.broker_history.specs.Channels.{one}
use Rattle.broker_history.specs.Reply.{copies_in, has_in_flight}
use Rattle.broker_history.proofs.Counting.{count-cons}
use Rattle.channel_core.proofs.Copies.{flying_with_is}
use Rattle.channel_core.specs.Answers.{Looks}
use Rattle.channel_core.specs.Seen.{channel_with, queued_in}
use Rattle.channel_core.specs.declared.answers.Look.{Look}
use Rattle.channel_core.specs.declared.answers.Look.TheVariants.{Yours, NotYours, NotInFlight}
use Rattle.floor_rooms.specs.Seen.{held_channel}
use Rattle.floor_laws.proofs.Counting.{counts_alike}
use Rattle.floor_laws.proofs.Pairs.{IfBoth, pairs_found}
use Rattle.floor_rooms.specs.declared.stall.Stall.{Stall}
use Rattle.floor_rooms.specs.declared.room.Room.{Room}
use Rattle.floor_rooms.specs.declared.hall.Hall.{Hall}
use Rattle.floor_rooms.specs.Places.{IsThere}
use Rattle.floor_rooms.specs.Rooms.{channel_name, topic_name, room_in, stall_at, stall_in}
use Rattle.floor_rooms.specs.Standing.{IsStallOf, IsRoomOf, HoldsFor}
use Rattle.floor_rooms.proofs.Staying.{room_named, stall_named}
use Rattle.floor_acts.specs.Replies.{copies_at, flies_in, stall_of, stall_on}

-- the topic of a name is there in both, or in neither
pub found_room : (h : Hall) (files : Files) (s : State) → HoldsFor h files s → (topic : List ℕ) → IfBoth (IsRoomOf files) (room_in h.rooms.items topic) (topic_of s topic)
found_room h files s holds topic =
    pairs_found (IsRoomOf files) (λ r. bytes_eq topic (topic_name r)) (λ (t : Topic). bytes_eq topic t.name) h.rooms.items s.topics (λ r t is. ap (bytes_eq topic) (sym (room_named files r t is))) holds.stands.topics

-- so is the channel of a topic
pub found_stall : (files : Files) (r : Room) (t : Topic) → IsRoomOf files r t → (channel : List ℕ) → IfBoth (IsStallOf files) (stall_in r.stalls.items channel) (channel_of t channel)
found_stall files r t is channel =
    pairs_found (IsStallOf files) (λ x. bytes_eq channel (channel_name x)) (λ (k : Channel). bytes_eq channel k.name) r.stalls.items t.channels (λ x k of. ap (bytes_eq channel) (sym (stall_named files x k of))) is.channels

found_in : (files : Files) (channel : List ℕ) (r : Option Room) (t : Option Topic) → IfBoth (IsRoomOf files) r t → IfBoth (IsStallOf files) (option_and_then (λ (r : Room). stall_in r.stalls.items channel) r) (option_and_then (λ (t : Topic). channel_of t channel) t)
found_in files channel None None is = tt
found_in files channel None (Some t) is = absurd is
found_in files channel (Some r) None is = absurd is
found_in files channel (Some r) (Some t) is = found_stall files r t is channel

pub found_channel : (h : Hall) (files : Files) (s : State) → HoldsFor h files s → (topic channel : List ℕ) → IfBoth (IsStallOf files) (stall_at h.rooms.items topic channel) (channel_at s topic channel)
found_channel h files s holds topic channel = found_in files channel (room_in h.rooms.items topic) (topic_of s topic) (found_room h files s holds topic)

-- whether a look found the copy with the client
abbrev pub is_yours : Look → Bool
is_yours Yours = true
is_yours NotYours = false
is_yours NotInFlight = false

-- a copy with a client is in flight
with_flies : (number : ℕ) (a : Place) → is_with number a ≡ true → is_in_flight a ≡ true
with_flies number (InFlight client due sent) h = refl
with_flies number Queued h = absurd (false≢true h)
with_flies number (Deferred due) h = absurd (false≢true h)
with_flies number Finished h = absurd (false≢true h)
with_flies number Emptied h = absurd (false≢true h)
with_flies number Dropped h = absurd (false≢true h)

fewer_one : (a b c : Bool) → (a ≡ true → b ≡ true) → one (a && c) ≤ one (b && c)
fewer_one true b c h = omega (arith, ap (λ x. one (x && c)) (h refl))
fewer_one false b c h = omega arith

-- no more copies of an id are in flight with a client than with all
with_fewer : (number : ℕ) (id : List ℕ) (copies : List Copy) → flying_with number id copies ≤ flying_of id copies
with_fewer number id [] = omega arith
with_fewer number id (x ∷ xs) =
    omega (
      arith,
      count-cons (λ (y : Copy). is_with number y.place && bytes_eq id y.message.id) x xs,
      count-cons (λ (y : Copy). is_in_flight y.place && bytes_eq id y.message.id) x xs,
      fewer_one (is_with number x.place) (is_in_flight x.place) (bytes_eq id x.message.id) (with_flies number x.place),
      with_fewer number id xs,
    )

-- a look finds the copy with the client exactly where one is in flight with it
looks_right : (number : ℕ) (id : List ℕ) (k : Channel) (found : Look) → Looks number id k found → is_yours found ≡ nat_lt 0 (flying_with number id k.copies)
looks_right number id k Yours h = sym (lt-ltb 0 (flying_with number id k.copies) (omega (arith, h)))
looks_right number id k NotYours h = sym (ap (nat_lt 0) h.1)
looks_right number id k NotInFlight h = let none : flying_with number id k.copies ≡ 0 = omega (arith, h, with_fewer number id k.copies) in sym (ap (nat_lt 0) none)

-- a client that isn't lost has its route's channel
pub held_route : (phase : Phase) (route : Option Route) → is_lost phase ≡ false → held_channel phase route ≡ route
held_route Fresh route h = refl
held_route Subscribed route h = refl
held_route Closing route h = refl
held_route Lost route h = absurd (false≢true (sym h))

-- so a look tells whether one flies in the hall
pub looked : (h : Hall) (c : Client) (id : List ℕ) (x : Stall) (found : Look) → Some x ≡ stall_of h c → ((waits : List Message) → Looks c.number id (channel_with x.channel waits) found) → is_yours found ≡ flies_in h c id
looked h c id x found some looks = looks_right c.number id (channel_with x.channel []) found (looks []) ∙ ap (λ o. nat_lt 0 (flying_with c.number id (copies_at o))) some

-- as many fly in the hall as in each state that it stands for
both_fly : (files : Files) (number : ℕ) (id : List ℕ) (o : Option Stall) (u : Option Channel) → IfBoth (IsStallOf files) o u → flying_with number id (copies_at o) ≡ flying_with number id (copies_in u)
both_fly files number id None None h = refl
both_fly files number id None (Some k) h = absurd h
both_fly files number id (Some x) None h = absurd h
both_fly files number id (Some x) (Some k) h =
    flying_with_is number id [] x.channel.flights x.channel.deferred ∙ sym (flying_with_is number id (queued_in x.channel h.disk) x.channel.flights x.channel.deferred)
    ∙ (counts_alike (channel_with x.channel (queued_in x.channel h.disk)) k h.is_kept).with_client number id

fly_on : (h : Hall) (files : Files) (s : State) → HoldsFor h files s → (number : ℕ) (id : List ℕ) (route : Option Route) → flying_with number id (copies_at (stall_on h.rooms.items route)) ≡ flying_with number id (copies_in (client_channel s route))
fly_on h files s holds number id None = refl
fly_on h files s holds number id (Some r) = both_fly files number id (stall_at h.rooms.items r.topic r.channel) (channel_at s r.topic r.channel) (found_channel h files s holds r.topic r.channel)

pub flies_alike : (h : Hall) (c : Client) → is_lost c.phase ≡ false → (files : Files) (s : State) → HoldsFor h files s → (id : List ℕ) → flies_in h c id ≡ has_in_flight s c id
flies_alike h c lost files s holds id =
    ap (λ r. nat_lt 0 (flying_with c.number id (copies_at (stall_on h.rooms.items r)))) (held_route c.phase c.route lost) ∙ ap (nat_lt 0) (fly_on h files s holds c.number id c.route)

-- a topic that is there has no channel of a name that isn't
pub none_at : (rooms : List Room) (topic channel : List ℕ) (i : ℕ) → IsThere topic_name rooms topic i → HoldsAt (λ r. stall_in r.stalls.items channel ≡ None) rooms i → None ≡ stall_at rooms topic channel
none_at [] topic channel i there none = let l = there.stands.in_range in absurd (let no : ⊥ = omega (arith, l) in no)
none_at (r ∷ rs) topic channel i there none = sym (ap (option_and_then (λ (r : Room). stall_in r.stalls.items channel)) (there.found r) ∙ none r)
