-- A client goes from a hall, and from its channel where it has one.
use Rattle.std.proofs.Common.{◌≡◌, ◌==◌, ℕ, suc, Bool, true, false, not, ◌&&◌, nat_eq, if◌then◌else◌, List, ◌++◌, set, take, drop, get_or, Option, Some, None, refl, sym, ap, subst, ◌∙◌, arith}
use Rattle.std.specs.Prelude.{HoldsAt, IfSome, IsSome, is_some, option_and_then}
use Rattle.std.specs.Global.{Vec}
use Rattle.std.specs.List.{All, Contains, list_any, slice_get}
use Rattle.std.specs.Str.{bytes_eq}
use Rattle.std.proofs.lemmas.Bool.{eqb-true, false≢true}
use Rattle.std.proofs.lemmas.List.Elements.{All-filter, All-weaker}
use Rattle.std.proofs.lemmas.Option.{get_or_from_slice_get}
use Rattle.nsq_outside.specs.Files.{Files}
use Rattle.broker_history.specs.State.{Client, Closing, Fresh, Lost, Phase, Route, State, Subscribed, has_channel, is_lost, is_on, without_client}
use Rattle.broker_history.proofs.Lists.{same_bytes}
use Rattle.channel_copies.specs.Clients.{client_of}
use Rattle.floor_rooms.specs.ClientPlaces.{AreInOrder}
use Rattle.floor_rooms.specs.Seen.{held_channel}
use Rattle.floor_rooms.proofs.Putting.{found_gone, gone_standing, order_gone}
use Rattle.floor_rooms.specs.declared.stall.Stall.{Stall}
use Rattle.floor_rooms.specs.declared.room.Room.{Room}
use Rattle.floor_rooms.specs.declared.hall.Hall.{Hall}
use Rattle.floor_rooms.specs.Rooms.{channel_name, topic_name, client_in, room_in, stall_in, stall_at}
use Rattle.floor_rooms.specs.Sound.{AreMembers, AsksForNone, HasItsChannel, IsRoomSound, IsSound, IsStallSound, member_of}
use Rattle.floor_rooms.specs.Standing.{HoldsFor}
use Rattle.floor_rooms.specs.Places.{IsThere}
use Rattle.floor_rooms.specs.Changes.{AtStall, KeepsSince}
use Rattle.floor_rooms.specs.Kept.{NamesTold}
use Rattle.floor_rooms.proofs.Sounding.{Lowers, at_all, room_lowered}
use Rattle.floor_rooms.proofs.Forming.{some_at}
use Rattle.floor_topics.specs.Seating.{AreAscending, HasSeat, Seats}
use Rattle.floor_topics.proofs.LostStalls.{and_both, on_one, right_true}
use Rattle.floor_topics.proofs.Seated.{OnlySeats, SeatFacts, known_where, seat_names, seat_since, seat_sound, seat_stands}
use Rattle.floor_topics.proofs.SeatPlaces.{client_found, client_stands, free_where}

-- what another channel, or none, knows of a client
nobody : (c : Client) (t k : List ℕ) → has_channel t k c ≡ false → member_of t k (Some c) ≡ None
nobody c t k e = ap (λ b. if b then Some (record { timeout = c.timeout; ready = c.ready }) else None) e

-- a client without a channel goes
module _ (h : Hall) (v : Vec _) (k : ℕ) (c : Client) (sound : IsSound h) (at : slice_get h.clients.items k ≡ Some c) (none : held_channel c.phase c.route ≡ None) (clients : (record h { clients = v }).clients.items ≡ take k h.clients.items ++ drop (suc k) h.clients.items) where
  abbrev h1 : Hall
  h1 = record h { clients = v }

  pub free_clients : h1.clients.items ≡ without_client h.clients.items c.number
  free_clients = clients ∙ gone_standing h.clients.items c.number k (client_stands h k c sound at)

  free_known : (t q : List ℕ) (n : ℕ) → member_of t q (client_in h1.clients.items n) ≡ member_of t q (client_in h.clients.items n)
  free_known t q n =
      ap (λ cs. member_of t q (client_in cs n)) free_clients ∙ ap (member_of t q) (found_gone h.clients.items c.number n)
      ∙ known_where t q c.number n (nat_eq c.number n) (client_in h.clients.items n) None c refl (λ e. ap (client_in h.clients.items) (sym (eqb-true c.number n e)) ∙ client_found h k c sound at) (sym (nobody c t q (free_where c.phase c.route t q none)))

  free_lowers : Lowers h h1
  free_lowers = record { options = refl; quiet = omega arith; unsaved = omega arith; pending = λ name has. has }

  pub free_sound : IsSound h1
  free_sound =
      let p : Client → Bool = λ d. not (d.number == c.number) in
      record {
        options = sound.options;
        epoch = sound.epoch;
        ids_used = sound.ids_used;
        moment = sound.moment;
        client_order = subst AreInOrder (sym free_clients) (order_gone h.clients.items c.number sound.client_order);
        room_order = sound.room_order;
        rooms = All-weaker (IsRoomSound h) (IsRoomSound h1) (λ r x. room_lowered h h1 r free_lowers x) h.rooms.items sound.rooms;
        members = All-weaker (λ (r : Room). All (AreMembers h.clients.items (topic_name r)) r.stalls.items) (λ (r : Room). All (AreMembers h1.clients.items (topic_name r)) r.stalls.items)
            (λ r m.
            All-weaker (AreMembers h.clients.items (topic_name r)) (AreMembers h1.clients.items (topic_name r))
            (λ s a. record {
              known = λ n. a.known n ∙ sym (free_known (topic_name r) (channel_name s) n);
              listed = λ n. a.listed n ∙ ap is_some (sym (free_known (topic_name r) (channel_name s) n));
            }) r.stalls.items m) h.rooms.items sound.members;
        channels = subst (All (HasItsChannel h1)) (sym free_clients) (All-filter p (HasItsChannel h1) h.clients.items (All-weaker (HasItsChannel h) (HasItsChannel h1) (λ d has. has) h.clients.items sound.channels));
        ready = subst (All AsksForNone) (sym free_clients) (All-filter p AsksForNone h.clients.items sound.ready);
        past = sound.past;
      }

  pub free_stands : (files : Files) (u : State) → HoldsFor h files u → HoldsFor h1 files (record u { clients = without_client u.clients c.number })
  free_stands files u holds = record {
    stands = record {
      options = holds.stands.options;
      epoch = holds.stands.epoch;
      ids_used = holds.stands.ids_used;
      moment = holds.stands.moment;
      stopped = holds.stands.stopped;
      clients = ap (λ ds. without_client ds c.number) holds.stands.clients ∙ sym free_clients;
      topics = holds.stands.topics;
    };
    idle = record { topics = holds.idle.topics; channels = holds.idle.channels };
  }

-- a client has its channel
held_has : (phase : Phase) (o : Option Route) (r : Route) → held_channel phase o ≡ Some r → not (is_lost phase) && is_on o r.topic r.channel ≡ true
held_has Fresh o r e = subst (λ u. is_on u r.topic r.channel ≡ true) (sym e) (ap (λ b. b && bytes_eq r.channel r.channel) (same_bytes r.topic) ∙ same_bytes r.channel)
held_has Subscribed o r e = subst (λ u. is_on u r.topic r.channel ≡ true) (sym e) (ap (λ b. b && bytes_eq r.channel r.channel) (same_bytes r.topic) ∙ same_bytes r.channel)
held_has Closing o r e = subst (λ u. is_on u r.topic r.channel ≡ true) (sym e) (ap (λ b. b && bytes_eq r.channel r.channel) (same_bytes r.topic) ∙ same_bytes r.channel)
held_has Lost o r e = absurd (let no : ⊥ = cc in no)

some_of : {X : Type 0} (x : X) (b : Bool) → b ≡ true → is_some (if b then Some x else None) ≡ true
some_of x true e = refl
some_of x false e = absurd (false≢true e)

module _ (h : Hall) (k i j : ℕ) (c : Client) (sound : IsSound h) (client : slice_get h.clients.items k ≡ Some c) (seat : HasSeat h.rooms.items c i j) where
  abbrev T : List ℕ
  T = topic_name seat.room

  abbrev C : List ℕ
  C = channel_name seat.stall

  has_it : has_channel T C c ≡ true
  has_it = held_has c.phase c.route (record { topic = T; channel = C }) seat.held

  room_is : IsRoomSound h seat.room
  room_is = at_all (IsRoomSound h) h.rooms.items i seat.room sound.rooms seat.at

  mine : AreMembers h.clients.items T seat.stall
  mine = at_all (AreMembers h.clients.items T) seat.room.stalls.items j seat.stall (at_all (λ (r : Room). All (AreMembers h.clients.items (topic_name r)) r.stalls.items) h.rooms.items i seat.room sound.members seat.at) seat.there

  seat_some : is_some (member_of T C (client_in h.clients.items c.number)) ≡ true
  seat_some = ap (λ o. is_some (member_of T C o)) (client_found h k c sound client) ∙ some_of (record { timeout = c.timeout; ready = c.ready }) (has_channel T C c) has_it

  pub seat_known : IsSome (client_of seat.stall.channel.clients c.number)
  seat_known = ap is_some (mine.known c.number) ∙ seat_some

  pub seat_listed : list_any (nat_eq c.number) seat.stall.members.items ≡ true
  seat_listed = mine.listed c.number ∙ seat_some

  pub seat_order : AreAscending seat.stall.members.items
  seat_order = (at_all (IsStallSound h.options T h.quiet_until h.unsaved_from) seat.room.stalls.items j seat.stall room_is.stalls seat.there).members

  module _ (h1 : Hall) (room1 : Room) (after : Stall) (rest : OnlySeats h h1) (pending : h1.pending.items ≡ h.pending.items) (rooms : h1.rooms.items ≡ set h.rooms.items i room1) (is : room1 ≡ record (seat.room) { stalls = room1.stalls }) (stalls : room1.stalls.items ≡ set seat.room.stalls.items j after)
      (seats : Seats c.number None seat.stall after) (clients : h1.clients.items ≡ take k h.clients.items ++ drop (suc k) h.clients.items) where
    abbrev leaves_at : AtStall i j (Seats c.number None) h.rooms.items h1.rooms.items
    leaves_at = record { room = seat.room; after = room1; there = seat.at; is = rooms; does = record { stall = seat.stall; after = after; there = seat.there; is = is; stalls = stalls; does = seats } }

    pub left_clients : h1.clients.items ≡ without_client h.clients.items c.number
    left_clients = clients ∙ gone_standing h.clients.items c.number k (client_stands h k c sound client)

    facts : SeatFacts h h1 c.number T C None c None
    facts =
        let p : Client → Bool = λ d. not (d.number == c.number) in
        record {
          was = client_found h k c sound client;
          found = λ n. ap (λ cs. client_in cs n) left_clients ∙ found_gone h.clients.items c.number n;
          order = subst AreInOrder (sym left_clients) (order_gone h.clients.items c.number sound.client_order);
          ready = subst (All AsksForNone) (sym left_clients) (All-filter p AsksForNone h.clients.items sound.ready);
          own = refl;
          others = λ t n apart.
              sym (nobody c t n (and_both (not (is_lost c.phase)) (is_on c.route t n) (on_one c.route T C t n (right_true (not (is_lost c.phase)) (is_on c.route T C) has_it) apart)));
          channels = λ still there. subst (All (HasItsChannel h1)) (sym left_clients) (All-filter p (HasItsChannel h1) h.clients.items (All-weaker (HasItsChannel h) (HasItsChannel h1) still h.clients.items sound.channels));
        }

    keeps_names : (name : List ℕ) → Contains h.pending.items name → Contains h1.pending.items name
    keeps_names name has = subst (λ (names : List (List ℕ)). Contains names name) (sym pending) has

    pub left_sound : IsSound h1
    left_sound = seat_sound h h1 i j c.number None c None sound rest keeps_names leaves_at facts

    pub left_since : KeepsSince h.moment h.rooms.items h1.rooms.items
    left_since = seat_since h h1 i j c.number None c None sound rest keeps_names leaves_at facts

    pub left_names : NamesTold h h1
    left_names = seat_names h h1 i j c.number None c None sound rest keeps_names leaves_at facts

    pub left_stands : (files : Files) (u : State) → HoldsFor h files u → HoldsFor h1 files (record u { clients = without_client u.clients c.number })
    left_stands files u holds =
        seat_stands h h1 i j c.number None c None sound rest keeps_names leaves_at facts files u (without_client u.clients c.number) holds (ap (λ ds. without_client ds c.number) holds.stands.clients ∙ sym left_clients)

-- where the channel that a client has stands
module _ (h : Hall) (k : ℕ) (c : Client) (sound : IsSound h) (client : slice_get h.clients.items k ≡ Some c) (route : Route) (held : held_channel c.phase c.route ≡ Some route) where
  pub stands_there : IsSome (stall_at h.rooms.items route.topic route.channel)
  stands_there = subst (λ o. IfSome o (λ (r : Route). IsSome (stall_at h.rooms.items r.topic r.channel))) held (at_all (HasItsChannel h) h.clients.items k c sound.channels client)

  pub no_room : room_in h.rooms.items route.topic ≡ None → ⊥
  no_room e = false≢true (ap (λ o. is_some (option_and_then (λ (r : Room). stall_in r.stalls.items route.channel) o)) (sym e) ∙ stands_there)

  module _ (i : ℕ) (there : IsThere topic_name h.rooms.items route.topic i) where
    room : (r : Room) × (slice_get h.rooms.items i ≡ Some r)
    room = some_at h.rooms.items i there.stands.in_range

    room_read : (d : Room) → get_or h.rooms.items i d ≡ room.0
    room_read d = get_or_from_slice_get h.rooms.items i room.0 d room.1

    found_room : room_in h.rooms.items route.topic ≡ Some room.0
    found_room = there.found room.0 ∙ ap Some (room_read room.0)

    pub no_stall : HoldsAt (λ (r : Room). stall_in r.stalls.items route.channel ≡ None) h.rooms.items i → ⊥
    no_stall e =
        let none : stall_in room.0.stalls.items route.channel ≡ None = subst (λ (r : Room). stall_in r.stalls.items route.channel ≡ None) (room_read room.0) (e room.0) in
        let gone : stall_at h.rooms.items route.topic route.channel ≡ None = ap (option_and_then (λ (r : Room). stall_in r.stalls.items route.channel)) found_room ∙ none in
        false≢true (ap is_some (sym gone) ∙ stands_there)

    pub its_seat : (j : ℕ) → HoldsAt (λ (r : Room). IsThere channel_name r.stalls.items route.channel j) h.rooms.items i → HasSeat h.rooms.items c i j
    its_seat j e =
        let at : IsThere channel_name room.0.stalls.items route.channel j = subst (λ (r : Room). IsThere channel_name r.stalls.items route.channel j) (room_read room.0) (e room.0) in
        let stall = some_at room.0.stalls.items j at.stands.in_range in
        let topic : topic_name room.0 ≡ route.topic = ap topic_name (sym (room_read room.0)) ∙ there.stands.is_key room.0 in
        let channel : channel_name stall.0 ≡ route.channel = ap channel_name (sym (get_or_from_slice_get room.0.stalls.items j stall.0 stall.0 stall.1)) ∙ at.stands.is_key stall.0 in
        record {
          room = room.0;
          stall = stall.0;
          at = room.1;
          there = stall.1;
          held = held ∙ ap (λ t. Some (record { topic = t; channel = route.channel })) (sym topic) ∙ ap (λ n. Some (record { topic = topic_name room.0; channel = n })) (sym channel);
        }

-- as they were read at their places
abbrev pub reseated : (rooms : List Room) (c : Client) (i j : ℕ) (seat : HasSeat rooms c i j) (room : Room) (stall : Stall) → room ≡ get_or rooms i room → stall ≡ get_or room.stalls.items j stall → HasSeat rooms c i j
reseated rooms c i j seat room stall e f =
    let room_same : room ≡ seat.room = e ∙ get_or_from_slice_get rooms i seat.room room seat.at in
    let stall_same : stall ≡ seat.stall = f ∙ ap (λ (r : Room). get_or r.stalls.items j stall) room_same ∙ get_or_from_slice_get seat.room.stalls.items j seat.stall stall seat.there in
    record {
      room = room;
      stall = stall;
      at = seat.at ∙ ap Some (sym room_same);
      there = ap (λ (r : Room). slice_get r.stalls.items j) room_same ∙ seat.there ∙ ap Some (sym stall_same);
      held = seat.held ∙ ap (λ (r : Room). Some (record { topic = topic_name r; channel = channel_name seat.stall })) (sym room_same) ∙ ap (λ (s : Stall). Some (record { topic = topic_name room; channel = channel_name s })) (sym stall_same);
    }
