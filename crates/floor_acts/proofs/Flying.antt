-- What a client does with a copy that it has is a row of its channel, of each state that the hall stood for.
use Rattle.std.proofs.Common.{◌≡◌, inr, ◌<◌, ℕ, set, List, length, get_or, Option, Some, None, HoldsAt, refl, sym, ap, subst, ◌∙◌, arith, get_or-set_same, length-set}
use Rattle.std.specs.Prelude.{slice_get}
use Rattle.std.proofs.lemmas.List.{set-get_or}
use Rattle.std.proofs.lemmas.Option.{get_or_from_slice_get, slice_get_within, slice_get-get_or}
use Rattle.nsq_outside.specs.Files.{Files}
use Rattle.disk_queue.specs.Seen.{Seen as Queue}
use Rattle.backlog.specs.Lists.{Stands}
use Rattle.backlog.specs.Seen.{Seen as Backlog, SameQueue}
use Rattle.broker_history.specs.State.{Channel, Client, Route, State, with_client}
use Rattle.broker_history.specs.Changes.{AtChannel}
use Rattle.broker_history.specs.Step.{AtOwn}
use Rattle.channel_copies.specs.Clients.{client_of}
use Rattle.channel_core.specs.Seen.{Seen as ChannelSeen, queued_in, queue_name}
use Rattle.floor_laws.specs.Lifting.{Lift}
use Rattle.floor_rooms.specs.declared.stall.Stall.{Stall}
use Rattle.floor_rooms.specs.declared.room.Room.{Room}
use Rattle.floor_rooms.specs.declared.hall.Hall.{Hall}
use Rattle.floor_rooms.specs.Rooms.{channel_name, topic_name}
use Rattle.floor_rooms.specs.Sound.{IsRoomSound, IsSound, IsStallSound}
use Rattle.floor_rooms.specs.Standing.{Carries, HoldsFor, IsStallOf, LiftsTo}
use Rattle.floor_rooms.specs.Changes.{AtStall, KeepsRooms, OthersStay, Touches, TouchesStall}
use Rattle.floor_rooms.proofs.Changing.{at_stall}
use Rattle.floor_rooms.proofs.Dating.{keeps_at_stall, keeps_stall_touched}
use Rattle.floor_rooms.proofs.Holding.{StaysElse}
use Rattle.floor_rooms.proofs.Lifting.{does_leads, stall_lifts}
use Rattle.floor_rooms.proofs.Sounding.{at_all}
use Rattle.floor_rooms.proofs.Turning.{stall_change}
use Rattle.floor_acts.specs.declared.spots.Spot.{Spot}
use Rattle.floor_acts.specs.Flights.{FliesStall}
use Rattle.floor_acts.specs.Spots.{StandsIn}
use Rattle.floor_acts.proofs.Putting.{SameMember, carries_client}

pub some_same : {X : Type 0} (x y : X) → Some x ≡ Some y → x ≡ y
some_same x y e = cc

-- what was put at a place stands there
pub stands_now : {X : Type 0} (xs : List X) (i : ℕ) (x y : X) → slice_get xs i ≡ Some x → slice_get (set xs i y) i ≡ Some y
stands_now xs i x y at =
    let within : i < length xs = slice_get_within xs i x at in
    slice_get-get_or (set xs i y) i y (subst (λ n. i < n) (sym (length-set xs i y)) within) ∙ ap Some (get_or-set_same xs i y y within)

pub same_queue : (q : Option Queue) → SameQueue q q
same_queue None = tt
same_queue (Some q) = record { name = refl; options = refl }

-- nothing but topics differs
pub stays_rooms : (h h' : Hall) → h' ≡ record h { rooms = h'.rooms } → StaysElse h h'
stays_rooms h h' e =
    let moment : h'.moment ≡ h.moment = ap (λ (x : Hall). x.moment) e in
    record {
      options = ap (λ (x : Hall). x.options) e;
      epoch = ap (λ (x : Hall). x.epoch) e;
      ids_used = ap (λ (x : Hall). x.ids_used) e;
      moment = omega (arith, moment);
      stopped = ap (λ (x : Hall). x.stopped) e;
      clients = ap (λ (x : Hall). x.clients.items) e;
    }

-- a spot is a place of the hall, before and behind a change there
pub spot_range : (rooms : List Room) (spot : Spot) (route : Route) → StandsIn rooms spot route → spot.room < length rooms
spot_range rooms spot route s = slice_get_within rooms spot.room s.room s.there

pub spot_stall_range : (rooms : List Room) (spot : Spot) (route : Route) → StandsIn rooms spot route → HoldsAt (λ (r : Room). spot.stall < length r.stalls.items) rooms spot.room
spot_stall_range rooms spot route s d = subst (λ (r : Room). spot.stall < length r.stalls.items) (sym (get_or_from_slice_get rooms spot.room s.room d s.there)) (slice_get_within s.room.stalls.items spot.stall s.stall s.has)

pub spot_holds : (rooms : List Room) (spot : Spot) (route : Route) (P : Stall → Type 0) → (s : StandsIn rooms spot route) → P s.stall → HoldsAt (λ (r : Room). HoldsAt P r.stalls.items spot.stall) rooms spot.room
spot_holds rooms spot route P s p d =
    subst (λ (r : Room). HoldsAt P r.stalls.items spot.stall) (sym (get_or_from_slice_get rooms spot.room s.room d s.there)) (λ e. subst P (sym (get_or_from_slice_get s.room.stalls.items spot.stall s.stall e s.has)) p)

pub range_behind : (i j : ℕ) (Does : Stall → Stall → Type 0) (r0 r1 : List Room) → AtStall i j Does r0 r1 → i < length r1
range_behind i j Does r0 r1 x = slice_get_within r1 i x.after (ap (λ xs. slice_get xs i) x.is ∙ stands_now r0 i x.room x.after x.there)

pub stall_range_behind : (i j : ℕ) (Does : Stall → Stall → Type 0) (r0 r1 : List Room) → AtStall i j Does r0 r1 → HoldsAt (λ (r : Room). j < length r.stalls.items) r1 i
stall_range_behind i j Does r0 r1 x d =
    subst (λ (r : Room). j < length r.stalls.items) (sym (get_or_from_slice_get r1 i x.after d (ap (λ xs. slice_get xs i) x.is ∙ stands_now r0 i x.room x.after x.there)))
    (slice_get_within x.after.stalls.items j x.does.after (ap (λ xs. slice_get xs j) x.does.stalls ∙ stands_now x.room.stalls.items j x.does.stall x.does.after x.does.there))

-- what changes there is of those names
module _ (Does : Stall → Stall → Type 0) (rooms old new : List Room) (same : old ≡ rooms) (spot : Spot) (route : Route) (s : StandsIn rooms spot route) (at : AtStall spot.room spot.stall Does old new) where
  pub same_room : at.room ≡ s.room
  same_room = some_same at.room s.room (sym at.there ∙ ap (λ rs. slice_get rs spot.room) same ∙ s.there)

  pub same_stall : at.does.stall ≡ s.stall
  same_stall = some_same at.does.stall s.stall (sym at.does.there ∙ ap (λ (r : Room). slice_get r.stalls.items spot.stall) same_room ∙ s.has)

  pub topic_there : topic_name at.room ≡ route.topic
  topic_there = ap topic_name same_room ∙ s.topic

  pub channel_there : channel_name at.does.stall ≡ route.channel
  channel_there = ap channel_name same_stall ∙ s.channel

-- a row of the channel at a place
pub row_at : (h h' : Hall) (old new : Files) (i j : ℕ) (Does : Stall → Stall → Type 0) (Row : Channel → Channel → Type 0) (topic channel : List ℕ) → IsSound h → (at : AtStall i j Does h.rooms.items h'.rooms.items) → channel_name at.does.after ≡ channel_name at.does.stall → StaysElse h h'
    → OthersStay (queue_name (topic_name at.room) (channel_name at.does.stall)) old new → ((k : Channel) → IsStallOf old at.does.stall k → LiftsTo Row new at.does.after k) → topic_name at.room ≡ topic → channel_name at.does.stall ≡ channel
    → (s : State) → HoldsFor h old s → (t : State) × AtChannel topic channel Row s t × HoldsFor h' new t
row_at h h' old new i j Does Row topic channel sound at named stays others lift t k = λ s holds.
    let r =
    at_stall h h' old new s (topic_name at.room) (channel_name at.does.stall) at.does.stall at.does.after Row sound holds (stall_change h h' old new i j Does sound at named stays others) lift in
    (r.0, subst (λ n. AtChannel topic n Row s r.0) k (subst (λ n. AtChannel n (channel_name at.does.stall) Row s r.0) t r.1), r.2)

-- nothing but the channel's copies in flight changed
module _ (Row : Stall → Channel → Channel → Type 0) (h h' : Hall) (spot : Spot) (sound : IsSound h) (rest : h' ≡ record h { rooms = h'.rooms }) (at : AtStall spot.room spot.stall (FliesStall Row) h.rooms.items h'.rooms.items) where
  flown_room : IsRoomSound h at.room
  flown_room = at_all (IsRoomSound h) h.rooms.items spot.room at.room sound.rooms at.there

  pub flown_stall : IsStallSound h.options (topic_name at.room) h.quiet_until h.unsaved_from at.does.stall
  flown_stall = at_all (IsStallSound h.options (topic_name at.room) h.quiet_until h.unsaved_from) at.room.stalls.items spot.stall at.does.stall flown_room.stalls at.does.there

  same_backlog : at.does.after.channel.backlog ≡ at.does.stall.channel.backlog
  same_backlog = ap (λ (c : ChannelSeen). c.backlog) at.does.does.rest

  flown_name : channel_name at.does.after ≡ channel_name at.does.stall
  flown_name = ap (λ (c : ChannelSeen). c.about.name) at.does.does.rest

  flown : TouchesStall at.does.stall at.does.after
  flown = record {
    about = ap (λ (c : ChannelSeen). c.about) at.does.does.rest;
    drawn = ap (λ (c : ChannelSeen). c.drawn) at.does.does.rest ∙ flown_stall.settled;
    queue = subst (SameQueue at.does.stall.channel.backlog.queue) (sym (ap (λ (b : Backlog). b.queue) same_backlog)) (same_queue at.does.stall.channel.backlog.queue);
    clients = λ n. ap (λ (c : ChannelSeen). client_of c.clients n) at.does.does.rest;
    members = ap (λ (x : Stall). x.members.items) at.does.does.same;
    since = ap (λ (x : Stall). x.since) at.does.does.same;
    marked = inr (ap (λ (b : Backlog). b.queue) same_backlog);
  }

  pub flown_touches : Touches spot.room spot.stall h h'
  flown_touches = record {
    sound = sound;
    rest = rest;
    stall = record {
      room = at.room;
      after = at.after;
      there = at.there;
      is = at.is;
      does = record { stall = at.does.stall; after = at.does.after; there = at.does.there; is = at.does.is; stalls = at.does.stalls; does = flown };
    };
  }

  pub flown_keeps : (now : ℕ) → KeepsRooms now h.rooms.items h'.rooms.items
  flown_keeps now =
      keeps_at_stall now spot.room spot.stall (FliesStall Row) h.rooms.items h'.rooms.items at
      (keeps_stall_touched now at.does.stall at.does.after flown (ap (λ (c : ChannelSeen). c.paused) at.does.does.rest))

  pub flown_row : (Up : Channel → Channel → Type 0) (route : Route) (rooms : List Room) → Lift (Row at.does.stall) Up → h.rooms.items ≡ rooms → StandsIn rooms spot route → (files : Files) (s : State) → HoldsFor h files s → (t : State) × AtChannel route.topic route.channel Up s t × HoldsFor h' files t
  flown_row Up route rooms lift same stands files =
      row_at h h' files files spot.room spot.stall (FliesStall Row) Up route.topic route.channel sound at flown_name (stays_rooms h h' rest) (λ name apart file own. refl)
      (λ k i. stall_lifts (Row at.does.stall) Up lift files files at.does.stall at.does.after k at.does.stall.channel (queued_in at.does.stall.channel i.disk) i refl flown_name
      (subst (λ (b : Backlog). Stands b.queue files) (sym same_backlog) i.stands)
      (does_leads (Row at.does.stall) files at.does.stall.channel at.does.after.channel i.disk at.does.does.row same_backlog i.on_disk))
      (topic_there (FliesStall Row) rooms h.rooms.items h'.rooms.items same spot route stands at) (channel_there (FliesStall Row) rooms h.rooms.items h'.rooms.items same spot route stands at)

-- a client that is the same already
pub carries_same : (h : Hall) (k : ℕ) (c : Client) → IsSound h → k < length h.clients.items → c ≡ get_or h.clients.items k c → (files : Files) → Carries h files h files (λ s t. t ≡ with_client s c)
carries_same h k c sound l e files = carries_client h h k c c sound l e refl refl (sym (ap (set h.clients.items k) e ∙ set-get_or h.clients.items k c)) files

-- the client speaks, a row takes place at its channel, and the client changes
pub own_acts : (h0 h1 h3 h4 : Hall) (f0 f1 : Files) (c : Client) (g : Client → Client) (route : Route) (Row : State → Channel → Channel → Type 0) → Carries h0 f0 h1 f0 (λ s t. t ≡ with_client s c) → c.route ≡ Some route
    → ((s : State) → HoldsFor h1 f0 s → (t : State) × AtChannel route.topic route.channel (Row s) s t × HoldsFor h3 f1 t) → Carries h3 f1 h4 f1 (λ s t. t ≡ with_client s (g c)) → Carries h0 f0 h4 f1 (λ s t. AtOwn c (Row (with_client s c)) g (with_client s c) t)
own_acts h0 h1 h3 h4 f0 f1 c g route Row first on row last = λ s holds.
    let a = first s holds in
    let b = row a.0 a.2 in
    let e = last b.0 b.2 in
    (e.0, record { route = route; between = b.0; on = on; channel = subst (λ u. AtChannel route.topic route.channel (Row u) u b.0) a.1 b.1; is = e.1 }, e.2)

-- counts are the clients' own
pub counts_same : (c d : Client) (finish message requeue : ℕ) → d ≡ record c { finish_count = finish; message_count = message; requeue_count = requeue } → SameMember c d
counts_same c d finish message requeue is = subst (SameMember c) (sym is) (record { number = refl; held = refl; member = λ topic channel. refl; ready = λ asks. asks })
