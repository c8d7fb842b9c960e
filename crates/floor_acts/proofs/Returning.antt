-- REQ: a copy is given back, or a disk fault leaves it with its client.
use Rattle.std.proofs.Common.{◌≡◌, inl, ◌≤◌, ◌^◌, ℕ, ℤ, min, Bool, true, false, List, get_or, Option, Some, None, HoldsAt, refl, sym, ap, subst, ◌∙◌, arith}
use Rattle.std.specs.Prelude.{IsSome, IsTrue, slice_get, slice_set}
use Rattle.std.proofs.lemmas.Option.{get_or_from_slice_get}
use Rattle.nsq_outside.specs.Files.{Files}
use Rattle.v2_frame.specs.declared.command.Command.TheVariants.{Req}
use Rattle.broker_history.specs.State.{Channel, Client, Route, State, counted, with_client}
use Rattle.broker_history.specs.Changes.{AtChannel}
use Rattle.broker_history.specs.Channels.{GivesBack, Moves, Room as Space}
use Rattle.broker_history.specs.Reply.{requeue_delay}
use Rattle.broker_history.specs.Step.{AtOwn, DoesCommand, own_room, room_of, spoke}
use Rattle.channel_copies.specs.Clients.{client_of}
use Rattle.channel_core.specs.declared.answers.Requeue.{Requeue}
use Rattle.channel_core.specs.declared.answers.Requeue.TheVariants.{Done, Fault}
use Rattle.channel_core.specs.Answers.{IsYours, RequeueFails}
use Rattle.channel_core.specs.Moves.{Requeues}
use Rattle.channel_core.specs.Seen.{Seen as ChannelSeen, queued_in, queue_name}
use Rattle.channel_core.specs.Seen as core
use Rattle.nsq_base.specs.declared.options.Options.{Options}
use Rattle.floor_rooms.specs.declared.stall.Stall.{Stall}
use Rattle.floor_rooms.specs.declared.room.Room.{Room}
use Rattle.floor_rooms.specs.declared.hall.Hall.{Hall}
use Rattle.floor_rooms.specs.Rooms.{channel_name, topic_name}
use Rattle.floor_rooms.specs.Sound.{IsRoomSound, IsSound, IsStallSound}
use Rattle.floor_rooms.specs.Standing.{Carries, HoldsFor, LiftsTo}
use Rattle.floor_rooms.specs.Changes.{AtStall, KeepsRooms, OnlyQueueFiles, OthersStay, Touches, TouchesStall, marked}
use Rattle.floor_rooms.proofs.Dating.{keeps_at_stall, keeps_marks_stall, keeps_stall_touched, keeps_then}
use Rattle.floor_rooms.proofs.Filing.{only_of_channel}
use Rattle.floor_rooms.proofs.Lifting as lifting
use Rattle.floor_rooms.proofs.Lifting.{gives_back_lifts, stays_lifts}
use Rattle.floor_rooms.proofs.Marked.{MarksStall}
use Rattle.floor_rooms.proofs.Orders.{stall_as_before}
use Rattle.floor_rooms.proofs.Sounding.{at_all}
use Rattle.floor_rooms.proofs.Staying.{others_stay}
use Rattle.floor_rooms.proofs.Turning.{stall_change}
use Rattle.floor_acts.specs.declared.spots.Spot.{Spot}
use Rattle.floor_acts.specs.Acts.{DoesAt, FliesAt}
use Rattle.floor_acts.specs.Flights.{GivesBackStall}
use Rattle.floor_acts.proofs.Putting.{holds_read}
use Rattle.floor_acts.proofs.Flying.{row_at, same_stall, some_same, stands_now, stays_rooms, topic_there, channel_there}
use Rattle.floor_acts.proofs.Acting.{Spoke, first, last_act, own, own_told, rooms_same, route_is, yours_found}

-- what is at a place behind a change
pub holds_behind : (i j : ℕ) (Does : Stall → Stall → Type 0) (r0 r1 : List Room) (P : Stall → Type 0) → (x : AtStall i j Does r0 r1) → P x.does.after → HoldsAt (λ (r : Room). HoldsAt P r.stalls.items j) r1 i
holds_behind i j Does r0 r1 P x p d =
    subst (λ (r : Room). HoldsAt P r.stalls.items j) (sym (get_or_from_slice_get r1 i x.after d (ap (λ xs. slice_get xs i) x.is ∙ stands_now r0 i x.room x.after x.there)))
    (λ e. subst P (sym (get_or_from_slice_get x.after.stalls.items j x.does.after e (ap (λ xs. slice_get xs j) x.does.stalls ∙ stands_now x.room.stalls.items j x.does.stall x.does.after x.does.there))) p)

pub some_since : (since : Option ℕ) (at : ℕ) → IsSome (marked since at)
some_since None at = refl
some_since (Some m) at = refl

-- one call of the channel's, of a hall of which the channel is marked
module _ (tells : Bool) (client : ℕ) (id : List ℕ) (now delay : ℕ) (answer : Requeue) (old new : Files) (before after : ℕ) (h h' : Hall) (spot : Spot) (sound : IsSound h) (rest : h' ≡ record h { rooms = h'.rooms })
    (at : AtStall spot.room spot.stall (GivesBackStall tells client id now delay answer old new before after) h.rooms.items h'.rooms.items) where
  given_room : IsRoomSound h at.room
  given_room = at_all (IsRoomSound h) h.rooms.items spot.room at.room sound.rooms at.there

  given_stall : IsStallSound h.options (topic_name at.room) h.quiet_until h.unsaved_from at.does.stall
  given_stall = at_all (IsStallSound h.options (topic_name at.room) h.quiet_until h.unsaved_from) at.room.stalls.items spot.stall at.does.stall given_room.stalls at.does.there

  given_name : channel_name at.does.after ≡ channel_name at.does.stall
  given_name = ap (λ (c : ChannelSeen). c.about.name) at.does.does.rest

  given_others : IsTrue tells → OthersStay (queue_name (topic_name at.room) (channel_name at.does.stall)) old new
  given_others told = others_stay at.does.stall.channel.backlog.queue (queue_name (topic_name at.room) (channel_name at.does.stall)) old new given_stall.queue (at.does.does.disk.others told)

  pub given_files : IsTrue tells → OnlyQueueFiles old new
  given_files told = only_of_channel (topic_name at.room) (channel_name at.does.stall) at.does.stall.channel.backlog.queue old new given_room.named given_stall.named given_stall.queue (at.does.does.disk.others told)

  pub given_faults : before ≤ after
  given_faults = at.does.does.disk.faults

  pub given_cause : RequeueFails delay before after answer
  given_cause = at.does.does.cause

  module _ (is_marked : IsSome at.does.stall.since) where
    given : TouchesStall at.does.stall at.does.after
    given = record {
      about = ap (λ (c : ChannelSeen). c.about) at.does.does.rest;
      drawn = ap (λ (c : ChannelSeen). c.drawn) at.does.does.rest ∙ given_stall.settled;
      queue = at.does.does.disk.queue;
      clients = λ n. ap (λ (c : ChannelSeen). client_of c.clients n) at.does.does.rest;
      members = ap (λ (x : Stall). x.members.items) at.does.does.same;
      since = ap (λ (x : Stall). x.since) at.does.does.same;
      marked = inl is_marked;
    }

    pub given_touches : Touches spot.room spot.stall h h'
    given_touches = record {
      sound = sound;
      rest = rest;
      stall = record {
        room = at.room;
        after = at.after;
        there = at.there;
        is = at.is;
        does = record { stall = at.does.stall; after = at.does.after; there = at.does.there; is = at.does.is; stalls = at.does.stalls; does = given };
      };
    }

    pub given_keeps : (moment : ℕ) → KeepsRooms moment h.rooms.items h'.rooms.items
    given_keeps moment =
        keeps_at_stall moment spot.room spot.stall (GivesBackStall tells client id now delay answer old new before after) h.rooms.items h'.rooms.items at
        (keeps_stall_touched moment at.does.stall at.does.after given (ap (λ (c : ChannelSeen). c.paused) at.does.does.rest))

  -- it was given back
  pub given_row : (topic channel : List ℕ) → answer ≡ Done → IsTrue tells → topic_name at.room ≡ topic → channel_name at.does.stall ≡ channel
      → (s : State) → HoldsFor h old s → (t : State) × AtChannel topic channel (GivesBack Moves (room_of s topic channel) client id now delay) s t × HoldsFor h' new t
  given_row topic channel is told t k s holds =
      let space : core.room_of at.does.stall.channel ≡ room_of s topic channel =
      lifting.own_room h.options (topic_name at.room) h.quiet_until h.unsaved_from at.does.stall s given_stall holds.stands.options ∙ ap (λ n. room_of s n (channel_name at.does.stall)) t ∙ ap (room_of s topic) k in
      row_at h h' old new spot.room spot.stall (GivesBackStall tells client id now delay answer old new before after) (GivesBack Moves (room_of s topic channel) client id now delay) topic channel sound at given_name (stays_rooms h h' rest) (given_others told)
      (λ c i. subst (λ r. LiftsTo (GivesBack Moves r client id now delay) new at.does.after c) space
      (gives_back_lifts (core.room_of at.does.stall.channel) client id now delay old new at.does.stall at.does.after c at.does.stall.channel (queued_in at.does.stall.channel i.disk) i refl given_name (at.does.does.disk.stands told i.stands)
      (subst (Requeues client id now delay at.does.stall.channel i.disk at.does.after.channel new) is (at.does.does.row told i.disk i.on_disk)))) t k s holds

  -- or it wasn't
  pub given_stays : answer ≡ Fault → IsTrue tells → (s : State) → HoldsFor h old s → HoldsFor h' new s
  given_stays is told s holds =
      stall_as_before h h' old new s (topic_name at.room) (channel_name at.does.stall) at.does.stall at.does.after sound holds
      (stall_change h h' old new spot.room spot.stall (GivesBackStall tells client id now delay answer old new before after) sound at given_name (stays_rooms h h' rest) (given_others told))
      (λ c i. stays_lifts old new at.does.stall at.does.after c at.does.stall.channel (queued_in at.does.stall.channel i.disk) i refl (at.does.does.disk.stands told i.stands)
      (subst (Requeues client id now delay at.does.stall.channel i.disk at.does.after.channel new) is (at.does.does.row told i.disk i.on_disk)))

-- a delay that the options allow
pub delay_fits : (h : Hall) (delay : ℕ) → IsSound h → delay ≤ h.options.max_req_timeout → delay ≤ 2 ^ 62
delay_fits h delay sound l = let most = sound.options.times.max_req_timeout in omega (arith, most, l)

-- what differs of the hall is the hall's own
own_rest : (h0 a b c h : Hall) → h ≡ record h0 { clients = a.clients; rooms = b.rooms; quiet_until = c.quiet_until; unsaved_from = min h0.unsaved_from h0.moment }
    → h ≡ record h0 { clients = h.clients; rooms = h.rooms; quiet_until = h.quiet_until; unsaved_from = min h0.unsaved_from h0.moment }
own_rest h0 a b c h e = e ∙ sym (ap (λ (x : Hall). record h0 { clients = x.clients; rooms = x.rooms; quiet_until = x.quiet_until; unsaved_from = min h0.unsaved_from h0.moment }) e)

pub kept_rest : (h0 h1 hm h2 h3 : Hall) → h1 ≡ record h0 { clients = h1.clients } → hm ≡ record h1 { rooms = hm.rooms; unsaved_from = min h1.unsaved_from h1.moment } → h2 ≡ record hm { rooms = h2.rooms } → h3 ≡ record h2 { quiet_until = h3.quiet_until }
    → h3 ≡ record h0 { clients = h3.clients; rooms = h3.rooms; quiet_until = h3.quiet_until; unsaved_from = min h0.unsaved_from h0.moment }
kept_rest h0 h1 hm h2 h3 e1 em e2 e3 =
    own_rest h0 h1 h2 h3 h3
    (e3 ∙ ap (λ (h : Hall). record h { quiet_until = h3.quiet_until }) e2 ∙ ap (λ (h : Hall). record h { rooms = h2.rooms; quiet_until = h3.quiet_until }) em
    ∙ ap (λ (h : Hall). record h { rooms = h2.rooms; quiet_until = h3.quiet_until; unsaved_from = min h.unsaved_from h.moment }) e1)

pub returned_rest : (h0 h1 hm h2 h3 h4 : Hall) → h1 ≡ record h0 { clients = h1.clients } → hm ≡ record h1 { rooms = hm.rooms; unsaved_from = min h1.unsaved_from h1.moment } → h2 ≡ record hm { rooms = h2.rooms } → h3 ≡ record h2 { quiet_until = h3.quiet_until }
    → h4 ≡ record h3 { clients = h4.clients } → h4 ≡ record h0 { clients = h4.clients; rooms = h4.rooms; quiet_until = h4.quiet_until; unsaved_from = min h0.unsaved_from h0.moment }
returned_rest h0 h1 hm h2 h3 h4 e1 em e2 e3 e4 = own_rest h0 h4 h3 h3 h4 (e4 ∙ ap (λ (h : Hall). record h { clients = h4.clients }) (kept_rest h0 h1 hm h2 h3 e1 em e2 e3))

-- the client spoke, and its channel was marked
module _ (h0 h1 hm : Hall) (k : ℕ) (x : Client) (spot : Spot) (p : Spoke h0 h1 k x spot) (rest_m : hm ≡ record h1 { rooms = hm.rooms; unsaved_from = min h1.unsaved_from h1.moment }) (mark : AtStall spot.room spot.stall (MarksStall h1.moment) h1.rooms.items hm.rooms.items) where
  marked_stall : mark.does.stall ≡ (own h0 h1 k x spot p).stands.stall
  marked_stall = same_stall (MarksStall h1.moment) h0.rooms.items h1.rooms.items hm.rooms.items (rooms_same h0 h1 k x spot p) spot (own h0 h1 k x spot p).route (own h0 h1 k x spot p).stands mark

  pub yours_marked : (id : List ℕ) (number : ℕ) → number ≡ x.number → FliesAt k id h0 → HoldsAt (λ (r : Room). HoldsAt (λ s. IsYours number id s.channel) r.stalls.items spot.stall) hm.rooms.items spot.room
  yours_marked id number same flies =
      holds_behind spot.room spot.stall (MarksStall h1.moment) h1.rooms.items hm.rooms.items (λ s. IsYours number id s.channel) mark
      (subst (λ (s : Stall). IsYours number id s.channel) (sym mark.does.does)
      (subst (λ (s : Stall). IsYours number id s.channel) (sym marked_stall) (subst (λ n. IsYours n id (own h0 h1 k x spot p).stands.stall.channel) (sym same) (yours_found h0 h1 k x spot p id flies))))

  moment_m : hm.moment ≡ h0.moment
  moment_m = ap (λ (h : Hall). h.moment) rest_m ∙ ap (λ (h : Hall). h.moment) p.rest

  module _ (tells : Bool) (number : ℕ) (id : List ℕ) (delay : ℕ) (answer : Requeue) (old new : Files) (before after : ℕ) (h2 h3 : Hall) (sound_m : IsSound hm) (rest2 : h2 ≡ record hm { rooms = h2.rooms })
      (at : AtStall spot.room spot.stall (GivesBackStall tells number id hm.moment delay answer old new before after) hm.rooms.items h2.rooms.items) (rest3 : h3 ≡ record h2 { quiet_until = h3.quiet_until }) where
    at_marked : at.does.stall ≡ mark.does.after
    at_marked =
        some_same at.does.stall mark.does.after
        (sym at.does.there ∙ ap (λ (r : Room). slice_get r.stalls.items spot.stall) room_m ∙ ap (λ xs. slice_get xs spot.stall) mark.does.stalls ∙ stands_now mark.room.stalls.items spot.stall mark.does.stall mark.does.after mark.does.there)
      where
        room_m : at.room ≡ mark.after
        room_m = some_same at.room mark.after (sym at.there ∙ ap (λ xs. slice_get xs spot.room) mark.is ∙ stands_now h1.rooms.items spot.room mark.room mark.after mark.there)

    pub is_marked : IsSome at.does.stall.since
    is_marked = subst (λ (s : Stall). IsSome s.since) (sym (at_marked ∙ mark.does.does)) (some_since mark.does.stall.since h1.moment)

    topic_m : topic_name at.room ≡ (own h0 h1 k x spot p).route.topic
    topic_m =
        ap topic_name (some_same at.room mark.after (sym at.there ∙ ap (λ xs. slice_get xs spot.room) mark.is ∙ stands_now h1.rooms.items spot.room mark.room mark.after mark.there)) ∙ ap topic_name mark.does.is
        ∙ topic_there (MarksStall h1.moment) h0.rooms.items h1.rooms.items hm.rooms.items (rooms_same h0 h1 k x spot p) spot (own h0 h1 k x spot p).route (own h0 h1 k x spot p).stands mark

    channel_m : channel_name at.does.stall ≡ (own h0 h1 k x spot p).route.channel
    channel_m =
        ap channel_name (at_marked ∙ mark.does.does) ∙ channel_there (MarksStall h1.moment) h0.rooms.items h1.rooms.items hm.rooms.items (rooms_same h0 h1 k x spot p) spot (own h0 h1 k x spot p).route (own h0 h1 k x spot p).stands mark

    pub clients_m : h3.clients.items ≡ h1.clients.items
    clients_m = ap (λ (h : Hall). h.clients.items) rest3 ∙ ap (λ (h : Hall). h.clients.items) rest2 ∙ ap (λ (h : Hall). h.clients.items) rest_m

    pub returned_keeps : KeepsRooms h0.moment h0.rooms.items h3.rooms.items
    returned_keeps =
        let marks : KeepsRooms h0.moment h0.rooms.items hm.rooms.items =
        subst (λ n. KeepsRooms n h0.rooms.items hm.rooms.items) (ap (λ (h : Hall). h.moment) p.rest) (subst (λ rs. KeepsRooms h1.moment rs hm.rooms.items) (rooms_same h0 h1 k x spot p) (keeps_marks_stall h1.moment spot.room spot.stall h1.rooms.items hm.rooms.items mark)) in
        subst (KeepsRooms h0.moment h0.rooms.items) (sym (ap (λ (h : Hall). h.rooms.items) rest3))
        (keeps_then h0.moment h0.rooms.items hm.rooms.items h2.rooms.items marks (given_keeps tells number id hm.moment delay answer old new before after hm h2 spot sound_m rest2 at is_marked h0.moment))

    returned_row : (d : ℤ) → number ≡ x.number → answer ≡ Done → IsTrue tells → requeue_delay h0.options d ≡ delay → ((s : State) → HoldsFor h1 old s → HoldsFor hm old s) → ((s : State) → HoldsFor h2 new s → HoldsFor h3 new s)
        → (s : State) → HoldsFor h1 old s → (t : State) × AtChannel (own h0 h1 k x spot p).route.topic (own h0 h1 k x spot p).route.channel
        (GivesBack Moves (room_of s (own h0 h1 k x spot p).route.topic (own h0 h1 k x spot p).route.channel) x.number id h0.moment (requeue_delay s.options d)) s t × HoldsFor h3 new t
    returned_row d same is told wait start end s holds =
        let route : Route = (own h0 h1 k x spot p).route in
        let space : Space = room_of s route.topic route.channel in
        let r = given_row tells number id hm.moment delay answer old new before after hm h2 spot sound_m rest2 at route.topic route.channel is told topic_m channel_m s (start s holds) in
        let waits : delay ≡ requeue_delay s.options d = sym (ap (λ (o : Options). requeue_delay o d) (holds.stands.options ∙ ap (λ (h : Hall). h.options) p.rest) ∙ wait) in (
          r.0,
          subst (λ n. AtChannel route.topic route.channel (GivesBack Moves space n id h0.moment (requeue_delay s.options d)) s r.0) same
              (subst (λ m. AtChannel route.topic route.channel (GivesBack Moves space number id m (requeue_delay s.options d)) s r.0) moment_m
              (subst (λ w. AtChannel route.topic route.channel (GivesBack Moves space number id hm.moment w) s r.0) waits r.1)),
          end r.0 r.2,
        )

    -- it was given back, and is counted
    pub returned_told : (h4 : Hall) (y z : Client) (d : ℤ) → number ≡ x.number → answer ≡ Done → IsTrue tells → requeue_delay h0.options d ≡ delay → ((s : State) → HoldsFor h1 old s → HoldsFor hm old s) → ((s : State) → HoldsFor h2 new s → HoldsFor h3 new s) → IsSound h3
        → y ≡ get_or h3.clients.items k y → z ≡ record y { requeue_count = counted y.requeue_count } → h4 ≡ record h3 { clients = h4.clients } → h4.clients.items ≡ slice_set h3.clients.items k z → DoesAt k (Req id d) false h0 old h4 new
    returned_told h4 y z d same is told wait start end sound3 e counts rest4 put4 =
        let route : Route = (own h0 h1 k x spot p).route in
        let g : Client → Client = λ c. record c { requeue_count = counted c.requeue_count } in
        let Row : State → Channel → Channel → Type 0 = λ s. GivesBack Moves (room_of s route.topic route.channel) x.number id h0.moment (requeue_delay s.options d) in
        holds_read (λ c. Carries h0 old h4 new (λ s t. DoesCommand s h0.moment c (Req id d) false t)) h0.clients.items k x p.within p.read
        (λ s holds.
        let r =
        own_told h0 h1 k x spot p h3 h4 old new g Row (returned_row d same is told wait start end) (last_act h0 h1 k x spot p h3 h4 g y z new sound3 clients_m e counts (λ c. refl) rest4 put4) s holds in
        let u : State = with_client s (spoke h0.moment x) in
        (r.0, subst (λ o. AtOwn (spoke h0.moment x) (GivesBack Moves (own_room u o) x.number id h0.moment (requeue_delay u.options d)) g u r.0) (sym (route_is h0 h1 k x spot p)) r.1, r.2))

    -- or the client only spoke
    pub kept_told : (d : ℤ) → answer ≡ Fault → IsTrue tells → ((s : State) → HoldsFor h1 old s → HoldsFor hm old s) → ((s : State) → HoldsFor h2 new s → HoldsFor h3 new s) → DoesAt k (Req id d) true h0 old h3 new
    kept_told d is told start end =
        holds_read (λ c. Carries h0 old h3 new (λ s t. DoesCommand s h0.moment c (Req id d) true t)) h0.clients.items k x p.within p.read
        (λ s holds. let a = first h0 h1 k x spot p old s holds in (a.0, a.1, end a.0 (given_stays tells number id hm.moment delay answer old new before after hm h2 spot sound_m rest2 at is told a.0 (start a.0 a.2))))
