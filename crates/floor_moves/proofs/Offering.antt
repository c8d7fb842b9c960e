-- A copy is offered to a channel: it gets it, in each state that the hall stood for, or stays as it was.
use Rattle.std.proofs.Common.{◌≡◌, inl, ◌≤◌, ℕ, Bool, List, refl, sym, ap, subst, ◌∙◌}
use Rattle.std.specs.Prelude.{IsTrue, slice_get}
use Rattle.nsq_outside.specs.Files.{Files}
use Rattle.v2_frame.specs.declared.message.Message.{Message}
use Rattle.backlog.specs.Lists.{OnDisk}
use Rattle.broker_history.specs.State.{Channel, State}
use Rattle.broker_history.specs.Channels.{Room as Space, Joins, Gets}
use Rattle.broker_history.specs.Step.{room_of}
use Rattle.channel_copies.specs.Clients.{client_of}
use Rattle.channel_copies.specs.Putting.{KeepsDisk, around}
use Rattle.channel_core.specs.Seen.{Seen as ChannelSeen, queued_in, queue_name}
use Rattle.channel_core.specs.Seen as core
use Rattle.channel_core.specs.Storing.{Offers, OfferFails}
use Rattle.channel_core.specs.declared.answers.Offer.{Offer}
use Rattle.channel_core.specs.declared.answers.Offer.TheVariants as offer
use Rattle.floor_laws.proofs.Lifting.{can_join}
use Rattle.floor_rooms.specs.declared.stall.Stall.{Stall}
use Rattle.floor_rooms.specs.declared.room.Room.{Room}
use Rattle.floor_rooms.specs.declared.hall.Hall.{Hall}
use Rattle.floor_rooms.specs.Rooms.{channel_name, topic_name}
use Rattle.floor_rooms.specs.Sound.{IsRoomSound, IsSound, IsStallSound}
use Rattle.floor_rooms.specs.Standing.{HoldsFor, IsStallOf, LiftsTo}
use Rattle.floor_rooms.specs.Changes.{AtRoom, AtStall, KeepsStall, OnlyQueueFiles, SinceStays, StallChange, Touches}
use Rattle.floor_rooms.proofs.Changing.{at_stall}
use Rattle.floor_rooms.proofs.Dating.{since_same}
use Rattle.floor_rooms.proofs.Filing.{only_of_channel}
use Rattle.floor_rooms.proofs.Lifting.{gets_lifts, own_room, stays_lifts}
use Rattle.floor_rooms.proofs.Orders.{stall_as_before, stall_kept_off}
use Rattle.floor_rooms.proofs.Sounding.{at_all}
use Rattle.floor_rooms.proofs.Staying.{others_stay}
use Rattle.floor_rooms.proofs.Turning.{stall_change}
use Rattle.floor_moves.specs.Due.{HasStall}
use Rattle.floor_moves.specs.Moves.{Keeps}
use Rattle.floor_moves.specs.declared.due.Place.{Place}
use Rattle.floor_moves.specs.declared.made.Made.{Made}
use Rattle.floor_moves.specs.declared.made.Made.TheVariants as made
use Rattle.floor_moves.proofs.Joining.{join}
use Rattle.floor_moves.proofs.Keeping.{keeps_on, keeps_quiet, keeps_stall, keeps_stall_mark, rest_rooms}
use Rattle.floor_moves.proofs.PuttingBack.{Marks, is_marked, some_same, stall_here, stands_now}
use Rattle.floor_moves.specs.Copying.{GiveFails, Gives, IsNamedAt, KeepsQueue, Offered, OffersStall, bounded, made_of}

-- what one call answered
offered_row : (now : ℕ) (m : Message) (old new : ChannelSeen) (disk : List Message) (files : Files) (answer : Offer) → Offers now m old disk new files answer → Offered now m old disk new files (made_of answer)
offered_row now m old new disk files offer.Done h = h
offered_row now m old new disk files (offer.Fault back) h = h
offered_row now m old new disk files (offer.Memory back) h = h

offer_fails : (delay before after : ℕ) (answer : Offer) → OfferFails delay before after answer → GiveFails before after (made_of answer)
offer_fails delay before after offer.Done h = tt
offer_fails delay before after (offer.Fault back) h = h.1
offer_fails delay before after (offer.Memory back) h = tt

pub offers_stall : (tells : Bool) (now : ℕ) (m b : Message) (answer : Offer) (made : Made) (old new : Files) (before after : ℕ) (x y : Stall) → b ≡ bounded m → made ≡ made_of answer
    → (IsTrue tells → (disk : List Message) → OnDisk x.channel.backlog.queue old disk → Offers now b x.channel disk y.channel new answer)
    → y.channel ≡ record (x.channel) { message_count = y.channel.message_count; backlog = y.channel.backlog; deferred = y.channel.deferred; deferred_spare = y.channel.deferred_spare } → KeepsDisk tells (around x.channel.backlog old before) (around y.channel.backlog new after)
    → OfferFails b.delay before after answer → y ≡ record x { channel = y.channel } → OffersStall tells now (bounded m) made old new before after x y
offers_stall tells now m b answer made old new before after x y is ended row rest disk cause same = record {
  row = λ told d on.
      subst (Offered now (bounded m) x.channel d y.channel new) (sym ended)
      (subst (λ k. Offered now k x.channel d y.channel new (made_of answer)) is (offered_row now b x.channel y.channel d new answer (row told d on)));
  rest = rest;
  disk = disk;
  cause = subst (GiveFails before after) (sym ended) (offer_fails b.delay before after answer cause);
  same = same;
}

-- what one call leaves of a channel
offer_keeps : (tells : Bool) (now : ℕ) (m : Message) (answer : Made) (old new : Files) (before after : ℕ) (a b : Stall) → OffersStall tells now m answer old new before after a b → KeepsStall now a b
offer_keeps tells now m answer old new before after a b o = record {
  about = ap (λ (c : ChannelSeen). c.about) o.rest;
  paused = ap (λ (c : ChannelSeen). c.paused) o.rest;
  members = ap (λ (s : Stall). s.members.items) o.same;
  since = subst (λ (s : Stall). SinceStays now a.since s.since) (sym o.same) (since_same now a.since);
}

-- what is lifted of each answer
module _ (old new : Files) (now : ℕ) (m : Message) (a b : Stall) (before after : ℕ) (tells : Bool) (it_tells : IsTrue tells) (space : Space) (same : core.room_of a.channel ≡ space) where
  joined : OffersStall tells now m made.Done old new before after a b → (k : Channel) → IsStallOf old a k → LiftsTo (Gets Joins space now m) new b k
  joined o k i =
      subst (λ r. LiftsTo (Gets Joins r now m) new b k) same
      (gets_lifts (core.room_of a.channel) now m old new a b k a.channel (queued_in a.channel i.disk) i refl (ap (λ (c : ChannelSeen). c.about.name) o.rest) (o.disk.stands it_tells i.stands) (o.row it_tells i.disk i.on_disk))

stays_fault : (old new : Files) (now : ℕ) (m : Message) (a b : Stall) (before after : ℕ) (tells : Bool) → IsTrue tells → OffersStall tells now m made.Stuck old new before after a b → (k : Channel) → IsStallOf old a k → IsStallOf new b k
stays_fault old new now m a b before after tells told o k i = stays_lifts old new a b k a.channel (queued_in a.channel i.disk) i refl (o.disk.stands told i.stands) (o.row told i.disk i.on_disk)

stays_want : (old new : Files) (now : ℕ) (m : Message) (a b : Stall) (before after : ℕ) (tells : Bool) → IsTrue tells → OffersStall tells now m made.Memory old new before after a b → (k : Channel) → IsStallOf old a k → IsStallOf new b k
stays_want old new now m a b before after tells told o k i = stays_lifts old new a b k a.channel (queued_in a.channel i.disk) i refl (o.disk.stands told i.stands) (o.row told i.disk i.on_disk)

-- a copy that is offered at a place of a hall, of which the channel is marked
module _ (tells : Bool) (h0 h1 h2 h3 : Hall) (unsaved quiet : ℕ) (f0 f1 : Files) (n0 n1 : ℕ) (place : Place) (m : Message) (answer : Made) (rest1 : h1 ≡ record h0 { rooms = h1.rooms; unsaved_from = unsaved }) (mark : AtStall place.room place.stall (Marks h0.moment) h0.rooms.items h1.rooms.items) (sound : IsSound h1)
    (rest2 : h2 ≡ record h1 { rooms = h2.rooms }) (at : AtStall place.room place.stall (OffersStall tells h1.moment m answer f0 f1 n0 n1) h1.rooms.items h2.rooms.items) (rest3 : h3 ≡ record h2 { quiet_until = quiet }) where
  room_is : IsRoomSound h1 at.room
  room_is = at_all (IsRoomSound h1) h1.rooms.items place.room at.room sound.rooms at.there

  stall_is : IsStallSound h1.options (topic_name at.room) h1.quiet_until h1.unsaved_from at.does.stall
  stall_is = at_all (IsStallSound h1.options (topic_name at.room) h1.quiet_until h1.unsaved_from) at.room.stalls.items place.stall at.does.stall room_is.stalls at.does.there

  -- nothing but the one channel was touched
  pub offer_touches : Touches place.room place.stall h1 h2
  offer_touches = record {
    sound = sound;
    rest = rest2;
    stall = record {
      room = at.room;
      after = at.after;
      there = at.there;
      is = at.is;
      does = record {
        stall = at.does.stall;
        after = at.does.after;
        there = at.does.there;
        is = at.does.is;
        stalls = at.does.stalls;
        does = record {
          about = ap (λ (c : ChannelSeen). c.about) at.does.does.rest;
          drawn = ap (λ (c : ChannelSeen). c.drawn) at.does.does.rest ∙ stall_is.settled;
          queue = at.does.does.disk.queue;
          clients = λ n. ap (λ (c : ChannelSeen). client_of c.clients n) at.does.does.rest;
          members = ap (λ (s : Stall). s.members.items) at.does.does.same;
          since = ap (λ (s : Stall). s.since) at.does.does.same;
          marked = inl (is_marked h0 h1 place.room place.stall mark at.room at.does.stall at.there at.does.there);
        };
      };
    };
  }

  keeps_two : Keeps h0 h2
  keeps_two =
      keeps_on h0 h1 h2 (keeps_stall_mark h0 h1 unsaved place.room place.stall rest1 mark)
      (keeps_stall h1 h2 place.room place.stall (OffersStall tells h1.moment m answer f0 f1 n0 n1) rest2 at (offer_keeps tells h1.moment m answer f0 f1 n0 n1 at.does.stall at.does.after at.does.does))

  pub offer_keeps_all : Keeps h0 h3
  offer_keeps_all = keeps_on h0 h2 h3 keeps_two (keeps_quiet h2 h3 quiet rest3)

  pub offer_files : IsTrue tells → OnlyQueueFiles f0 f1
  offer_files told = only_of_channel (topic_name at.room) (channel_name at.does.stall) at.does.stall.channel.backlog.queue f0 f1 room_is.named stall_is.named stall_is.queue (at.does.does.disk.others told)

  pub offer_faults : n0 ≤ n1
  offer_faults = at.does.does.disk.faults

  pub offer_cause : GiveFails n0 n1 answer
  offer_cause = at.does.does.cause

  -- the topic's own queue stays
  pub offer_room : AtRoom place.room KeepsQueue h0.rooms.items h3.rooms.items
  offer_room =
      let both = join place.room place.stall (Marks h0.moment) (OffersStall tells h1.moment m answer f0 f1 n0 n1) h0.rooms.items h1.rooms.items h2.rooms.items mark at in
      record { room = both.room; after = both.after; there = both.there; is = ap (λ (x : Hall). x.rooms.items) rest3 ∙ both.is; does = both.does.is }

  change : IsTrue tells → StallChange h1 h2 f0 f1 (topic_name at.room) (channel_name at.does.stall) at.does.stall at.does.after
  change told =
      stall_change h1 h2 f0 f1 place.room place.stall (OffersStall tells h1.moment m answer f0 f1 n0 n1) sound at (ap (λ (c : ChannelSeen). c.about.name) at.does.does.rest) (rest_rooms h1 h2 rest2)
      (others_stay at.does.stall.channel.backlog.queue (queue_name (topic_name at.room) (channel_name at.does.stall)) f0 f1 stall_is.queue (at.does.does.disk.others told))

  -- the names of the place are those before the mark
  same_room : at.room ≡ mark.after
  same_room = some_same at.room mark.after (sym at.there ∙ ap (λ xs. slice_get xs place.room) mark.is ∙ stands_now h0.rooms.items place.room mark.room mark.after mark.there)

  same_stall : at.does.stall ≡ mark.does.after
  same_stall =
      some_same at.does.stall mark.does.after
      (sym at.does.there ∙ ap (λ (r : Room). slice_get r.stalls.items place.stall) same_room ∙ ap (λ xs. slice_get xs place.stall) mark.does.stalls ∙ stands_now mark.room.stalls.items place.stall mark.does.stall mark.does.after mark.does.there)

  topic_at : (topic channel : List ℕ) → IsNamedAt h0.rooms.items place topic channel → topic_name at.room ≡ topic
  topic_at topic channel named = ap topic_name same_room ∙ ap (λ (r : Room). r.queue.name) mark.does.is ∙ ap topic_name (some_same mark.room named.room (sym mark.there ∙ named.there)) ∙ sym named.topic_is

  channel_at : (topic channel : List ℕ) → IsNamedAt h0.rooms.items place topic channel → channel_name at.does.stall ≡ channel
  channel_at topic channel named =
      let room : named.room ≡ mark.room = some_same named.room mark.room (sym named.there ∙ mark.there) in
      let is = stall_here place.stall (λ s. channel ≡ channel_name s) mark.room.stalls.items mark.does.stall (subst (λ (r : Room). HasStall place.stall (λ s. channel ≡ channel_name s) r.stalls.items) room named.stall) mark.does.there in
      ap channel_name same_stall ∙ ap channel_name mark.does.does ∙ sym is

  module _ (told : IsTrue tells) (start : (s : State) → HoldsFor h0 f0 s → HoldsFor h1 f0 s) (end : (s : State) → HoldsFor h2 f1 s → HoldsFor h3 f1 s) where
    space_is : (s : State) → HoldsFor h0 f0 s → core.room_of at.does.stall.channel ≡ room_of s (topic_name at.room) (channel_name at.does.stall)
    space_is s holds = own_room h1.options (topic_name at.room) h1.quiet_until h1.unsaved_from at.does.stall s stall_is (start s holds).stands.options

    gives_by : (ended : Made) → OffersStall tells h1.moment m ended f0 f1 n0 n1 at.does.stall at.does.after → Gives h1.moment (topic_name at.room) (channel_name at.does.stall) m h0 f0 h3 f1 ended
    gives_by made.Done o = λ s holds.
        let topic = topic_name at.room in
        let channel = channel_name at.does.stall in
        let r =
        at_stall h1 h2 f0 f1 s topic channel at.does.stall at.does.after (Gets Joins (room_of s topic channel) h1.moment m) sound (start s holds) (change told)
        (joined f0 f1 h1.moment m at.does.stall at.does.after n0 n1 tells told (room_of s topic channel) (space_is s holds) o) in
        (r.0, r.1, end r.0 r.2)
    gives_by made.Stuck o = λ s holds.
        let topic = topic_name at.room in
        let channel = channel_name at.does.stall in
        let r =
        stall_kept_off h1 h2 f0 f1 s topic channel at.does.stall at.does.after (Gets Joins (room_of s topic channel) h1.moment m) sound (start s holds) (change told)
        (λ k i. (stays_fault f0 f1 h1.moment m at.does.stall at.does.after n0 n1 tells told o k i, can_join (room_of s topic channel) h1.moment m k)) in
        (r.0, end s r.1)
    gives_by made.Memory o = λ s holds.
        end s
        (stall_as_before h1 h2 f0 f1 s (topic_name at.room) (channel_name at.does.stall) at.does.stall at.does.after sound (start s holds) (change told) (stays_want f0 f1 h1.moment m at.does.stall at.does.after n0 n1 tells told o))

    pub offer_gives : (topic channel : List ℕ) → IsNamedAt h0.rooms.items place topic channel → Gives h0.moment topic channel m h0 f0 h3 f1 answer
    offer_gives topic channel named =
        subst (λ n. Gives n topic channel m h0 f0 h3 f1 answer) (ap (λ (h : Hall). h.moment) rest1)
        (subst (λ t. Gives h1.moment t channel m h0 f0 h3 f1 answer) (topic_at topic channel named)
        (subst (λ c. Gives h1.moment (topic_name at.room) c m h0 f0 h3 f1 answer) (channel_at topic channel named) (gives_by answer at.does.does)))
