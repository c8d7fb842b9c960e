-- A channel that is emptied.
use Rattle.std.proofs.Common.{◌≡◌, inl, ℕ, Bool, List, [], get_or, Some, refl, sym, ap, subst, ◌∙◌}
use Rattle.std.specs.Prelude.{IsSome, IsTrue}
use Rattle.std.specs.List.{slice_get}
use Rattle.std.proofs.lemmas.Option.{get_or_from_slice_get}
use Rattle.nsq_outside.specs.Files.{Files}
use Rattle.disk_queue.specs.declared.answers.Emptied.{Emptied}
use Rattle.disk_queue.specs.declared.answers.Emptied.TheVariants.{Done, Fault}
use Rattle.broker_history.specs.Channels.{IsKept, emptied_all}
use Rattle.broker_history.specs.State.{Channel, State}
use Rattle.channel_copies.specs.Clients.{client_of}
use Rattle.channel_core.specs.Seen.{Seen as ChannelSeen, queue_name, queued_in}
use Rattle.floor_laws.specs.Lifting.{Lifts}
use Rattle.floor_laws.proofs.Lifting.{emptied_kept}
use Rattle.floor_rooms.specs.declared.stall.Stall.{Stall}
use Rattle.floor_rooms.specs.declared.room.Room.{Room}
use Rattle.floor_rooms.specs.declared.hall.Hall.{Hall}
use Rattle.floor_rooms.specs.Rooms.{channel_name, topic_name}
use Rattle.floor_rooms.specs.Sound.{IsRoomSound, IsSound, IsStallSound}
use Rattle.floor_rooms.specs.Standing.{HoldsFor}
use Rattle.floor_rooms.specs.Changes.{AtStall, InRoom, KeepsRooms, KeepsSince, OnlyQueueFiles, StallChange, Touches, TouchesStall}
use Rattle.floor_rooms.specs.Kept.{NamesTold}
use Rattle.floor_rooms.proofs.Staying.{others_stay}
use Rattle.floor_rooms.proofs.Changing.{at_stall}
use Rattle.floor_rooms.proofs.Lifting.{stall_lifts}
use Rattle.floor_rooms.proofs.Orders.{stall_as_before}
use Rattle.floor_rooms.proofs.Sounding.{at_all}
use Rattle.floor_rooms.proofs.Marked.{IsElse, MarksStall, else_stays}
use Rattle.floor_rooms.proofs.Turning.{stall_change}
use Rattle.floor_rooms.proofs.Dating.{keeps_at_stall, keeps_equal, keeps_marks_stall, keeps_stall_touched, keeps_then, since_kept}
use Rattle.floor_rooms.proofs.Filing.{only_of_channel}
use Rattle.floor_rooms.proofs.Naming.{names_kept}
use Rattle.floor_topics.specs.Emptying.{EmptiesBy, EmptiesStall}
use Rattle.floor_topics.proofs.Marks.{after_at, marked_some, some_same, stands_now}
use Rattle.floor_topics.proofs.States.{channel_is}

-- one call of a channel's, which is marked
module _ (tells : Bool) (h h' : Hall) (old new : Files) (before after : ℕ) (answer : Emptied) (i j : ℕ) (sound : IsSound h) (rest : h' ≡ record h { rooms = h'.rooms }) (at : AtStall i j (EmptiesStall tells answer old new before after) h.rooms.items h'.rooms.items) where
  copies_else : IsElse h h'
  copies_else = ap (λ (x : Hall). record x { rooms = h'.rooms; pending = h'.pending; unsaved_names = h'.unsaved_names; quiet_until = h'.quiet_until; unsaved_from = h'.unsaved_from }) rest

  copies_room : IsRoomSound h at.room
  copies_room = at_all (IsRoomSound h) h.rooms.items i at.room sound.rooms at.there

  copies_stall : IsStallSound h.options (topic_name at.room) h.quiet_until h.unsaved_from at.does.stall
  copies_stall = at_all (IsStallSound h.options (topic_name at.room) h.quiet_until h.unsaved_from) at.room.stalls.items j at.does.stall copies_room.stalls at.does.there

  copies_named : channel_name at.does.after ≡ channel_name at.does.stall
  copies_named = ap (λ (c : ChannelSeen). c.about.name) at.does.does.rest

  copies_touched : IsSome at.does.stall.since → TouchesStall at.does.stall at.does.after
  copies_touched marked = record {
    about = ap (λ (c : ChannelSeen). c.about) at.does.does.rest;
    drawn = ap (λ (c : ChannelSeen). c.drawn) at.does.does.rest ∙ copies_stall.settled;
    queue = at.does.does.disk.queue;
    clients = λ n. ap (λ (c : ChannelSeen). client_of c.clients n) at.does.does.rest;
    members = ap (λ (s : Stall). s.members.items) at.does.does.same;
    since = ap (λ (s : Stall). s.since) at.does.does.same;
    marked = inl marked;
  }

  pub copies_touches : IsSome at.does.stall.since → Touches i j h h'
  copies_touches marked = record {
    sound = sound;
    rest = rest;
    stall = record {
      room = at.room;
      after = at.after;
      there = at.there;
      is = at.is;
      does = record { stall = at.does.stall; after = at.does.after; there = at.does.there; is = at.does.is; stalls = at.does.stalls; does = copies_touched marked };
    };
  }

  pub copies_change : IsTrue tells → StallChange h h' old new (topic_name at.room) (channel_name at.does.stall) at.does.stall at.does.after
  copies_change told =
      stall_change h h' old new i j (EmptiesStall tells answer old new before after) sound at copies_named (else_stays h h' copies_else)
      (others_stay at.does.stall.channel.backlog.queue (queue_name (topic_name at.room) (channel_name at.does.stall)) old new copies_stall.queue (at.does.does.disk.others told))

  pub copies_files : IsTrue tells → OnlyQueueFiles old new
  copies_files told = only_of_channel (topic_name at.room) (channel_name at.does.stall) at.does.stall.channel.backlog.queue old new copies_room.named copies_stall.named copies_stall.queue (at.does.does.disk.others told)

  pub copies_leave : (moment : ℕ) → IsSome at.does.stall.since → KeepsRooms moment h.rooms.items h'.rooms.items
  copies_leave moment marked =
      keeps_at_stall moment i j (EmptiesStall tells answer old new before after) h.rooms.items h'.rooms.items at
      (keeps_stall_touched moment at.does.stall at.does.after (copies_touched marked) (ap (λ (c : ChannelSeen). c.paused) at.does.does.rest))

-- each state's channel has no live copy then, or is the same
lift_emptied : (kept kept' k : Channel) → IsKept kept k → kept' ≡ record kept { copies = [] } → Lifts (λ a b. b ≡ record a { copies = emptied_all a.copies }) kept' k
lift_emptied kept kept' k h is = record { to = record k { copies = emptied_all k.copies }; row = refl; is_kept = emptied_kept kept kept' k h is }

pub copies_told : (tells : Bool) (h h' : Hall) (old new : Files) (before after : ℕ) (answer : Emptied) (i j : ℕ) (sound : IsSound h) (rest : h' ≡ record h { rooms = h'.rooms }) (at : AtStall i j (EmptiesStall tells answer old new before after) h.rooms.items h'.rooms.items) → IsTrue tells → (s : State)
    → HoldsFor h old s → (t : State) × EmptiesBy answer (topic_name at.room) (Some (channel_name at.does.stall)) s t × HoldsFor h' new t
copies_told tells h h' old new before after Done i j sound rest at told s holds =
    let f : Channel → Channel = λ c. record c { copies = emptied_all c.copies } in
    let r = at_stall h h' old new s (topic_name at.room) (channel_name at.does.stall) at.does.stall at.does.after (λ a b. b ≡ f a) sound holds (copies_change tells h h' old new before after Done i j sound rest at told)
    (λ k of.
    stall_lifts (λ a b. b ≡ record a { copies = [] }) (λ a b. b ≡ f a) lift_emptied old new at.does.stall at.does.after k at.does.stall.channel (queued_in at.does.stall.channel of.disk) of refl (copies_named tells h h' old new before after Done i j sound rest at)
    (at.does.does.disk.stands told of.stands) (at.does.does.row told of.disk of.on_disk)) in
    (r.0, channel_is f s r.0 (topic_name at.room) (channel_name at.does.stall) r.1.old r.1.new r.1.row.from r.1.row.to r.1.there r.1.row.there r.1.row.row r.1.row.is r.1.is, r.2)
copies_told tells h h' old new before after Fault i j sound rest at told s holds = (
  s,
  refl,
  stall_as_before h h' old new s (topic_name at.room) (channel_name at.does.stall) at.does.stall at.does.after sound holds (copies_change tells h h' old new before after Fault i j sound rest at told)
      (λ k of.
      let leads = at.does.does.row told of.disk of.on_disk in
      record { disk = leads.disk; on_disk = leads.on_disk; is_kept = subst (λ c. IsKept c k) (sym leads.row) of.is_kept; stands = at.does.does.disk.stands told of.stands }),
)

-- the channel was marked before, and is settled afterwards
module _ (tells : Bool) (h0 h1 h2 h3 : Hall) (old new : Files) (before after : ℕ) (answer : Emptied) (i j u : ℕ) (e1 : h1 ≡ record h0 { rooms = h1.rooms; unsaved_from = u }) (mark : AtStall i j (MarksStall h0.moment) h0.rooms.items h1.rooms.items) (sound : IsSound h1) (e2 : h2 ≡ record h1 { rooms = h2.rooms })
    (at : AtStall i j (EmptiesStall tells answer old new before after) h1.rooms.items h2.rooms.items) (e3 : h3 ≡ record h2 { quiet_until = h3.quiet_until }) where
  room_was : at.room ≡ mark.after
  room_was = after_at i (InRoom j (MarksStall h0.moment)) h0.rooms.items h1.rooms.items mark at.room at.there

  stall_was : at.does.stall ≡ mark.does.after
  stall_was =
      some_same at.does.stall mark.does.after
      (sym at.does.there ∙ ap (λ (r : Room). slice_get r.stalls.items j) room_was ∙ ap (λ xs. slice_get xs j) mark.does.stalls ∙ stands_now mark.room.stalls.items j mark.does.stall mark.does.after mark.does.there)

  channel_marked : IsSome at.does.stall.since
  channel_marked = subst IsSome (sym (ap (λ (s : Stall). s.since) stall_was ∙ ap (λ (s : Stall). s.since) mark.does.does)) (marked_some mark.does.stall.since h0.moment)

  room_read : (d : Room) → topic_name at.room ≡ topic_name (get_or h0.rooms.items i d)
  room_read d = ap topic_name room_was ∙ ap topic_name mark.does.is ∙ ap topic_name (sym (get_or_from_slice_get h0.rooms.items i mark.room d mark.there))

  stall_read : (d : Room) (x : Stall) → channel_name at.does.stall ≡ channel_name (get_or (get_or h0.rooms.items i d).stalls.items j x)
  stall_read d x =
      ap channel_name stall_was ∙ ap channel_name mark.does.does
      ∙ ap channel_name (sym (ap (λ (r : Room). get_or r.stalls.items j x) (get_or_from_slice_get h0.rooms.items i mark.room d mark.there) ∙ get_or_from_slice_get mark.room.stalls.items j mark.does.stall x mark.does.there))

  pub channel_touches : Touches i j h1 h2
  channel_touches = copies_touches tells h1 h2 old new before after answer i j sound e2 at channel_marked

  pub channel_emptied : IsTrue tells → (d : Room) (x : Stall) (s : State) → HoldsFor h1 old s → (t : State) × EmptiesBy answer (topic_name (get_or h0.rooms.items i d)) (Some (channel_name (get_or (get_or h0.rooms.items i d).stalls.items j x))) s t × HoldsFor h2 new t
  channel_emptied told d x s holds =
      let r = copies_told tells h1 h2 old new before after answer i j sound e2 at told s holds in (
        r.0,
        subst (λ (n : List ℕ). EmptiesBy answer n (Some (channel_name (get_or (get_or h0.rooms.items i d).stalls.items j x))) s r.0) (room_read d)
            (subst (λ (n : List ℕ). EmptiesBy answer (topic_name at.room) (Some n) s r.0) (stall_read d x) r.1),
        r.2,
      )

  channel_leaves : KeepsRooms h0.moment h0.rooms.items h3.rooms.items
  channel_leaves =
      let m : ℕ = h0.moment in
      keeps_then m h0.rooms.items h2.rooms.items h3.rooms.items
      (keeps_then m h0.rooms.items h1.rooms.items h2.rooms.items (keeps_marks_stall m i j h0.rooms.items h1.rooms.items mark) (copies_leave tells h1 h2 old new before after answer i j sound e2 at m channel_marked))
      (keeps_equal m h2.rooms.items h3.rooms.items (ap (λ (x : Hall). x.rooms.items) e3))

  pub channel_names : NamesTold h0 h3
  channel_names = names_kept h0.moment h0 h3 (ap (λ (x : Hall). x.unsaved_names) e3 ∙ ap (λ (x : Hall). x.unsaved_names) e2 ∙ ap (λ (x : Hall). x.unsaved_names) e1) channel_leaves

  pub channel_since : KeepsSince h0.moment h0.rooms.items h3.rooms.items
  channel_since = since_kept h0.moment h0.rooms.items h3.rooms.items channel_leaves
