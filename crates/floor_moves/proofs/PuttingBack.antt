-- What is due of a channel is put back: that is the move, of each state that the hall stood for.
use Rattle.std.proofs.Common.{◌≡◌, inl, ◌<◌, ◌≤◌, ℕ, Bool, true, false, if◌then◌else◌, List, set, get_or, length, Option, Some, None, refl, sym, ap, subst, ◌∙◌, get_or-set_same, length-set}
use Rattle.std.specs.Prelude.{IsTrue, IsSome, slice_get}
use Rattle.std.proofs.lemmas.Bool.{eq-eqb}
use Rattle.std.proofs.lemmas.Option.{get_or_from_slice_get, slice_get_within, slice_get-get_or, some_pair_parts}
use Rattle.nsq_outside.specs.Causes.{Rose}
use Rattle.nsq_outside.specs.Files.{Files}
use Rattle.nsq_outside.specs.declared.journal.End.{End}
use Rattle.nsq_outside.specs.declared.journal.End.TheVariants.{Done, Faulted}
use Rattle.broker_history.specs.declared.entry.Act.{Act}
use Rattle.broker_history.specs.declared.entry.Act.TheVariants.{TimedOut, CameDue}
use Rattle.broker_history.specs.declared.entry.Entry.{Entry}
use Rattle.broker_history.specs.Entries.{History}
use Rattle.broker_history.specs.Before.{is_moved_at, is_stuck_at}
use Rattle.broker_history.specs.State.{Channel, State}
use Rattle.broker_history.specs.Channels.{Room as Space, Moves, TimesOut, ComesDue}
use Rattle.broker_history.specs.Step.{room_of, DoesAct, DoesMove, IsMoveDue, IsAllowedAct, IsDaemons}
use Rattle.channel_copies.specs.Clients.{client_of}
use Rattle.channel_core.specs.Answers.{TellsDue}
use Rattle.channel_core.specs.Moves.{due_in, MoveFails}
use Rattle.channel_core.specs.Seen.{Seen as ChannelSeen, channel_with, queued_in, queue_name}
use Rattle.channel_core.specs.Seen as core
use Rattle.channel_core.specs.declared.answers.Moved.{Moved}
use Rattle.channel_core.specs.declared.drawn.Drawn.TheVariants.{Nothing}
use Rattle.channel_core.specs.declared.answers.Moved.TheVariants as moved
use Rattle.channel_core.proofs.Dues.{tells_due}
use Rattle.floor_laws.specs.Lifting.{Leads}
use Rattle.floor_laws.proofs.Lifting.{can_time_out, can_come_due}
use Rattle.floor_rooms.specs.declared.stall.Stall.{Stall}
use Rattle.floor_rooms.specs.declared.room.Room.{Room}
use Rattle.floor_rooms.specs.declared.hall.Hall.{Hall}
use Rattle.floor_rooms.specs.Rooms.{channel_name, topic_name}
use Rattle.floor_rooms.specs.Sound.{IsSound, IsRoomSound, IsStallSound}
use Rattle.floor_rooms.specs.Standing.{IsStallOf, HoldsFor, LiftsTo}
use Rattle.floor_rooms.specs.Changes.{StallChange, AtStall, KeepsStall, OnlyQueueFiles, SinceStays, Touches, marked}
use Rattle.floor_rooms.proofs.Staying.{others_stay}
use Rattle.floor_rooms.proofs.Changing.{at_stall}
use Rattle.floor_rooms.proofs.Orders.{stall_kept_off}
use Rattle.floor_rooms.proofs.Lifting.{times_out_lifts, comes_due_lifts, stays_lifts, own_room}
use Rattle.floor_rooms.proofs.Turning.{stall_change}
use Rattle.floor_rooms.proofs.Sounding.{at_all}
use Rattle.floor_moves.specs.declared.due.Place.{Place}
use Rattle.floor_moves.specs.declared.moving.Due.{Due}
use Rattle.floor_moves.specs.Due.{HasStall, HasStallAt}
use Rattle.floor_moves.specs.Moves.{Keeps, Notes, entry_at, sight, IsMade, IsKeptOff}
use Rattle.floor_moves.specs.Moving.{act_of, is_done, IsFirstDue, IsDueAt, MovesStall, PutsDue, PutFails}
use Rattle.floor_moves.proofs.Keeping.{keeps_stall, rest_of}
use Rattle.floor_rooms.proofs.Dating.{since_same}
use Rattle.floor_rooms.proofs.Filing.{only_of_channel}
use Rattle.floor_moves.proofs.Stepping.{Noted, noted_done, noted_fault, daemon, steps_to, rose_none, rose_one}

pub some_same : {X : Type 0} (x y : X) → Some x ≡ Some y → x ≡ y
some_same x y e = cc

-- what was put at a place stands there
pub stands_now : {X : Type 0} (xs : List X) (i : ℕ) (x y : X) → slice_get xs i ≡ Some x → slice_get (set xs i y) i ≡ Some y
stands_now xs i x y at =
    let within : i < length xs = slice_get_within xs i x at in
    slice_get-get_or (set xs i y) i y (subst (λ n. i < n) (sym (length-set xs i y)) within) ∙ ap Some (get_or-set_same xs i y y within)

-- what holds of the one at a place holds of whichever is found there
pub stall_here : (j : ℕ) (P : Stall → Type 0) (stalls : List Stall) (a : Stall) → HasStall j P stalls → slice_get stalls j ≡ Some a → P a
stall_here j P stalls a has at = subst P (some_same has.stall a (sym has.there ∙ at)) has.is

pub room_here : (i j : ℕ) (P : Stall → Type 0) (rooms : List Room) (r : Room) → HasStallAt i j P rooms → slice_get rooms i ≡ Some r → HasStall j P r.stalls.items
room_here i j P rooms r has at = subst (λ (x : Room). HasStall j P x.stalls.items) (some_same has.room r (sym has.there ∙ at)) has.has

-- a mark leaves what is due
abbrev pub Marks : (at : ℕ) → Stall → Stall → Type 0
Marks at a b = b ≡ record a { since = marked a.since at }

pub some_since : (since : Option ℕ) (at : ℕ) → IsSome (marked since at)
some_since None at = refl
some_since (Some m) at = refl

module _ (h0 h1 : Hall) (i j : ℕ) (mark : AtStall i j (Marks h0.moment) h0.rooms.items h1.rooms.items) where
  room_now : slice_get h1.rooms.items i ≡ Some mark.after
  room_now = ap (λ xs. slice_get xs i) mark.is ∙ stands_now h0.rooms.items i mark.room mark.after mark.there

  stall_now : slice_get mark.after.stalls.items j ≡ Some mark.does.after
  stall_now = ap (λ xs. slice_get xs j) mark.does.stalls ∙ stands_now mark.room.stalls.items j mark.does.stall mark.does.after mark.does.there

  -- what stands there now
  pub marked_stall : (r : Room) (a : Stall) → slice_get h1.rooms.items i ≡ Some r → slice_get r.stalls.items j ≡ Some a → a ≡ mark.does.after
  marked_stall r a at in_room =
      let same : r ≡ mark.after = some_same r mark.after (sym at ∙ room_now) in
      some_same a mark.does.after (sym in_room ∙ ap (λ (x : Room). slice_get x.stalls.items j) same ∙ stall_now)

  pub is_marked : (r : Room) (a : Stall) → slice_get h1.rooms.items i ≡ Some r → slice_get r.stalls.items j ≡ Some a → IsSome a.since
  is_marked r a at in_room = subst (λ (x : Stall). IsSome x.since) (sym (marked_stall r a at in_room ∙ mark.does.does)) (some_since mark.does.stall.since h0.moment)

-- what is due of a channel is so still as it was marked
pub due_marked : (h0 h1 : Hall) (place : Place) (due : Due) (mark : AtStall place.room place.stall (Marks h0.moment) h0.rooms.items h1.rooms.items) → h1.moment ≡ h0.moment → IsDueAt h0 place due → IsDueAt h1 place due
due_marked h0 h1 place due mark same is =
    let has = room_here place.room place.stall (IsFirstDue h0.moment due) h0.rooms.items mark.room is.at mark.there in
    let first = stall_here place.stall (IsFirstDue h0.moment due) mark.room.stalls.items mark.does.stall has mark.does.there in
    let channel : mark.does.after.channel ≡ mark.does.stall.channel = ap (λ (s : Stall). s.channel) mark.does.does in
    record {
      at = record {
        room = mark.after;
        there = room_now h0 h1 place.room place.stall mark;
        has = record {
          stall = mark.does.after;
          there = stall_now h0 h1 place.room place.stall mark;
          is = record { named = first.named ∙ ap (λ (c : ChannelSeen). c.about.name) (sym channel); first = ap (due_in h1.moment) channel ∙ ap (λ n. due_in n mark.does.stall.channel) same ∙ first.first };
        };
      };
      topic = is.topic ∙ ap topic_name (some_same is.at.room mark.room (sym is.at.there ∙ mark.there)) ∙ ap (λ (r : Room). r.queue.name) (sym mark.does.is);
    }

-- what is due of the channel at a place
pub due_found : (h : Hall) (place : Place) (due : Due) (P : Stall → Type 0) (room : Room) (stall : Stall) → HasStallAt place.room place.stall P h.rooms.items → room ≡ get_or h.rooms.items place.room room → stall ≡ get_or room.stalls.items place.stall stall
    → due.topic ≡ topic_name room → due.channel ≡ channel_name stall → due_in h.moment stall.channel ≡ Some (due.id, due.flies) → IsDueAt h place due
due_found h place due P room stall has r s topic channel first =
    let same_room : room ≡ has.room = r ∙ get_or_from_slice_get h.rooms.items place.room has.room room has.there in
    let at_room : slice_get h.rooms.items place.room ≡ Some room = has.there ∙ ap Some (sym same_room) in
    let in_room = room_here place.room place.stall P h.rooms.items room has at_room in
    let same_stall : stall ≡ in_room.stall = s ∙ get_or_from_slice_get room.stalls.items place.stall in_room.stall stall in_room.there in
    record {
      at = record { room = room; there = at_room; has = record { stall = stall; there = in_room.there ∙ ap Some (sym same_stall); is = record { named = channel; first = first } } };
      topic = topic;
    }

abbrev act_with : Bool → (topic channel id : List ℕ) → Act
act_with flies topic channel id = if flies then TimedOut topic channel id else CameDue topic channel id

-- what one call leaves of a channel
pub move_keeps : (tells : Bool) (now : ℕ) (answer : Moved) (old new : Files) (before after : ℕ) (a b : Stall) → MovesStall tells now answer old new before after a b → KeepsStall now a b
move_keeps tells now answer old new before after a b m = record {
  about = ap (λ (c : ChannelSeen). c.about) m.rest;
  paused = ap (λ (c : ChannelSeen). c.paused) m.rest;
  members = ap (λ (s : Stall). s.members.items) m.same;
  since = subst (λ (s : Stall). SinceStays now a.since s.since) (sym m.same) (since_same now a.since);
}

-- one call of the channel's, of a hall that is marked
module _ (tells : Bool) (h1 h2 : Hall) (old new : Files) (before after : ℕ) (place : Place) (answer : Moved) (sound : IsSound h1) (at : AtStall place.room place.stall (MovesStall tells h1.moment answer old new before after) h1.rooms.items h2.rooms.items) where
  room_is : IsRoomSound h1 at.room
  room_is = at_all (IsRoomSound h1) h1.rooms.items place.room at.room sound.rooms at.there

  stall_is : IsStallSound h1.options (topic_name at.room) h1.quiet_until h1.unsaved_from at.does.stall
  stall_is = at_all (IsStallSound h1.options (topic_name at.room) h1.quiet_until h1.unsaved_from) at.room.stalls.items place.stall at.does.stall room_is.stalls at.does.there

  same_name : channel_name at.does.after ≡ channel_name at.does.stall
  same_name = ap (λ (c : ChannelSeen). c.about.name) at.does.does.rest

  -- nothing but the one channel was touched
  pub touches : h2 ≡ record h1 { rooms = h2.rooms } → IsSome at.does.stall.since → Touches place.room place.stall h1 h2
  touches rest is_some = record {
    sound = sound;
    rest = rest;
    stall = record {
      room = at.room;
      after = at.after;
      there = at.there;
      is = at.is;
      does = record {
        stall = at.does.stall;
        after = at.does.after;
        there = at.does.there;
        is = at.does.is;
        stalls = at.does.stalls;
        does = record {
          about = ap (λ (c : ChannelSeen). c.about) at.does.does.rest;
          drawn = ap (λ (c : ChannelSeen). c.drawn) at.does.does.rest ∙ stall_is.settled;
          queue = at.does.does.disk.queue;
          clients = λ n. ap (λ (c : ChannelSeen). client_of c.clients n) at.does.does.rest;
          members = ap (λ (s : Stall). s.members.items) at.does.does.same;
          since = ap (λ (s : Stall). s.since) at.does.does.same;
          marked = inl is_some;
        };
      };
    };
  }

  pub moved_keeps : h2 ≡ record h1 { rooms = h2.rooms } → Keeps h1 h2
  moved_keeps rest =
      keeps_stall h1 h2 place.room place.stall (MovesStall tells h1.moment answer old new before after) rest at (move_keeps tells h1.moment answer old new before after at.does.stall at.does.after at.does.does)

  -- no file changed but queues'
  pub only_queues : IsTrue tells → OnlyQueueFiles old new
  only_queues it_tells = only_of_channel (topic_name at.room) (channel_name at.does.stall) at.does.stall.channel.backlog.queue old new room_is.named stall_is.named stall_is.queue (at.does.does.disk.others it_tells)

  change : Keeps h1 h2 → IsTrue tells → StallChange h1 h2 old new (topic_name at.room) (channel_name at.does.stall) at.does.stall at.does.after
  change keeps it_tells =
      stall_change h1 h2 old new place.room place.stall (MovesStall tells h1.moment answer old new before after) sound at same_name (rest_of h1 h2 keeps)
      (others_stay at.does.stall.channel.backlog.queue (queue_name (topic_name at.room) (channel_name at.does.stall)) old new stall_is.queue (at.does.does.disk.others it_tells))

-- what is lifted of each answer
module _ (old new : Files) (now : ℕ) (a b : Stall) (before after : ℕ) (tells : Bool) (it_tells : IsTrue tells) where
  timed_out : (id : List ℕ) (space : Space) → core.room_of a.channel ≡ space → MovesStall tells now (moved.TimedOut id) old new before after a b → (k : Channel) → IsStallOf old a k → LiftsTo (TimesOut Moves space id now) new b k
  timed_out id space same m k i =
      subst (λ r. LiftsTo (TimesOut Moves r id now) new b k) same
      (times_out_lifts (core.room_of a.channel) id now old new a b k a.channel (queued_in a.channel i.disk) i refl (ap (λ (c : ChannelSeen). c.about.name) m.rest) (m.disk.stands it_tells i.stands) (m.row it_tells i.disk i.on_disk))

  came_due : (id : List ℕ) (space : Space) → core.room_of a.channel ≡ space → MovesStall tells now (moved.CameDue id) old new before after a b → (k : Channel) → IsStallOf old a k → LiftsTo (ComesDue Moves space id now) new b k
  came_due id space same m k i =
      subst (λ r. LiftsTo (ComesDue Moves r id now) new b k) same
      (comes_due_lifts (core.room_of a.channel) id now old new a b k a.channel (queued_in a.channel i.disk) i refl (ap (λ (c : ChannelSeen). c.about.name) m.rest) (m.disk.stands it_tells i.stands) (m.row it_tells i.disk i.on_disk))

  stays : (id : List ℕ) → MovesStall tells now (moved.Fault id) old new before after a b → (k : Channel) → IsStallOf old a k → IsStallOf new b k
  stays id m k i = stays_lifts old new a b k a.channel (queued_in a.channel i.disk) i refl (m.disk.stands it_tells i.stands) (m.row it_tells i.disk i.on_disk).1

-- what is due first can be moved
can_time : (files : Files) (now : ℕ) (id : List ℕ) (space : Space) (a : Stall) (k : Channel) → due_in now a.channel ≡ Some (id, true) → IsStallOf files a k → Leads (TimesOut Moves space id now) k
can_time files now id space a k first i =
    can_time_out space id now (core.seen_channel a.channel i.disk) k i.is_kept (subst (TellsDue now (channel_with a.channel (queued_in a.channel i.disk))) first (tells_due now a.channel (queued_in a.channel i.disk)))

can_come : (files : Files) (now : ℕ) (id : List ℕ) (space : Space) (a : Stall) (k : Channel) → due_in now a.channel ≡ Some (id, false) → IsStallOf files a k → Leads (ComesDue Moves space id now) k
can_come files now id space a k first i =
    can_come_due space id now (core.seen_channel a.channel i.disk) k i.is_kept (subst (TellsDue now (channel_with a.channel (queued_in a.channel i.disk))) first (tells_due now a.channel (queued_in a.channel i.disk))).1

-- the answers, one by one; the hall stood for the same states before it was marked, and does so after it is settled
module _ (tells : Bool) (it_tells : IsTrue tells) (h0 h1 h2 h3 : Hall) (old new : Files) (before after : ℕ) (now : ℕ) (topic channel : List ℕ) (a b : Stall) (sound : IsSound h1) (c : StallChange h1 h2 old new topic channel a b)
    (space_is : (s : State) → HoldsFor h1 old s → core.room_of a.channel ≡ room_of s topic channel) (start : (s : State) → HoldsFor h0 old s → HoldsFor h1 old s) (end : (s : State) → HoldsFor h2 new s → HoldsFor h3 new s) where
  done_out : (id : List ℕ) → MovesStall tells now (moved.TimedOut id) old new before after a b → PutsDue now (TimedOut topic channel id) h0 old h3 new true
  done_out id m s holds =
      let r = at_stall h1 h2 old new s topic channel a b (TimesOut Moves (room_of s topic channel) id now) sound (start s holds) c (timed_out old new now a b before after tells it_tells id (room_of s topic channel) (space_is s (start s holds)) m) in
      (r.0, r.1, end r.0 r.2)

  done_due : (id : List ℕ) → MovesStall tells now (moved.CameDue id) old new before after a b → PutsDue now (CameDue topic channel id) h0 old h3 new true
  done_due id m s holds =
      let r = at_stall h1 h2 old new s topic channel a b (ComesDue Moves (room_of s topic channel) id now) sound (start s holds) c (came_due old new now a b before after tells it_tells id (room_of s topic channel) (space_is s (start s holds)) m) in
      (r.0, r.1, end r.0 r.2)

  faulted : (told id : List ℕ) (flies : Bool) → due_in now a.channel ≡ Some (id, flies) → MovesStall tells now (moved.Fault told) old new before after a b → PutsDue now (act_with flies topic channel id) h0 old h3 new false
  faulted told id true first m s holds =
      let r = stall_kept_off h1 h2 old new s topic channel a b (TimesOut Moves (room_of s topic channel) id now) sound (start s holds) c
      (λ k i. (stays old new now a b before after tells it_tells told m k i, can_time old now id (room_of s topic channel) a k first i)) in
      (r.0, end s r.1)
  faulted told id false first m s holds =
      let r = stall_kept_off h1 h2 old new s topic channel a b (ComesDue Moves (room_of s topic channel) id now) sound (start s holds) c
      (λ k i. (stays old new now a b before after tells it_tells told m k i, can_come old now id (room_of s topic channel) a k first i)) in
      (r.0, end s r.1)

  -- the answer tells of the copy that is due first
  puts : (id : List ℕ) (flies : Bool) (answer : Moved) → due_in now a.channel ≡ Some (id, flies) → MovesStall tells now answer old new before after a b → PutsDue now (act_with flies topic channel id) h0 old h3 new (is_done answer)
  puts id flies (moved.TimedOut told) first m =
      let same = some_pair_parts id told flies true (sym first ∙ m.told) in
      subst (λ act. PutsDue now act h0 old h3 new true) (ap (λ x. TimedOut topic channel x) (sym same.0) ∙ ap (λ x. act_with x topic channel id) (sym same.1)) (done_out told m)
  puts id flies (moved.CameDue told) first m =
      let same = some_pair_parts id told flies false (sym first ∙ m.told) in
      subst (λ act. PutsDue now act h0 old h3 new true) (ap (λ x. CameDue topic channel x) (sym same.0) ∙ ap (λ x. act_with x topic channel id) (sym same.1)) (done_due told m)
  puts id flies (moved.Fault told) first m = faulted told id flies first m
  puts id flies moved.Nothing first m = absurd (let no : ⊥ = none_told (id, flies) (sym m.told ∙ first) in no)
    where
      none_told : {X : Type 0} (x : X) → None ≡ Some x → ⊥
      none_told x e = cc

-- the whole of it
pub due_put : (tells : Bool) (h0 h1 h2 h3 : Hall) (old new : Files) (before after : ℕ) (place : Place) (due : Due) (answer : Moved) → IsSound h1 → Keeps h0 h1 → Keeps h1 h2 → IsDueAt h1 place due
    → (at : AtStall place.room place.stall (MovesStall tells h1.moment answer old new before after) h1.rooms.items h2.rooms.items) → ((s : State) → HoldsFor h0 old s → HoldsFor h1 old s) → ((s : State) → HoldsFor h2 new s → HoldsFor h3 new s)
    → IsTrue tells → PutsDue h0.moment (act_of due) h0 old h3 new (is_done answer)
due_put tells h0 h1 h2 h3 old new before after place due answer sound k01 k12 is at start end it_tells =
    let has = room_here place.room place.stall (IsFirstDue h1.moment due) h1.rooms.items at.room is.at at.there in
    let first = stall_here place.stall (IsFirstDue h1.moment due) at.room.stalls.items at.does.stall has at.does.there in
    let topic : due.topic ≡ topic_name at.room = is.topic ∙ ap topic_name (some_same is.at.room at.room (sym is.at.there ∙ at.there)) in
    let act : act_of due ≡ act_with due.flies (topic_name at.room) (channel_name at.does.stall) due.id =
    ap (λ t. act_with due.flies t due.channel due.id) topic ∙ ap (λ x. act_with due.flies (topic_name at.room) x due.id) first.named in
    let r : PutsDue h1.moment (act_with due.flies (topic_name at.room) (channel_name at.does.stall) due.id) h0 old h3 new (is_done answer) =
    puts tells it_tells h0 h1 h2 h3 old new before after h1.moment (topic_name at.room) (channel_name at.does.stall) at.does.stall at.does.after sound
    (change tells h1 h2 old new before after place answer sound at k12 it_tells)
    (λ s holds. own_room h1.options (topic_name at.room) h1.quiet_until h1.unsaved_from at.does.stall s (stall_is tells h1 h2 old new before after place answer sound at) holds.stands.options)
    start end due.id due.flies answer first.first at.does.does in
    subst (λ n. PutsDue n (act_of due) h0 old h3 new (is_done answer)) k01.moment
    (subst (λ x. PutsDue h1.moment x h0 old h3 new (is_done answer)) (sym act) r)

pub put_fails : (before after : ℕ) (answer : Moved) → MoveFails before after answer → PutFails before after (is_done answer)
put_fails before after (moved.TimedOut id) h = tt
put_fails before after (moved.CameDue id) h = tt
put_fails before after (moved.Fault id) h = h
put_fails before after moved.Nothing h = tt

-- what is noted of it
moved_by : (at : ℕ) (flies : Bool) (topic channel id : List ℕ) (conn : ℕ) (end : End) → is_moved_at at (record { conn = conn; at = at; act = act_with flies topic channel id }, end) ≡ true
moved_by at true topic channel id conn end = eq-eqb at at refl
moved_by at false topic channel id conn end = eq-eqb at at refl

stuck_by : (at : ℕ) (flies : Bool) (topic channel id : List ℕ) (conn : ℕ) → is_stuck_at at (record { conn = conn; at = at; act = act_with flies topic channel id }, Faulted 0) ≡ true
stuck_by at true topic channel id conn = eq-eqb at at refl
stuck_by at false topic channel id conn = eq-eqb at at refl

does_by : (s t : State) (at : ℕ) (flies : Bool) (topic channel id : List ℕ) → DoesMove s at (act_with flies topic channel id) t → DoesAct s at 0 (act_with flies topic channel id) Done t
does_by s t at true topic channel id does = does
does_by s t at false topic channel id does = does

does_none : (s : State) (at : ℕ) (flies : Bool) (topic channel id : List ℕ) → DoesAct s at 0 (act_with flies topic channel id) (Faulted 0) s
does_none s at true topic channel id = refl
does_none s at false topic channel id = refl

may_by : (s : State) (at : ℕ) (flies : Bool) (topic channel id : List ℕ) → IsDaemons s 0 → IsAllowedAct s at 0 (act_with flies topic channel id) Done
may_by s at true topic channel id daemons = daemons
may_by s at false topic channel id daemons = daemons

may_fault : (s : State) (at : ℕ) (flies : Bool) (topic channel id : List ℕ) → IsDaemons s 0 → IsMoveDue s at (act_with flies topic channel id) → IsAllowedAct s at 0 (act_with flies topic channel id) (Faulted 0)
may_fault s at true topic channel id daemons due = (daemons, refl, due)
may_fault s at false topic channel id daemons due = (daemons, refl, due)

module _ (tells_notes tells_files : Bool) (h h' : Hall) (old new : Files) (before after : ℕ) (first mid last : History) (kept : Option Entry) (due : Due) (sound : IsSound h) (running : h.stopped ≡ false) (keeps : Keeps h h') (rises : before ≤ after) where
  pub due_done : Noted tells_notes first mid last kept (entry_at h.moment (act_of due)) Done → (IsTrue tells_files → PutsDue h.moment (act_of due) h old h' new true) → Notes tells_notes tells_files (IsMade h.moment (act_of due)) (sight h first old before) (sight h' last new after)
  due_done noted puts = record {
    entry = (entry_at h.moment (act_of due), Done);
    is = record { moved = moved_by h.moment due.flies due.topic due.channel due.id 0 Done; of = refl; done = refl };
    noted = noted_done tells_notes first mid last kept (entry_at h.moment (act_of due)) noted;
    step = λ told s holds.
        let r = puts told s holds in
        steps_to h h' old new s r.0 (act_of due) Done sound keeps holds (may_by s h.moment due.flies due.topic due.channel due.id (daemon h old s running holds)) (does_by s r.0 h.moment due.flies due.topic due.channel due.id r.1) r.2;
    rose = λ told s holds. rose_none before after rises;
    faults = rises;
  }

  pub due_stuck : Noted tells_notes first mid last kept (entry_at h.moment (act_of due)) (Faulted 0) → (IsTrue tells_files → PutsDue h.moment (act_of due) h old h' new false) → Rose before after
      → Notes tells_notes tells_files (IsKeptOff h.moment (act_of due)) (sight h first old before) (sight h' last new after) × (IsTrue tells_files → (s : State) → HoldsFor h old s → Rose before after)
  due_stuck noted puts rose = (
    record {
      entry = (entry_at h.moment (act_of due), Faulted 0);
      is = record { stuck = stuck_by h.moment due.flies due.topic due.channel due.id 0; of = refl };
      noted = noted_fault tells_notes first mid last kept (entry_at h.moment (act_of due)) noted;
      step = λ told s holds.
          let r = puts told s holds in
          steps_to h h' old new s s (act_of due) (Faulted 0) sound keeps holds (may_fault s h.moment due.flies due.topic due.channel due.id (daemon h old s running holds) r.0) (does_none s h.moment due.flies due.topic due.channel due.id) r.1;
      rose = λ told s holds. rose_one before after rose;
      faults = rises;
    },
    λ told s holds. rose,
  )

-- in a sound hall nothing is drawn of the channel that was read at a place
pub none_drawn : (h : Hall) (i j : ℕ) (room : Room) (stall : Stall) → IsSound h → i < length h.rooms.items → room ≡ get_or h.rooms.items i room → j < length room.stalls.items → stall ≡ get_or room.stalls.items j stall → stall.channel.drawn ≡ Nothing
none_drawn h i j room stall sound within r inside s =
    let here : IsRoomSound h room = subst (IsRoomSound h) (sym r) (sound.rooms i room within) in
    let is : IsStallSound h.options (topic_name room) h.quiet_until h.unsaved_from stall = subst (IsStallSound h.options (topic_name room) h.quiet_until h.unsaved_from) (sym s) (here.stalls j stall inside) in
    is.settled
