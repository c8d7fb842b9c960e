-- A copy that came up while its id was in flight is held back: that is the move, of each state that the hall stood for.
use Rattle.std.proofs.Common.{◌≡◌, inl, ◌≤◌, ◌+◌, ℕ, Bool, false, List, [], ◌∷◌, ◌++◌, get_or, Option, Some, refl, sym, ap, subst, ◌∙◌, arith}
use Rattle.std.specs.Prelude.{IsTrue, slice_get}
use Rattle.std.proofs.lemmas.Option.{get_or_from_slice_get}
use Rattle.nsq_base.specs.declared.options.Options.{Options}
use Rattle.nsq_outside.specs.Files.{Files}
use Rattle.nsq_outside.specs.declared.journal.End.TheVariants.{Done}
use Rattle.v2_frame.specs.declared.message.Message.{Message}
use Rattle.backlog.specs.Lists.{OnDisk, Stands}
use Rattle.backlog.specs.Seen.{SameQueue}
use Rattle.broker_history.specs.declared.entry.Act.{Act}
use Rattle.broker_history.specs.declared.entry.Act.TheVariants.{HeldBack}
use Rattle.broker_history.specs.declared.entry.Entry.{Entry}
use Rattle.broker_history.specs.Entries.{History}
use Rattle.broker_history.specs.State.{Channel, State}
use Rattle.broker_history.specs.Channels.{Moves, HoldsBack, IsKept}
use Rattle.broker_history.specs.Step.{DoesMove}
use Rattle.topic_core.proofs.Saving.{same_joined}
use Rattle.channel_copies.specs.Clients.{client_of}
use Rattle.channel_core.specs.Seen.{Seen as ChannelSeen, channel_with, queued_in, drawn_in, seen_channel, queue_name}
use Rattle.channel_core.specs.declared.about.About.{About}
use Rattle.channel_core.specs.declared.drawn.Drawn.{Drawn}
use Rattle.channel_core.specs.declared.drawn.Drawn.TheVariants.{Nothing, ToHold}
use Rattle.floor_rooms.specs.declared.stall.Stall.{Stall}
use Rattle.floor_rooms.specs.declared.room.Room.{Room}
use Rattle.floor_rooms.specs.declared.hall.Hall.{Hall}
use Rattle.floor_rooms.specs.Rooms.{channel_name, topic_name}
use Rattle.floor_rooms.specs.Sound.{IsRoomSound, IsStallSound}
use Rattle.floor_rooms.specs.Standing.{IsStallOf, HoldsFor, LiftsTo}
use Rattle.floor_rooms.specs.Changes.{StallChange, AtStall, KeepsStall, OnlyQueueFiles, SinceStays, Touches}
use Rattle.floor_rooms.proofs.Holding.{StaysElse}
use Rattle.floor_rooms.proofs.Staying.{others_stay}
use Rattle.floor_rooms.proofs.Changing.{at_stall}
use Rattle.floor_rooms.proofs.Orders.{stall_as_before}
use Rattle.floor_rooms.proofs.Lifting.{holds_back_lifts}
use Rattle.floor_rooms.proofs.Sounding.{at_all}
use Rattle.floor_rooms.proofs.Turning.{stall_change}
use Rattle.floor_moves.specs.declared.due.Place.{Place}
use Rattle.floor_moves.specs.Due.{HasStallAt}
use Rattle.floor_moves.specs.Moves.{Keeps, Notes, NothingNoted, Sight, entry_at, sight}
use Rattle.floor_moves.specs.Holding.{DrawsHeld, IsDrawnFrom, SettlesHeld, UndoesHeld, IsHeldAt, IsActOf}
use Rattle.floor_moves.proofs.Keeping.{keeps_on, keeps_stall, rest_rooms}
use Rattle.floor_rooms.proofs.Dating.{since_same}
use Rattle.floor_rooms.proofs.Filing.{only_of_channel, only_then}
use Rattle.floor_moves.proofs.PuttingBack.{room_here, some_same, stands_now}
use Rattle.floor_moves.proofs.Joining.{Both, join, others_on, named_on}
use Rattle.floor_moves.proofs.Stepping.{Noted, noted_done, daemon, steps_to, rose_none}

-- the names of the channel that stands at a place
pub act_found : (place : Place) (id : List ℕ) (rooms : List Room) (act : Act) (P : Stall → Type 0) (room : Room) (stall : Stall) → HasStallAt place.room place.stall P rooms → room ≡ get_or rooms place.room room → stall ≡ get_or room.stalls.items place.stall stall
    → act ≡ HeldBack (topic_name room) (channel_name stall) id → IsActOf place id rooms act
act_found place id rooms act P room stall has r s is =
    let same_room : room ≡ has.room = r ∙ get_or_from_slice_get rooms place.room has.room room has.there in
    let at_room : slice_get rooms place.room ≡ Some room = has.there ∙ ap Some (sym same_room) in
    let in_room = room_here place.room place.stall P rooms room has at_room in
    let same_stall : stall ≡ in_room.stall = s ∙ get_or_from_slice_get room.stalls.items place.stall in_room.stall stall in_room.there in
    record { room = room; stall = stall; there = at_room; has = in_room.there ∙ ap Some (sym same_stall); is = is }

-- at one moment
one_moment : (d : Drawn) (m m' : Message) (n n' : ℕ) → d ≡ ToHold m n → d ≡ ToHold m' n' → n ≡ n'
one_moment d m m' n n' e f = cc

-- what `next` leaves is the same channel, with the copy that came up queued as it was
same_channel : (tells : Bool) (now : ℕ) (id : List ℕ) (old new : Files) (before after : ℕ) (a b : Stall) → DrawsHeld tells now id old new before after a b → (disk : List Message) (held : Message) → drawn_in held b.channel disk ≡ queued_in a.channel disk
    → channel_with b.channel (drawn_in held b.channel disk) ≡ seen_channel a.channel disk
same_channel tells now id old new before after a b d disk held same = ap (channel_with b.channel) same ∙ ap (λ (v : ChannelSeen). channel_with v (queued_in a.channel disk)) d.rest

module _ (tells : Bool) (told : IsTrue tells) (now : ℕ) (id : List ℕ) (f0 f1 f2 : Files) (n0 n1 n2 : ℕ) (a b c : Stall) (d : DrawsHeld tells now id f0 f1 n0 n1 a b) where
  held_lifts : SettlesHeld tells now f1 f2 n1 n2 b c → (until : ℕ) → now + a.channel.about.msg_timeout ≡ until → (k : Channel) → IsStallOf f0 a k → LiftsTo (HoldsBack Moves id until) f2 c k
  held_lifts e until is k i =
      let g = d.gives told i.disk i.on_disk in
      let moment : g.now ≡ now = one_moment b.channel.drawn g.held d.drawn.held g.now now g.is d.drawn.is in
      let leads = e.row told i.disk g.held (subst (λ n. b.channel.drawn ≡ ToHold g.held n) moment g.is) (d.list told i.disk i.on_disk) g.first in
      let same = same_channel tells now id f0 f1 n0 n1 a b d i.disk g.held g.same in
      let about : c.channel.about ≡ a.channel.about = ap (λ (v : ChannelSeen). v.about) e.rest ∙ ap (λ (v : ChannelSeen). v.about) d.rest in
      let timeout : now + b.channel.about.msg_timeout ≡ until = ap (λ (v : ChannelSeen). now + v.about.msg_timeout) d.rest ∙ is in
      subst (λ n. LiftsTo (HoldsBack Moves id n) f2 c k) timeout
      (subst (λ x. LiftsTo (HoldsBack Moves x (now + b.channel.about.msg_timeout)) f2 c k) g.of
      (holds_back_lifts g.held.id (now + b.channel.about.msg_timeout) f0 f2 a c k b.channel (drawn_in g.held b.channel i.disk) i same (ap (λ (x : About). x.name) about) (e.disk.stands told (d.disk.stands told i.stands)) leads))

  undone_is : UndoesHeld b c → (k : Channel) → IsStallOf f0 a k → IsStallOf f1 c k
  undone_is e k i =
      let g = d.gives told i.disk i.on_disk in
      let same = same_channel tells now id f0 f1 n0 n1 a b d i.disk g.held g.same in
      let list : queued_in c.channel i.disk ≡ drawn_in g.held b.channel i.disk = e.back i.disk g.held g.now g.is in
      let seen : seen_channel c.channel i.disk ≡ seen_channel a.channel i.disk =
      ap (channel_with c.channel) list ∙ ap (λ (v : ChannelSeen). channel_with v (drawn_in g.held b.channel i.disk)) e.rest ∙ same in
      record {
        disk = i.disk;
        on_disk = subst (λ q. OnDisk q f1 i.disk) (sym e.queue) (d.list told i.disk i.on_disk);
        is_kept = subst (λ x. IsKept x k) (sym seen) i.is_kept;
        stands = subst (λ q. Stands q f1) (sym e.queue) (d.disk.stands told i.stands);
      }

-- what settling, or putting back, leaves of a channel
pub settle_keeps : (tells : Bool) (now : ℕ) (old new : Files) (before after : ℕ) (a b : Stall) → SettlesHeld tells now old new before after a b → KeepsStall now a b
settle_keeps tells now old new before after a b e = record {
  about = ap (λ (v : ChannelSeen). v.about) e.rest;
  paused = ap (λ (v : ChannelSeen). v.paused) e.rest;
  members = ap (λ (s : Stall). s.members.items) e.same;
  since = subst (λ (s : Stall). SinceStays now a.since s.since) (sym e.same) (since_same now a.since);
}

pub undo_keeps : (now : ℕ) (a b : Stall) → UndoesHeld a b → KeepsStall now a b
undo_keeps now a b e = record {
  about = ap (λ (v : ChannelSeen). v.about) e.rest;
  paused = ap (λ (v : ChannelSeen). v.paused) e.rest;
  members = ap (λ (s : Stall). s.members.items) e.same;
  since = subst (λ (s : Stall). SinceStays now a.since s.since) (sym e.same) (since_same now a.since);
}

-- a channel of a sound hall, before `next`
module _ (tells : Bool) (place : Place) (id : List ℕ) (b : Sight) (h1 : Hall) (first : History) (f1 : Files) (n1 : ℕ) (d : IsDrawnFrom tells place id b (sight h1 first f1 n1)) where
  room_is : IsRoomSound b.hall d.at.room
  room_is = at_all (IsRoomSound b.hall) b.hall.rooms.items place.room d.at.room d.sound.rooms d.at.there

  stall_is : IsStallSound b.hall.options (topic_name d.at.room) b.hall.quiet_until b.hall.unsaved_from d.at.does.stall
  stall_is = at_all (IsStallSound b.hall.options (topic_name d.at.room) b.hall.quiet_until b.hall.unsaved_from) d.at.room.stalls.items place.stall d.at.does.stall room_is.stalls d.at.does.there

  -- the act is of that channel
  act_is : (act : Act) → IsActOf place id h1.rooms.items act → act ≡ HeldBack (topic_name d.at.room) (channel_name d.at.does.stall) id
  act_is act is =
      let room : is.room ≡ d.at.after = some_same is.room d.at.after (sym is.there ∙ ap (λ xs. slice_get xs place.room) d.at.is ∙ stands_now b.hall.rooms.items place.room d.at.room d.at.after d.at.there) in
      let stall : is.stall ≡ d.at.does.after =
      some_same is.stall d.at.does.after
      (sym is.has ∙ ap (λ (r : Room). slice_get r.stalls.items place.stall) room ∙ ap (λ xs. slice_get xs place.stall) d.at.does.stalls ∙ stands_now d.at.room.stalls.items place.stall d.at.does.stall d.at.does.after d.at.does.there) in
      is.is
      ∙ ap (λ t. HeldBack t (channel_name is.stall) id) (ap topic_name room ∙ ap (λ (r : Room). r.queue.name) d.at.does.is)
      ∙ ap (λ k. HeldBack (topic_name d.at.room) k id) (ap channel_name stall ∙ ap (λ (v : ChannelSeen). v.about.name) d.at.does.does.rest)

  -- nothing but that channel changed
  pub drawn_keeps : Keeps b.hall h1
  drawn_keeps = keeps_stall b.hall h1 place.room place.stall (DrawsHeld tells b.hall.moment id b.files f1 b.faults n1) d.rest d.at (record {
    about = ap (λ (v : ChannelSeen). v.about) d.at.does.does.rest;
    paused = ap (λ (v : ChannelSeen). v.paused) d.at.does.does.rest;
    members = ap (λ (s : Stall). s.members.items) d.at.does.does.same;
    since = subst (λ (s : Stall). SinceStays b.hall.moment d.at.does.stall.since s.since) (sym d.at.does.does.same) (since_same b.hall.moment d.at.does.stall.since);
  })

  -- and no file but its queue's
  pub drawn_files : IsTrue tells → OnlyQueueFiles b.files f1
  drawn_files told = only_of_channel (topic_name d.at.room) (channel_name d.at.does.stall) d.at.does.stall.channel.backlog.queue b.files f1 room_is.named stall_is.named stall_is.queue (d.at.does.does.disk.others told)

  module _ (h2 h3 : Hall) (rest : h2 ≡ record h1 { rooms = h2.rooms }) where
    rest_two : h2 ≡ record (b.hall) { rooms = h2.rooms }
    rest_two = rest ∙ ap (λ (h : Hall). record h { rooms = h2.rooms }) d.rest

    else_two : StaysElse b.hall h2
    else_two = rest_rooms b.hall h2 rest_two

    -- it was settled
    module _ (f2 : Files) (n2 : ℕ) (e : AtStall place.room place.stall (SettlesHeld tells h1.moment f1 f2 n1 n2) h1.rooms.items h2.rooms.items) where
      abbrev both : AtStall place.room place.stall (Both (DrawsHeld tells b.hall.moment id b.files f1 b.faults n1) (SettlesHeld tells h1.moment f1 f2 n1 n2)) b.hall.rooms.items h2.rooms.items
      both = join place.room place.stall (DrawsHeld tells b.hall.moment id b.files f1 b.faults n1) (SettlesHeld tells h1.moment f1 f2 n1 n2) b.hall.rooms.items h1.rooms.items h2.rooms.items d.at e

      settled_channel : both.does.after.channel ≡ record (d.at.does.stall.channel) { backlog = both.does.after.channel.backlog; deferred = both.does.after.channel.deferred; drawn = Nothing; spare = d.at.does.after.channel.spare; deferred_spare = both.does.after.channel.deferred_spare }
      settled_channel = both.does.does.second.rest ∙ ap (λ (v : ChannelSeen). record v { backlog = both.does.after.channel.backlog; deferred = both.does.after.channel.deferred; drawn = Nothing; deferred_spare = both.does.after.channel.deferred_spare }) d.at.does.does.rest

      pub settled_touches : Touches place.room place.stall b.hall h2
      settled_touches = record {
        sound = d.sound;
        rest = rest_two;
        stall = record {
          room = both.room;
          after = both.after;
          there = both.there;
          is = both.is;
          does = record {
            stall = both.does.stall;
            after = both.does.after;
            there = both.does.there;
            is = both.does.is;
            stalls = both.does.stalls;
            does = record {
              about = ap (λ (v : ChannelSeen). v.about) settled_channel;
              drawn = both.does.does.second.nothing;
              queue = same_joined d.at.does.stall.channel.backlog.queue d.at.does.after.channel.backlog.queue both.does.after.channel.backlog.queue d.at.does.does.disk.queue both.does.does.second.disk.queue;
              clients = λ n. ap (λ (v : ChannelSeen). client_of v.clients n) settled_channel;
              members = ap (λ (s : Stall). s.members.items) both.does.does.second.same ∙ ap (λ (s : Stall). s.members.items) d.at.does.does.same;
              since = ap (λ (s : Stall). s.since) both.does.does.second.same ∙ ap (λ (s : Stall). s.since) d.at.does.does.same;
              marked = inl d.at.does.does.marked;
            };
          };
        };
      }

      pub settled_files : IsTrue tells → OnlyQueueFiles b.files f2
      settled_files told =
          only_then b.files f1 f2 (drawn_files told)
          (only_of_channel (topic_name d.at.room) (channel_name d.at.does.stall) d.at.does.after.channel.backlog.queue f1 f2 room_is.named stall_is.named
          (named_on d.at.does.stall.channel.backlog.queue d.at.does.after.channel.backlog.queue (queue_name (topic_name d.at.room) (channel_name d.at.does.stall)) d.at.does.does.disk.queue stall_is.queue) (both.does.does.second.disk.others told))

      held_change : IsTrue tells → StallChange b.hall h2 b.files f2 (topic_name d.at.room) (channel_name d.at.does.stall) d.at.does.stall both.does.after
      held_change told =
          let name : List ℕ = queue_name (topic_name d.at.room) (channel_name d.at.does.stall) in
          stall_change b.hall h2 b.files f2 place.room place.stall (Both (DrawsHeld tells b.hall.moment id b.files f1 b.faults n1) (SettlesHeld tells h1.moment f1 f2 n1 n2)) d.sound both (ap (λ (v : ChannelSeen). v.about.name) settled_channel) else_two
          (others_on name b.files f1 f2 (others_stay d.at.does.stall.channel.backlog.queue name b.files f1 stall_is.queue (d.at.does.does.disk.others told))
          (others_stay d.at.does.after.channel.backlog.queue name f1 f2 (named_on d.at.does.stall.channel.backlog.queue d.at.does.after.channel.backlog.queue name d.at.does.does.disk.queue stall_is.queue) (both.does.does.second.disk.others told)))

      held_carries : IsTrue tells → ((s : State) → HoldsFor h2 f2 s → HoldsFor h3 f2 s) → (s : State) → HoldsFor b.hall b.files s → (t : State) × DoesMove s b.hall.moment (HeldBack (topic_name d.at.room) (channel_name d.at.does.stall) id) t × HoldsFor h3 f2 t
      held_carries told end s holds =
          let moment : h1.moment ≡ b.hall.moment = ap (λ (h : Hall). h.moment) d.rest in
          let timeout : b.hall.moment + d.at.does.stall.channel.about.msg_timeout ≡ b.hall.moment + s.options.msg_timeout = ap (λ (x : About). b.hall.moment + x.msg_timeout) stall_is.about ∙ ap (λ (o : Options). b.hall.moment + o.msg_timeout) (sym holds.stands.options) in
          let settles : SettlesHeld tells b.hall.moment f1 f2 n1 n2 d.at.does.after both.does.after = subst (λ n. SettlesHeld tells n f1 f2 n1 n2 d.at.does.after both.does.after) moment both.does.does.second in
          let r =
          at_stall b.hall h2 b.files f2 s (topic_name d.at.room) (channel_name d.at.does.stall) d.at.does.stall both.does.after (HoldsBack Moves id (b.hall.moment + s.options.msg_timeout)) d.sound holds (held_change told)
          (held_lifts tells told b.hall.moment id b.files f1 f2 b.faults n1 n2 d.at.does.stall d.at.does.after both.does.after d.at.does.does settles (b.hall.moment + s.options.msg_timeout) timeout) in
          (r.0, r.1, end r.0 r.2)

      -- so that is noted
      pub held_noted : (tells_notes : Bool) (mid last : History) (kept : Option Entry) (act : Act) → IsActOf place id h1.rooms.items act → b.hall.stopped ≡ false → Keeps h1 h3 → ((s : State) → HoldsFor h2 f2 s → HoldsFor h3 f2 s) → Noted tells_notes first mid last kept (entry_at h1.moment act) Done
          → Notes tells_notes tells (IsHeldAt place id b.hall) b (sight h3 last f2 n2)
      held_noted tells_notes mid last kept act is running keeps end noted =
          let moment : h1.moment ≡ b.hall.moment = ap (λ (h : Hall). h.moment) d.rest in
          let told_act = act_is act is in
          let keeps0 : Keeps b.hall h3 = keeps_on b.hall h1 h3 drawn_keeps keeps in
          let rises : b.faults ≤ n2 = let early = d.at.does.does.disk.faults in let late = both.does.does.second.disk.faults in omega (arith, early, late) in
          let entry : entry_at h1.moment act ≡ entry_at b.hall.moment (HeldBack (topic_name d.at.room) (channel_name d.at.does.stall) id) = ap (λ n. entry_at n act) moment ∙ ap (entry_at b.hall.moment) told_act in
          record {
            entry = (entry_at b.hall.moment (HeldBack (topic_name d.at.room) (channel_name d.at.does.stall) id), Done);
            is = record { of = record { room = d.at.room; stall = d.at.does.stall; there = d.at.there; has = d.at.does.there; is = refl }; held = refl; now = refl; done = refl };
            noted = λ it. noted_done tells_notes first mid last kept (entry_at b.hall.moment (HeldBack (topic_name d.at.room) (channel_name d.at.does.stall) id)) (subst (λ x. Noted tells_notes first mid last kept x Done) entry noted) it ∙ ap (λ xs. xs ++ (entry_at b.hall.moment (HeldBack (topic_name d.at.room) (channel_name d.at.does.stall) id), Done) ∷ []) d.noted;
            step = λ told s holds.
                let r = held_carries told end s holds in
                steps_to b.hall h3 b.files f2 s r.0 (HeldBack (topic_name d.at.room) (channel_name d.at.does.stall) id) Done d.sound keeps0 holds (daemon b.hall b.files s running holds) r.1 r.2;
            rose = λ told s holds. rose_none b.faults n2 rises;
            faults = rises;
          }

    -- it was put back
    module _ (e : AtStall place.room place.stall UndoesHeld h1.rooms.items h2.rooms.items) where
      abbrev back : AtStall place.room place.stall (Both (DrawsHeld tells b.hall.moment id b.files f1 b.faults n1) UndoesHeld) b.hall.rooms.items h2.rooms.items
      back = join place.room place.stall (DrawsHeld tells b.hall.moment id b.files f1 b.faults n1) UndoesHeld b.hall.rooms.items h1.rooms.items h2.rooms.items d.at e

      back_channel : back.does.after.channel ≡ record (d.at.does.stall.channel) { backlog = back.does.after.channel.backlog; drawn = Nothing; spare = d.at.does.after.channel.spare; deferred_spare = d.at.does.after.channel.deferred_spare }
      back_channel = back.does.does.second.rest ∙ ap (λ (v : ChannelSeen). record v { backlog = back.does.after.channel.backlog; drawn = Nothing }) d.at.does.does.rest

      pub back_touches : Touches place.room place.stall b.hall h2
      back_touches = record {
        sound = d.sound;
        rest = rest_two;
        stall = record {
          room = back.room;
          after = back.after;
          there = back.there;
          is = back.is;
          does = record {
            stall = back.does.stall;
            after = back.does.after;
            there = back.does.there;
            is = back.does.is;
            stalls = back.does.stalls;
            does = record {
              about = ap (λ (v : ChannelSeen). v.about) back_channel;
              drawn = back.does.does.second.nothing;
              queue = subst (SameQueue d.at.does.stall.channel.backlog.queue) (sym back.does.does.second.queue) d.at.does.does.disk.queue;
              clients = λ n. ap (λ (v : ChannelSeen). client_of v.clients n) back_channel;
              members = ap (λ (s : Stall). s.members.items) back.does.does.second.same ∙ ap (λ (s : Stall). s.members.items) d.at.does.does.same;
              since = ap (λ (s : Stall). s.since) back.does.does.second.same ∙ ap (λ (s : Stall). s.since) d.at.does.does.same;
              marked = inl d.at.does.does.marked;
            };
          };
        };
      }

      pub back_rests : (tells_notes : Bool) (last : History) → (IsTrue tells_notes → last ≡ first) → ((s : State) → HoldsFor h2 f1 s → HoldsFor h3 f1 s) → NothingNoted tells_notes tells b (sight h3 last f1 n1)
      back_rests tells_notes last noted end = record {
        noted = λ it. noted it ∙ d.noted;
        same = λ told s holds.
            let name : List ℕ = queue_name (topic_name d.at.room) (channel_name d.at.does.stall) in
            let change = stall_change b.hall h2 b.files f1 place.room place.stall (Both (DrawsHeld tells b.hall.moment id b.files f1 b.faults n1) UndoesHeld) d.sound back (ap (λ (v : ChannelSeen). v.about.name) back_channel) else_two
            (others_stay d.at.does.stall.channel.backlog.queue name b.files f1 stall_is.queue (d.at.does.does.disk.others told)) in
            end s
            (stall_as_before b.hall h2 b.files f1 s (topic_name d.at.room) (channel_name d.at.does.stall) d.at.does.stall back.does.after d.sound holds change
            (undone_is tells told b.hall.moment id b.files f1 f1 b.faults n1 n1 d.at.does.stall d.at.does.after back.does.after d.at.does.does back.does.does.second));
        faults = d.at.does.does.disk.faults;
      }
