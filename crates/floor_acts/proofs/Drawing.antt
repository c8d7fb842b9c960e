-- What is drawn for a client, and sent to it.
use Rattle.std.proofs.Common.{◌≡◌, inl, ◌≤◌, ℕ, set, Bool, List, get_or, HoldsAt, refl, sym, ap, subst, ◌∙◌, arith, set-set}
use Rattle.std.specs.Prelude.{IsSome, IsTrue, slice_get}
use Rattle.std.proofs.lemmas.Option.{get_or_from_slice_get}
use Rattle.nsq_outside.specs.Files.{Files}
use Rattle.v2_frame.specs.declared.message.Message.{Message}
use Rattle.broker_history.specs.State.{Channel}
use Rattle.broker_history.specs.Channels.{IsKept}
use Rattle.channel_copies.specs.Clients.{client_of}
use Rattle.channel_core.specs.declared.answers.Next.{Next}
use Rattle.channel_core.specs.declared.answers.Next.TheVariants as next
use Rattle.channel_core.specs.declared.drawn.Drawn.{Drawn}
use Rattle.channel_core.specs.declared.drawn.Drawn.TheVariants.{Nothing}
use Rattle.channel_core.specs.Drawing.{Draws, NextLeaves}
use Rattle.channel_core.specs.Seen.{Seen as ChannelSeen, channel_with, queued_in, queue_name, seen_channel}
use Rattle.floor_rooms.specs.declared.stall.Stall.{Stall}
use Rattle.floor_rooms.specs.declared.room.Room.{Room}
use Rattle.floor_rooms.specs.declared.hall.Hall.{Hall}
use Rattle.floor_rooms.specs.Rooms.{channel_name, topic_name}
use Rattle.floor_rooms.specs.Sound.{IsQuietUntil, IsRoomSound, IsSound, IsStallSound}
use Rattle.floor_rooms.specs.Standing.{Carries, IsStallOf}
use Rattle.floor_rooms.specs.Changes.{AtStall, KeepsRooms, OnlyQueueFiles, TouchesStall}
use Rattle.floor_rooms.proofs.Dating.{keeps_at_stall, keeps_then, since_equal}
use Rattle.floor_rooms.proofs.Filing.{only_of_channel}
use Rattle.floor_rooms.proofs.Marked.{MarksStall}
use Rattle.floor_rooms.proofs.Orders.{stall_as_before}
use Rattle.floor_rooms.proofs.Sounding.{at_all, sound_touched}
use Rattle.floor_rooms.proofs.Staying.{others_stay}
use Rattle.floor_rooms.proofs.Turning.{stall_change}
use Rattle.floor_acts.specs.Sending.{DrawsStall, HasDrawn, IsUndrawn}
use Rattle.floor_acts.proofs.Flying.{some_same, stands_now, stays_rooms}
use Rattle.floor_acts.proofs.Returning.{holds_behind, some_since}

-- behind an answer that leaves nothing drawn
undrawn_nothing : (client now : ℕ) (d : Drawn) (answer : Next) → IsUndrawn answer → NextLeaves client now d answer → d ≡ Nothing
undrawn_nothing client now d (next.Send message) never h = absurd never
undrawn_nothing client now d (next.Held id) never h = absurd never
undrawn_nothing client now d next.NoCredit it h = h
undrawn_nothing client now d next.Paused it h = h
undrawn_nothing client now d next.NoneQueued it h = h
undrawn_nothing client now d next.Fault it h = h
undrawn_nothing client now d next.Damaged it h = h
undrawn_nothing client now d next.Memory it h = h

undrawn_same : (old new : ChannelSeen) (disk : List Message) (answer : Next) → IsUndrawn answer → Draws old new disk answer → queued_in new disk ≡ queued_in old disk
undrawn_same old new disk (next.Send message) never h = absurd never
undrawn_same old new disk (next.Held id) never h = absurd never
undrawn_same old new disk next.NoCredit it h = h
undrawn_same old new disk next.Paused it h = h
undrawn_same old new disk next.NoneQueued it h = h.1
undrawn_same old new disk next.Fault it h = h.1
undrawn_same old new disk next.Damaged it h = absurd h
undrawn_same old new disk next.Memory it h = h.1

module _ (tells : Bool) (i j client : ℕ) (answer : Next) (old new : Files) (before after : ℕ) (h h' : Hall) (d : HasDrawn tells i j client answer old new before after h h') where
  draw_room : IsRoomSound d.marked d.at.room
  draw_room = at_all (IsRoomSound d.marked) d.marked.rooms.items i d.at.room d.sound.rooms d.at.there

  pub draw_stall : IsStallSound d.marked.options (topic_name d.at.room) d.marked.quiet_until d.marked.unsaved_from d.at.does.stall
  draw_stall = at_all (IsStallSound d.marked.options (topic_name d.at.room) d.marked.quiet_until d.marked.unsaved_from) d.at.room.stalls.items j d.at.does.stall draw_room.stalls d.at.does.there

  pub draw_name : channel_name d.at.does.after ≡ channel_name d.at.does.stall
  draw_name = ap (λ (c : ChannelSeen). c.about.name) d.at.does.does.rest

  pub draw_keeps : KeepsRooms h.moment h.rooms.items h'.rooms.items
  draw_keeps =
      keeps_then h.moment h.rooms.items d.marked.rooms.items h'.rooms.items d.keeps
      (keeps_at_stall h.moment i j (DrawsStall tells client d.marked.moment answer old new before after) d.marked.rooms.items h'.rooms.items d.at (record {
        about = ap (λ (c : ChannelSeen). c.about) d.at.does.does.rest;
        paused = ap (λ (c : ChannelSeen). c.paused) d.at.does.does.rest;
        members = ap (λ (s : Stall). s.members.items) d.at.does.does.same;
        since = since_equal h.moment d.at.does.stall.since d.at.does.after.since (ap (λ (s : Stall). s.since) d.at.does.does.same);
      }))

  pub draw_files : IsTrue tells → OnlyQueueFiles old new
  draw_files told = only_of_channel (topic_name d.at.room) (channel_name d.at.does.stall) d.at.does.stall.channel.backlog.queue old new draw_room.named draw_stall.named draw_stall.queue (d.at.does.does.disk.others told)

  pub draw_faults : before ≤ after
  draw_faults = d.at.does.does.disk.faults

  module _ (undrawn : IsUndrawn answer) where
    drew : TouchesStall d.at.does.stall d.at.does.after
    drew = record {
      about = ap (λ (c : ChannelSeen). c.about) d.at.does.does.rest;
      drawn = undrawn_nothing client d.marked.moment d.at.does.after.channel.drawn answer undrawn d.at.does.does.drawn;
      queue = d.at.does.does.disk.queue;
      clients = λ n. ap (λ (c : ChannelSeen). client_of c.clients n) d.at.does.does.rest;
      members = ap (λ (s : Stall). s.members.items) d.at.does.does.same;
      since = ap (λ (s : Stall). s.since) d.at.does.does.same;
      marked = inl d.is_marked;
    }

    -- it is as quiet as before
    calm : IsQuietUntil h'.quiet_until d.at.does.after.channel
    calm =
        subst (λ q. IsQuietUntil q d.at.does.after.channel) (sym (ap (λ (x : Hall). x.quiet_until) d.rest))
        (subst (λ (c : ChannelSeen). IsQuietUntil d.marked.quiet_until c) (sym d.at.does.does.rest) draw_stall.calm)

    pub undrawn_sound : IsSound h'
    undrawn_sound =
        sound_touched d.marked h' h' i j (record {
          sound = d.sound;
          rest = d.rest;
          stall = record {
            room = d.at.room;
            after = d.at.after;
            there = d.at.there;
            is = d.at.is;
            does = record { stall = d.at.does.stall; after = d.at.does.after; there = d.at.does.there; is = d.at.does.is; stalls = d.at.does.stalls; does = drew };
          };
        }) refl (omega arith)
        (λ r s.
        subst (λ (x : Room). IsQuietUntil h'.quiet_until (get_or x.stalls.items j s).channel) (sym (get_or_from_slice_get h'.rooms.items i d.at.after r (ap (λ xs. slice_get xs i) d.at.is ∙ stands_now d.marked.rooms.items i d.at.room d.at.after d.at.there)))
        (subst (λ (x : Stall). IsQuietUntil h'.quiet_until x.channel)
        (sym (get_or_from_slice_get d.at.after.stalls.items j d.at.does.after s (ap (λ xs. slice_get xs j) d.at.does.stalls ∙ stands_now d.at.room.stalls.items j d.at.does.stall d.at.does.after d.at.does.there))) calm))

    undrawn_is : IsTrue tells → (k : Channel) → IsStallOf old d.at.does.stall k → IsStallOf new d.at.does.after k
    undrawn_is told k is =
        let list = undrawn_same d.at.does.stall.channel d.at.does.after.channel is.disk answer undrawn (d.at.does.does.gives told is.disk is.on_disk) in
        let seen : seen_channel d.at.does.after.channel is.disk ≡ seen_channel d.at.does.stall.channel is.disk =
        ap (channel_with d.at.does.after.channel) list ∙ ap (λ (v : ChannelSeen). channel_with v (queued_in d.at.does.stall.channel is.disk)) d.at.does.does.rest in
        record {
          disk = is.disk;
          on_disk = d.at.does.does.list told is.disk is.on_disk;
          is_kept = subst (λ x. IsKept x k) (sym seen) is.is_kept;
          stands = d.at.does.does.disk.stands told is.stands;
        }

    pub undrawn_told : IsTrue tells → Carries h old h' new (λ s t. t ≡ s)
    undrawn_told told = λ s holds.
        let name : List ℕ = queue_name (topic_name d.at.room) (channel_name d.at.does.stall) in
        let change = stall_change d.marked h' old new i j (DrawsStall tells client d.marked.moment answer old new before after) d.sound d.at draw_name (stays_rooms d.marked h' d.rest)
        (others_stay d.at.does.stall.channel.backlog.queue name old new draw_stall.queue (d.at.does.does.disk.others told)) in
        (s, refl, stall_as_before d.marked h' old new s (topic_name d.at.room) (channel_name d.at.does.stall) d.at.does.stall d.at.does.after d.sound (d.stands old s holds) change (undrawn_is told))

-- two changes of one channel, one after the other
pub record Both (First Second : Stall → Stall → Type 0) (a c : Stall) : Type 0 where
  pub middle : Stall
  pub first : First a middle
  pub second : Second middle c

module _ (i j : ℕ) (First Second : Stall → Stall → Type 0) (r0 r1 r2 : List Room) (x : AtStall i j First r0 r1) (y : AtStall i j Second r1 r2) where
  pub behind_room : y.room ≡ x.after
  behind_room = some_same y.room x.after (sym y.there ∙ ap (λ xs. slice_get xs i) x.is ∙ stands_now r0 i x.room x.after x.there)

  pub behind_stall : y.does.stall ≡ x.does.after
  behind_stall =
      some_same y.does.stall x.does.after
      (sym y.does.there ∙ ap (λ (r : Room). slice_get r.stalls.items j) behind_room ∙ ap (λ xs. slice_get xs j) x.does.stalls ∙ stands_now x.room.stalls.items j x.does.stall x.does.after x.does.there)

  abbrev pub join : AtStall i j (Both First Second) r0 r2
  join = record {
    room = x.room;
    after = y.after;
    there = x.there;
    is = y.is ∙ ap (λ xs. set xs i y.after) x.is ∙ set-set r0 i x.after y.after;
    does = record {
      stall = x.does.stall;
      after = y.does.after;
      there = x.does.there;
      is = y.does.is ∙ ap (λ (r : Room). record r { stalls = y.after.stalls }) (behind_room ∙ x.does.is);
      stalls = y.does.stalls ∙ ap (λ xs. set xs j y.does.after) (ap (λ (r : Room). r.stalls.items) behind_room ∙ x.does.stalls) ∙ set-set x.room.stalls.items j x.does.after y.does.after;
      does = record { middle = x.does.after; first = x.does.does; second = subst (λ s. Second s y.does.after) behind_stall y.does.does };
    };
  }

-- a mark is there behind it
pub marked_behind : (at i j : ℕ) (Does : Stall → Stall → Type 0) (r0 r1 r2 : List Room) → AtStall i j (MarksStall at) r0 r1 → (x : AtStall i j Does r1 r2) → IsSome x.does.stall.since
marked_behind at i j Does r0 r1 r2 mark x =
    subst (λ (s : Stall). IsSome s.since) (sym (behind_stall i j (MarksStall at) Does r0 r1 r2 mark x ∙ mark.does.does)) (some_since mark.does.stall.since at)

-- what holds of the channel at a place
pub holds_there : (i j : ℕ) (Does : Stall → Stall → Type 0) (r0 r1 : List Room) (P : Stall → Type 0) → (x : AtStall i j Does r0 r1) → HoldsAt (λ (r : Room). HoldsAt P r.stalls.items j) r0 i → P x.does.stall
holds_there i j Does r0 r1 P x all =
    subst P (get_or_from_slice_get x.room.stalls.items j x.does.stall x.does.stall x.does.there)
    (subst (λ (r : Room). P (get_or r.stalls.items j x.does.stall)) (get_or_from_slice_get r0 i x.room x.room x.there) (all x.room x.does.stall))

pub marked_client : (at i j number : ℕ) (r0 r1 : List Room) → AtStall i j (MarksStall at) r0 r1 → HoldsAt (λ (r : Room). HoldsAt (λ s. IsSome (client_of s.channel.clients number)) r.stalls.items j) r0 i
    → HoldsAt (λ (r : Room). HoldsAt (λ s. IsSome (client_of s.channel.clients number)) r.stalls.items j) r1 i
marked_client at i j number r0 r1 mark all =
    holds_behind i j (MarksStall at) r0 r1 (λ s. IsSome (client_of s.channel.clients number)) mark
    (subst (λ (s : Stall). IsSome (client_of s.channel.clients number)) (sym mark.does.does) (holds_there i j (MarksStall at) r0 r1 (λ s. IsSome (client_of s.channel.clients number)) mark all))
