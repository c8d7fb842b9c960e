-- The moment since which queues may be unsaved becomes the least mark that is left.
use Rattle.std.proofs.Common.{◌≡◌, ◌⊎◌, inl, inr, ◌≤◌, ◌<◌, ◌+◌, ◌-◌, ◌^◌, ℕ, min, Bool, true, false, nat_le, List, get_or, Option, Some, None, refl, sym, ap, subst, ◌∙◌, arith}
use Rattle.std.specs.Prelude.{IsTrue}
use Rattle.std.specs.List.{All}
use Rattle.std.proofs.lemmas.Bool.{leb-true, leb-false}
use Rattle.nsq_outside.specs.Causes.{Rose}
use Rattle.nsq_outside.specs.Files.{Files}
use Rattle.disk_queue.specs.Seen.{Seen as Queue}
use Rattle.floor_rooms.specs.declared.stall.Stall.{Stall}
use Rattle.floor_rooms.specs.declared.room.Room.{Room}
use Rattle.floor_rooms.specs.declared.hall.Hall.{Hall}
use Rattle.floor_rooms.specs.Kept.{NamesTold, hall_kept}
use Rattle.floor_rooms.specs.Rooms.{topic_name}
use Rattle.floor_rooms.specs.Sound.{IsMarked, IsRoomSound, IsSound, IsStallSound}
use Rattle.floor_rooms.specs.Standing.{Carries}
use Rattle.floor_rooms.proofs.Holding.{holds_same}
use Rattle.floor_files.specs.Timely.{HasFailed, IsEarly, IsQueueTimely, IsQueueTried, IsRoomTimely, IsRoomTried, IsTimely, IsTried}
use Rattle.floor_files.specs.Saving.{IsQueueDone, IsRoomDone, IsSoon, MarksGo, Synced}
use Rattle.floor_files.proofs.Clearing.{clears_same, kept_cleared, marks_go}
use Rattle.floor_files.proofs.Beginning.{moment_same, timeout_same}

-- a timeout is some time
pub some_timeout : (h : Hall) → IsSound h → 0 < h.options.sync_timeout
some_timeout h sound = let low : 1000000 ≤ h.options.sync_timeout = sound.options.times.sync_timeout.at_least in omega (arith, low)

-- a hall whose bound is no later than any mark
raised_mark : (at timeout u least before now : ℕ) (since : Option ℕ) (q : Option Queue) → IsMarked u since q → IsQueueDone at timeout least before now since q → IsMarked least since q
raised_mark at timeout u least before now since q m d = record { saved = m.saved; later = d.later }

module _ (at timeout before now : ℕ) (h : Hall) (least : ℕ) (sound : IsSound h) (done : All (IsRoomDone at timeout least before now) h.rooms.items) where
  abbrev raised : Hall
  raised = record h { unsaved_from = least }

  raised_stall : (topic : List ℕ) (s : Stall) → IsStallSound h.options topic h.quiet_until h.unsaved_from s → IsQueueDone at timeout least before now s.since s.channel.backlog.queue → IsStallSound h.options topic h.quiet_until least s
  raised_stall topic s x d = record {
    about = x.about;
    named = x.named;
    settled = x.settled;
    durable = x.durable;
    queue = x.queue;
    limits = x.limits;
    calm = x.calm;
    marked = raised_mark at timeout h.unsaved_from least before now s.since s.channel.backlog.queue x.marked d;
    members = x.members;
  }

  raised_room : (r : Room) → IsRoomSound h r → IsRoomDone at timeout least before now r → IsRoomSound raised r
  raised_room r x d = record {
    named = x.named;
    settled = x.settled;
    backlog = x.backlog;
    capacity = x.capacity;
    limits = x.limits;
    names = x.names;
    order = x.order;
    stalls = λ k y below. raised_stall (topic_name r) (get_or r.stalls.items k y) (x.stalls k y below) (d.stalls k y below);
    owed = x.owed;
    marked = raised_mark at timeout h.unsaved_from least before now r.since r.queue.backlog.queue x.marked d.queue;
    listed = x.listed;
    rests = x.rests;
  }

  pub raised_sound : IsSound raised
  raised_sound = record {
    options = sound.options;
    epoch = sound.epoch;
    ids_used = sound.ids_used;
    moment = sound.moment;
    client_order = sound.client_order;
    room_order = sound.room_order;
    rooms = λ k d below. raised_room (get_or h.rooms.items k d) (sound.rooms k d below) (done k d below);
    members = sound.members;
    channels = sound.channels;
    ready = sound.ready;
    past = sound.past;
  }

-- the count of faults rose, or it didn't
not_rose : (before now : ℕ) (A : Type 0) → (A ⊎ Rose before now) ⊎ ((Rose before now → ⊥) → A) → A ⊎ Rose before now
not_rose before now A (inl x) = x
not_rose before now A (inr f) =
    elim (nat_le (min (before + 1) (2 ^ 64 - 1)) now) as (λ b. nat_le (min (before + 1) (2 ^ 64 - 1)) now ≡ b → A ⊎ Rose before now) [
      | true ↦ λ e. inr (leb-true (min (before + 1) (2 ^ 64 - 1)) now e)
      | false ↦ λ e. let behind : now < min (before + 1) (2 ^ 64 - 1) = leb-false (min (before + 1) (2 ^ 64 - 1)) now e in inl (f (λ rose. let no : ⊥ = omega (arith, behind, rose) in no))
    ] refl

timely_one : (at timeout before now : ℕ) (since : Option ℕ) (q : Option Queue) → (Rose before now → ⊥) → IsQueueTimely at timeout since q ⊎ (HasFailed q × Rose before now) → IsQueueTimely at timeout since q
timely_one at timeout before now since q calm (inl t) = t
timely_one at timeout before now since q calm (inr f) = absurd (calm f.1)

tried_one : (at timeout before now : ℕ) (since : Option ℕ) (q : Option Queue) → IsQueueTimely at timeout since q ⊎ (HasFailed q × Rose before now) → IsQueueTried at timeout since q
tried_one at timeout before now since q (inl t) = inl t
tried_one at timeout before now since q (inr f) = inr f.0

timely_room : (at timeout least before now : ℕ) (r : Room) → (Rose before now → ⊥) → IsRoomDone at timeout least before now r → IsRoomTimely at timeout r
timely_room at timeout least before now r calm d = record {
  queue = timely_one at timeout before now r.since r.queue.backlog.queue calm d.queue.timely;
  stalls = λ k y below. let s : Stall = get_or r.stalls.items k y in timely_one at timeout before now s.since s.channel.backlog.queue calm (d.stalls k y below).timely;
}

tried_room : (at timeout least before now : ℕ) (r : Room) → IsRoomDone at timeout least before now r → IsRoomTried at timeout r
tried_room at timeout least before now r d = record {
  queue = tried_one at timeout before now r.since r.queue.backlog.queue d.queue.timely;
  stalls = λ k y below. let s : Stall = get_or r.stalls.items k y in tried_one at timeout before now s.since s.channel.backlog.queue (d.stalls k y below).timely;
}

-- all that a walk leaves
pub record Walks (tells : Bool) (h h1 : Hall) (old new : Files) (before now least : ℕ) : Type 0 where
  pub sound : IsSound h
  pub synced : Synced tells h h1 old new before now
  pub done : All (IsRoomDone h.moment h.options.sync_timeout least before now) h1.rooms.items
  pub soon : IsSoon h.moment h.options.sync_timeout least before now

module _ (tells : Bool) (h h1 : Hall) (old new : Files) (before now least : ℕ) (w : Walks tells h h1 old new before now least) where
  abbrev behind : Hall
  behind = record h1 { unsaved_from = least }

  done_now : All (IsRoomDone h1.moment h1.options.sync_timeout least before now) h1.rooms.items
  done_now =
      subst (λ t. All (IsRoomDone h1.moment t least before now) h1.rooms.items) (sym (timeout_same h h1 w.synced.rest))
      (subst (λ m. All (IsRoomDone m h.options.sync_timeout least before now) h1.rooms.items) (sym (moment_same h h1 w.synced.rest)) w.done)

  pub walk_timely : IsTimely behind ⊎ Rose before now
  walk_timely = not_rose before now (IsTimely behind) (inr (λ calm k d below. timely_room h1.moment h1.options.sync_timeout least before now (get_or h1.rooms.items k d) calm (done_now k d below)))

  pub walk_tried : IsTried behind
  walk_tried = λ k d below. tried_room h1.moment h1.options.sync_timeout least before now (get_or h1.rooms.items k d) (done_now k d below)

  pub walk_soon : IsEarly behind ⊎ Rose before now
  walk_soon =
      subst (λ t. IsSoon h1.moment t least before now) (sym (timeout_same h h1 w.synced.rest)) (subst (λ m. IsSoon m h.options.sync_timeout least before now) (sym (moment_same h h1 w.synced.rest)) w.soon)

  pub walk_told : IsTrue tells → Carries h old behind new (λ s t. t ≡ s)
  walk_told told = λ s holds.
      (s, refl, holds_same h1 behind new s (record { options = refl; epoch = refl; ids_used = refl; moment = omega arith; stopped = refl; clients = refl }) refl (w.synced.told told s holds))

  pub walk_rest : behind ≡ record h { rooms = h1.rooms; unsaved_from = least }
  walk_rest = ap (λ (x : Hall). record x { unsaved_from = least }) w.synced.rest

  pub walk_sound : IsSound behind
  walk_sound = raised_sound h.moment h.options.sync_timeout before now h1 least w.synced.sound w.done

  pub walk_marks : MarksGo h.rooms.items h1.rooms.items
  walk_marks = marks_go h.moment h.options.sync_timeout h.rooms.items h1.rooms.items w.synced.rooms

  pub walk_kept : hall_kept behind ≡ hall_kept h
  walk_kept = kept_cleared h.moment h.options.sync_timeout h.rooms.items h1.rooms.items w.synced.rooms

  pub walk_names : NamesTold h behind
  walk_names = record { before = λ e. sym (ap (λ (x : Hall). x.unsaved_names) w.synced.rest) ∙ e; same = λ e. walk_kept }

-- where nothing is due
early_one : (at timeout u : ℕ) (since : Option ℕ) (q : Option Queue) → at < u + timeout → IsMarked u since q → IsQueueTimely at timeout since q
early_one at timeout u None q early m = inl (m.saved refl)
early_one at timeout u (Some moment) q early m = let later = m.later in inr (omega (arith, early, later))

pub early_timely : (h : Hall) → IsSound h → IsEarly h → IsTimely h
early_timely h sound early = λ k d below.
    let r : Room = get_or h.rooms.items k d in
    let x : IsRoomSound h r = sound.rooms k d below in
    record {
      queue = early_one h.moment h.options.sync_timeout h.unsaved_from r.since r.queue.backlog.queue early x.marked;
      stalls = λ j y inside. let s : Stall = get_or r.stalls.items j y in early_one h.moment h.options.sync_timeout h.unsaved_from s.since s.channel.backlog.queue early (x.stalls j y inside).marked;
    }

pub timely_tried : (h : Hall) → IsTimely h → IsTried h
timely_tried h timely = λ k d below. record { queue = inl (timely k d below).queue; stalls = λ j y inside. inl ((timely k d below).stalls j y inside) }

pub same_marks : (h : Hall) → MarksGo h.rooms.items h.rooms.items
same_marks h = marks_go h.moment h.options.sync_timeout h.rooms.items h.rooms.items (clears_same h.moment h.options.sync_timeout h.rooms.items)

pub same_names : (h : Hall) → NamesTold h h
same_names h = record { before = λ e. e; same = λ e. refl }
