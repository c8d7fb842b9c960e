-- What a save makes of a queue and of its mark.
use Rattle.std.proofs.Common.{◌≡◌, inl, inr, ◌≤◌, ◌<◌, ◌+◌, ◌-◌, ◌^◌, ℕ, Bool, true, false, List, Option, Some, None, refl, sym, ap, subst, ◌∙◌, arith}
use Rattle.std.specs.Prelude.{IfSome, IsTrue}
use Rattle.std.proofs.lemmas.Bool.{false≢true}
use Rattle.nsq_outside.specs.Causes.{Rose}
use Rattle.nsq_outside.specs.Files.{Files}
use Rattle.disk_queue.specs.Seen.{Seen as Queue, IsUnchanged}
use Rattle.disk_queue.specs.Answers.{SyncFails}
use Rattle.disk_queue.specs.declared.answers.Sync.{Sync}
use Rattle.disk_queue.specs.declared.answers.Sync.TheVariants.{NotDue, Done, Failed}
use Rattle.backlog.specs.Seen.{QueueIsSaved, SameQueue, SyncSeen, disk_depth}
use Rattle.backlog.specs.Lists.{DiskChanges, Stands}
use Rattle.topic_core.specs.Rows.{Stays}
use Rattle.topic_core.specs.Seen.{Seen as TopicSeen}
use Rattle.channel_copies.specs.Putting.{KeepsDisk, around}
use Rattle.channel_core.specs.Seen.{Seen as ChannelSeen}
use Rattle.v2_frame.specs.declared.message.Message.{Message}
use Rattle.backlog.specs.Lists.{OnDisk}
use Rattle.floor_rooms.specs.declared.room.Room.{Room}
use Rattle.floor_rooms.specs.declared.stall.Stall.{Stall}
use Rattle.floor_rooms.specs.Sound.{IsMarked}
use Rattle.floor_files.specs.Timely.{HasFailed, IsQueueTimely, mark_or_last}
use Rattle.floor_files.specs.Saving.{IsNotDue, IsQueueDone, IsSoon, MarkGoes, SavesMark, SavesRoom, SavesStall, is_failed}
use Rattle.floor_files.specs.Saving.SavesMark.{stays, saved, failed}

-- after a save that didn't fail nothing is unsaved
pub saved_now : (q r : Option Queue) (answer : Sync) → SyncSeen q r answer → is_failed answer ≡ false → QueueIsSaved r
saved_now None None answer seen e = tt
saved_now None (Some r) answer seen e = absurd seen
saved_now (Some q) None answer seen e = absurd seen
saved_now (Some q) (Some r) NotDue seen e = subst IsUnchanged (sym seen.0) (record { none = seen.1.none; positions = seen.1.positions; sound = seen.1.sound })
saved_now (Some q) (Some r) Done seen e = subst IsUnchanged (sym seen.0) (record { none = refl; positions = refl; sound = λ f. false≢true f })
saved_now (Some q) (Some r) Failed seen e = absurd (false≢true (sym e))

-- one that failed says so
pub failed_now : (q r : Option Queue) (answer : Sync) → SyncSeen q r answer → is_failed answer ≡ true → HasFailed r
failed_now None None NotDue seen e = absurd (false≢true e)
failed_now None None Done seen e = absurd (false≢true e)
failed_now None None Failed seen e = absurd (let no : ⊥ = cc in no)
failed_now None (Some r) answer seen e = absurd seen
failed_now (Some q) None answer seen e = absurd seen
failed_now (Some q) (Some r) NotDue seen e = absurd (false≢true e)
failed_now (Some q) (Some r) Done seen e = absurd (false≢true e)
failed_now (Some q) (Some r) Failed seen e = ap (λ (s : Queue). s.saved.failed) seen.0

pub rose_now : (before now : ℕ) (answer : Sync) → SyncFails before now answer → is_failed answer ≡ true → Rose before now
rose_now before now NotDue cause e = absurd (false≢true e)
rose_now before now Done cause e = absurd (false≢true e)
rose_now before now Failed cause e = cause

-- a save changes nothing of how many records there are
pub depth_same : (q r : Option Queue) (answer : Sync) → SyncSeen q r answer → disk_depth r ≡ disk_depth q
depth_same None None answer seen = refl
depth_same None (Some r) answer seen = absurd seen
depth_same (Some q) None answer seen = absurd seen
depth_same (Some q) (Some r) answer seen = ap (λ (s : Queue). s.depth) seen.0

-- nothing happens to a queue
pub same_queue : (q : Option Queue) → SameQueue q q
same_queue None = tt
same_queue (Some q) = record { name = refl; options = refl }

pub same_disk : (q : Option Queue) (files : Files) → DiskChanges q files files
same_disk None files = λ file. refl
same_disk (Some q) files = λ file apart. refl

-- the mark after a save that was due
pub mark_saved : (at timeout before now moment : ℕ) (since : Option ℕ) (q r : Option Queue) (answer : Sync) → since ≡ Some moment → moment + timeout ≤ at → SyncSeen q r answer → is_failed answer ≡ false → SavesMark at timeout before now since None q r
mark_saved at timeout before now moment since q r answer is due seen e = saved moment is due refl (saved_now q r answer seen e)

pub mark_failed : (at timeout before now moment : ℕ) (since : Option ℕ) (q r : Option Queue) (answer : Sync) → since ≡ Some moment → moment + timeout ≤ at → SyncSeen q r answer → SyncFails before now answer → is_failed answer ≡ true → SavesMark at timeout before now since since q r
mark_failed at timeout before now moment since q r answer is due seen cause e = failed moment is due refl (failed_now q r answer seen e) (rose_now before now answer cause e)

-- a topic whose queue isn't due
pub room_left : (tells : Bool) (at timeout least : ℕ) (files : Files) (faults : ℕ) (r : Room) → IfSome r.since (λ moment. at < moment + timeout) → least ≡ mark_or_last r.since → SavesRoom tells at timeout least files files faults faults r r
room_left tells at timeout least files faults r lately is = record {
  same = refl;
  queue = same_queue r.queue.backlog.queue;
  depth = refl;
  mark = stays refl refl lately;
  left = is;
  row = λ told t of. of;
  stands = λ told stands. stands;
  others = λ told. same_disk r.queue.backlog.queue files;
  faults = omega arith;
}

-- and a channel
pub stall_left : (tells : Bool) (at timeout least : ℕ) (files : Files) (faults : ℕ) (s : Stall) → IfSome s.since (λ moment. at < moment + timeout) → least ≡ mark_or_last s.since → SavesStall tells at timeout least files files faults faults s s
stall_left tells at timeout least files faults s lately is = record {
  same = refl;
  mark = stays refl refl lately;
  left = is;
  list = λ told disk on. on;
  disk = record { queue = same_queue s.channel.backlog.queue; stands = λ told stands. stands; others = λ told. same_disk s.channel.backlog.queue files; faults = omega arith };
}

-- where there is no mark, or one of this moment
pub lately_none : (at timeout : ℕ) (since : Option ℕ) → since ≡ None → IfSome since (λ moment. at < moment + timeout)
lately_none at timeout since e = subst (λ o. IfSome o (λ moment. at < moment + timeout)) (sym e) tt

pub lately_some : (at timeout moment : ℕ) (since : Option ℕ) → since ≡ Some moment → at < moment + timeout → IfSome since (λ moment. at < moment + timeout)
lately_some at timeout moment since e h = subst (λ o. IfSome o (λ moment. at < moment + timeout)) (sym e) h

-- a topic's queue after a save
pub room_synced : (tells : Bool) (at timeout least : ℕ) (old new : Files) (before now : ℕ) (a : Room) (q : TopicSeen) (since : Option ℕ) (answer : Sync) → q ≡ record (a.queue) { backlog = record (a.queue.backlog) { queue = q.backlog.queue } }
    → SameQueue a.queue.backlog.queue q.backlog.queue → SyncSeen a.queue.backlog.queue q.backlog.queue answer → (IsTrue tells → Stays a.queue old q new) → (IsTrue tells → Stands a.queue.backlog.queue old → Stands q.backlog.queue new)
    → (IsTrue tells → DiskChanges a.queue.backlog.queue old new) → before ≤ now → SavesMark at timeout before now a.since since a.queue.backlog.queue q.backlog.queue → least ≡ mark_or_last since
    → SavesRoom tells at timeout least old new before now a (record a { queue = q; since = since })
room_synced tells at timeout least old new before now a q since answer seen queue save row stands others faults mark is = record {
  same = ap (λ (s : TopicSeen). record a { queue = s; since = since }) seen;
  queue = queue;
  depth = depth_same a.queue.backlog.queue q.backlog.queue answer save;
  mark = mark;
  left = is;
  row = row;
  stands = stands;
  others = others;
  faults = faults;
}

-- and a channel's
pub stall_synced : (tells : Bool) (at timeout least : ℕ) (old new : Files) (before now : ℕ) (a : Stall) (c : ChannelSeen) (since : Option ℕ) → c ≡ record (a.channel) { backlog = record (a.channel.backlog) { queue = c.backlog.queue } }
    → (IsTrue tells → (disk : List Message) → OnDisk a.channel.backlog.queue old disk → OnDisk c.backlog.queue new disk) → KeepsDisk tells (around a.channel.backlog old before) (around c.backlog new now)
    → SavesMark at timeout before now a.since since a.channel.backlog.queue c.backlog.queue → least ≡ mark_or_last since
    → SavesStall tells at timeout least old new before now a (record a { channel = c; since = since })
stall_synced tells at timeout least old new before now a c since seen list disk mark is = record {
  same = ap (λ (s : ChannelSeen). record a { channel = s; since = since }) seen;
  mark = mark;
  left = is;
  list = list;
  disk = disk;
}

-- a mark stays or goes
pub goes_same : (since : Option ℕ) → MarkGoes since since
goes_same None = tt
goes_same (Some moment) = refl

pub mark_goes : (at timeout before now : ℕ) (since since' : Option ℕ) (q r : Option Queue) → SavesMark at timeout before now since since' q r → MarkGoes since since'
mark_goes at timeout before now since since' q r (stays e f lately) = subst (MarkGoes since) (sym e) (goes_same since)
mark_goes at timeout before now since since' q r (saved was_at was due e is) = subst (MarkGoes since) (sym e) tt
mark_goes at timeout before now since since' q r (failed moment is due e f rose) = subst (MarkGoes since) (sym e) (goes_same since)

-- what is said of the mark is said of it still
pub goes_still : (P : ℕ → Type 0) (since since' : Option ℕ) → MarkGoes since since' → IfSome since P → IfSome since' P
goes_still P since None goes h = tt
goes_still P since (Some moment) goes h = subst (λ o. IfSome o P) goes h

none_some : (moment : ℕ) (since since' : Option ℕ) → since ≡ Some moment → since' ≡ since → since' ≡ None → ⊥
none_some moment since since' is e none = let no : Some moment ≡ None = sym is ∙ sym e ∙ none in cc

-- a queue whose mark is gone is saved
pub mark_kept : (u at timeout before now : ℕ) (since since' : Option ℕ) (q r : Option Queue) → SavesMark at timeout before now since since' q r → IsMarked u since q → IsMarked u since' r
mark_kept u at timeout before now since since' q r (stays e f lately) m = subst (λ o. IsMarked u o r) (sym e) (subst (IsMarked u since) (sym f) m)
mark_kept u at timeout before now since since' q r (saved was_at was due e is) m = record { saved = λ none. is; later = subst (λ o. IfSome o (λ moment. u ≤ moment)) (sym e) tt }
mark_kept u at timeout before now since since' q r (failed moment is due e f rose) m = record { saved = λ none. absurd (none_some moment since since' is e none); later = subst (λ o. IfSome o (λ moment. u ≤ moment)) (sym e) m.later }

-- a queue that isn't due is timely
pub timely_lately : (at timeout : ℕ) (since : Option ℕ) (q : Option Queue) → (since ≡ None → QueueIsSaved q) → IfSome since (λ moment. at < moment + timeout) → IsQueueTimely at timeout since q
timely_lately at timeout None q is lately = inl (is refl)
timely_lately at timeout (Some moment) q is lately = inr lately

-- a queue that was looked at
later_left : (least : ℕ) (since : Option ℕ) → least ≡ mark_or_last since → IfSome since (λ moment. least ≤ moment)
later_left least None is = tt
later_left least (Some moment) is = omega (arith, is)

pub queue_done : (u at timeout least before now : ℕ) (since since' : Option ℕ) (q r : Option Queue) → SavesMark at timeout before now since since' q r → IsMarked u since q → least ≡ mark_or_last since' → IsQueueDone at timeout least before now since' r
queue_done u at timeout least before now since since' q r (stays e f lately) m is = record {
  later = later_left least since' is;
  timely = inl (subst (λ o. IsQueueTimely at timeout o r) (sym e) (subst (IsQueueTimely at timeout since) (sym f) (timely_lately at timeout since q m.saved lately)));
}
queue_done u at timeout least before now since since' q r (saved was_at was due e now_saved) m is = record { later = later_left least since' is; timely = inl (inl now_saved) }
queue_done u at timeout least before now since since' q r (failed moment was due e f rose) m is = record { later = later_left least since' is; timely = inr (f, rose) }

-- the mark that is left comes to be due later than now, unless the save failed
soon_left : (at timeout least before now : ℕ) (since : Option ℕ) → at < 2 ^ 64 - 1 → IfSome since (λ moment. at < moment + timeout) → least ≡ mark_or_last since → IsSoon at timeout least before now
soon_left at timeout least before now None early lately is = inl (omega (arith, early, is))
soon_left at timeout least before now (Some moment) early lately is = inl (omega (arith, lately, is))

pub queue_soon : (at timeout least before now : ℕ) (since since' : Option ℕ) (q r : Option Queue) → at < 2 ^ 64 - 1 → SavesMark at timeout before now since since' q r → least ≡ mark_or_last since' → IsSoon at timeout least before now
queue_soon at timeout least before now since since' q r early (stays e f lately) is = soon_left at timeout least before now since early lately (is ∙ ap mark_or_last e)
queue_soon at timeout least before now since since' q r early (saved was_at was due e now_saved) is = soon_left at timeout least before now None early tt (is ∙ ap mark_or_last e)
queue_soon at timeout least before now since since' q r early (failed moment was due e f rose) is = inr rose

-- where it isn't due, all stays
due_not : (at timeout moment : ℕ) (since : Option ℕ) → since ≡ Some moment → moment + timeout ≤ at → IsNotDue at timeout since → ⊥
due_not at timeout moment since is due early = let before : at < moment + timeout = subst (λ o. IfSome o (λ m. at < m + timeout)) is early in omega (arith, due, before)

pub early_same : (at timeout before now : ℕ) (since since' : Option ℕ) (q r : Option Queue) → SavesMark at timeout before now since since' q r → IsNotDue at timeout since → (since' ≡ since) × (r ≡ q)
early_same at timeout before now since since' q r (stays e f lately) early = (e, f)
early_same at timeout before now since since' q r (saved moment is due e now_saved) early = absurd (due_not at timeout moment since is due early)
early_same at timeout before now since since' q r (failed moment is due e f rose) early = absurd (due_not at timeout moment since is due early)
