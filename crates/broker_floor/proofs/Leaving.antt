-- What shutting a floor leaves, by what its flush and the store of its names left.
use Rattle.std.proofs.Common.{◌≡◌, ◌⊎◌, inl, inr, ℕ, ◌≤◌, ◌+◌, ◌-◌, ◌^◌, Bool, true, List, length, Option, subst, ◌∙◌, arith}
use Rattle.std.specs.Prelude.{IsTrue, min}
use Rattle.nsq_outside.specs.Causes.{DidFails, Rose}
use Rattle.nsq_outside.specs.Files.{Files}
use Rattle.nsq_outside.specs.declared.did.Did.{Did}
use Rattle.nsq_outside.specs.declared.did.Did.TheVariants as did
use Rattle.queue_files.specs.Replaced.{OnlyTwoChange, Replaces}
use Rattle.path_image.specs.Data.{data_name, temp_name}
use Rattle.names_file.specs.Texts.{kept_of}
use Rattle.backlog.specs.declared.answers.Flushed.{Flushed}
use Rattle.backlog.specs.declared.answers.Flushed.TheVariants as flushed
use Rattle.broker_history.specs.State.{State}
use Rattle.floor_rooms.specs.declared.hall.Hall.{Hall}
use Rattle.floor_rooms.specs.Changes.{OnlyQueueFiles}
use Rattle.floor_rooms.specs.Kept.{hall_kept}
use Rattle.floor_rooms.specs.Standing.{HoldsFor}
use Rattle.floor_serving.specs.Flushing.{LeavesOthers, LeavesWhere}
use Rattle.broker_floor.specs.Ending.{FloorFlushFails}
use Rattle.broker_floor.specs.Closings.{HasNames, IsTextOf, KeepsNames, Leaves, NamesOrOneMore, NamesStay, OldOrNew, ShutFails, ShutsDown, WhereClean, WhereShutWants, WhereTried, shut_end}
use Rattle.daemon_endings.specs.declared.ends.ShutEnd.TheVariants as shut
use Rattle.broker_floor.proofs.Apart.{all_behind, but_behind, names_apart, temp_apart}
use Rattle.broker_floor.proofs.Named.{all_left}
use Rattle.broker_floor.proofs.PathStoring.{names_stored, old_or_new}

-- a flush leaves the file of names and its temporary
flush_leaves : (old mid : Files) → OnlyQueueFiles old mid → NamesStay old mid
flush_leaves old mid only = record { names = only data_name (λ name named its. names_apart name its); temp = only temp_name (λ name named its. temp_apart name its) }

-- the count rose in the second of two calls, or in the first
rose_late : (a b c : ℕ) → a ≤ b → Rose b c → Rose a c
rose_late a b c l r = omega (arith, l, r)

rose_early : (a b c : ℕ) → b ≤ c → Rose a b → Rose a c
rose_early a b c l r = omega (arith, l, r)

few_late : (a b c n : ℕ) → b ≤ c → min (a + n) (2 ^ 64 - 1) ≤ b → min (a + n) (2 ^ 64 - 1) ≤ c
few_late a b c n l few = omega (arith, l, few)

one_more : (a b c n : ℕ) → min (a + n) (2 ^ 64 - 1) ≤ b → Rose b c → min (a + (n + 1)) (2 ^ 64 - 1) ≤ c
one_more a b c n few rose = omega (arith, few, rose)

fault_caused : (stuck : Bool) (a b c : ℕ) → b ≤ c → Rose a b ⊎ (stuck ≡ true) → Rose a c ⊎ (stuck ≡ true)
fault_caused stuck a b c l (inl rose) = inl (rose_early a b c l rose)
fault_caused stuck a b c l (inr is) = inr is

-- the text of the names was wanting: the messages alone were written
pub shut_without : (tells : Bool) (answer : Flushed) (h : Hall) (old new : Files) (before now : ℕ)
    → (IsTrue tells → LeavesOthers answer before now h old new) → (IsTrue tells → OnlyQueueFiles old new) → before ≤ now → ShutsDown tells shut.Memory h old new before now
shut_without tells answer h old new before now others files faults = record {
  names = λ told. tt;
  left = λ told s holds. tt;
  queues = λ told. record { missed = (others told).missed; few = (others told).few.rose; left = (others told).left; tried = tt };
  text = λ told. inl (flush_leaves old new (files told)).names;
  memory = λ told. flush_leaves old new (files told);
  files = λ told file name temp apart. files told file apart;
  faults = faults;
  cause = tt;
}

-- the messages were written, and then the names were stored
module _ (h : Hall) (old mid new : Files) where
  left_behind : (answer : Flushed) (stored : Did) (text : List ℕ) → IsTextOf text (kept_of h.epoch (hall_kept h)) → ((s : State) → HoldsFor h old s → LeavesWhere answer s mid)
      → Replaces mid new data_name temp_name text stored → OnlyTwoChange mid new data_name temp_name → (s : State) → HoldsFor h old s → WhereClean (shut_end answer stored) (Leaves s new)
  left_behind flushed.Done did.Done text of left does two s holds = all_left h old new s holds (names_stored new text (kept_of h.epoch (hall_kept h)) of does) (all_behind mid new two s (left s holds))
  left_behind flushed.Done did.Failed text of left does two s holds = tt
  left_behind flushed.Fault stored text of left does two s holds = tt

  names_behind : (answer : Flushed) (stored : Did) (text : List ℕ) → IsTextOf text (kept_of h.epoch (hall_kept h)) → Replaces mid new data_name temp_name text stored
      → WhereClean (shut_end answer stored) (KeepsNames new (kept_of h.epoch (hall_kept h)))
  names_behind flushed.Done did.Done text of does = names_stored new text (kept_of h.epoch (hall_kept h)) of does
  names_behind flushed.Done did.Failed text of does = tt
  names_behind flushed.Fault stored text of does = tt

  text_behind : (stored : Did) (text : List ℕ) → IsTextOf text (kept_of h.epoch (hall_kept h)) → OnlyQueueFiles old mid → Replaces mid new data_name temp_name text stored → OldOrNew old new (kept_of h.epoch (hall_kept h))
  text_behind stored text of files does = subst (λ (o : Option (List ℕ)). (new data_name ≡ o) ⊎ HasNames new (kept_of h.epoch (hall_kept h))) (flush_leaves old mid files).names (old_or_new mid new text (kept_of h.epoch (hall_kept h)) stored of does)

  tried_behind : (answer : Flushed) (stored : Did) (text : List ℕ) → IsTextOf text (kept_of h.epoch (hall_kept h)) → (a b c n : ℕ) → min (a + n) (2 ^ 64 - 1) ≤ b → Replaces mid new data_name temp_name text stored → DidFails b c stored
      → WhereTried (shut_end answer stored) (NamesOrOneMore a c n new (kept_of h.epoch (hall_kept h)))
  tried_behind flushed.Done did.Done text of a b c n few does failed = inl (names_stored new text (kept_of h.epoch (hall_kept h)) of does)
  tried_behind flushed.Done did.Failed text of a b c n few does failed = inr (one_more a b c n few failed)
  tried_behind flushed.Fault did.Done text of a b c n few does failed = inl (names_stored new text (kept_of h.epoch (hall_kept h)) of does)
  tried_behind flushed.Fault did.Failed text of a b c n few does failed = inr (one_more a b c n few failed)

cause_behind : (stuck : Bool) (answer : Flushed) (stored : Did) (a b c : ℕ) → a ≤ b → b ≤ c → FloorFlushFails stuck a b answer → DidFails b c stored → ShutFails stuck a c (shut_end answer stored)
cause_behind stuck flushed.Done did.Done a b c l m first second = first
cause_behind stuck flushed.Done did.Failed a b c l m first second = inl (rose_late a b c l second)
cause_behind stuck flushed.Fault stored a b c l m first second = fault_caused stuck a b c m first

wants_not : (answer : Flushed) (stored : Did) (P : Type 0) → WhereShutWants (shut_end answer stored) P
wants_not flushed.Done did.Done P = tt
wants_not flushed.Done did.Failed P = tt
wants_not flushed.Fault stored P = tt

pub shut_with : (tells : Bool) (answer : Flushed) (stored : Did) (h : Hall) (old mid new : Files) (before middle now : ℕ) (text : List ℕ) → IsTextOf text (kept_of h.epoch (hall_kept h))
    → (IsTrue tells → (s : State) → HoldsFor h old s → LeavesWhere answer s mid) → (IsTrue tells → LeavesOthers answer before middle h old mid) → (IsTrue tells → OnlyQueueFiles old mid) → before ≤ middle
    → FloorFlushFails h.stuck before middle answer → (IsTrue tells → Replaces mid new data_name temp_name text stored) → (IsTrue tells → OnlyTwoChange mid new data_name temp_name) → middle ≤ now → DidFails middle now stored
    → ShutsDown tells (shut_end answer stored) h old new before now
shut_with tells answer stored h old mid new before middle now text of left others files rises cause does two rises_on failed = record {
  names = λ told. names_behind h old mid new answer stored text of (does told);
  left = λ told. left_behind h old mid new answer stored text of (left told) (does told) (two told);
  queues = λ told. record {
    missed = (others told).missed;
    few = few_late before middle now (length (others told).missed) rises_on (others told).few.rose;
    left = λ s holds. but_behind mid new (two told) (others told).missed s ((others told).left s holds);
    tried = tried_behind h old mid new answer stored text of before middle now (length (others told).missed) (others told).few.rose (does told) failed;
  };
  text = λ told. text_behind h old mid new stored text of (files told) (does told);
  memory = λ told. wants_not answer stored (NamesStay old new);
  files = λ told file name temp apart. two told file name temp ∙ files told file apart;
  faults = omega (arith, rises, rises_on);
  cause = cause_behind h.stuck answer stored before middle now rises rises_on cause failed;
}
