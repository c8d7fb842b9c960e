-- What a call on a folder leaves, and how it is kept.
use Rattle.std.proofs.Common.{◌≡◌, ◌≢◌, ◌⊎◌, ◌↔◌, ◌++◌, ◌∷◌, [], ℕ, List, Result, Ok, Err, OnOk, OnErr, Bool, ap, subst, inl, inr, true, false, IsTrue}
use Rattle.std.proofs.lemmas.Bool.{false≢true}
use Rattle.nsq_outside.specs.Files.{SameFiles}
use Rattle.nsq_outside.specs.declared.folder.Listing.TheVariants.{Done, Memory, Failed}
use Rattle.nsq_outside.specs.declared.folder.Length.TheVariants.{Is, Absent, Failed as NotMeasured}
use Rattle.nsq_outside.specs.declared.folder.ReadAt.TheVariants.{Got, Failed as NotRead}
use Rattle.std.specs.List.{Any}
use Rattle.nsq_fakes.specs.Failings.{Hits}
use Rattle.nsq_fakes.specs.Made.{Made, Joins}
use Rattle.nsq_fakes.specs.MemFolders.{files_in, fails_of}
use Rattle.nsq_fakes.specs.declared.folder_calls.Counts.{Counts}
use Rattle.nsq_fakes.specs.declared.folder_calls.Failing.{Failing}
use Rattle.nsq_fakes.specs.declared.folder_calls.FolderCall.{FolderCall}
use Rattle.nsq_fakes.specs.declared.folder.MemFolder.{MemFolder}

-- a call that is counted and kept leaves the files
pub files_stay : (old new : MemFolder) → new ≡ record old { called = new.called; counts = new.counts; faults = new.faults } → SameFiles (files_in old) (files_in new)
files_stay old new rest = λ name. ap (λ (folder : MemFolder). files_in folder name) rest

-- and those that fail
pub fails_stay : (old new : MemFolder) → new ≡ record old { called = new.called; counts = new.counts; faults = new.faults } → fails_of new ≡ fails_of old
fails_stay old new rest = ap fails_of rest

-- a call that failed may be missing
pub joins_failed : (old new : List Made) (call : FolderCall) (name to : List ℕ) (P : Type 0) → P → Joins old new call name to (IsTrue true) → Joins old new call name to P
joins_failed old new call name to P p (inl kept) = inl kept
joins_failed old new call name to P p (inr (same, failed)) = inr (same, p)

-- any other is kept
pub joins_done : (old new : List Made) (call : FolderCall) (name to : List ℕ) (P : Type 0) → Joins old new call name to (IsTrue false) → Joins old new call name to P
joins_done old new call name to P (inl kept) = inl kept
joins_done old new call name to P (inr (same, failed)) = absurd (false≢true failed)

-- it is kept or not, as memory was there or wanting
pub joins_outcome : {E : Type 0} (old new : List Made) (call : FolderCall) (name to : List ℕ) (outcome : Result (Unit {0}) E) (P : Type 0) → P
    → OnOk outcome (new ≡ old ++ record { call = call; name = name; to = to } ∷ []) → OnErr outcome (new ≡ old) → Joins old new call name to P
joins_outcome old new call name to (Ok u) P p ok err = inl ok
joins_outcome old new call name to (Err e) P p ok err = inr (err, p)

-- a listing that failed, or found no memory, isn't done
pub failed_not_done : Failed ≢ Done
failed_not_done same = cc

pub memory_not_done : Memory ≢ Done
memory_not_done same = cc

-- and one that is done, or found no memory, didn't fail
pub done_not_failed : Done ≢ Failed
done_not_failed same = cc

pub memory_not_failed : Memory ≢ Failed
memory_not_failed same = cc

-- a length that was found isn't a failure, and neither is that of no file
pub is_not_failed : {n : ℕ} → Is n ≢ NotMeasured
is_not_failed same = cc

pub absent_not_failed : Absent ≢ NotMeasured
absent_not_failed same = cc

-- nor are bytes that were read
pub got_not_failed : {n : ℕ} → Got n ≢ NotRead
got_not_failed same = cc

-- an answer that isn't a failure, of a call that isn't among those that fail
pub not_refused : {A P : Type 0} → (A → ⊥) → IsTrue false ↔ P → A ↔ P
not_refused never refused = (λ a. absurd (never a), λ p. absurd (false≢true (refused.1 p)))

-- a call that is told from the list that it was lent
pub refused_by : (counts : Counts) (call : FolderCall) (lent fails : List Failing) (refused : Bool) → lent ≡ fails → IsTrue refused ↔ Any (Hits counts call) lent → IsTrue refused ↔ Any (Hits counts call) fails
refused_by counts call lent fails refused same told = subst (λ (listed : List Failing). IsTrue refused ↔ Any (Hits counts call) listed) same told

-- two reasons, and one that isn't needed
pub or_more : {P Q R : Type 0} → P ⊎ Q → P ⊎ Q ⊎ R
or_more (inl p) = inl p
or_more (inr q) = inr (inl q)
