use Rattle.std.proofs.Common.{◌≡◌, ℕ, ◌^◌, ◌≤◌, List, [], length, sym, subst, inl, inr, arith, Option, Some, IsSome, unwrap_or, OnOk, OnErr, Result, Ok, Err}
use Rattle.std.proofs.lemmas.Grind.{common_steps}
use Rattle.nsq_outside.specs.Files.{Files, SameFiles, OnlyChanges, IsTorn, IsWithin, WritesAt, Cuts, IsRenamed, Renames, written_at, cut_to}
use Rattle.nsq_fakes.specs.MemFiles.{Sets}
use Rattle.nsq_fakes.specs.declared.files.NoRoom.{NoRoom}
use Rattle.nsq_fakes.specs.declared.files.NoRoom.TheVariants.{TooLong, Memory}
use Rattle.nsq_outside.specs.declared.did.Did.{Did}
use Rattle.nsq_outside.specs.declared.did.Did.TheVariants.{Done, Failed}

-- a file that stayed is torn nowhere
torn_nowhere : (bytes : List ℕ) (at n : ℕ) → IsTorn bytes bytes at n
torn_nowhere bytes at n = record { before = grind (arith, common_steps); behind = grind (arith, common_steps); no_shorter = omega arith; within = omega arith }

-- a write that was refused
pub write_refused : (old new : Files) (name from : List ℕ) (at : ℕ) → SameFiles old new → WritesAt (old name) (new name) at from Failed
write_refused old new name from at same =
    subst (λ o. (IsSome (old name) → IsSome o) × IsTorn (unwrap_or (old name) []) (unwrap_or o []) at (length from)) (sym (same name)) (λ h. h, torn_nowhere (unwrap_or (old name) []) at (length from))

-- a write by its outcome: done, or the file stays
pub write_outcome : {E : Type 0} (old new : Files) (name from : List ℕ) (at : ℕ) (outcome : Result (Unit {0}) E) (did : Did) →
    OnOk outcome (did ≡ Done) → OnErr outcome (did ≡ Failed) → OnOk outcome (Sets old new name (Some (written_at (unwrap_or (old name) []) at from))) → OnErr outcome (SameFiles old new) →
    WritesAt (old name) (new name) at from did
write_outcome old new name from at (Ok u) did done failed ok err = subst (λ d. WritesAt (old name) (new name) at from d) (sym done) ok.here
write_outcome old new name from at (Err e) did done failed ok err =
    subst (λ d. WritesAt (old name) (new name) at from d) (sym failed) (write_refused old new name from at err)

-- a cut by its outcome: done, or the file stays
pub cut_outcome : {E : Type 0} (old new : Files) (name : List ℕ) (to : ℕ) (outcome : Result (Unit {0}) E) (did : Did) →
    OnOk outcome (did ≡ Done) → OnErr outcome (did ≡ Failed) → OnOk outcome (Sets old new name (Some (cut_to (unwrap_or (old name) []) to))) → OnErr outcome (SameFiles old new) →
    Cuts (old name) (new name) to did
cut_outcome old new name to (Ok u) did done failed ok err = subst (λ d. Cuts (old name) (new name) to d) (sym done) ok.here
cut_outcome old new name to (Err e) did done failed ok err = subst (λ d. Cuts (old name) (new name) to d) (sym failed) (inl (err name))

-- a rename by its outcome: done, or each file stays
pub rename_outcome : {E : Type 0} (old new : Files) (from to : List ℕ) (outcome : Result (Unit {0}) E) (did : Did) →
    OnOk outcome (did ≡ Done) → OnErr outcome (did ≡ Failed) → OnOk outcome (IsRenamed old new from to) → OnErr outcome (SameFiles old new) → Renames old new from to did
rename_outcome old new from to (Ok u) did done failed ok err = subst (λ d. Renames old new from to d) (sym done) ok
rename_outcome old new from to (Err e) did done failed ok err = subst (λ d. Renames old new from to d) (sym failed) (inl err)

-- no other file changes, whatever the outcome
pub others_stay : {E : Type 0} (old new : Files) (name : List ℕ) (file : Option (List ℕ)) (outcome : Result (Unit {0}) E) → OnOk outcome (Sets old new name file) → OnErr outcome (SameFiles old new) → OnlyChanges old new name
others_stay old new name file (Ok u) ok err = ok.others
others_stay old new name file (Err e) ok err = λ other _. err other

-- what was carried out ends where a file may
pub ends_within : {E : Type 0} (end : ℕ) (outcome : Result (Unit {0}) E) (did : Did) → OnOk outcome (did ≡ Done) → OnErr outcome (did ≡ Failed) → OnOk outcome (end ≤ 2 ^ 62) → IsWithin end did
ends_within end (Ok u) did done failed fits = subst (λ d. IsWithin end d) (sym done) fits
ends_within end (Err e) did done failed fits = subst (λ d. IsWithin end d) (sym failed) tt

-- a call isn't both
pub done_failed : (did : Did) → did ≡ Done → did ≡ Failed → ⊥
done_failed did done failed = cc

-- what holds where a call failed
pub behind_failed : {E : Type 0} (outcome : Result (Unit {0}) E) (did : Did) (P : Type 0) → OnOk outcome (did ≡ Done) → OnErr outcome P → did ≡ Failed → P
behind_failed (Ok u) did P done p failed = absurd (done_failed did done failed)
behind_failed (Err e) did P done p failed = p

-- a change that wants memory, or was made, isn't too long
pub memory_not_long : (outcome : Result (Unit {0}) NoRoom) → outcome ≡ Err Memory → outcome ≡ Err TooLong → ⊥
memory_not_long outcome memory long = cc

pub made_not_long : (outcome : Result (Unit {0}) NoRoom) → outcome ≡ Ok tt → outcome ≡ Err TooLong → ⊥
made_not_long outcome made long = cc

-- what holds anyway holds of each outcome
pub of_good : {T E : Type 0} (outcome : Result T E) {P : Type 0} → P → OnOk outcome P
of_good (Ok value) p = p
of_good (Err error) p = tt

pub of_bad : {T E : Type 0} (outcome : Result T E) {P : Type 0} → P → OnErr outcome P
of_bad (Ok value) p = tt
of_bad (Err error) p = p
