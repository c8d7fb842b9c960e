-- What the outcome of a call leaves of the names that are known.
use Rattle.std.proofs.Common.{◌≡◌, ◌≢◌, ◌⊎◌, List, ℕ, Result, Ok, Err, OnOk, OnErr, IfErr, None, Some, IsSome, inl, inr, refl, sym, subst}
use Rattle.std.proofs.lemmas.Bool.{false≢true}
use Rattle.std.specs.IoError.{error_kind}
use Rattle.std.specs.declared.io.Error.{Error}
use Rattle.std.specs.declared.io.ErrorKind.TheVariants.{NotFound, InvalidInput, OutOfMemory}
use Rattle.nsq_system.specs.KnownNames.{Names, Knows, OnlyChanges, OnlyMoves, AreForgotten}

-- what holds anyway holds of a good outcome
pub on_good : {T E : Type 0} (outcome : Result T E) {P : Type 0} → P → OnOk outcome P
on_good (Ok value) p = p
on_good (Err error) p = tt

-- and of a bad one
pub on_bad : {T E : Type 0} (outcome : Result T E) {P : Type 0} → P → OnErr outcome P
on_bad (Ok value) p = tt
on_bad (Err error) p = p

-- no name came or went
pub changes_nothing : (names : Names) (name : List ℕ) → OnlyChanges names names name
changes_nothing names name = record { known = λ known. known; others = λ _ other _. (λ here. here, λ here. here) }

pub moves_nothing : (names : Names) (from to : List ℕ) → OnlyMoves names names from to
moves_nothing names from to = record { known = λ known. known; others = λ _ other _. (λ here. here, λ here. here) }

-- the names aren't known any more
pub changes_to_none : (old new : Names) (name : List ℕ) → new ≡ None → OnlyChanges old new name
changes_to_none old new name none = subst (λ (now : Names). OnlyChanges old now name) (sym none) (record { known = λ known. absurd (false≢true known); others = λ known. absurd (false≢true known) })

-- one call behind the other
pub changes_then : (old mid new : Names) (name : List ℕ) → OnlyChanges old mid name → OnlyChanges mid new name → OnlyChanges old new name
changes_then old mid new name first then = record {
  known = λ known. first.known (then.known known);
  others = λ known other apart.
      let before = first.others (then.known known) other apart in
      let behind = then.others known other apart in
      (λ here. before.0 (behind.0 here), λ here. behind.1 (before.1 here));
}

-- a name that is known shows that the names are
pub known_here : (names : Names) (name : List ℕ) → Knows names name → IsSome names
known_here None name here = absurd here
known_here (Some names) name here = refl

-- a name that went is gone although another came
pub still_gone : (mid new : Names) (from to : List ℕ) → (Knows mid from → ⊥) → OnlyChanges mid new to → from ≢ to → Knows new from → ⊥
still_gone mid new from to gone changes apart here = gone ((changes.others (known_here new from here) from apart).0 here)

-- one name went and another came
pub moves : (old mid new : Names) (from to : List ℕ) → OnlyChanges old mid from → OnlyChanges mid new to → OnlyMoves old new from to
moves old mid new from to first then = record {
  known = λ known. first.known (then.known known);
  others = λ known other apart.
      let before = first.others (then.known known) other apart.0 in
      let behind = then.others known other apart.1 in
      (λ here. before.0 (behind.0 here), λ here. behind.1 (before.1 here));
}

-- one name went
pub moves_one : (old new : Names) (from to : List ℕ) → OnlyChanges old new from → OnlyMoves old new from to
moves_one old new from to changes = record { known = changes.known; others = λ known other apart. changes.others known other apart.0 }

-- an error that comes before the system is asked
pub asked_nothing : (names : Names) (error : Error) → (error_kind error ≡ InvalidInput) ⊎ (error_kind error ≡ OutOfMemory) → AreForgotten names error
asked_nothing names error (inl refused) = λ _ other _. absurd (other refused)
asked_nothing names error (inr wanting) = λ _ _ other. absurd (other wanting)

-- behind any other the names are forgotten
pub forgotten : {T : Type 0} (names : Names) (outcome : Result T Error) → IfErr outcome (λ error. error_kind error ≢ NotFound → names ≡ None) → IfErr outcome (AreForgotten names)
forgotten names (Ok value) none = tt
forgotten names (Err error) none = λ other _ _. none other

-- nor is any one known then
pub none_known : (names : Names) (name : List ℕ) → names ≡ None → Knows names name → ⊥
none_known names name none here = subst (λ (now : Names). Knows now name) none here
