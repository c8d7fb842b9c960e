-- What is known of an outcome by whether it is bad.
use Rattle.std.proofs.Common.{◌≡◌, ◌∷◌, ◌++◌, [], List, ℕ, Bool, true, false, Result, Ok, Err, OnOk, OnErr, String, string_bytes, is_err, is_ok, cond, map, ap, sym, ◌∙◌}
use Rattle.std.specs.declared.alloc.Global.{Global}
use Rattle.std.proofs.lemmas.Bool.{false≢true}
use Rattle.std.proofs.lemmas.List.{map-append}

pub from_ok : {T E : Type 0} (outcome : Result T E) (P : Type 0) → false ≡ is_err outcome → OnOk outcome P → P
from_ok (Ok value) P good p = p
from_ok (Err error) P good p = absurd (false≢true good)

pub from_err : {T E : Type 0} (outcome : Result T E) (P : Type 0) → true ≡ is_err outcome → OnErr outcome P → P
from_err (Ok value) P bad p = absurd (false≢true (sym bad))
from_err (Err error) P bad p = p

pub from_good : {T E : Type 0} (outcome : Result T E) (P : Type 0) → is_ok outcome ≡ true → OnOk outcome P → P
from_good (Ok value) P good p = p
from_good (Err error) P good p = absurd (false≢true good)

pub from_bad : {T E : Type 0} (outcome : Result T E) (P : Type 0) → is_ok outcome ≡ false → OnErr outcome P → P
from_bad (Ok value) P bad p = absurd (false≢true (sym bad))
from_bad (Err error) P bad p = p

-- a copy of a text joined a list
pub text_joins : (old mid new : List (String Global)) (text : String Global) (bytes : List ℕ) → new ≡ mid ++ text ∷ [] → mid ≡ old → string_bytes text ≡ bytes → map string_bytes new ≡ map string_bytes old ++ bytes ∷ []
text_joins old mid new text bytes joins same is =
    ap (map string_bytes) joins ∙ map-append string_bytes mid (text ∷ []) ∙ ap (λ texts. map string_bytes texts ++ string_bytes text ∷ []) same ∙ ap (λ t. map string_bytes old ++ t ∷ []) is

-- a list that was to be extended, and was
pub extended : {T E X : Type 0} (outcome : Result T E) (old other new : List X) → false ≡ is_err outcome → new ≡ cond (is_ok outcome) (old ++ other) old → new ≡ old ++ other
extended (Ok value) old other new good is = is
extended (Err error) old other new good is = absurd (false≢true good)

-- or wasn't
pub not_extended : {T E X : Type 0} (outcome : Result T E) (old other new : List X) → true ≡ is_err outcome → new ≡ cond (is_ok outcome) (old ++ other) old → new ≡ old
not_extended (Ok value) old other new bad is = absurd (false≢true (sym bad))
not_extended (Err error) old other new bad is = is

-- what holds anyway holds of a bad outcome
pub on_err : {T E : Type 0} (outcome : Result T E) {P : Type 0} → P → OnErr outcome P
on_err (Ok value) p = tt
on_err (Err error) p = p
