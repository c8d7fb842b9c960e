-- Lemmas on arguments and names.
use Rattle.std.proofs.Common.{◌≡◌, ◌≢◌, ℕ, Bool, true, false, cond, nat_lt, nat_le, List, [], ◌∷◌, ◌++◌, length, Option, Some, None, Ok, Err, refl, sym, ap, ◌∙◌, option_map}
use Rattle.std.specs.Borrow.{Bor}
use Rattle.std.specs.Bool.{Decides}
use Rattle.std.specs.Option.{SomeIff, MatchOption}
use Rattle.std.specs.List.{AllByRecursion, list_all}
use Rattle.std.specs.Str.{bytes_eq}
use Rattle.std.proofs.lemmas.Bool.{cond-true, cond-false, false_from_ne_true, ltb-true, lt-ltb, leb-true, le-leb}
use Rattle.std.proofs.lemmas.Bool.Decides.{Decides-and, Decides-like}
use Rattle.std.proofs.lemmas.List.Elements.{recursion_from_All}
use Rattle.std.proofs.lemmas.List.Sums.{AllPass-from_list_all, list_all-from_AllPass}
use Rattle.std.proofs.lemmas.Slice.Eq.{bytes_eq-Decides}
use Rattle.nsq_base.specs.declared.pairs.Pair.{Pair}
use Rattle.nsq_base.specs.Name.{IsName, is_name_byte, stem}
use Rattle.http_wire.specs.Argument.{HasNoArgument, IsFirstArgument}
use Rattle.http_calls.specs.declared.refusal.Refusal.{Refusal}
use Rattle.http_calls.specs.Arguments.{argument, is_name, name_in}

pub bytes_differ : (a b : List ℕ) → a ≢ b → bytes_eq a b ≡ false
bytes_differ a b d = false_from_ne_true (bytes_eq a b) (λ e. d ((bytes_eq-Decides a b).0 e))

pub bytes_same : (a b : List ℕ) → a ≡ b → bytes_eq a b ≡ true
bytes_same a b e = (bytes_eq-Decides a b).1 e

-- pairs of other names before it don't matter
passed : (before rest : List Pair) (name : List ℕ) → AllByRecursion (λ (p : Pair). p.name ≢ name) before → argument (before ++ rest) name ≡ argument rest name
passed [] rest name h = refl
passed (p ∷ ps) rest name h = ap (λ (t : Bool). cond t (Some p.value) (argument (ps ++ rest) name)) (bytes_differ p.name name h.0) ∙ passed ps rest name h.1

none_there : (pairs : List Pair) (name : List ℕ) → AllByRecursion (λ (p : Pair). p.name ≢ name) pairs → argument pairs name ≡ None
none_there [] name h = refl
none_there (p ∷ ps) name h = ap (λ (t : Bool). cond t (Some p.value) (argument ps name)) (bytes_differ p.name name h.0) ∙ none_there ps name h.1

-- the argument that was found is the one that counts
pub argument_is : (pairs : List Pair) (name : List ℕ) (found : Option (Bor (List ℕ))) → MatchOption found (HasNoArgument pairs name) (λ value. IsFirstArgument pairs name value.now)
    → option_map (λ value. value.now) found ≡ argument pairs name
argument_is pairs name None none = sym (none_there pairs name (recursion_from_All (λ (p : Pair). p.name ≢ name) pairs none))
argument_is pairs name (Some value) first =
    let h = recursion_from_All (λ (p : Pair). p.name ≢ name) first.before first.none in
    let here : argument (first.pair ∷ first.behind) name ≡ Some first.pair.value = ap (λ (t : Bool). cond t (Some first.pair.value) (argument first.behind name)) (bytes_same first.pair.name name first.named) in
    sym (ap (λ (ps : List Pair). argument ps name) first.stands ∙ passed first.before (first.pair ∷ first.behind) name h ∙ here ∙ ap Some first.is)

-- the test for a name
pub name_tested : (bytes : List ℕ) → Decides (is_name bytes) (IsName bytes)
name_tested bytes =
    let some : Decides (nat_lt 0 (length (stem bytes))) _ = (ltb-true 0 (length (stem bytes)), lt-ltb 0 (length (stem bytes))) in
    let allowed : Decides (list_all is_name_byte (stem bytes)) _ = (AllPass-from_list_all is_name_byte (stem bytes), list_all-from_AllPass is_name_byte (stem bytes)) in
    let short : Decides (nat_le (length bytes) 64) _ = (leb-true (length bytes) 64, le-leb (length bytes) 64) in
    Decides-like (is_name bytes) (λ p. record { not_empty = p.0.0; allowed = p.0.1; short = p.1 }) (λ n. ((n.not_empty, n.allowed), n.short)) (Decides-and _ _ (Decides-and _ _ some allowed) short)

-- a name that was read
pub name_is : (bytes : List ℕ) (read : Option (List ℕ)) → SomeIff read (IsName bytes) bytes → read ≡ (cond (is_name bytes) (Some bytes) None)
name_is bytes None h = sym (cond-false _ _ _ (false_from_ne_true (is_name bytes) (λ e. h ((name_tested bytes).0 e))))
name_is bytes (Some name) h = ap Some h.1 ∙ sym (cond-true _ _ _ ((name_tested bytes).1 h.0))

-- what is given is no name
pub no_name : (missing invalid : Refusal) (bytes : List ℕ) → None ≡ (cond (is_name bytes) (Some bytes) None) → Err invalid ≡ name_in missing invalid (Some bytes)
no_name missing invalid bytes = go (is_name bytes)
  where
    go : (t : Bool) → None ≡ (cond t (Some bytes) None) → Err invalid ≡ (cond t (Ok bytes) (Err invalid))
    go true e = absurd (let different : Some bytes ≢ None = λ (x : Some bytes ≡ None). cc in different (sym e))
    go false e = refl
