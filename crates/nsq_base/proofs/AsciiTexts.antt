-- Texts whose bytes are ASCII, and so UTF-8: names, and what is written out.
use Rattle.std.proofs.Common.{◌≡◌, ℕ, ◌-◌, ◌<◌, Bool, true, false, List, ◌++◌, length, take, refl, ap, sym, subst, arith, cond, Result, Ok, Err}
use Rattle.std.specs.Result.{is_ok, MatchResult}
use Rattle.std.specs.Char.{is_ascii}
use Rattle.std.specs.List.{AllPass, list_all}
use Rattle.std.specs.Str.{IsUtf8, IsAscii}
use Rattle.std.proofs.lemmas.Bool.Decides.{nat_tests, Decides-eqb}
use Rattle.std.proofs.lemmas.List.Elements.{All-weaker}
use Rattle.std.proofs.lemmas.List.Sums.{AllPass-from_list_all}
use Rattle.std.proofs.lemmas.Slice.Eq.{ends_is}
use Rattle.std.proofs.lemmas.Str.{IsAscii-append, IsUtf8-from_ascii}
use Rattle.std.proofs.lemmas.Str.Ascii.{IsAscii-from_all}
use Rattle.nsq_core.specs.Name.{is_name_byte, ephemeral_suffix, is_ephemeral, stem, IsName}

-- a byte that passes the test is below 128
below_128 : (b : ℕ) → is_ascii b ≡ true → b < 128
below_128 b h = grind (arith, nat_tests)

-- a name's byte is below 128
name_byte_below_128 : (b : ℕ) → is_name_byte b ≡ true → b < 128
name_byte_below_128 b h = grind (arith, nat_tests)

-- bytes that pass a computed test are ASCII
IsAscii-computed : (bs : List ℕ) → list_all is_ascii bs ≡ true → IsAscii bs
IsAscii-computed bs e =
    IsAscii-from_all bs (All-weaker (λ b. is_ascii b ≡ true) (λ b. b < 128) below_128 bs (AllPass-from_list_all is_ascii bs e))

-- bytes of names are ASCII
IsAscii-name_bytes : (bs : List ℕ) → AllPass is_name_byte bs → IsAscii bs
IsAscii-name_bytes bs h = IsAscii-from_all bs (All-weaker (λ b. is_name_byte b ≡ true) (λ b. b < 128) name_byte_below_128 bs h)

-- a name is ASCII, with the suffix and without
IsAscii-from_stem : (name : List ℕ) (b : Bool) → is_ephemeral name ≡ b → AllPass is_name_byte (stem name) → IsAscii name
IsAscii-from_stem name true e h =
    let front = take (length name - length ephemeral_suffix) name in
    let is : stem name ≡ front = ap (λ (t : Bool). cond t front name) e in
    let whole : name ≡ front ++ ephemeral_suffix = (ends_is Decides-eqb name ephemeral_suffix (is_ephemeral name) refl).0 e in
    subst (λ (n : List ℕ). IsAscii n) (sym whole) (IsAscii-append front ephemeral_suffix (IsAscii-name_bytes front (subst (λ (n : List ℕ). AllPass is_name_byte n) is h)) (IsAscii-computed ephemeral_suffix refl))
IsAscii-from_stem name false e h =
    let is : stem name ≡ name = ap (λ (t : Bool). cond t (take (length name - length ephemeral_suffix) name) name) e in
    IsAscii-name_bytes name (subst (λ (n : List ℕ). AllPass is_name_byte n) is h)

-- bytes that pass a computed test are UTF-8
pub IsUtf8-computed : (bs : List ℕ) → list_all is_ascii bs ≡ true → IsUtf8 bs
IsUtf8-computed bs e = IsUtf8-from_ascii bs (IsAscii-computed bs e)

-- a name is UTF-8
pub IsUtf8-name : (name : List ℕ) → IsName name → IsUtf8 name
IsUtf8-name name h = IsUtf8-from_ascii name (IsAscii-from_stem name (is_ephemeral name) refl h.allowed)

-- bytes that are UTF-8 are read as text
pub is_text : {T E : Type 0} (P : T → Type 0) (Q : E → Type 0) (U : Type 0) (r : Result T E) → MatchResult r P (λ e. (U → ⊥) × Q e) → U → is_ok r ≡ true
is_text P Q U (Ok x) h u = refl
is_text P Q U (Err e) h u = absurd (h.0 u)
