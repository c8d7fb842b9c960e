-- Lemmas on the fields of a head.
use Rattle.std.proofs.Common.{◌≡◌, ◌≢◌, ℕ, ◌+◌, ◌-◌, ◌<◌, ◌≤◌, true, false, List, [], ◌∷◌, map, length, take, drop, get_or, refl, sym, ap, ◌∙◌, subst, arith, length-take}
use Rattle.std.specs.Prelude.{Bool, if◌then◌else◌, IsTrue, ◌↔◌, Option, Some, None, MatchOption, is_some, slice_range}
use Rattle.std.specs.Char.{to_ascii_lowercase}
use Rattle.std.proofs.lemmas.List.{drop_more, drop_all, drop-map, get_or-map, take_rest, length-map}
use Rattle.std.proofs.lemmas.Slice.Eq.{bytes_eq-Decides}
use Rattle.httparse.specs.declared.spans.HeaderSpan.{HeaderSpan}
use Rattle.httparse.specs.Grammar.{Field}
use Rattle.httparse.specs.Spans.{header_bytes, name_and_value, AreFieldsAt}
use Rattle.nsq_base.specs.Decimal.{IsDecimal}
use Rattle.http_wire.specs.Fields.{is_named, values_of, IsLength}

values_named : (name : List ℕ) (field : List ℕ × List ℕ) (fields : List (List ℕ × List ℕ)) → is_named name field.0 ≡ true → values_of name (field ∷ fields) ≡ field.1 ∷ values_of name fields
unfolding values_of
values_named name field fields e = ap (λ (b : Bool). if b then field.1 ∷ values_of name fields else values_of name fields) e

values_other : (name : List ℕ) (field : List ℕ × List ℕ) (fields : List (List ℕ × List ℕ)) → is_named name field.0 ≡ false → values_of name (field ∷ fields) ≡ values_of name fields
unfolding values_of
values_other name field fields e = ap (λ (b : Bool). if b then field.1 ∷ values_of name fields else values_of name fields) e

values_none : (name : List ℕ) → values_of name [] ≡ []
unfolding values_of
values_none name = refl

false_of : (b : Bool) → ¬ (b ≡ true) → b ≡ false
false_of true other = absurd (other refl)
false_of false other = refl

-- the fields behind a place begin with the one at it
fields_at : (head : List ℕ) (fields : List HeaderSpan) (i : ℕ) (d : HeaderSpan) → i < length fields
    → drop i (map (header_bytes head) fields) ≡ header_bytes head (get_or fields i d) ∷ drop (i + 1) (map (header_bytes head) fields)
fields_at head fields i d l =
    drop_more (map (header_bytes head) fields) i (header_bytes head d) (omega (arith, length-map fields (header_bytes head)))
    ∙ ap (λ (f : List ℕ × List ℕ). f ∷ drop (i + 1) (map (header_bytes head) fields)) (get_or-map (header_bytes head) fields i d (header_bytes head d) l)

-- the field at a place has the name
pub named_here : (name head : List ℕ) (fields : List HeaderSpan) (i : ℕ) (d : HeaderSpan) (text value : List ℕ) → i < length fields
    → text ≡ slice_range head (get_or fields i d).name.start (get_or fields i d).name.end → value ≡ slice_range head (get_or fields i d).value.start (get_or fields i d).value.end
    → map to_ascii_lowercase text ≡ map to_ascii_lowercase name
    → values_of name (drop i (map (header_bytes head) fields)) ≡ value ∷ values_of name (map (header_bytes head) (take (length fields - (i + 1)) (drop (i + 1) fields)))
named_here name head fields i d text value l t v same =
    let field = header_bytes head (get_or fields i d) in
    let named : is_named name field.0 ≡ true = (bytes_eq-Decides (map to_ascii_lowercase field.0) (map to_ascii_lowercase name)).1 (ap (map to_ascii_lowercase) (sym t) ∙ same) in
    let rest : drop (i + 1) (map (header_bytes head) fields) ≡ map (header_bytes head) (take (length fields - (i + 1)) (drop (i + 1) fields)) = drop-map (header_bytes head) (i + 1) fields ∙ ap (map (header_bytes head)) (sym (take_rest fields (i + 1))) in
    ap (values_of name) (fields_at head fields i d l) ∙ values_named name field (drop (i + 1) (map (header_bytes head) fields)) named ∙ ap (λ (x : List ℕ). x ∷ values_of name (drop (i + 1) (map (header_bytes head) fields))) (sym v)
    ∙ ap (λ (x : List (List ℕ × List ℕ)). value ∷ values_of name x) rest

-- the field at a place has another name
pub named_other : (name head : List ℕ) (fields : List HeaderSpan) (i : ℕ) (d : HeaderSpan) (text : List ℕ) → i < length fields
    → text ≡ slice_range head (get_or fields i d).name.start (get_or fields i d).name.end → ¬ (map to_ascii_lowercase text ≡ map to_ascii_lowercase name)
    → values_of name (drop i (map (header_bytes head) fields)) ≡ values_of name (drop (i + 1) (map (header_bytes head) fields))
named_other name head fields i d text l t other =
    let field = header_bytes head (get_or fields i d) in
    let named : is_named name field.0 ≡ false = false_of (is_named name field.0) (λ e. other (ap (map to_ascii_lowercase) t ∙ (bytes_eq-Decides (map to_ascii_lowercase field.0) (map to_ascii_lowercase name)).0 e)) in
    ap (values_of name) (fields_at head fields i d l) ∙ values_other name field (drop (i + 1) (map (header_bytes head) fields)) named

-- no field is left
pub named_never : (name : List ℕ) (fields : List (List ℕ × List ℕ)) (i : ℕ) → length fields ≤ i → values_of name (drop i fields) ≡ []
named_never name fields i l = ap (values_of name) (drop_all i fields l) ∙ values_none name

-- ---- the length of a body

pub length_none : (values : List (List ℕ)) → values ≡ [] → IsLength values 0
length_none values e = subst (λ (v : List (List ℕ)). IsLength v 0) (sym e) refl

pub length_one : (values : List (List ℕ)) (value : List ℕ) (n : ℕ) → values ≡ value ∷ [] → IsDecimal 18 value n → IsLength values n
length_one values value n e d = subst (λ (v : List (List ℕ)). IsLength v n) (sym e) d

pub length_bad : (values : List (List ℕ)) (value : List ℕ) (n : ℕ) → values ≡ value ∷ [] → ¬ (IsDecimal 18 value n) → ¬ (IsLength values n)
length_bad values value n e bad is = bad (subst (λ (v : List (List ℕ)). IsLength v n) e is)

pub length_two : (values : List (List ℕ)) (value other : List ℕ) (rest : List (List ℕ)) (n : ℕ) → values ≡ value ∷ other ∷ rest → ¬ (IsLength values n)
length_two values value other rest n e is = subst (λ (v : List (List ℕ)). IsLength v n) e is

pub length_unique : (values : List (List ℕ)) (m n : ℕ) → IsLength values m → IsLength values n → m ≡ n
length_unique [] m n a b = a ∙ sym b
length_unique (value ∷ []) m n a b = a.value ∙ sym b.value
length_unique (value ∷ other ∷ values) m n a b = absurd a

-- ---- what a search for a name tells

pub is_there : {A : Type 0} (r : Option A) (values : List (List ℕ)) (first : A → List ℕ) (rest : A → List (List ℕ)) (b : Bool) → MatchOption r (values ≡ []) (λ f. values ≡ first f ∷ rest f) → b ≡ is_some r
    → IsTrue b ↔ (values ≢ [])
is_there None values first rest b none e = (λ yes. absurd (cc), λ some. absurd (some none))
is_there (Some f) values first rest b there e = (λ yes empty. cc, λ some. e)

pub none_there : (b : Bool) (values : List (List ℕ)) → (IsTrue b ↔ (values ≢ [])) → b ≡ false → values ≡ []
none_there b [] told unset = refl
none_there b (v ∷ values) told unset = let yes : b ≡ true = told.1 (λ e. cc) in absurd (cc)

-- there are as many fields as spans
pub fields_few : (text : List ℕ) (spans : List HeaderSpan) (count most : ℕ) (fields : List Field) → count ≤ length spans → length spans ≡ most → AreFieldsAt text spans count fields → length fields ≤ most
fields_few text spans count most fields within size are =
    omega (arith, ap length are, length-map (take count spans) (header_bytes text), length-map fields name_and_value, length-take count spans)
