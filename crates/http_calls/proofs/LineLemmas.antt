-- Lemmas on the lines of a body.
use Rattle.std.proofs.Common.{◌≡◌, ℕ, zero, suc, ◌<◌, ◌==◌, nat_le, not, Bool, true, false, cond, List, [], ◌∷◌, ◌++◌, length, get_or, filter, Ok, Err, refl, sym, ap, ◌∙◌, arith}
use Rattle.std.specs.List.{list_all, slice_split}
use Rattle.std.proofs.lemmas.Bool.{and_left, and_right, and_from, and_parts, cond-true, cond-false, ne_eqb}
use Rattle.http_calls.specs.declared.refusal.Refusal.TheVariants.{MsgEmpty, MsgTooBig}
use Rattle.http_calls.specs.Messages.{lines_of, lines_in}

-- whether a line has a byte
abbrev pub is_some_line : List ℕ → Bool
is_some_line line = not (length line == 0)

-- the parts that have a byte
abbrev pub some_of : List (List ℕ) → List (List ℕ)
some_of parts = filter is_some_line parts

-- whether a line is short enough
abbrev pub is_short : ℕ → List ℕ → Bool
is_short most line = nat_le (length line) most

-- an empty part is passed over
pub some_push_none : (parts : List (List ℕ)) (line : List ℕ) → is_some_line line ≡ false → some_of (parts ++ line ∷ []) ≡ some_of parts
some_push_none [] line e = ap (λ (t : Bool). cond t (line ∷ []) []) e
some_push_none (x ∷ xs) line e = go (some_push_none xs line e) (is_some_line x)
  where
    go : some_of (xs ++ line ∷ []) ≡ some_of xs → (t : Bool) → cond t (x ∷ some_of (xs ++ line ∷ [])) (some_of (xs ++ line ∷ [])) ≡ cond t (x ∷ some_of xs) (some_of xs)
    go rest true = ap (λ (ys : List (List ℕ)). x ∷ ys) rest
    go rest false = rest

-- another one joins
pub some_push : (parts : List (List ℕ)) (line : List ℕ) → is_some_line line ≡ true → some_of (parts ++ line ∷ []) ≡ some_of parts ++ line ∷ []
some_push [] line e = ap (λ (t : Bool). cond t (line ∷ []) []) e
some_push (x ∷ xs) line e = go (some_push xs line e) (is_some_line x)
  where
    go : some_of (xs ++ line ∷ []) ≡ some_of xs ++ line ∷ [] → (t : Bool) → cond t (x ∷ some_of (xs ++ line ∷ [])) (some_of (xs ++ line ∷ [])) ≡ cond t (x ∷ some_of xs) (some_of xs) ++ line ∷ []
    go rest true = ap (λ (ys : List (List ℕ)). x ∷ ys) rest
    go rest false = rest

pub short_push : (most : ℕ) (lines : List (List ℕ)) (line : List ℕ) → list_all (is_short most) lines ≡ true → is_short most line ≡ true → list_all (is_short most) (lines ++ line ∷ []) ≡ true
short_push most [] line all e = and_from (is_short most line) true e refl
short_push most (x ∷ xs) line all e =
    let both = and_parts (is_short most x) (list_all (is_short most) xs) all in
    and_from (is_short most x) (list_all (is_short most) (xs ++ line ∷ [])) both.0 (short_push most xs line both.1 e)

-- a line that is too long is one of the lines
long_among : (most : ℕ) (parts : List (List ℕ)) (k : ℕ) (line : List ℕ) → k < length parts → line ≡ get_or parts k line → is_some_line line ≡ true → is_short most line ≡ false → list_all (is_short most) (some_of parts) ≡ false
long_among most [] k line l is some long = absurd (omega arith)
long_among most (x ∷ xs) zero line l is some long =
    let some' : is_some_line x ≡ true = ap is_some_line (sym is) ∙ some in
    ap (λ (t : Bool). list_all (is_short most) (cond t (x ∷ some_of xs) (some_of xs))) some' ∙ and_left (is_short most x) (list_all (is_short most) (some_of xs)) (ap (is_short most) (sym is) ∙ long)
long_among most (x ∷ xs) (suc k) line l is some long = go (long_among most xs k line (omega arith) is some long) (is_some_line x)
  where
    go : list_all (is_short most) (some_of xs) ≡ false → (t : Bool) → list_all (is_short most) (cond t (x ∷ some_of xs) (some_of xs)) ≡ false
    go rest true = and_right (is_short most x) (list_all (is_short most) (some_of xs)) rest
    go rest false = rest

suc_some : (n : ℕ) → (suc n == 0) ≡ false
suc_some n = ne_eqb (suc n) 0 (λ z. omega arith)

has_some : (parts : List (List ℕ)) (k : ℕ) (line : List ℕ) → k < length parts → line ≡ get_or parts k line → is_some_line line ≡ true → (length (some_of parts) == 0) ≡ false
has_some [] k line l is some = absurd (omega arith)
has_some (x ∷ xs) zero line l is some = ap (λ (t : Bool). length (cond t (x ∷ some_of xs) (some_of xs)) == 0) (ap is_some_line (sym is) ∙ some) ∙ suc_some (length (some_of xs))
has_some (x ∷ xs) (suc k) line l is some = go (has_some xs k line (omega arith) is some) (is_some_line x)
  where
    go : (length (some_of xs) == 0) ≡ false → (t : Bool) → (length (cond t (x ∷ some_of xs) (some_of xs)) == 0) ≡ false
    go rest true = suc_some (length (some_of xs))
    go rest false = rest

-- a line that is too long is refused
pub too_long : (most : ℕ) (body : List ℕ) (k : ℕ) (line : List ℕ) → k < length (slice_split (λ b. b == 10) body) → line ≡ get_or (slice_split (λ b. b == 10) body) k line → is_some_line line ≡ true → is_short most line ≡ false
    → Err MsgTooBig ≡ lines_in most body
too_long most body k line l is some long =
    sym (cond-false _ _ _ (has_some (slice_split (λ b. b == 10) body) k line l is some) ∙ cond-false _ _ _ (long_among most (slice_split (λ b. b == 10) body) k line l is some long))

-- no line is left
pub no_lines : (most : ℕ) (body : List ℕ) (lines : List (List ℕ)) → lines ≡ lines_of body → length lines ≡ 0 → Err MsgEmpty ≡ lines_in most body
no_lines most body lines is none = sym (cond-true _ _ _ (ap (λ (n : ℕ). n == 0) (sym (ap length is) ∙ none)))

-- all lines are good
pub good_lines : (most : ℕ) (body : List ℕ) (lines : List (List ℕ)) → lines ≡ lines_of body → list_all (is_short most) lines ≡ true → (length lines == 0) ≡ false → Ok lines ≡ lines_in most body
good_lines most body lines is short some =
    ap Ok is ∙ sym (cond-false _ _ _ (ap (λ (xs : List (List ℕ)). length xs == 0) (sym is) ∙ some) ∙ cond-true _ _ _ (ap (list_all (is_short most)) (sym is) ∙ short))
