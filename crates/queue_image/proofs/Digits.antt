-- Digits in front of a separator.
use Rattle.std.proofs.Common.{◌≡◌, ℕ, ◌+◌, ◌-◌, ◌*◌, ◌<◌, ◌≤◌, ◌==◌, true, not, cond, List, [], ◌∷◌, ◌++◌, length, take, drop, get_or, Some, None, refl, sym, ◌∙◌, ap, inl, inr, arith, length-append, take-append-drop}
use Rattle.std.proofs.lemmas.Bool.{eq-eqb, eqb-true, lt-ltb}
use Rattle.std.proofs.lemmas.Bool.Decides.{eqb_tells, nat_tests}
use Rattle.std.proofs.lemmas.List.{take_at, drop_more}
use Rattle.std.proofs.lemmas.List.Elements.{recursion_from_All, All-from_recursion}
use Rattle.std.proofs.lemmas.List.Quantifiers.{position-Some}
use Rattle.std.proofs.lemmas.Str.Parse.{digit_from_value, digit_at}
use Rattle.std.specs.Char.{is_ascii_digit, digit_value}
use Rattle.std.specs.Int.{IsInRange}
use Rattle.std.specs.List.{position, position_or_len, AllPass, AllByRecursion}
use Rattle.std.specs.Str.Parse.{AllDigits, digits_value_after}
use Rattle.queue_image.specs.Answered.{DigitsLead}
use Rattle.queue_image.proofs.Naming.{Lacks, Lacks-digits}

-- a decimal digit's value
pub digit_value-digit : (c : ℕ) → IsInRange 48 57 c → digit_value c ≡ c - 48
digit_value-digit c h = grind (arith, nat_tests)

pub AllDigits-from_tests : (ds : List ℕ) → AllPass is_ascii_digit ds → AllDigits 10 ds
AllDigits-from_tests ds p = go ds (recursion_from_All (λ c. is_ascii_digit c ≡ true) ds p)
  where
    go : (ds : List ℕ) → AllByRecursion (λ c. is_ascii_digit c ≡ true) ds → AllDigits 10 ds
    go [] p = tt
    go (c ∷ cs) p =
        let in_range : IsInRange 48 57 c = grind (arith, nat_tests, p.0) in
        (omega (arith, digit_value-digit c in_range, in_range), go cs p.1)

pub tests_from_AllDigits : (ds : List ℕ) → AllDigits 10 ds → AllPass is_ascii_digit ds
tests_from_AllDigits ds p = All-from_recursion (λ c. is_ascii_digit c ≡ true) ds (go ds p)
  where
    go : (ds : List ℕ) → AllDigits 10 ds → AllByRecursion (λ c. is_ascii_digit c ≡ true) ds
    go [] p = tt
    go (c ∷ cs) p =
        let in_range : IsInRange 48 57 c = digit_from_value c p.0 in
        (grind (arith, nat_tests, in_range), go cs p.1)

-- the first place of a byte that nothing before it is
position_or_len-at : (c : ℕ) (xs ys : List ℕ) → Lacks c xs → position_or_len (λ b. b == c) (xs ++ c ∷ ys) ≡ length xs
position_or_len-at c [] ys p = ap (λ b. cond (not b) (1 + position_or_len (λ x. x == c) ys) 0) (eq-eqb c c refl)
position_or_len-at c (x ∷ xs) ys p =
    elim (eqb_tells x c) [
      | inl h ↦ absurd (p.0 h.1)
      | inr h ↦ ap (λ b. cond (not b) (1 + position_or_len (λ y. y == c) (xs ++ c ∷ ys)) 0) h.0 ∙ (let rest = position_or_len-at c xs ys p.1 in omega arith)
    ]

pub position-at : (c : ℕ) (xs ys text : List ℕ) → Lacks c xs → text ≡ xs ++ c ∷ ys → position (λ b. b == c) text ≡ Some (length xs)
position-at c xs ys text p e =
    let at : position_or_len (λ b. b == c) text ≡ length xs = ap (position_or_len (λ b. b == c)) e ∙ position_or_len-at c xs ys p in
    let inside : position_or_len (λ b. b == c) text < length text = omega (arith, at, ap length e, length-append xs (c ∷ ys)) in
    ap (λ b. cond b (Some (position_or_len (λ b. b == c) text)) None) (lt-ltb _ _ inside) ∙ ap (λ (n : ℕ). Some n) at

-- the digits of a text are those before the first separator
pub lead_place : (text : List ℕ) (separator : ℕ) (digits rest : List ℕ) → separator < 48 → DigitsLead text separator digits rest → position (λ b. b == separator) text ≡ Some (length digits)
lead_place text separator digits rest low d = position-at separator digits rest text (Lacks-digits separator digits (inl low) d.numeral.1) d.whole

pub lead_digits : (text : List ℕ) (separator n : ℕ) (digits rest : List ℕ) → separator < 48 → DigitsLead text separator digits rest → position (λ b. b == separator) text ≡ Some n
    → take n text ≡ digits
lead_digits text separator n digits rest low d at =
    let same : n ≡ length digits = cc (sym at ∙ lead_place text separator digits rest low d) in
    ap (take n) d.whole ∙ take_at digits (separator ∷ rest) n (sym same)

-- a text around the first separator
pub around : (text : List ℕ) (separator n : ℕ) → position (λ b. b == separator) text ≡ Some n → text ≡ take n text ++ separator ∷ drop (n + 1) text
around text separator n at =
    let h = position-Some (λ b. b == separator) text n 0 at in
    sym (take-append-drop n text) ∙ ap (λ (x : List ℕ). take n text ++ x) (drop_more text n 0 h.0 ∙ ap (λ (x : ℕ). x ∷ drop (n + 1) text) (eqb-true (get_or text n 0) separator h.1))

-- more digits make no less
pub digits_value_after-ge : (n : ℕ) (ds : List ℕ) → n ≤ digits_value_after 10 n ds
digits_value_after-ge n [] = omega arith
digits_value_after-ge n (d ∷ ds) = let more = digits_value_after-ge (n * 10 + digit_value d) ds in omega arith

-- one more digit is read
pub one_digit : (v i r : ℕ) (ds : List ℕ) → AllDigits 10 ds → i < length ds → digits_value_after 10 v (drop i ds) ≡ r
    → digits_value_after 10 (v * 10 + (get_or ds i 0 - 48)) (drop (i + 1) ds) ≡ r
one_digit v i r ds all inside e =
    ap (λ (d : ℕ). digits_value_after 10 (v * 10 + d) (drop (i + 1) ds)) (sym (digit_value-digit (get_or ds i 0) (digit_at ds i all inside)))
    ∙ ap (digits_value_after 10 v) (sym (drop_more ds i 0 inside)) ∙ e
