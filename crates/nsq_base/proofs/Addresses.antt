-- Where the colon of an address stands.
use Rattle.std.proofs.Common.{nat_le, nat_eq, ◌≡◌, ℕ, suc, ◌+◌, ◌-◌, ◌*◌, ◌<◌, ◌≤◌, inl, inr, Bool, true, not, Option, None, Some, List, [], ◌∷◌, ◌++◌, length, take, drop, get_or, refl, ap, sym, subst, ◌∙◌, arith}
use Rattle.std.specs.List.{AllPass, suffix_len}
use Rattle.std.specs.Char.{is_ascii_digit}
use Rattle.std.specs.Str.Parse.{digits_value}
use Rattle.std.specs.Option.{is_some, SomeIff}
use Rattle.std.proofs.lemmas.Bool.Decides.{nat_tests}
use Rattle.std.proofs.lemmas.List.Sums.{suffix_len_is}
use Rattle.std.proofs.lemmas.Bool.{cases_lt, false≢true, and_parts, leb-true}
use Rattle.std.proofs.lemmas.List.{get_or_at, get_or-drop, get_or-append_right, length-append, length-drop, drop_at, take-append-drop, drop_more, append_assoc}
use Rattle.std.proofs.lemmas.Int.Digits.{digits_value_more}
use Rattle.std.proofs.lemmas.Str.{digit_value_digit}
use Rattle.nsq_base.specs.Address.{IsPort, IsAddress, BeginDigits, port_digits}

-- the digits of an address begin right behind its colon
pub begin_behind_colon : (text : List ℕ) (start : ℕ) (a : IsAddress text) → BeginDigits text start → start ≡ length a.host + 1
begin_behind_colon text start a b =
    let n = length a.host in
    let long : length text ≡ n + suc (length a.digits) = ap length a.whole ∙ length-append a.host (58 ∷ a.digits) in
    let colon : get_or text n 0 ≡ 58 = ap (λ (t : List ℕ). get_or t n 0) a.whole ∙ get_or_at a.host 58 a.digits 0 n refl in
    let not_within : start ≤ n → ⊥ =
    λ l. let digit : is_ascii_digit (get_or (drop start text) (n - start) 0) ≡ true = b.all_digits (n - start) 0 (omega (arith, length-drop start text)) in
    let same : start + (n - start) ≡ n = omega arith in
    false≢true (sym (ap is_ascii_digit (get_or-drop start text (n - start) 0 ∙ ap (λ (k : ℕ). get_or text k 0) same ∙ colon)) ∙ digit) in
    let not_behind : n + 1 < start → ⊥ =
    λ l. let m = start - 2 - n in
    let same : start - 1 - n ≡ suc m = omega arith in
    let here : get_or text (start - 1) 0 ≡ get_or a.digits m 0 =
    ap (λ (t : List ℕ). get_or t (start - 1) 0) a.whole ∙ get_or-append_right a.host (58 ∷ a.digits) n (start - 1) 0 refl (omega arith) ∙ ap (λ (k : ℕ). get_or (58 ∷ a.digits) k 0) same in
    false≢true (sym (b.before (omega arith)) ∙ ap is_ascii_digit here ∙ a.port.all_digits m 0 (omega (arith, b.in_range))) in
    elim (cases_lt n start) [ inl l ↦ elim (cases_lt (n + 1) start) [ inl m ↦ absurd (not_behind m) | inr m ↦ omega arith ] | inr l ↦ absurd (not_within l) ]

-- at the place before the digits an address has its colon
pub colon_before : (text : List ℕ) (start : ℕ) (a : IsAddress text) → BeginDigits text start → get_or text (start - 1) 0 ≡ 58
colon_before text start a b =
    let same : start - 1 ≡ length a.host = omega (arith, begin_behind_colon text start a b) in
    ap (λ (k : ℕ). get_or text k 0) same ∙ ap (λ (t : List ℕ). get_or t (length a.host) 0) a.whole ∙ get_or_at a.host 58 a.digits 0 (length a.host) refl

-- the digits with which an address ends are its port's
pub digits_are : (text : List ℕ) (start : ℕ) (a : IsAddress text) → BeginDigits text start → drop start text ≡ a.digits
digits_are text start a b =
    ap (λ (k : ℕ). drop k text) (begin_behind_colon text start a b) ∙ ap (λ (t : List ℕ). drop (length a.host + 1) t) (a.whole ∙ sym (append_assoc a.host (58 ∷ []) a.digits)) ∙ drop_at (a.host ++ 58 ∷ []) a.digits (length a.host + 1) (length-append a.host (58 ∷ []))

-- a digit is no colon
digit_no_colon : (byte : ℕ) → is_ascii_digit byte ≡ true → not (nat_eq 58 byte) ≡ true
digit_no_colon byte h = grind (arith, nat_tests)

-- what stands behind the last colon of an address are the digits with which it ends
pub port_digits_are : (text : List ℕ) (start : ℕ) → IsAddress text → BeginDigits text start → port_digits text ≡ drop start text
port_digits_are text start a b =
    let no_colon : ℕ → Bool = λ byte. not (nat_eq 58 byte) in
    let behind : (k : ℕ) → start ≤ k → k < length text → no_colon (get_or text k 0) ≡ true =
    λ k l m. let same : start + (k - start) ≡ k = omega arith in
    digit_no_colon (get_or text k 0) (sym (ap is_ascii_digit (get_or-drop start text (k - start) 0 ∙ ap (λ (n : ℕ). get_or text n 0) same)) ∙ b.all_digits (k - start) 0 (omega (arith, length-drop start text))) in
    let count : suffix_len no_colon text ≡ length text - start =
    suffix_len_is no_colon text start 0 b.in_range behind (λ l. ap no_colon (colon_before text start a b)) in
    let same : length text - suffix_len no_colon text ≡ start = omega (arith, count, b.in_range) in
    ap (λ (k : ℕ). drop k text) same

-- the digits with which an address ends are a port
pub port_at_end : (text : List ℕ) (start : ℕ) → IsAddress text → BeginDigits text start → IsPort (drop start text)
port_at_end text start a b = subst (λ (ds : List ℕ). IsPort ds) (sym (digits_are text start a b)) a.port

-- an answer is there exactly where it is due
pub due : (P : Type 0) (o : Option ℕ) (n : ℕ) → SomeIff o P n → (is_some o ≡ true → P) × (P → is_some o ≡ true)
due P None n h = (λ e. absurd (false≢true e), λ p. absurd (h p))
due P (Some m) n h = (λ e. h.0, λ p. refl)

-- an answer that is there is the one that is due
pub value_due : (P : Type 0) (o : Option ℕ) (n m : ℕ) → SomeIff o P n → o ≡ Some m → m ≡ n
value_due P None n m h e = absurd (cc)
value_due P (Some k) n m h e = let same : k ≡ n = h.1 in cc

-- behind a colon the digits with which a text ends are a port exactly where it is an address
pub port_behind_colon : (text : List ℕ) (start colon : ℕ) → BeginDigits text start → start ≡ colon + 1 → get_or text colon 0 ≡ 58 → (IsPort (drop (colon + 1) text) → IsAddress text) × (IsAddress text → IsPort (drop (colon + 1) text))
port_behind_colon text start colon b e here =
    let l : colon < length text = omega (arith, b.in_range) in (
      λ p. record {
        host = take colon text;
        digits = drop (colon + 1) text;
        whole = sym (take-append-drop colon text) ∙ ap (λ (t : List ℕ). take colon text ++ t) (drop_more text colon 0 l ∙ ap (λ (c : ℕ). c ∷ drop (colon + 1) text) here);
        port = p;
      },
      λ a. subst (λ (ds : List ℕ). IsPort ds) (sym (ap (λ (k : ℕ). drop k text) (sym e) ∙ digits_are text start a b)) a.port,
    )

-- one digit more: its value, behind ten times that of those before it
pub port_more : (digits : List ℕ) (i port digit : ℕ) → AllPass is_ascii_digit digits → i < length digits → port ≡ digits_value 10 (take i digits) → digit ≡ get_or digits i 0 - 48 → port * 10 + digit ≡ digits_value 10 (take (i + 1) digits)
port_more digits i port digit all l e f =
    let parts = and_parts (nat_le 48 (get_or digits i 0)) (nat_le (get_or digits i 0) 57) (all i 0 l) in
    omega (arith, digits_value_more 10 digits i l, digit_value_digit (get_or digits i 0) (leb-true _ _ parts.0, leb-true _ _ parts.1))
