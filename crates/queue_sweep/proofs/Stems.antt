-- The parts of the name of a queue's file.
use Rattle.std.proofs.Common.{◌≡◌, ◌≢◌, Option, Some, None, true, false, lit<, take, drop, take-append-drop, ℕ, ◌+◌, ◌-◌, ◌^◌, ◌<◌, ◌⊎◌, List, [], ◌∷◌, ◌++◌, length, replicate, codes, refl, sym, ◌∙◌, ap, subst, inl, arith, append_assoc, length-append}
use Rattle.std.proofs.lemmas.List.{append_cancel_left, append_cancel_right, drop_at}
use Rattle.std.proofs.lemmas.Fmt.{IsAscii-from_digits}
use Rattle.std.proofs.lemmas.Str.{IsUtf8-from_ascii}
use Rattle.std.proofs.lemmas.Str.Parse.{without_leading_plus_none, digit_at}
use Rattle.std.proofs.lemmas.Slice.Eq.{bytes_eq-Decides}
use Rattle.std.specs.Fmt.{decimal}
use Rattle.std.specs.Option.{MatchOption}
use Rattle.std.specs.Str.{bytes_eq, IsUtf8}
use Rattle.std.specs.Str.Parse.{IsNumeral, digits_value, without_leading_plus}
use Rattle.queue_image.specs.FileNames.{file_digits, data_file}
use Rattle.queue_image.proofs.Naming.{Lacks, Lacks-digits, before_last_one, numeral-file_digits, digits_value-file_digits}
use Rattle.queue_sweep.specs.Forms.{IsFileNumber, IsLastAt, IsDataFileOf}

-- what holds of an answer holds of it in other words
pub answers : {A : Type 0} (o : Option A) (P P' : Type 0) (Q Q' : A → Type 0) → (P → P') → ((x : A) → Q x → Q' x) → MatchOption o P Q → MatchOption o P' Q'
answers None P P' Q Q' f g h = f h
answers (Some x) P P' Q Q' f g h = g x h

-- a list is its front and the ending that was taken from it
pub stripped : (file ending front : List ℕ) → bytes_eq (drop (length file - length ending) file) ending ≡ true → front ≡ take (length file - length ending) file → file ≡ front ++ ending
stripped file ending front ends e =
    let n = length file - length ending in
    sym (take-append-drop n file) ∙ ap (λ (x : List ℕ). x ++ drop n file) (sym e) ∙ ap (λ (x : List ℕ). front ++ x) (sym ((bytes_eq-Decides ending (drop n file)).0 (flip ending (drop n file) ends)))
  where
    flip : (a b : List ℕ) → bytes_eq b a ≡ true → bytes_eq a b ≡ true
    flip a b h = (bytes_eq-Decides a b).1 (sym ((bytes_eq-Decides b a).0 h))

-- a list that lacks the ending has no such front
pub not_stripped : (file ending front : List ℕ) → bytes_eq (drop (length file - length ending) file) ending ≡ false → file ≢ front ++ ending
not_stripped file ending front lacks e =
    let n = length file - length ending in
    let count : n ≡ length front = omega (arith, ap length e, length-append front ending) in
    let ends : drop n file ≡ ending = ap (drop n) e ∙ drop_at front ending n (sym count) in
    let contra : true ≡ false = sym ((bytes_eq-Decides (drop n file) ending).1 ends) ∙ lacks in
    cc

-- a byte that a list lacks stands nowhere in it
not_lacked : (c : ℕ) (xs ys : List ℕ) → Lacks c (xs ++ c ∷ ys) → ⊥
not_lacked c [] ys p = p.0 refl
not_lacked c (x ∷ xs) ys p = not_lacked c xs ys p.1

-- no digit is this byte
pub digits_lack : (c n : ℕ) → (c < 48) ⊎ (57 < c) → n < 2 ^ 64 → Lacks c (file_digits n)
digits_lack c n out small = Lacks-digits c (file_digits n) out (numeral-file_digits n small).1

-- what stands before the ending of a data file's name
pub before_ending : (name file rest : List ℕ) (n : ℕ) → file ≡ data_file name n → file ≡ rest ++ codes ".dat" → rest ≡ (name ++ codes ".diskqueue") ++ 46 ∷ file_digits n
before_ending name file rest n e d =
    append_cancel_right rest (name ++ codes ".diskqueue." ++ file_digits n) (codes ".dat") (sym d ∙ e)
    ∙ ap (λ (x : List ℕ). x ++ file_digits n) (sym (append_assoc name (codes ".diskqueue") (46 ∷ [])))
    ∙ append_assoc (name ++ codes ".diskqueue") (46 ∷ []) (file_digits n)

-- it has a dot
pub has_dot : (name rest : List ℕ) (n : ℕ) → IsLastAt 46 rest None → rest ≡ (name ++ codes ".diskqueue") ++ 46 ∷ file_digits n → ⊥
has_dot name rest n none e = not_lacked 46 (name ++ codes ".diskqueue") (file_digits n) (subst (λ (x : List ℕ). Lacks 46 x) e none)

-- the last dot stands before the digits
pub around_dot : (name rest : List ℕ) (n i : ℕ) → n < 2 ^ 64 → IsLastAt 46 rest (Some i) → rest ≡ (name ++ codes ".diskqueue") ++ 46 ∷ file_digits n
    → (take i rest ≡ name ++ codes ".diskqueue") × (drop (i + 1) rest ≡ file_digits n)
around_dot name rest n i small at e =
    let front = name ++ codes ".diskqueue" in
    let fronts : take i rest ≡ front
    = before_last_one 46 (take i rest) front (drop (i + 1) rest) (file_digits n) at.1 (digits_lack 46 n (inl (lit< tt)) small) (sym at.0 ∙ e) in
    let tails : 46 ∷ drop (i + 1) rest ≡ 46 ∷ file_digits n
    = append_cancel_left front (46 ∷ drop (i + 1) rest) (46 ∷ file_digits n) (ap (λ (x : List ℕ). x ++ 46 ∷ drop (i + 1) rest) (sym fronts) ∙ sym at.0 ∙ e) in
    (fronts, cc)

-- the parts make the name of a data file
pub data_from_parts : (file rest stem digits : List ℕ) (i : ℕ) → file ≡ rest ++ codes ".dat" → rest ≡ take i rest ++ 46 ∷ drop (i + 1) rest → digits ≡ drop (i + 1) rest → IsFileNumber digits
    → take i rest ≡ stem ++ codes ".diskqueue" → IsDataFileOf stem file
data_from_parts file rest stem digits i e around d number s = (
  number.0,
  number.1,
  e ∙ ap (λ (x : List ℕ). x ++ codes ".dat") (
      around ∙ ap (λ (x : List ℕ). x ++ 46 ∷ drop (i + 1) rest) s
      ∙ ap (λ (x : List ℕ). (stem ++ codes ".diskqueue") ++ 46 ∷ x) (sym d ∙ number.2)
      ∙ sym (append_assoc (stem ++ codes ".diskqueue") (46 ∷ []) (file_digits number.0))
      ∙ ap (λ (x : List ℕ). x ++ file_digits number.0) (append_assoc stem (codes ".diskqueue") (46 ∷ []))
      ),
)

-- the digits of a file's number are text
pub digits_utf8 : (n : ℕ) → n < 2 ^ 64 → IsUtf8 (file_digits n)
digits_utf8 n small = IsUtf8-from_ascii (file_digits n) (IsAscii-from_digits (file_digits n) (numeral-file_digits n small).1)

plain_digits : (n : ℕ) → n < 2 ^ 64 → without_leading_plus (file_digits n) ≡ file_digits n
plain_digits n small =
    let numeral = numeral-file_digits n small in
    let digit = digit_at (file_digits n) 0 numeral.1 numeral.0 in
    without_leading_plus_none (file_digits n) (λ e. omega (arith, e, digit.0))

-- they are read as that number
pub digits_read : (n : ℕ) (text : List ℕ) → n < 2 ^ 64 → text ≡ file_digits n
    → (IsNumeral 10 (without_leading_plus text) × (digits_value 10 (without_leading_plus text) < 2 ^ 64)) × (digits_value 10 (without_leading_plus text) ≡ n)
digits_read n text small e =
    let Reads : List ℕ → Type 0 = λ ds. (IsNumeral 10 ds × (digits_value 10 ds < 2 ^ 64)) × (digits_value 10 ds ≡ n) in
    let value = digits_value-file_digits n small in
    subst Reads (sym (ap without_leading_plus e ∙ plain_digits n small)) ((numeral-file_digits n small, omega (arith, value)), value)

-- the digits are zeros and the number's own
pub zeros_before : (n : ℕ) (digits zeros plain : List ℕ) → n < 2 ^ 64 → digits ≡ zeros ++ plain → plain ≡ decimal n → zeros ≡ replicate (6 - length plain) 48 → IsFileNumber digits
zeros_before n digits zeros plain small e p z = (
  n,
  small,
  e ∙ ap (λ (x : List ℕ). x ++ plain) (z ∙ ap (λ (x : List ℕ). replicate (6 - length x) 48) p) ∙ ap (λ (x : List ℕ). replicate (6 - length (decimal n)) 48 ++ x) p,
)

-- and nothing else stands before them
pub zeros_are : (n m : ℕ) (digits zeros plain : List ℕ) → digits ≡ file_digits n → digits ≡ zeros ++ plain → plain ≡ decimal m → m ≡ n → zeros ≡ replicate (6 - length plain) 48
zeros_are n m digits zeros plain e d p same =
    let own : plain ≡ decimal n = p ∙ ap decimal same in
    append_cancel_right zeros (replicate (6 - length plain) 48) plain
    (sym d ∙ e ∙ ap (λ (x : List ℕ). replicate (6 - length x) 48 ++ x) (sym own))

-- the zeros in front of a number
abbrev pub spelled_zeros : ℕ → List ℕ
spelled_zeros n = replicate (6 - length (decimal n)) 48

-- a number that was read is the one that was meant
pub same_number : (m n : ℕ) → Some m ≡ Some n → m ≡ n
same_number m n e = cc
