-- Digits in base 16 give their number back.
use Rattle.std.proofs.Common.{ℕ, zero, suc, ◌≡◌, ◌/◌, ◌%◌, ◌^◌, ◌<◌, List, ◌++◌, length, take, drop, refl, sym, ap, ◌∙◌, arith}
use Rattle.std.proofs.Math.Nat.{pow-suc}
use Rattle.std.proofs.lemmas.Bool.Decides.{nat_tests}
use Rattle.std.proofs.lemmas.List.{take_at, drop_at, same_from_push, length_push}
use Rattle.nsq_base.specs.MsgId.{hex_digit, hex_digits}

-- below 16 a digit tells its number
same_from_hex_digit : (n m : ℕ) → n < 16 → m < 16 → hex_digit n ≡ hex_digit m → n ≡ m
same_from_hex_digit n m a b e = grind (arith, nat_tests)

-- there are as many digits as were asked for
pub length-hex_digits : (count n : ℕ) → length (hex_digits count n) ≡ count
length-hex_digits zero n = refl
length-hex_digits (suc count) n = omega (arith, length_push (hex_digits count (n / 16)) (hex_digit (n % 16)), length-hex_digits count (n / 16))

-- a number of so many digits is known by them
pub same_from_hex_digits : (count n m : ℕ) → n < 16 ^ count → m < 16 ^ count → hex_digits count n ≡ hex_digits count m → n ≡ m
same_from_hex_digits zero n m a b e = omega arith
same_from_hex_digits (suc count) n m a b e =
    let parts = same_from_push (hex_digits count (n / 16)) (hex_digits count (m / 16)) (hex_digit (n % 16)) (hex_digit (m % 16)) e in
    let low = same_from_hex_digit (n % 16) (m % 16) (omega arith) (omega arith) parts.1 in
    let high : n / 16 ≡ m / 16 = same_from_hex_digits count (n / 16) (m / 16) (omega (arith, pow-suc 16 count)) (omega (arith, pow-suc 16 count)) parts.0 in
    omega arith

-- two numbers written one after the other are known by all digits
pub same_from_two : (a b e n f m : ℕ) → e < 16 ^ a → f < 16 ^ a → n < 16 ^ b → m < 16 ^ b → hex_digits a e ++ hex_digits b n ≡ hex_digits a f ++ hex_digits b m → (e ≡ f) × (n ≡ m)
same_from_two a b e n f m le lf ln lm same =
    let front : hex_digits a e ≡ hex_digits a f =
    sym (take_at (hex_digits a e) (hex_digits b n) a (length-hex_digits a e)) ∙ ap (λ (t : List ℕ). take a t) same ∙ take_at (hex_digits a f) (hex_digits b m) a (length-hex_digits a f) in
    let back : hex_digits b n ≡ hex_digits b m =
    sym (drop_at (hex_digits a e) (hex_digits b n) a (length-hex_digits a e)) ∙ ap (λ (t : List ℕ). drop a t) same ∙ drop_at (hex_digits a f) (hex_digits b m) a (length-hex_digits a f) in
    (same_from_hex_digits a e f le lf front, same_from_hex_digits b n m ln lm back)
