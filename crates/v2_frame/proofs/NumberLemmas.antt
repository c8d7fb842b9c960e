-- A word is a number by the digits behind its sign.
use Rattle.std.proofs.Common.{◌≡◌, ◌≢◌, ℕ, ◌^◌, ◌<◌, Bool, true, false, if◌then◌else◌, ℤ, pos, neg_ℤ, SFits, w64, to_z, of_z, List, length, drop, sym, ap, ◌∙◌, subst, arith}
use Rattle.std.specs.Prelude.{◌==◌, ◌-ℤ◌, zero, suc, slice_index}
use Rattle.std.specs.Str.Parse.{starts_with_minus}
use Rattle.std.proofs.lemmas.Bool.Decides.{nat_tests}
use Rattle.std.proofs.lemmas.Int.{to_z-of_z, to_z_pos}
use Rattle.std.proofs.Math.IntN.{+ℤ_idl}
use Rattle.std.proofs.lemmas.List.{nil_from_length}
use Rattle.nsq_base.specs.Decimal.{IsDecimal}
use Rattle.v2_frame.specs.Line.{IsNumber, without_minus}

-- another first byte is no minus sign, and no byte is none
pub not_minus : (word : List ℕ) → slice_index word 0 ≢ 45 → starts_with_minus word ≡ false
not_minus word d = grind (arith, nat_tests)

pub none_minus : (word : List ℕ) → length word ≡ 0 → starts_with_minus word ≡ false
none_minus word e = ap starts_with_minus (nil_from_length word e)

-- a word that begins with a minus sign, and what stands behind that
module _ (word digits : List ℕ) (minus : slice_index word 0 ≡ 45) (rest : digits ≡ drop 1 word) where
  signed : starts_with_minus word ≡ true
  signed = ap (λ (n : ℕ). n == 45) minus

  behind_minus : without_minus word ≡ digits
  behind_minus = ap (λ (b : Bool). if b then drop 1 word else word) signed ∙ sym rest

  pub minus_nothing : ((n : ℕ) → IsDecimal 18 digits n → ⊥) → (z : ℤ) → IsNumber word z → ⊥
  minus_nothing none z h = none h.size (subst (λ (x : List ℕ). IsDecimal 18 x h.size) behind_minus h.digits)

  pub minus_number : (n : ℕ) → IsDecimal 18 digits n → (z : ℤ) → z ≡ neg_ℤ (pos n) → IsNumber word z
  minus_number n d z e =
      record { size = n; digits = subst (λ (x : List ℕ). IsDecimal 18 x n) (sym behind_minus) d; value = e ∙ sym (ap (λ (b : Bool). if b then neg_ℤ (pos n) else pos n) signed) }

-- a word without a minus sign at its front
module _ (word : List ℕ) (plain : starts_with_minus word ≡ false) where
  whole_word : without_minus word ≡ word
  whole_word = ap (λ (b : Bool). if b then drop 1 word else word) plain

  pub plain_nothing : ((n : ℕ) → IsDecimal 18 word n → ⊥) → (z : ℤ) → IsNumber word z → ⊥
  plain_nothing none z h = none h.size (subst (λ (x : List ℕ). IsDecimal 18 x h.size) whole_word h.digits)

  pub plain_number : (n : ℕ) → IsDecimal 18 word n → (z : ℤ) → z ≡ pos n → IsNumber word z
  plain_number n d z e =
      record { size = n; digits = subst (λ (x : List ℕ). IsDecimal 18 x n) (sym whole_word) d; value = e ∙ sym (ap (λ (b : Bool). if b then neg_ℤ (pos n) else pos n) plain) }

-- a size of 18 digits as a signed number, and with its sign
pub size_as : (n : ℕ) → n < 10 ^ 18 → to_z w64 n ≡ pos n
size_as n small = let fits : n < 2 ^ 63 = omega (arith, small) in to_z_pos w64 n fits

below_zero : (n : ℕ) → pos 0 -ℤ pos n ≡ neg_ℤ (pos n)
below_zero n = +ℤ_idl (neg_ℤ (pos n))

sign_fits : (n : ℕ) → n < 10 ^ 18 → SFits w64 (neg_ℤ (pos n))
sign_fits zero small = let fits : 0 < 2 ^ 63 = omega arith in record { sfits = fits }
sign_fits (suc n) small = let fits : n < 2 ^ 63 = omega (arith, small) in record { sfits = fits }

pub size_less : (n : ℕ) → n < 10 ^ 18 → to_z w64 (of_z w64 (pos 0 -ℤ to_z w64 n)) ≡ neg_ℤ (pos n)
size_less n small =
    let is : pos 0 -ℤ to_z w64 n ≡ neg_ℤ (pos n) = ap (λ (z : ℤ). pos 0 -ℤ z) (size_as n small) ∙ below_zero n in
    ap (λ (z : ℤ). to_z w64 (of_z w64 z)) is ∙ to_z-of_z w64 (neg_ℤ (pos n)) (sign_fits n small)
