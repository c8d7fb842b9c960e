-- What a clock in memory gives.
use Rattle.std.proofs.Common.{◌≡◌, ℕ, zero, suc, ◌+◌, ◌-◌, ◌≤◌, min, List, [], ◌∷◌, length, Option, Bor, option_copied, unwrap_or, slice_get, get_or, refl, ap, ◌∙◌, le_refl, arith}
use Rattle.std.specs.Slice.{IsItemAt}
use Rattle.nsq_fakes.specs.Readings.{reading_at}

got : (readings : List ℕ) (i : ℕ) → get_or readings i 0 ≡ unwrap_or (slice_get readings i) 0
got [] i = refl
got (r ∷ rs) zero = refl
got (r ∷ rs) (suc i) = got rs i

-- a reading as it is read is the one of its number
pub reads_now : (readings seen : List ℕ) (at reading : ℕ) (found : Option (Bor ℕ)) (copy : Option ℕ) → at ≤ length readings - 1 → seen ≡ readings → IsItemAt seen at found → copy ≡ option_copied found → reading ≡ unwrap_or copy 0 → reading ≡ reading_at readings (at + 0)
reads_now readings seen at reading found copy within same item copied is =
    let place : at ≡ min (at + 0) (length readings - 1) = omega (arith, within) in
    is ∙ ap (λ (o : Option ℕ). unwrap_or o 0) copied ∙ item.4 (le_refl at) 0 ∙ got seen at ∙ ap (λ (xs : List ℕ). unwrap_or (slice_get xs at) 0) same ∙ ap (λ (k : ℕ). unwrap_or (slice_get readings k) 0) place
