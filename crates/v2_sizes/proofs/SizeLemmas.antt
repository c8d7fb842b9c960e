-- Which size the first four bytes are.
use Rattle.std.proofs.Common.{◌≡◌, ℕ, ◌+◌, ◌^◌, ◌<◌, ◌≤◌, List, ◌++◌, length, take, drop, get_or, sym, ap, ◌∙◌, subst, arith, length-take, ⊎_elim}
use Rattle.std.specs.Int.{from_be_bytes, w32}
use Rattle.std.proofs.lemmas.Bool.{cases_lt}
use Rattle.std.proofs.lemmas.List.{take-append-drop, get_or-take, get_or_past}
use Rattle.std.proofs.lemmas.Nat.{be_bytes_4}
use Rattle.v2_sizes.specs.Sizes.{size4, HasSize}

-- the first four bytes are a size
pub size_here : (bytes front rest : List ℕ) (n : ℕ) → ((i : ℕ) → get_or bytes i 0 < 256) → front ≡ take 4 bytes → rest ≡ drop 4 bytes → length rest + 4 ≡ length bytes → n ≡ from_be_bytes w32 front → n < 2 ^ 32 → HasSize bytes n rest
size_here bytes front rest n small f r l e fits =
    let long : length (take 4 bytes) ≡ 4 = simp length-take (omega arith) in
    let each : (i : ℕ) → get_or (take 4 bytes) i 0 < 256 =
    λ i. ⊎_elim (λ (lt : i < 4). subst (λ (m : ℕ). m < 256) (sym (get_or-take 4 bytes i 0 lt)) (small i)) (λ (ge : 4 ≤ i). omega (arith, get_or_past (take 4 bytes) i 0 (omega arith))) (cases_lt i 4) in
    let same : size4 n ≡ take 4 bytes = be_bytes_4 (take 4 bytes) n long each (e ∙ ap (from_be_bytes w32) f) in
    record { whole = sym (take-append-drop 4 bytes) ∙ ap (λ (x : List ℕ). take 4 bytes ++ x) (sym r) ∙ ap (λ (x : List ℕ). x ++ rest) (sym same); fits = fits }
