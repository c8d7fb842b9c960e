-- A record at the head of bytes.
use Rattle.std.proofs.Common.{◌≡◌, ◌-◌, get_or, length-take, take-append-drop, ℕ, ◌+◌, ◌<◌, ◌≤◌, List, [], ◌++◌, length, take, drop, refl, sym, ◌∙◌, ap, subst, inl, inr, arith, append_assoc}
use Rattle.std.proofs.lemmas.List.{get_or_past, get_or-take}
use Rattle.std.proofs.lemmas.Nat.{be_bytes_4}
use Rattle.std.proofs.lemmas.Bool.{cases_lt}
use Rattle.std.specs.List.{slice_range}
use Rattle.std.specs.Int.{w32, to_be_bytes, from_be_bytes}
use Rattle.queue_image.specs.Records.{HasRecord, IsSize}

-- a record stands at the head of bytes: the size in the first four, and that many behind them
pub record_at_head : (least limit n : ℕ) (bytes size rest body : List ℕ) → size ≡ take 4 bytes → rest ≡ drop 4 bytes → length rest + 4 ≡ length bytes → n ≡ from_be_bytes w32 size
    → n ≤ length rest → body ≡ slice_range rest 0 n → ((i : ℕ) → get_or bytes i 0 < 256) → IsSize least limit n → HasRecord least limit bytes 0 body
record_at_head least limit n bytes size rest body s r l e fits b small is =
    let four : length size ≡ 4 = omega (arith, ap length s, length-take 4 bytes) in
    let bits : (i : ℕ) → get_or size i 0 < 256 = λ i. subst (λ (x : List ℕ). get_or x i 0 < 256) (sym s) (byte_of_take 4 bytes i small) in
    let whole_n : n - 0 ≡ n = omega arith in
    let body' : body ≡ take n rest = b ∙ ap (λ (m : ℕ). take m rest) whole_n in
    let len : length body ≡ n = omega (arith, ap length body', length-take n rest) in
    let written : to_be_bytes w32 n ≡ size = be_bytes_4 size n four bits e in
    record {
      front = [];
      back = drop n rest;
      whole = sym (take-append-drop 4 bytes) ∙ ap (λ (x : List ℕ). x ++ drop 4 bytes) (sym s ∙ sym written) ∙ ap (λ (x : List ℕ). to_be_bytes w32 n ++ x) (sym r ∙ sym (take-append-drop n rest))
          ∙ sym (append_assoc (to_be_bytes w32 n) (take n rest) (drop n rest)) ∙ ap (λ (x : List ℕ). (to_be_bytes w32 n ++ x) ++ drop n rest) (sym body')
          ∙ ap (λ (m : ℕ). (to_be_bytes w32 m ++ body) ++ drop n rest) (sym len);
      here = refl;
      size = subst (λ (m : ℕ). IsSize least limit m) (sym len) is;
    }
  where
    byte_of_take : (n : ℕ) (bytes : List ℕ) (i : ℕ) → ((i : ℕ) → get_or bytes i 0 < 256) → get_or (take n bytes) i 0 < 256
    byte_of_take n bytes i small =
        elim (cases_lt i n) [
          | inl inside ↦ omega (arith, get_or-take n bytes i 0 inside, small i)
          | inr past ↦ omega (arith, get_or_past (take n bytes) i 0 (omega (arith, length-take n bytes)))
        ]
