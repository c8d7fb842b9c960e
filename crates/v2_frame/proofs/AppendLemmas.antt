-- Lemmas on parts that are appended one behind another.
use Rattle.std.proofs.Common.{◌≡◌, ℕ, ◌+◌, ◌<◌, ◌≤◌, true, false, if◌then◌else◌, Result, Ok, Err, List, [], ◌++◌, flat_map, length, take, get_or, append-nil, sym, ap, ◌∙◌}
use Rattle.std.specs.Result.{is_err, is_ok}
use Rattle.std.proofs.lemmas.List.{take_all, take_at, take_more, flat_map_more}

-- none is there yet
pub no_part : (old : List ℕ) → old ≡ old ++ []
no_part old = sym (append-nil old)

was_added : {T E : Type 0} (r : Result T E) (more now new : List ℕ) → is_err r ≡ false → new ≡ (if is_ok r then more else now) → new ≡ more
was_added (Ok x) more now new e is = is
was_added (Err x) more now new e is = cc

was_refused : {T E : Type 0} (r : Result T E) (more now new : List ℕ) → is_err r ≡ true → new ≡ (if is_ok r then more else now) → new ≡ now
was_refused (Ok x) more now new e is = cc
was_refused (Err x) more now new e is = is

-- so many parts stand behind what was there
module _ {X : Type 0} (f : X → List ℕ) (parts : List X) (i : ℕ) (old mid now : List ℕ) (so_far : now ≡ mid ++ flat_map f (take i parts)) where
  -- one part more joins them
  pub part_added : {T E : Type 0} (r : Result T E) (new : List ℕ) (d : X) → i < length parts → is_err r ≡ false → new ≡ (if is_ok r then now ++ f (get_or parts i d) else now) → new ≡ mid ++ flat_map f (take (i + 1) parts)
  part_added r new d within e is =
      was_added r (now ++ f (get_or parts i d)) now new e is ∙ ap (λ (x : List ℕ). x ++ f (get_or parts i d)) so_far ∙ flat_map_more f mid (take i parts) (get_or parts i d)
      ∙ ap (λ xs. mid ++ flat_map f xs) (sym (take_more parts i d within))

  -- they are all
  pub parts_added : mid ≡ old → length parts ≤ i → now ≡ old ++ flat_map f parts
  parts_added same all = so_far ∙ ap (λ xs. mid ++ flat_map f xs) (take_all i parts all) ∙ ap (λ (o : List ℕ). o ++ flat_map f parts) same

  -- the next one was refused, and they are cut off
  pub parts_cut : {T E : Type 0} (r : Result T E) (more new : List ℕ) (n : ℕ) → mid ≡ old → length old ≡ n → is_err r ≡ true → new ≡ (if is_ok r then more else now) → take n new ≡ old
  parts_cut r more new n same long e is = ap (take n) (was_refused r more now new e is ∙ so_far ∙ ap (λ (o : List ℕ). o ++ flat_map f (take i parts)) same) ∙ take_at old (flat_map f (take i parts)) n long
