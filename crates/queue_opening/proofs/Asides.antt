-- Files that are set aside, and files that are removed, one after the other.
use Rattle.std.proofs.Common.{◌≡◌, ◌≢◌, ℕ, ◌+◌, ◌^◌, ◌<◌, ◌≤◌, ◌⊎◌, true, false, List, [], ◌∷◌, ◌++◌, length, take, drop, get_or, codes, Option, Some, None, IsSome, refl, sym, ◌∙◌, ap, subst, inl, inr, arith, take-append-drop, length-append, replicate, decimal, ◌-◌}
use Rattle.std.proofs.lemmas.Bool.{cases_lt, cases_eq}
use Rattle.std.proofs.lemmas.List.{take_more, append_cancel_right}
use Rattle.std.proofs.lemmas.List.Elements.{Contains-append_left, Contains-push, Contains-push_cases}
use Rattle.std.specs.List.{Contains}
use Rattle.nsq_outside.specs.Files.{Files, SameFiles, IsRenamed}
use Rattle.nsq_outside.specs.declared.did.Did.{Did}
use Rattle.nsq_outside.specs.declared.did.Did.TheVariants.{Done, Failed}
use Rattle.std.proofs.lemmas.Fmt.{length-decimal-le}
use Rattle.std.proofs.lemmas.List.{length-replicate}
use Rattle.queue_image.specs.FileNames.{data_file, set_aside, file_digits}
use Rattle.queue_image.specs.FileNames.IsOwnFile.{numbered}
use Rattle.queue_image.proofs.Naming.{one_number, aside_apart}
use Rattle.queue_files.specs.FileCalls.{Gone, OnlyNumbersChange}
use Rattle.queue_opening.specs.Tidied.{AsideStep, IsMoved, IsAside, StaysOrGoes, OnlyAsideChanges, GoneWhere, RemoveStep, RemovedWhere, OnlyRemovedChange}

pub none_some : (o : Option (List ℕ)) → o ≡ None → IsSome o → ⊥
none_some None e h = let contra : false ≡ true = h in cc
none_some (Some x) e h = let contra : Some x ≡ None = e in cc

pub some_is : (o : Option (List ℕ)) (x : List ℕ) → o ≡ Some x → IsSome o
some_is o x e = subst (λ (p : Option (List ℕ)). IsSome p) (sym e) refl

pub among : (xs : List ℕ) (i k : ℕ) → Contains (take i xs) k → Contains xs k
among xs i k its = subst (λ (ys : List ℕ). Contains ys k) (take-append-drop i xs) (Contains-append_left (take i xs) (drop i xs) k its)

-- the names of data files and of those set aside are all different
pub data_apart : (name : List ℕ) (k n : ℕ) → k < 2 ^ 64 → n < 2 ^ 64 → k ≢ n → data_file name k ≢ data_file name n
data_apart name k n small small' apart e = apart (one_number name k n small small' e)

pub data_not_aside : (name : List ℕ) (k n : ℕ) → k < 2 ^ 64 → data_file name k ≢ set_aside (data_file name n)
data_not_aside name k n small e = aside_apart name (data_file name n) (data_file name k) (numbered k small refl) e

pub aside_not_data : (name : List ℕ) (k n : ℕ) → n < 2 ^ 64 → set_aside (data_file name k) ≢ data_file name n
aside_not_data name k n small e = data_not_aside name n k small (sym e)

pub asides_apart : (name : List ℕ) (k n : ℕ) → k < 2 ^ 64 → n < 2 ^ 64 → k ≢ n → set_aside (data_file name k) ≢ set_aside (data_file name n)
asides_apart name k n small small' apart e = data_apart name k n small small' apart (append_cancel_right (data_file name k) (data_file name n) (codes ".bad") e)

module _ (name : List ℕ) (old mid new : Files) (n : ℕ) (small : n < 2 ^ 64) where
  module _ (r : IsRenamed mid new (data_file name n) (set_aside (data_file name n))) where
    keeps : (k : ℕ) → k < 2 ^ 64 → k ≢ n → (new (data_file name k) ≡ mid (data_file name k)) × (new (set_aside (data_file name k)) ≡ mid (set_aside (data_file name k)))
    keeps k fits apart = (
      r.others (data_file name k) (data_apart name k n fits small apart) (data_not_aside name k n fits),
      r.others (set_aside (data_file name k)) (aside_not_data name k n small) (asides_apart name k n fits small apart),
    )

    moved_still : (k : ℕ) → k < 2 ^ 64 → k ≢ n → IsMoved name old mid k → IsMoved name old new k
    moved_still k fits apart m = let h = keeps k fits apart in record { gone = h.0 ∙ m.gone; moved = λ some. h.1 ∙ m.moved some }

    moved_now : (mid (data_file name n) ≡ old (data_file name n)) ⊎ IsMoved name old mid n → IsMoved name old new n
    moved_now (inl same) = go (mid (data_file name n)) refl
      where
        go : (o : Option (List ℕ)) → mid (data_file name n) ≡ o → IsMoved name old new n
        go None e = record { gone = r.absent e (data_file name n) ∙ e; moved = λ some. absurd (none_some (old (data_file name n)) (sym same ∙ e) some) }
        go (Some bytes) e =
            let some = some_is (mid (data_file name n)) bytes e in record { gone = r.gone some (data_not_aside name n n small); moved = λ _. r.moved some ∙ same }
    moved_now (inr m) =
        let same = r.absent m.gone in record { gone = same (data_file name n) ∙ m.gone; moved = λ some. same (set_aside (data_file name n)) ∙ m.moved some }

    others_now : (file : List ℕ) → (mid (data_file name n) ≡ old (data_file name n)) ⊎ IsMoved name old mid n
        → (IsSome (old (data_file name n)) → (file ≢ data_file name n) × (file ≢ set_aside (data_file name n))) → new file ≡ mid file
    others_now file (inl same) apart = go (mid (data_file name n)) refl
      where
        go : (o : Option (List ℕ)) → mid (data_file name n) ≡ o → new file ≡ mid file
        go None e = r.absent e file
        go (Some bytes) e = let h = apart (some_is (old (data_file name n)) bytes (sym same ∙ e)) in r.others file h.0 h.1
    others_now file (inr m) apart = r.absent m.gone file

  -- one number more
  pub aside_more : (xs : List ℕ) (from : ℕ) → IsAside name xs from old mid → AsideStep name from n mid new Done → IsAside name (xs ++ n ∷ []) from old new
  aside_more xs from a s =
      elim (cases_lt n from) [
        | inl below ↦ let same = s.same below in
            record {
              moves = λ k fits its low. elim (Contains-push_cases xs n k its) [
                | inl before ↦ same_moved same k (a.moves k fits before low)
                | inr here ↦ absurd (omega (arith, here, below, low))
              ];
              either = λ k fits. elim (a.either k fits) [ inl e ↦ inl (same (data_file name k) ∙ e) | inr m ↦ inr (same_moved same k m) ];
            }
        | inr past ↦ let r = s.done past in
            record {
              moves = λ k fits its low. elim (cases_eq k n) [
                | inl here ↦ subst (λ (j : ℕ). IsMoved name old new j) (sym here) (moved_now r (a.either n small))
                | inr apart ↦ elim (Contains-push_cases xs n k its) [ inl before ↦ moved_still r k fits apart (a.moves k fits before low) | inr here ↦ absurd (apart (sym here)) ]
              ];
              either = λ k fits. elim (cases_eq k n) [
                | inl here ↦ inr (subst (λ (j : ℕ). IsMoved name old new j) (sym here) (moved_now r (a.either n small)))
                | inr apart ↦ elim (a.either k fits) [ inl e ↦ inl ((keeps r k fits apart).0 ∙ e) | inr m ↦ inr (moved_still r k fits apart m) ]
              ];
            }
      ]
    where
      same_moved : SameFiles mid new → (k : ℕ) → IsMoved name old mid k → IsMoved name old new k
      same_moved same k m = record { gone = same (data_file name k) ∙ m.gone; moved = λ some. same (set_aside (data_file name k)) ∙ m.moved some }

  -- one that fails, or is made
  pub aside_stops : (xs : List ℕ) (from : ℕ) → IsAside name xs from old mid → AsideStep name from n mid new Failed → StaysOrGoes name old new
  aside_stops xs from a s =
      elim (cases_lt n from) [
        | inl below ↦ unmoved (s.same below)
        | inr past ↦ elim (s.done past) [
          | inl same ↦ unmoved same
          | inr r ↦ λ k fits. elim (cases_eq k n) [
            | inl here ↦ inr (subst (λ (j : ℕ). new (data_file name j) ≡ None) (sym here) (gone_now (moved_now r (a.either n small))))
            | inr apart ↦ elim (a.either k fits) [ inl e ↦ inl ((keeps r k fits apart).0 ∙ e) | inr m ↦ inr ((keeps r k fits apart).0 ∙ m.gone) ]
          ]
        ]
      ]
    where
      gone_now : IsMoved name old new n → new (data_file name n) ≡ None
      gone_now m = m.gone

      unmoved : SameFiles mid new → StaysOrGoes name old new
      unmoved same k fits = elim (a.either k fits) [ inl e ↦ inl (same (data_file name k) ∙ e) | inr m ↦ inr (same (data_file name k) ∙ m.gone) ]

  pub aside_others_more : (xs : List ℕ) (from : ℕ) (did : Did) → IsAside name xs from old mid → OnlyAsideChanges name xs from old mid → AsideStep name from n mid new did
      → OnlyAsideChanges name (xs ++ n ∷ []) from old new
  aside_others_more xs from did a o s file apart =
      step did s ∙ o file (λ k fits its low some. apart k fits (Contains-append_left xs (n ∷ []) k its) low some)
    where
      step : (did : Did) → AsideStep name from n mid new did → new file ≡ mid file
      step Done s =
          elim (cases_lt n from) [
            | inl below ↦ s.same below file
            | inr past ↦ others_now (s.done past) file (a.either n small) (λ some. apart n small (Contains-push xs n) past some)
          ]
      step Failed s =
          elim (cases_lt n from) [
            | inl below ↦ s.same below file
            | inr past ↦ elim (s.done past) [ inl same ↦ same file | inr r ↦ others_now r file (a.either n small) (λ some. apart n small (Contains-push xs n) past some) ]
          ]

  -- the same of a removal
  pub removed_more : (xs : List ℕ) (to : ℕ) → to ≤ 2 ^ 40 → RemovedWhere name xs to mid Done → RemoveStep name to n mid new Done → RemovedWhere name (xs ++ n ∷ []) to new Done
  removed_more xs to small' a s k its low =
      elim (cases_lt n to) [
        | inl below ↦ elim (cases_eq k n) [
          | inl here ↦ subst (λ (j : ℕ). new (data_file name j) ≡ None) (sym here) (s.done below)
          | inr apart ↦ elim (Contains-push_cases xs n k its) [
            | inl before ↦ s.others below (data_file name k) (data_apart name k n (omega (arith, low, small')) small apart) ∙ a k before low
            | inr here ↦ absurd (apart (sym here))
          ]
        ]
        | inr past ↦ elim (Contains-push_cases xs n k its) [ inl before ↦ s.same past (data_file name k) ∙ a k before low | inr here ↦ absurd (omega (arith, here, past, low)) ]
      ]

  pub removed_others_more : (xs : List ℕ) (to : ℕ) (did : Did) → OnlyRemovedChange name xs to old mid → RemoveStep name to n mid new did → OnlyRemovedChange name (xs ++ n ∷ []) to old new
  removed_others_more xs to did o s file apart =
      elim (cases_lt n to) [
        | inl below ↦ s.others below file (apart n (Contains-push xs n) below) ∙ o file (λ k its low. apart k (Contains-append_left xs (n ∷ []) k its) low)
        | inr past ↦ s.same past file ∙ o file (λ k its low. apart k (Contains-append_left xs (n ∷ []) k its) low)
      ]

-- the numbers that were gone through
pub next_taken : (numbers : List ℕ) (i : ℕ) → i < length numbers → take (i + 1) numbers ≡ take i numbers ++ get_or numbers i 0 ∷ []
next_taken numbers i inside = take_more numbers i 0 inside

-- the name of a data file is no longer than this
pub data_file_long : (name : List ℕ) (n : ℕ) → n < 2 ^ 64 → length (data_file name n) ≤ length name + 35
data_file_long name n small =
    let front = name ++ codes ".diskqueue." in
    let zeros : List ℕ = replicate (6 - length (decimal n)) 48 in
    omega (
      arith,
      length-append (front ++ file_digits n) (codes ".dat"),
      length-append front (file_digits n),
      length-append name (codes ".diskqueue."),
      length-append zeros (decimal n),
      length-replicate {A = ℕ} (6 - length (decimal n)) 48,
      length-decimal-le 20 n (omega arith) (omega arith) small,
    )

-- one file is removed
pub remove_step : (name : List ℕ) (to n : ℕ) (old new : Files) (did : Did) → n < to → Gone name new n (n + 1) did → OnlyNumbersChange name old new n (n + 1) → RemoveStep name to n old new did
remove_step name to n old new did low g o = record {
  done = λ _. gone did g;
  others = λ _ file apart. o file (λ k from end e. apart (e ∙ ap (data_file name) (omega (arith, from, end))));
  same = λ past. absurd (omega (arith, low, past));
}
  where
    gone : (did : Did) → Gone name new n (n + 1) did → GoneWhere (new (data_file name n)) did
    gone Done g = g n (omega arith) (omega arith)
    gone Failed g = tt
