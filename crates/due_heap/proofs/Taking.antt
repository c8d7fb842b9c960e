-- An entry that is taken out of a list, and the keys of all others.
use Rattle.std.proofs.Common.{◌≡◌, ℕ, ◌+◌, ◌≤◌, true, false, ◌&&◌, cond, eqb, List, [], ◌∷◌, length, Some, None, refl, sym, ap, ◌∙◌, arith}
use Rattle.std.proofs.lemmas.Bool.Decides.{nat_tests}
use Rattle.due_heap.specs.declared.key.Key.{Key}
use Rattle.due_heap.specs.Heap.{Entry, has_key, entry_of, without, TakesOut, OthersStay}
use Rattle.due_heap.proofs.Listing.{by_test}

both : (a b c d : ℕ) → (eqb a b && eqb c d) ≡ true → (a ≡ b) × (c ≡ d)
both a b c d h = grind (arith, nat_tests)

key_is : (j k : Key) → j.slot ≡ k.slot → j.number ≡ k.number → j ≡ k
key_is j k p q = λ i. record { slot = p i; number = q i }

module _ {T : Type 0} where
  is_its_key : (k : Key) (e : Entry T) → has_key k e ≡ true → e.key ≡ k
  is_its_key k e h = let p = both e.key.slot k.slot e.key.number k.number h in key_is e.key k p.0 p.1

  pub key_of : (k : Key) (es : List (Entry T)) (e : Entry T) → entry_of k es ≡ Some e → e.key ≡ k
  key_of k [] e is = cc
  key_of k (f ∷ fs) e is = by_test (has_key k f)
      (λ t. let same : f ≡ e = some (rw t at is) in ap (λ (x : Entry T). x.key) (sym same) ∙ is_its_key k f t)
      (λ t. key_of k fs e (rw t at is))
    where
      some : {x y : Entry T} → Some x ≡ Some y → x ≡ y
      some e = cc

  shorter : (k : Key) (es : List (Entry T)) → length (without k es) ≤ length es
  shorter k [] = omega arith
  shorter k (f ∷ fs) = by_test (has_key k f)
      (λ t. rw t (let r = shorter k fs in omega arith))
      (λ t. rw t (let r = shorter k fs in omega arith))

  all_stay : (k : Key) (es : List (Entry T)) → length (without k es) ≡ length es → without k es ≡ es
  all_stay k [] h = refl
  all_stay k (f ∷ fs) h = by_test (has_key k f)
      (λ t. let r = shorter k fs in let n = rw t at h in absurd (omega arith))
      (λ t. let n = rw t at h in rw t (ap (λ (l : List (Entry T)). f ∷ l) (all_stay k fs (omega arith))))

  stays : (k : Key) (f : Entry T) (fs : List (Entry T)) → has_key k f ≡ false → without k (f ∷ fs) ≡ f ∷ without k fs
  stays k f fs t = rw t refl

  behind : (k : Key) (f : Entry T) (fs : List (Entry T)) (e : Entry T) → has_key k f ≡ false → TakesOut e fs (without k fs) → TakesOut e (f ∷ fs) (without k (f ∷ fs))
  behind k f fs e t r = record { before = f ∷ r.before; after = r.after; was = ap (λ (l : List (Entry T)). f ∷ l) r.was; is = stays k f fs t ∙ ap (λ (l : List (Entry T)). f ∷ l) r.is }

  pub takes_out : (k : Key) (es : List (Entry T)) (e : Entry T) → entry_of k es ≡ Some e → length (without k es) + 1 ≡ length es → TakesOut e es (without k es)
  takes_out k [] e is h = absurd (omega arith)
  takes_out k (f ∷ fs) e is h = by_test (has_key k f)
      (λ t. let same : f ≡ e = some (rw t at is) in
      let n = rw t at h in
      record { before = []; after = fs; was = ap (λ (x : Entry T). x ∷ fs) same; is = rw t (all_stay k fs (omega arith)) })
      (λ t. let n = rw t at h in behind k f fs e t (takes_out k fs e (rw t at is) (omega arith)))
    where
      some : {x y : Entry T} → Some x ≡ Some y → x ≡ y
      some e = cc

  pub others_stay : (k : Key) (es : List (Entry T)) → OthersStay k es (without k es)
  others_stay k [] other u = refl
  others_stay k (f ∷ fs) other u = by_test (has_key k f)
      (λ t. by_test (has_key other f)
      (λ v. absurd (u (sym (is_its_key other f v) ∙ is_its_key k f t)))
      (λ v. rw (t, v) (others_stay k fs other u)))
      (λ t. rw t (ap (cond (has_key other f) (Some f)) (others_stay k fs other u)))

  pub is_dead : (k : Key) (es : List (Entry T)) → entry_of k (without k es) ≡ None
  is_dead k [] = refl
  is_dead k (f ∷ fs) = by_test (has_key k f)
      (λ t. rw t (is_dead k fs))
      (λ t. rw (t, t) (is_dead k fs))
