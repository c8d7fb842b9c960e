-- Reading by sizes from a place to another.
use Rattle.std.proofs.Common.{◌≡◌, ℕ, ◌+◌, ◌^◌, ◌<◌, ◌≤◌, ◌⊎◌, List, [], ◌∷◌, ◌++◌, length, take, drop, refl, sym, ◌∙◌, ap, subst, inl, inr, arith, append_assoc, length-append, take-append-drop}
use Rattle.std.proofs.lemmas.List.{take_at, drop_at, take-take}
use Rattle.queue_image.specs.Records.{HasRecord, record_bytes}
use Rattle.queue_image.specs.Between.{Reads}
use Rattle.queue_image.specs.Between.Reads.{arrives, takes, turns}
use Rattle.queue_image.proofs.RowLemmas.{same_record, length-record}

-- a record ends within its file
pub record_ends : (least limit : ℕ) (bytes : List ℕ) (place : ℕ) (body : List ℕ) → HasRecord least limit bytes place body → place + (4 + length body) ≤ length bytes
record_ends least limit bytes place body r =
    let here = r.here in
    omega (arith, ap length r.whole, length-append (r.front ++ record_bytes body) r.back, length-append r.front (record_bytes body), length-record body)

-- what begins alike up to the record's end has the record too
pub record_keeps : (least limit : ℕ) (old new : List ℕ) (end place : ℕ) (body : List ℕ) → HasRecord least limit old place body → take end new ≡ take end old → place + (4 + length body) ≤ end
    → HasRecord least limit new place body
record_keeps least limit old new end place body r same fits =
    let upto = r.front ++ record_bytes body in
    let here = r.here in
    let n = length upto in
    let ends : n ≤ end = omega (arith, length-append r.front (record_bytes body), length-record body) in
    let begins : take n new ≡ upto = sym (take-take n end new ends) ∙ ap (take n) same ∙ take-take n end old ends ∙ ap (take n) r.whole ∙ take_at upto r.back n refl in
    record {
      front = r.front;
      back = drop n new;
      whole = sym (take-append-drop n new) ∙ ap (λ x. x ++ drop n new) begins;
      here = r.here;
      size = r.size;
    }

-- one record at most stands at a place
pub same_at : (least limit : ℕ) (bytes : List ℕ) (place : ℕ) (x y : List ℕ) → limit < 2 ^ 32 → HasRecord least limit bytes place x → HasRecord least limit bytes place y → x ≡ y
same_at least limit bytes place x y small a b =
    let behind : (body : List ℕ) (r : HasRecord least limit bytes place body) → drop place bytes ≡ record_bytes body ++ r.back
    = λ body r. ap (drop place) r.whole ∙ ap (drop place) (append_assoc r.front (record_bytes body) r.back) ∙ drop_at r.front (record_bytes body ++ r.back) place (sym r.here) in
    let p = a.size in
    let q = b.size in
    (same_record x y a.back b.back (omega (arith, p.1)) (omega (arith, q.1)) (sym (behind x a) ∙ behind y b)).0

module _ (least limit : ℕ) where
  -- the place where reading begins is not past the one where it ends
  pub in_order : {bytes : ℕ → List ℕ} {g b f a : ℕ} {xs : List (List ℕ)} → Reads least limit bytes g b f a xs → (f < g) ⊎ ((f ≡ g) × (a ≤ b))
  in_order (arrives e d) = inr (e, omega arith)
  in_order (takes body r more) = elim (in_order more) [ inl lt ↦ inl lt | inr same ↦ inr (same.0, omega (arith, same.1)) ]
  in_order (turns e more) = elim (in_order more) [ inl lt ↦ inl (omega arith) | inr same ↦ inl (omega (arith, same.0)) ]

  pub joined : {bytes : ℕ → List ℕ} {g b h c f a : ℕ} {xs ys : List (List ℕ)} → Reads least limit bytes g b f a xs → Reads least limit bytes h c g b ys → Reads least limit bytes h c f a (xs ++ ys)
  joined {bytes} {g} {b} {h} {c} {f} {a} {ys = ys} (arrives e d) more =
      subst (λ (k : ℕ). Reads least limit bytes h c k a ys) (sym e) (subst (λ (k : ℕ). Reads least limit bytes h c g k ys) (sym d) more)
  joined (takes body r rest) more = takes body r (joined rest more)
  joined (turns e rest) more = turns e (joined rest more)

  pub keeps : {old new : ℕ → List ℕ} {g b f a : ℕ} {xs : List (List ℕ)} → Reads least limit old g b f a xs → ((k : ℕ) → f ≤ k → k < g → new k ≡ old k)
      → take b (new g) ≡ take b (old g) → Reads least limit new g b f a xs
  keeps (arrives e d) same front = arrives e d
  keeps {old} {new} {g} {b} {f} {a} (takes body r more) same front =
      takes body
      (elim (in_order more) [
        | inl lt ↦ subst (λ (bs : List ℕ). HasRecord least limit bs a body) (sym (same f (omega arith) lt)) r
        | inr here ↦ record_keeps least limit (old f) (new f) b a body r (subst (λ (k : ℕ). take b (new k) ≡ take b (old k)) (sym here.0) front) here.1
      ])
      (keeps more same front)
  keeps {old} {new} {g} {b} {f} {a} (turns e more) same front =
      let before : f < g = elim (in_order more) [ inl lt ↦ omega arith | inr here ↦ omega (arith, here.0) ] in
      turns (e ∙ ap length (sym (same f (omega arith) before))) (keeps more (λ k low high. same k (omega arith) high) front)

  pub one_way : {bytes : ℕ → List ℕ} {g b f a : ℕ} {xs : List (List ℕ)} → limit < 2 ^ 32 → Reads least limit bytes g b f a xs → (a' : ℕ) (ys : List (List ℕ)) → a ≡ a'
      → Reads least limit bytes g b f a' ys → xs ≡ ys
  one_way small (arrives e d) a' [] same other = refl
  one_way small (arrives e d) a' (y ∷ ys) same (takes _ r more) = absurd (elim (in_order more) [ inl lt ↦ omega arith | inr here ↦ omega (arith, here.1) ])
  one_way small (arrives e d) a' (y ∷ ys) same (turns _ more) = absurd (elim (in_order more) [ inl lt ↦ omega arith | inr here ↦ omega (arith, here.0) ])
  one_way small (takes x r rest) a' [] same (arrives e d) = absurd (elim (in_order rest) [ inl lt ↦ omega arith | inr here ↦ omega (arith, here.1) ])
  one_way {bytes} {f = f} {a = a} small (takes x r rest) a' [] same (turns e more) = absurd (omega (arith, record_ends least limit (bytes f) a x r, e))
  one_way {bytes} {f = f} {a = a} small (takes {bodies = xs} x r rest) a' (y ∷ ys) same (takes _ q more) =
      let first : x ≡ y = same_at least limit (bytes f) a' x y small (subst (λ (k : ℕ). HasRecord least limit (bytes f) k x) same r) q in
      ap (λ (z : List ℕ). z ∷ xs) first ∙ ap (λ (zs : List (List ℕ)). y ∷ zs) (one_way small rest (a' + (4 + length y)) ys (ap (λ (k : ℕ). k + (4 + length x)) same ∙ ap (λ (z : List ℕ). a' + (4 + length z)) first) more)
  one_way {bytes} {f = f} {a = a} small (takes x r rest) a' (y ∷ ys) same (turns e more) = absurd (omega (arith, record_ends least limit (bytes f) a x r, e))
  one_way small (turns e rest) a' ys same (arrives d _) = absurd (elim (in_order rest) [ inl lt ↦ omega arith | inr here ↦ omega (arith, here.0) ])
  one_way {bytes} {f = f} small (turns e rest) a' ys same (takes y q more) = absurd (omega (arith, record_ends least limit (bytes f) a' y q, e))
  one_way small (turns e rest) a' ys same (turns d more) = one_way small rest 0 ys refl more

  pub first_taken : {bytes : ℕ → List ℕ} {g b f a : ℕ} {x : List ℕ} {xs : List (List ℕ)} → Reads least limit bytes g b f a (x ∷ xs) → a < length (bytes f)
      → HasRecord least limit (bytes f) a x × Reads least limit bytes g b f (a + (4 + length x)) xs
  first_taken (takes x r more) inside = (r, more)
  first_taken (turns e more) inside = absurd (omega arith)

  pub turned : {bytes : ℕ → List ℕ} {g b f a : ℕ} {xs : List (List ℕ)} → Reads least limit bytes g b f a xs → f < g → a ≡ length (bytes f) → Reads least limit bytes g b (f + 1) 0 xs
  turned (arrives e d) before end = absurd (omega arith)
  turned {bytes} {f = f} {a = a} (takes x r more) before end = absurd (omega (arith, record_ends least limit (bytes f) a x r))
  turned (turns e more) before end = more
