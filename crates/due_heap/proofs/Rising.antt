-- What an exchange of a node with its parent or a child keeps, and how few exchanges there are.
use Rattle.std.proofs.Common.{◌≡◌, ◌≢◌, ℕ, ◌+◌, ◌-◌, ◌*◌, ◌/◌, ◌^◌, ◌<◌, ◌≤◌, suc, List, refl, ap, ◌∙◌, ◌⊎◌, inl, inr, arith}
use Rattle.std.proofs.Math.Pow.{pow_mono}
use Rattle.std.proofs.Math.Nat.{pow-suc, mul_comm, mul_assoc, mul-le-mul_right}
use Rattle.std.proofs.lemmas.Bool.{cases_order, cases_lt}
use Rattle.due_heap.specs.declared.node.Node.{Node}
use Rattle.due_heap.specs.Layout.{node_at, NotAfter, IsHeap, IsHeapBut, AboveChildren, BelowParent, Exchanged, Moved, FewSwaps}

-- a node that rose to j by so many exchanges
pub record Climbed (n before now j : ℕ) : Type 0 where
  pub count : ℕ
  pub is : now ≡ before + 2 * count
  pub low : (j + 1) * 2 ^ count ≤ n

-- a node that sank to j by so many exchanges
pub record Sunk (n before now j : ℕ) : Type 0 where
  pub count : ℕ
  pub is : now ≡ before + 2 * count
  pub high : 2 ^ count ≤ j + 1

pub climb_begins : (n s j : ℕ) → j < n → Climbed n s s j
climb_begins n s j h = record { count = 0; is = omega arith; low = omega arith }

twice : (a b p n : ℕ) → a * 2 ≤ b → b * p ≤ n → a * (p * 2) ≤ n
twice a b p n h k = rw (mul_comm p 2, ← mul_assoc a 2 p) (omega (arith, mul-le-mul_right {m = a * 2} {n = b} p h))

pub climb_steps : {n before now j after : ℕ} → Climbed n before now j → 0 < j → after ≡ now + 2 → Climbed n before after ((j - 1) / 2)
climb_steps {n} {before} {now} {j} c h e = record {
  count = suc c.count;
  is = omega arith;
  low = rw (pow-suc 2 c.count) (twice ((j - 1) / 2 + 1) (j + 1) (2 ^ c.count) n (omega arith) c.low);
}

few : (n before now k : ℕ) → now ≡ before + 2 * k → 2 ^ k ≤ n → FewSwaps n before now
few n before now k is le d h = at (cases_lt d k)
  where
    at : (d < k) ⊎ (k ≤ d) → now ≤ before + 2 * d
    at (inl less) = absurd (omega (arith, pow_mono {i = d + 1} {j = k} (omega arith)))
    at (inr more) = omega arith

pub climb_ends : {n before now j : ℕ} → Climbed n before now j → FewSwaps n before now
climb_ends {n} {before} {now} {j} c = few n before now c.count c.is (above (2 ^ c.count) c.low)
  where
    above : (p : ℕ) → (j + 1) * p ≤ n → p ≤ n
    above p h = grind arith

pub sink_begins : (n s j : ℕ) → Sunk n s s j
sink_begins n s j = record { count = 0; is = omega arith; high = omega arith }

pub sink_steps : {n before now j c after : ℕ} → Sunk n before now j → j * 2 + 1 ≤ c → after ≡ now + 2 → Sunk n before after c
sink_steps {n} {before} {now} {j} {c} s h e = record {
  count = suc s.count;
  is = omega arith;
  high = rw (pow-suc 2 s.count) (omega (arith, s.high));
}

pub sink_ends : {n before now j : ℕ} → Sunk n before now j → j < n → FewSwaps n before now
sink_ends {n} {before} {now} {j} s h = few n before now s.count s.is (omega arith)

pub not_after_trans : {a b c : Node} → NotAfter a b → NotAfter b c → NotAfter a c
not_after_trans {a} {b} {c} h k = record {
  due = omega arith;
  number = λ e. let f : a.due ≡ b.due = omega arith in let g : b.due ≡ c.due = omega arith in
      let u = h.number f in let v = k.number g in omega arith;
  slot = λ e m. let f : a.due ≡ b.due = omega arith in let g : b.due ≡ c.due = omega arith in
      let u = h.number f in let v = k.number g in
      let p : a.number ≡ b.number = omega arith in let q : b.number ≡ c.number = omega arith in
      let x = h.slot f p in let y = k.slot g q in omega arith;
}

pub not_after_itself : (a : Node) → NotAfter a a
not_after_itself a = record { due = omega arith; number = λ e. omega arith; slot = λ e m. omega arith }

pub by : {a b x y : Node} → a ≡ x → b ≡ y → NotAfter x y → NotAfter a b
by p q h = rw (p, q) h

pub which : {A : Type 0} (a b : ℕ) → (a ≡ b → A) → (a ≢ b → A) → A
which {A} a b f g = at (cases_order a b)
  where
    at : (a ≡ b) ⊎ ((a < b) ⊎ (b < a)) → A
    at (inl e) = f e
    at (inr (inl h)) = g (λ e. omega arith)
    at (inr (inr h)) = g (λ e. omega arith)

module _ {xs ys : List Node} {n j c : ℕ} (s : Exchanged xs ys j c) (from : j * 2 + 1 ≤ c) (to : c ≤ j * 2 + 2) (in' : c < n) where
  at_same : (k i : ℕ) → k ≡ i → node_at ys k ≡ node_at ys i
  at_same k i e = ap (node_at ys) e

  -- the node at c is before its parent at j, and they are exchanged
  pub rises : NotAfter (node_at xs c) (node_at xs j) → IsHeapBut xs n c → IsHeapBut ys n j
  rises t h = record {
    others = λ p k a b f u v. which p c
        (λ e. by (ap (node_at ys) e ∙ s.at_j) (s.others k v (omega arith)) (h.across j k from to (omega arith) (omega arith) f))
        (λ w. let z : k ≢ c = omega arith in by (s.others p u w) (s.others k v z) (h.others p k a b f w z));
    across = λ p k a b f g i.
        let over = h.others p j a b (omega arith) (omega arith) (omega arith) in
        let same = s.others p (omega arith) (omega arith) in
        which k c
        (λ e. by same (ap (node_at ys) e ∙ s.at_j) over)
        (λ w. by same (s.others k (omega arith) w) (not_after_trans over (h.others j k f g i (omega arith) w)));
  }

  pub rises_above : NotAfter (node_at xs c) (node_at xs j) → IsHeapBut xs n c → AboveChildren ys n j j
  rises_above t h = λ k a b f. which k c
      (λ e. by s.at_i (ap (node_at ys) e ∙ s.at_j) t)
      (λ w. by s.at_i (s.others k (omega arith) w) (not_after_trans t (h.others j k a b f (omega arith) w)))

  -- the node at c is before its parent at j, and no other child is before it, and they are exchanged
  pub sinks : AboveChildren xs n j c → IsHeapBut xs n j → IsHeapBut ys n c
  sinks best h = record {
    others = λ p k a b f u v. which p j
        (λ e. by (ap (node_at ys) e ∙ s.at_i) (s.others k (omega arith) v) (best k (omega arith) (omega arith) f))
        (λ w. which k j
        (λ e. by (s.others p w u) (ap (node_at ys) e ∙ s.at_i) (h.across p c (omega arith) (omega arith) from to in'))
        (λ z. by (s.others p w u) (s.others k z v) (h.others p k a b f w z)));
    across = λ p k a b f g i.
        let e : p ≡ j = omega arith in
        by (ap (node_at ys) e ∙ s.at_i) (s.others k (omega arith) (omega arith)) (h.others c k f g i (omega arith) (omega arith));
  }

  pub sinks_below : NotAfter (node_at xs c) (node_at xs j) → BelowParent ys c
  sinks_below t = λ p a b. let e : p ≡ j = omega arith in by (ap (node_at ys) e ∙ s.at_i) s.at_j t

-- a heap but for the node at j, which isn't after its children nor before its parent, is a heap
pub closes : {xs : List Node} {n j : ℕ} → IsHeapBut xs n j → AboveChildren xs n j j → BelowParent xs j → IsHeap xs n
closes {xs} {n} {j} h above below p c a b f = which p j
    (λ e. by (ap (node_at xs) e) refl (above c (omega arith) (omega arith) f))
    (λ u. which c j
    (λ e. by refl (ap (node_at xs) e) (below p (omega arith) (omega arith)))
    (λ v. h.others p c a b f u v))

-- the node at j has no parent, or isn't before the one that it has
pub no_parent : (xs : List Node) (j : ℕ) → j ≡ 0 → BelowParent xs j
no_parent xs j e p a b = absurd (omega arith)

pub one_parent : (xs : List Node) (j : ℕ) → NotAfter (node_at xs ((j - 1) / 2)) (node_at xs j) → BelowParent xs j
one_parent xs j t p a b = let e : p ≡ (j - 1) / 2 = omega arith in by (ap (node_at xs) e) refl t

-- the first child is after the node, so both are
pub above_both : (xs : List Node) (n j c : ℕ) → AboveChildren xs n j c → NotAfter (node_at xs j) (node_at xs c) → AboveChildren xs n j j
above_both xs n j c best t k a b f = not_after_trans t (best k a b f)

pub no_child : (xs : List Node) (n j : ℕ) → n / 2 ≤ j → AboveChildren xs n j j
no_child xs n j h k a b f = absurd (omega arith)

-- what was before its parent is before its children
pub above_from_across : {xs : List Node} {n j : ℕ} → 0 < j → NotAfter (node_at xs j) (node_at xs ((j - 1) / 2)) → IsHeapBut xs n j → AboveChildren xs n j j
above_from_across {xs} {n} {j} z t h k a b f = not_after_trans t (h.across ((j - 1) / 2) k (omega arith) (omega arith) a b f)

pub moved_not : {n : ℕ} (order : List Node) (places : List ℕ) → Moved n order places order places
moved_not order places = record { same_length = refl; nodes = λ s h. refl; inside = λ s h i. i; outside = λ s h i. refl }

pub moved_again : {n : ℕ} {a b c : List Node} {p q r : List ℕ} → Moved n a p b q → Moved n b q c r → Moved n a p c r
moved_again {n} {a} {b} {c} {p} {q} {r} h k = record {
  same_length = k.same_length ∙ h.same_length;
  nodes = λ s i. k.nodes s (omega (arith, h.same_length)) ∙ h.nodes s i;
  inside = λ s i z. k.inside s (omega (arith, h.same_length)) (h.inside s i z);
  outside = λ s i z. let e = h.outside s i z in k.outside s (omega (arith, h.same_length)) (omega arith) ∙ e;
}
