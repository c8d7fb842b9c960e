-- What an exchange of two nodes keeps of the layout.
use Rattle.std.proofs.Common.{◌≡◌, ◌≢◌, ℕ, ◌+◌, ◌-◌, ◌*◌, ◌/◌, ◌<◌, ◌≤◌, List, length, length-set, slice_set, refl, sym, ap, ◌∙◌, arith}
use Rattle.std.proofs.lemmas.List.{get_or-set_same, get_or-set_other}
use Rattle.due_heap.specs.declared.node.Node.{Node}
use Rattle.due_heap.specs.Heap.{FewSteps}
use Rattle.due_heap.specs.Layout.{no_node, node_at, place_of, node_of, AboveChildren, Attached, Detached, Exchanged, FewSwaps, IsHeap, IsHeapBut, Matched, Moved}
use Rattle.due_heap.proofs.Rising.{by, not_after_trans, which}

abbrev pub nodes_set : List Node → ℕ → ℕ → List Node
nodes_set order i j = slice_set (slice_set order i (node_at order j)) j (node_at order i)

abbrev pub places_set : List Node → List ℕ → ℕ → ℕ → List ℕ
places_set order places i j = slice_set (slice_set places (node_at order j).slot i) (node_at order i).slot j

module _ (order : List Node) (places : List ℕ) (i j : ℕ) (m : Matched order places) (i_in : i < length order) (j_in : j < length order) where
  nodes_long : length (nodes_set order i j) ≡ length order
  nodes_long = length-set (slice_set order i (node_at order j)) j (node_at order i) ∙ length-set order i (node_at order j)

  places_long : length (places_set order places i j) ≡ length places
  places_long = length-set (slice_set places (node_at order j).slot i) (node_at order i).slot j ∙ length-set places (node_at order j).slot i

  node_j : node_at (nodes_set order i j) j ≡ node_at order i
  node_j = get_or-set_same (slice_set order i (node_at order j)) j (node_at order i) no_node (omega (arith, length-set order i (node_at order j)))

  node_i : node_at (nodes_set order i j) i ≡ node_at order j
  node_i = which i j
      (λ e. ap (node_at (nodes_set order i j)) e ∙ node_j ∙ ap (node_at order) e)
      (λ u. get_or-set_other (slice_set order i (node_at order j)) j i (node_at order i) no_node u ∙ get_or-set_same order i (node_at order j) no_node i_in)

  node_other : (k : ℕ) → k ≢ i → k ≢ j → node_at (nodes_set order i j) k ≡ node_at order k
  node_other k u v = get_or-set_other (slice_set order i (node_at order j)) j k (node_at order i) no_node v ∙ get_or-set_other order i k (node_at order j) no_node u

  slot_of_i : (node_at order i).slot < length places
  slot_of_i = omega (arith, m.slot_in i i_in, m.same_length)

  slot_of_j : (node_at order j).slot < length places
  slot_of_j = omega (arith, m.slot_in j j_in, m.same_length)

  same_place : (node_at order j).slot ≡ (node_at order i).slot → j ≡ i
  same_place e = sym (m.back j j_in) ∙ ap (place_of places) e ∙ m.back i i_in

  place_i : place_of (places_set order places i j) (node_at order i).slot ≡ j
  place_i = get_or-set_same (slice_set places (node_at order j).slot i) (node_at order i).slot j 0 (omega (arith, slot_of_i, length-set places (node_at order j).slot i))

  place_j : place_of (places_set order places i j) (node_at order j).slot ≡ i
  place_j = which (node_at order j).slot (node_at order i).slot
      (λ e. ap (place_of (places_set order places i j)) e ∙ place_i ∙ same_place e)
      (λ u. get_or-set_other (slice_set places (node_at order j).slot i) (node_at order i).slot (node_at order j).slot j 0 u ∙ get_or-set_same places (node_at order j).slot i 0 slot_of_j)

  place_other : (s : ℕ) → s ≢ (node_at order i).slot → s ≢ (node_at order j).slot → place_of (places_set order places i j) s ≡ place_of places s
  place_other s u v = get_or-set_other (slice_set places (node_at order j).slot i) (node_at order i).slot s j 0 u ∙ get_or-set_other places (node_at order j).slot s i 0 v

  slot_at : (k l : ℕ) → node_at (nodes_set order i j) k ≡ node_at order l → (node_at (nodes_set order i j) k).slot ≡ (node_at order l).slot
  slot_at k l e = ap (λ (n : Node). n.slot) e

  not_slot : (k l : ℕ) → k < length order → l < length order → k ≢ l → (node_at order k).slot ≢ (node_at order l).slot
  not_slot k l h g u e = u (sym (m.back k h) ∙ ap (place_of places) e ∙ m.back l g)

  not_place : (s l : ℕ) → s < length order → s ≢ (node_at order l).slot → place_of places s ≢ l
  not_place s l h u e = u (sym (m.there s h) ∙ ap (λ (k : ℕ). (node_at order k).slot) e)

  same_node : (k l : ℕ) → k ≡ l → node_at (nodes_set order i j) k ≡ node_at (nodes_set order i j) l
  same_node k l e = ap (node_at (nodes_set order i j)) e

  new_slot_in : (k : ℕ) → k < length order → (node_at (nodes_set order i j) k).slot < length order
  new_slot_in k h = which k i
      (λ e. let z = slot_at k j (same_node k i e ∙ node_i) in let y = m.slot_in j j_in in omega arith)
      (λ u. which k j
      (λ e. let z = slot_at k i (same_node k j e ∙ node_j) in let y = m.slot_in i i_in in omega arith)
      (λ v. let z = slot_at k k (node_other k u v) in let y = m.slot_in k h in omega arith))

  new_back : (k : ℕ) → k < length order → place_of (places_set order places i j) (node_at (nodes_set order i j) k).slot ≡ k
  new_back k h = which k i
      (λ e. ap (place_of (places_set order places i j)) (slot_at k j (same_node k i e ∙ node_i)) ∙ place_j ∙ sym e)
      (λ u. which k j
      (λ e. ap (place_of (places_set order places i j)) (slot_at k i (same_node k j e ∙ node_j)) ∙ place_i ∙ sym e)
      (λ v. ap (place_of (places_set order places i j)) (slot_at k k (node_other k u v)) ∙ place_other (node_at order k).slot (not_slot k i h i_in u) (not_slot k j h j_in v) ∙ m.back k h))

  new_place_in : (s : ℕ) → s < length order → place_of (places_set order places i j) s < length order
  new_place_in s h = which s (node_at order i).slot
      (λ e. let z = ap (place_of (places_set order places i j)) e ∙ place_i in omega arith)
      (λ u. which s (node_at order j).slot
      (λ e. let z = ap (place_of (places_set order places i j)) e ∙ place_j in omega arith)
      (λ v. let z = place_other s u v in let y = m.place_in s h in omega arith))

  new_there : (s : ℕ) → s < length order → (node_of (nodes_set order i j) (places_set order places i j) s).slot ≡ s
  new_there s h = which s (node_at order i).slot
      (λ e. slot_at (place_of (places_set order places i j) s) i (same_node (place_of (places_set order places i j) s) j (ap (place_of (places_set order places i j)) e ∙ place_i) ∙ node_j) ∙ sym e)
      (λ u. which s (node_at order j).slot
      (λ e. slot_at (place_of (places_set order places i j) s) j (same_node (place_of (places_set order places i j) s) i (ap (place_of (places_set order places i j)) e ∙ place_j) ∙ node_i) ∙ sym e)
      (λ v. slot_at (place_of (places_set order places i j) s) (place_of places s) (same_node (place_of (places_set order places i j) s) (place_of places s) (place_other s u v) ∙ node_other (place_of places s) (not_place s i h u) (not_place s j h v)) ∙ m.there s h))

  pub matched_exchanged : Matched (nodes_set order i j) (places_set order places i j)
  matched_exchanged = record {
    same_length = places_long ∙ m.same_length ∙ sym nodes_long;
    slot_in = λ k h. let z = new_slot_in k (omega (arith, nodes_long)) in omega (arith, nodes_long);
    back = λ k h. new_back k (omega (arith, nodes_long));
    place_in = λ s h. let z = new_place_in s (omega (arith, nodes_long)) in omega (arith, nodes_long);
    there = λ s h. new_there s (omega (arith, nodes_long));
  }

  pub exchanged_set : Exchanged order (nodes_set order i j) i j
  exchanged_set = record { same_length = nodes_long; at_i = node_i; at_j = node_j; others = node_other }

  nodes_stay : (s : ℕ) → s < length order → node_of (nodes_set order i j) (places_set order places i j) s ≡ node_of order places s
  nodes_stay s h = which s (node_at order i).slot
      (λ e. same_node (place_of (places_set order places i j) s) j (ap (place_of (places_set order places i j)) e ∙ place_i) ∙ node_j ∙ sym (ap (node_at order) (ap (place_of places) e ∙ m.back i i_in)))
      (λ u. which s (node_at order j).slot
      (λ e. same_node (place_of (places_set order places i j) s) i (ap (place_of (places_set order places i j)) e ∙ place_j) ∙ node_i ∙ sym (ap (node_at order) (ap (place_of places) e ∙ m.back j j_in)))
      (λ v. same_node (place_of (places_set order places i j) s) (place_of places s) (place_other s u v) ∙ node_other (place_of places s) (not_place s i h u) (not_place s j h v)))

  stays_inside : (n s : ℕ) → i < n → j < n → place_of places s < n → place_of (places_set order places i j) s < n
  stays_inside n s i_below j_below below = which s (node_at order i).slot
      (λ e. let z = ap (place_of (places_set order places i j)) e ∙ place_i in omega arith)
      (λ u. which s (node_at order j).slot
      (λ e. let z = ap (place_of (places_set order places i j)) e ∙ place_j in omega arith)
      (λ v. let z = place_other s u v in omega arith))

  stays_outside : (n s : ℕ) → i < n → j < n → n ≤ place_of places s → place_of (places_set order places i j) s ≡ place_of places s
  stays_outside n s i_below j_below above = which s (node_at order i).slot
      (λ e. absurd (let z = ap (place_of places) e ∙ m.back i i_in in omega arith))
      (λ u. which s (node_at order j).slot
      (λ e. absurd (let z = ap (place_of places) e ∙ m.back j j_in in omega arith))
      (λ v. place_other s u v))

  pub moved_set : (n : ℕ) → i < n → j < n → Moved n order places (nodes_set order i j) (places_set order places i j)
  moved_set n i_below j_below = record {
    same_length = nodes_long;
    nodes = nodes_stay;
    inside = λ s h below. stays_inside n s i_below j_below below;
    outside = λ s h above. stays_outside n s i_below j_below above;
  }

-- the last node of a heap taken out
pub detached_last : {order : List Node} {places : List ℕ} {last place : ℕ} → Matched order places → place ≡ last → last < length order → Detached last (node_at order place).slot order places order places
detached_last {order} {places} {last} {place} m is in_range = record {
  same_length = refl;
  place = let z = m.back place (omega arith) in omega arith;
  nodes = λ s h. refl;
  inside = λ s h u below. which (place_of places s) place (λ e. absurd (u (sym (m.there s h) ∙ ap (λ (k : ℕ). (node_at order k).slot) e))) (λ v. omega arith);
  outside = λ s h above. refl;
}

-- a heap whose last node came to a place of another one: without it it would be a heap
pub but_place : {order order' : List Node} {last place : ℕ} → Exchanged order order' place last → place < last → IsHeap order (last + 1) → IsHeapBut order' last place
but_place {order} {order'} {last} {place} s below heap = record {
  others = λ p k a b f u v. by (s.others p u (omega arith)) (s.others k v (omega arith)) (heap p k a b (omega arith));
  across = λ p k from to a b f. by (s.others p (omega arith) (omega arith)) (s.others k (omega arith) (omega arith)) (not_after_trans (heap p place from to (omega arith)) (heap place k a b (omega arith)));
}

-- a node taken out: the last one came to its place, and then moved to where it belongs
pub detached_moved : {order mid new : List Node} {places mid_places new_places : List ℕ} {last place : ℕ} → Matched order places → Matched mid mid_places → place < length order → last < length order → Exchanged order mid place last → Moved (last + 1) order places mid mid_places → Moved last mid mid_places new new_places
    → Detached last (node_at order place).slot order places new new_places
detached_moved {order} {mid} {new} {places} {mid_places} {new_places} {last} {place} m n in_range last_in s first second =
    let slot = (node_at order place).slot in
    let long = s.same_length in
    let there : place_of mid_places slot ≡ last = ap (λ (x : Node). place_of mid_places x.slot) (sym s.at_j) ∙ n.back last (omega (arith, long)) in
    let slot_in = m.slot_in place in_range in
    record {
      same_length = second.same_length ∙ first.same_length;
      place = let z = second.outside slot (omega (arith, long, slot_in)) (omega (arith, there)) in omega (arith, z, there);
      nodes = λ s h. second.nodes s (omega (arith, long, h)) ∙ first.nodes s h;
      inside = λ k h u below.
          let z = first.inside k h below in
          let w : place_of mid_places k ≢ last = (λ e. u (sym (n.there k (omega (arith, long, h))) ∙ ap (λ (j : ℕ). (node_at mid j).slot) e ∙ ap (λ (x : Node). x.slot) s.at_j)) in
          second.inside k (omega (arith, long, h)) (omega (arith, z, w));
      outside = λ k h above. let z = first.outside k h above in second.outside k (omega (arith, long, h)) (omega (arith, z, above)) ∙ z;
    }

-- a node written where the heap ends, of the slot that stands there
module _ (order : List Node) (places : List ℕ) (place : ℕ) (node : Node) (m : Matched order places) (in' : place < length order) (slot : node.slot ≡ (node_at order place).slot) where
  put_long : length (slice_set order place node) ≡ length order
  put_long = length-set order place node

  put_there : node_at (slice_set order place node) place ≡ node
  put_there = get_or-set_same order place node no_node in'

  put_other : (k : ℕ) → k ≢ place → node_at (slice_set order place node) k ≡ node_at order k
  put_other k u = get_or-set_other order place k node no_node u

  put_slot : (k : ℕ) → (node_at (slice_set order place node) k).slot ≡ (node_at order k).slot
  put_slot k = which k place
      (λ e. ap (λ (i : ℕ). (node_at (slice_set order place node) i).slot) e ∙ ap (λ (n : Node). n.slot) put_there ∙ slot ∙ sym (ap (λ (i : ℕ). (node_at order i).slot) e))
      (λ u. ap (λ (n : Node). n.slot) (put_other k u))

  pub put_matched : Matched (slice_set order place node) places
  put_matched = record {
    same_length = m.same_length ∙ sym put_long;
    slot_in = λ k h. let z = put_slot k in let y = m.slot_in k (omega (arith, put_long)) in omega (arith, put_long);
    back = λ k h. ap (place_of places) (put_slot k) ∙ m.back k (omega (arith, put_long));
    place_in = λ s h. let z = m.place_in s (omega (arith, put_long)) in omega (arith, put_long);
    there = λ s h. put_slot (place_of places s) ∙ m.there s (omega (arith, put_long));
  }

  pub put_within : place + 1 ≤ length (slice_set order place node)
  put_within = omega (arith, put_long)

  -- the heap is one but for that node
  pub put_but : IsHeap order place → IsHeapBut (slice_set order place node) (place + 1) place
  put_but heap = record {
    others = λ p k a b f u v. by (put_other p (omega arith)) (put_other k v) (heap p k a b (omega arith));
    across = λ p k from to a b f. absurd (omega arith);
  }

  pub put_above : AboveChildren (slice_set order place node) (place + 1) place place
  put_above = λ k a b f. absurd (omega arith)

  pub put_attached : {new : List Node} {new_places : List ℕ} → Moved (place + 1) (slice_set order place node) places new new_places → Attached place node.slot node.due node.number order places new new_places
  put_attached {new} {new_places} v =
      let at : place_of places node.slot ≡ place = ap (place_of places) slot ∙ m.back place in' in
      let within : node.slot < length order = (let y = m.slot_in place in' in omega (arith, slot)) in
      record {
        same_length = v.same_length ∙ put_long;
        here = v.nodes node.slot (omega (arith, put_long, within)) ∙ ap (node_at (slice_set order place node)) at ∙ put_there;
        place = v.inside node.slot (omega (arith, put_long, within)) (omega (arith, at));
        nodes = λ s h u. v.nodes s (omega (arith, put_long)) ∙ put_other (place_of places s) (λ e. u (sym (m.there s h) ∙ ap (λ (k : ℕ). (node_at order k).slot) e ∙ sym slot));
        inside = λ s h below. v.inside s (omega (arith, put_long)) below;
        outside = λ s h above. v.outside s (omega (arith, put_long)) above;
      }

-- few swaps behind a write, or behind an exchange, are few steps
pub few_attached : (place before mid now : ℕ) → mid ≡ before + 1 → FewSwaps (place + 1) mid now → FewSteps place before now
few_attached place before mid now e few d h = let z = few d h in omega arith

pub few_detached : (last before mid now : ℕ) → mid ≡ before + 2 → FewSwaps last mid now → FewSteps (last + 1) before now
few_detached last before mid now e few d h = let z = few d (omega arith) in omega arith

pub few_none : (items before : ℕ) → FewSteps items before before
few_none items before d h = omega arith

pub heap_less : (order : List Node) (last : ℕ) → IsHeap order (last + 1) → IsHeap order last
heap_less order last heap p k a b f = heap p k a b (omega arith)

-- places
pub place_next : (place : ℕ) → place < place + 1
place_next place = omega arith

pub next_of : {a b : ℕ} → a ≤ b → a < b + 1
next_of {a} {b} h = omega arith

pub less_or : {a b : ℕ} → a < b → a ≤ b
less_or {a} {b} h = omega arith

pub below_both : {a b n : ℕ} → a ≤ b → b < n → a < n
below_both {a} {b} {n} h k = omega arith

pub not_last : {a b : ℕ} → a ≤ b → a ≢ b → a < b
not_last {a} {b} h u = omega arith

pub within_same : {n a b : ℕ} → n ≤ a → b ≡ a → n ≤ b
within_same {n} {a} {b} h e = omega arith

pub place_within : {j n a b : ℕ} → j < n → n ≤ a → b ≡ a → j < b
place_within {j} {n} {a} {b} h k e = omega arith

pub parent_within : {j n a b : ℕ} → j < n → n ≤ a → b ≡ a → (j - 1) / 2 < b
parent_within {j} {n} {a} {b} h k e = omega arith

pub parent_less : {j : ℕ} → 0 < j → (j - 1) / 2 < j
parent_less {j} h = omega arith

pub has_child : {j n : ℕ} → j < n / 2 → j * 2 + 1 < n
has_child {j} {n} h = omega arith

pub child_nearer : (j : ℕ) {c n : ℕ} → j * 2 + 1 ≤ c → c < n → n - c < n - j
child_nearer j {c} {n} h k = omega arith
