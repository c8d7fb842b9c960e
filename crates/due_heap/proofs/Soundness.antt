-- What the calls keep of the layout.
use Rattle.std.proofs.Common.{◌≡◌, ◌≢◌, ℕ, zero, suc, ◌+◌, ◌-◌, ◌/◌, ◌^◌, ◌<◌, ◌≤◌, min, List, [], ◌∷◌, ◌++◌, length, Option, Some, None, slice_index_or, slice_set, refl, sym, ap, ◌∙◌, subst, ◌⊎◌, inl, inr, arith}
use Rattle.std.proofs.lemmas.List.{get_or-set_same, get_or-set_other}
use Rattle.std.proofs.Common.{length-set, length-append}
use Rattle.std.proofs.Math.ListN.{get_or-append}
use Rattle.std.proofs.Math.Seq.{get_or-append_seam}
use Rattle.std.proofs.lemmas.Bool.{cases_lt}
use Rattle.due_heap.specs.declared.node.Node.{Node}
use Rattle.due_heap.specs.declared.slots.Held.{Held}
use Rattle.due_heap.specs.Layout.{node_at, place_of, node_of, NotAfter, no_node, Matched, IsHeap, Attached, Detached, Shows, IsSound, SlotsAdded, listed}
use Rattle.due_heap.proofs.Rising.{which, not_after_trans, not_after_itself}
use Rattle.due_heap.proofs.Listing.{length-filled, length-freed, listed_more, in_slots}

-- no node is before the root
pub root_first : (order : List Node) (n : ℕ) → IsHeap order n → (fuel k : ℕ) → k ≤ fuel → k < n → NotAfter (node_at order 0) (node_at order k)
root_first order n h zero k a b = let e : 0 ≡ k = omega arith in subst (λ (m : ℕ). NotAfter (node_at order 0) (node_at order m)) e (not_after_itself (node_at order 0))
root_first order n h (suc fuel) k a b = which 0 k
    (λ e. subst (λ (m : ℕ). NotAfter (node_at order 0) (node_at order m)) e (not_after_itself (node_at order 0)))
    (λ u. not_after_trans (root_first order n h fuel ((k - 1) / 2) (omega arith) (omega arith)) (h ((k - 1) / 2) k (omega arith) (omega arith) b))

new_shown : (made made' : ℕ) → made < 2 ^ 64 → made' ≡ min (made + 1) (2 ^ 64 - 1) → (made < made') ⊎ (made' ≡ 2 ^ 64 - 1)
new_shown made made' h e = choose (cases_lt made (2 ^ 64 - 1))
  where
    choose : (made < 2 ^ 64 - 1) ⊎ (2 ^ 64 - 1 ≤ made) → (made < made') ⊎ (made' ≡ 2 ^ 64 - 1)
    choose (inl l) = inl (omega arith)
    choose (inr l) = inr (omega arith)

-- room that is made: no more is asked for than is wanting
pub no_want : (items was len cap count n more spare : ℕ) → was ≡ items → len ≡ items → len ≤ cap → items - count ≡ spare → more ≡ n - (was - count) → cap < len + more → n ≤ spare → ⊥
no_want items was len cap count n more spare w e k s m full fits = omega arith

pub room_for : {a items len cap : ℕ} (more : ℕ) → len + more ≤ cap → len ≡ items → items ≡ a → a + more ≤ cap
room_for {a} {items} {len} {cap} more h e f = omega arith

pub room_made : (items len count n more now : ℕ) → len ≡ items → count ≤ items → more ≡ n - (len - count) → now ≡ items + more → n ≤ now - count
room_made items len count n more now e within m longer = omega arith

pub spare_kept : {A : Type 0} (old new : List A) (count spare : ℕ) → new ≡ old → length old - count ≡ spare → spare ≤ length new - count
spare_kept old new count spare e s = omega (arith, ap length e)

pub spare_made : (items count more now spare : ℕ) → items - count ≡ spare → now ≡ items + more → spare ≤ now - count
spare_made items count more now spare s longer = omega arith

module _ {T : Type 0} where
  pub shows_node : (count made s place : ℕ) (node : Node) (h : Held T) (o : Option (Held T)) → o ≡ Some h → Shows count made s node place o → (place < count) × (node ≡ record { due = h.due; number = h.number; slot = s }) × ((h.number < made) ⊎ (made ≡ 2 ^ 64 - 1))
  shows_node count made s place node h None e w = cc
  shows_node count made s place node h (Some g) e w = let i : g ≡ h = cc in subst (λ (x : Held T). Shows count made s node place (Some x)) i w

  shows_same : (count made s : ℕ) {place place' : ℕ} {node node' : Node} {o o' : Option (Held T)} → node' ≡ node → place' ≡ place → o' ≡ o → Shows count made s node place o → Shows count made s node' place' o'
  shows_same count made s p q r w = rw (p, q, r) w

  -- a slot whose place lies behind the heap is free
  free_behind : (count made s place : ℕ) (node : Node) (o : Option (Held T)) → count ≤ place → Shows count made s node place o → o ≡ None
  free_behind count made s place node None h w = refl
  free_behind count made s place node (Some g) h w = absurd (omega (arith, w.0))

  module _ (order order' : List Node) (places places' : List ℕ) (slots slots' : List (Option (Held T))) (n count made : ℕ) (node : Node) (s : IsSound order places slots count made) (e : length order ≡ n) (e' : length order' ≡ suc n) (long : length places' ≡ suc n) (slots_long : length slots' ≡ suc n) (node_slot : node.slot ≡ n)
      (at : (i : ℕ) → i < n → node_at order' i ≡ node_at order i) (last : node_at order' n ≡ node)
      (place_at : (i : ℕ) → i < n → place_of places' i ≡ place_of places i) (place_last : place_of places' n ≡ n)
      (slot_at : (i : ℕ) → i < n → slice_index_or slots' i None ≡ slice_index_or slots i None) (slot_last : slice_index_or slots' n None ≡ None) (entries : listed 0 slots' ≡ listed 0 slots) where
    slot_same : (i : ℕ) → i < n → (node_at order' i).slot ≡ (node_at order i).slot
    slot_same i h = ap (λ (x : Node). x.slot) (at i h)

    slot_new : (i : ℕ) → i ≡ n → (node_at order' i).slot ≡ n
    slot_new i h = ap (λ (i : ℕ). (node_at order' i).slot) h ∙ ap (λ (x : Node). x.slot) last ∙ node_slot

    of_same : (i : ℕ) → i < n → node_of order' places' i ≡ node_of order places i
    of_same i h = ap (node_at order') (place_at i h) ∙ at (place_of places i) (let k = s.matched.place_in i (omega arith) in omega arith)

    matched_more : Matched order' places'
    matched_more = record {
      same_length = omega arith;
      slot_in = λ i h. which i n
          (λ q. let z = slot_new i q in omega arith)
          (λ u. let z = slot_same i (omega arith) in let y = s.matched.slot_in i (omega arith) in omega arith);
      back = λ i h. which i n
          (λ q. ap (place_of places') (slot_new i q) ∙ place_last ∙ sym q)
          (λ u. ap (place_of places') (slot_same i (omega arith)) ∙ place_at (node_at order i).slot (let y = s.matched.slot_in i (omega arith) in omega arith) ∙ s.matched.back i (omega arith));
      place_in = λ i h. which i n
          (λ q. let z = ap (place_of places') q in omega (arith, z, place_last))
          (λ u. let z = place_at i (omega arith) in let y = s.matched.place_in i (omega arith) in omega arith);
      there = λ i h. which i n
          (λ q. slot_new (place_of places' i) (ap (place_of places') q ∙ place_last) ∙ sym q)
          (λ u. ap (λ (x : Node). x.slot) (of_same i (omega arith)) ∙ s.matched.there i (omega arith));
    }

    within_more : count ≤ n
    within_more = omega (arith, s.within)

    heap_more : IsHeap order' count
    heap_more p c a b f = rw (at p (omega (arith, within_more)), at c (omega (arith, within_more))) (s.heap p c a b f)

    pub sound_more : IsSound order' places' slots' count made
    sound_more = record {
      matched = matched_more;
      as_long = omega arith;
      within = omega (arith, within_more);
      heap = heap_more;
      counted = ap length entries ∙ s.counted;
      fits = s.fits;
      shown = λ i h. which i n
          (λ q. let o : slice_index_or slots' i None ≡ None = ap (λ (j : ℕ). slice_index_or slots' j None) q ∙ slot_last in
          let z : place_of places' i ≡ n = ap (place_of places') q ∙ place_last in
          rw o (omega (arith, within_more)))
          (λ u. shows_same count made i (of_same i (omega arith)) (place_at i (omega arith)) (slot_at i (omega arith)) (s.shown i (omega arith)));
    }

  -- insert
  still_shown : (count made made' s place place' : ℕ) (node : Node) → place ≢ count → (place < count + 1 → place' < count + 1) → (count + 1 ≤ place → place' ≡ place) → made < 2 ^ 64 → made' ≡ min (made + 1) (2 ^ 64 - 1) → (o : Option (Held T)) → Shows count made s node place o → Shows (count + 1) made' s node place' o
  still_shown count made made' s place place' node u inside outside fits is None w = let z = outside (omega arith) in omega arith
  still_shown count made made' s place place' node u inside outside fits is (Some g) w = (inside (omega (arith, w.0)), w.1, numbered w.2)
    where
      numbered : (g.number < made) ⊎ (made ≡ 2 ^ 64 - 1) → (g.number < made') ⊎ (made' ≡ 2 ^ 64 - 1)
      numbered (inl h) = inl (omega arith)
      numbered (inr h) = inr (omega arith)

  module _ {order : List Node} {places : List ℕ} {slots : List (Option (Held T))} {count made : ℕ} (s : IsSound order places slots count made) (slot : ℕ) (room : count < length order) (is : slot ≡ (node_at order count).slot) where
    pub slot_in : slot < length order
    slot_in = let y = s.matched.slot_in count room in omega arith

    pub slot_place : place_of places slot ≡ count
    slot_place = ap (place_of places) is ∙ s.matched.back count room

    pub is_free : slice_index_or slots slot None ≡ None
    is_free = free_behind count made slot (place_of places slot) (node_of order places slot) (slice_index_or slots slot None) (let z = slot_place in omega arith) (s.shown slot slot_in)

    not_there : (i : ℕ) → i < length order → i ≢ slot → place_of places i ≢ count
    not_there i h u e = u (sym (s.matched.there i h) ∙ ap (λ (j : ℕ). (node_at order j).slot) e ∙ sym is)

    pub inserted : {order' : List Node} {places' : List ℕ} {slots' : List (Option (Held T))} {made' : ℕ} (h : Held T) → Matched order' places' → IsHeap order' (count + 1) → Attached count slot h.due h.number order places order' places' → slots' ≡ slice_set slots slot (Some h) → h.number ≡ made → made' ≡ min (made + 1) (2 ^ 64 - 1) → IsSound order' places' slots' (count + 1) made'
    inserted {order'} {places'} {slots'} {made'} h m heap a e num next = record {
      matched = m;
      as_long = ap length e ∙ length-set slots slot (Some h) ∙ s.as_long ∙ sym a.same_length;
      within = omega (arith, a.same_length);
      heap = heap;
      counted = ap (λ (l : List (Option (Held T))). length (listed 0 l)) e ∙ length-filled 0 slot slots h (omega (arith, slot_in, s.as_long)) is_free ∙ (let z = s.counted in omega arith);
      fits = omega arith;
      shown = λ i l. which i slot
          (λ q.
          let o : slice_index_or slots' i None ≡ Some h = (λ j. slice_index_or (e j) (q j) None) ∙ get_or-set_same slots slot (Some h) None (omega (arith, slot_in, s.as_long)) in
          let node : node_of order' places' i ≡ record { due = h.due; number = h.number; slot = i } = ap (node_of order' places') q ∙ a.here ∙ ap (λ (j : ℕ). record { due = h.due; number = h.number; slot = j }) (sym q) in
          let place : place_of places' i < count + 1 = subst (λ (j : ℕ). place_of places' j < count + 1) (sym q) a.place in
          let n : (h.number < made') ⊎ (made' ≡ 2 ^ 64 - 1) = subst (λ (j : ℕ). (j < made') ⊎ (made' ≡ 2 ^ 64 - 1)) (sym num) (new_shown made made' s.fits next) in
          rw o (place, node, n))
          (λ u.
          let old : i < length order = omega (arith, a.same_length) in
          let o : slice_index_or slots' i None ≡ slice_index_or slots i None = ap (λ (l : List (Option (Held T))). slice_index_or l i None) e ∙ get_or-set_other slots slot i (Some h) None u in
          shows_same (count + 1) made' i (a.nodes i old u) refl o (still_shown count made made' i (place_of places i) (place_of places' i) (node_of order places i) (not_there i old u) (a.inside i old) (a.outside i old) s.fits next (slice_index_or slots i None) (s.shown i old)));
    }

  -- remove
  yet_shown : (count made s place place' : ℕ) (node : Node) → (place < count + 1 → place' < count) → (count + 1 ≤ place → place' ≡ place) → (o : Option (Held T)) → Shows (count + 1) made s node place o → Shows count made s node place' o
  yet_shown count made s place place' node inside outside None w = let z = outside w in omega arith
  yet_shown count made s place place' node inside outside (Some g) w = (inside w.0, w.1, w.2)

  module _ {order : List Node} {places : List ℕ} {slots : List (Option (Held T))} (last made slot place : ℕ) {h : Held T} (s : IsSound order places slots (last + 1) made) (held : slice_index_or slots slot None ≡ Some h) (is : place ≡ place_of places slot) where
    pub slot_within : slot < length order
    slot_within = let z = in_slots slot slots h held in omega (arith, s.as_long)

    pub place_within : place < last + 1
    place_within = let z = (shows_node (last + 1) made slot (place_of places slot) (node_of order places slot) h (slice_index_or slots slot None) held (s.shown slot slot_within)).0 in omega arith

    its_slot : (node_at order place).slot ≡ slot
    its_slot = ap (λ (j : ℕ). (node_at order j).slot) is ∙ s.matched.there slot slot_within

    pub removed : {order' : List Node} {places' : List ℕ} {slots' : List (Option (Held T))} → Matched order' places' → IsHeap order' last → Detached last (node_at order place).slot order places order' places' → slots' ≡ slice_set slots slot None → IsSound order' places' slots' last made
    removed {order'} {places'} {slots'} m heap d e = record {
      matched = m;
      as_long = ap length e ∙ length-set slots slot None ∙ s.as_long ∙ sym d.same_length;
      within = omega (arith, d.same_length, s.within);
      heap = heap;
      counted = ap (λ (l : List (Option (Held T))). length (listed 0 l)) e ∙ (let z = length-freed 0 slot slots h held in let y = s.counted in omega arith);
      fits = s.fits;
      shown = λ i l. which i slot
          (λ q.
          let o : slice_index_or slots' i None ≡ None = (λ j. slice_index_or (e j) (q j) None) ∙ get_or-set_same slots slot None None (in_slots slot slots h held) in
          let place : last ≤ place_of places' i = subst (λ (j : ℕ). last ≤ place_of places' j) (its_slot ∙ sym q) d.place in
          rw o place)
          (λ u.
          let old : i < length order = omega (arith, d.same_length) in
          let v : i ≢ (node_at order place).slot = λ w. u (w ∙ its_slot) in
          let o : slice_index_or slots' i None ≡ slice_index_or slots i None = ap (λ (l : List (Option (Held T))). slice_index_or l i None) e ∙ get_or-set_other slots slot i None None u in
          shows_same last made i (d.nodes i old) refl o (yet_shown last made i (place_of places i) (place_of places' i) (node_of order places i) (d.inside i old v) (d.outside i old) (slice_index_or slots i None) (s.shown i old)));
    }

  pub sound_pushed : {order order' : List Node} {places places' : List ℕ} {slots slots' : List (Option (Held T))} {n count made : ℕ} → IsSound order places slots count made → length order ≡ n → order' ≡ order ++ record { due = 0; number = 0; slot = n } ∷ [] → places' ≡ places ++ n ∷ [] → slots' ≡ slots ++ None ∷ [] → IsSound order' places' slots' count made
  sound_pushed {order} {order'} {places} {places'} {slots} {slots'} {n} {count} {made} s e a b d =
      let new : Node = record { due = 0; number = 0; slot = n } in
      let pl : length places ≡ n = s.matched.same_length ∙ e in
      let sl : length slots ≡ n = s.as_long ∙ e in
      sound_more order order' places places' slots slots' n count made new s e
      (ap length a ∙ (let z = length-append order (new ∷ []) in omega arith))
      (ap length b ∙ (let z = length-append places (n ∷ []) in omega arith))
      (ap length d ∙ (let z = length-append slots (None ∷ []) in omega arith))
      refl
      (λ i h. ap (λ (l : List Node). node_at l i) a ∙ get_or-append order (new ∷ []) no_node i (omega arith))
      (ap (λ (l : List Node). node_at l n) a ∙ at_end order new no_node n e)
      (λ i h. ap (λ (l : List ℕ). place_of l i) b ∙ get_or-append places (n ∷ []) 0 i (omega arith))
      (ap (λ (l : List ℕ). place_of l n) b ∙ at_end places n 0 n pl)
      (λ i h. ap (λ (l : List (Option (Held T))). slice_index_or l i None) d ∙ get_or-append slots (None ∷ []) None i (omega arith))
      (ap (λ (l : List (Option (Held T))). slice_index_or l n None) d ∙ at_end slots None None n sl)
      (ap (listed 0) d ∙ listed_more 0 slots)
    where
      at_end : {A : Type 0} (l : List A) (x d : A) (n : ℕ) → length l ≡ n → slice_index_or (l ++ x ∷ []) n d ≡ x
      at_end l x d n e = ap (λ (k : ℕ). slice_index_or (l ++ x ∷ []) k d) (sym e) ∙ get_or-append_seam l x [] d

  -- one more free slot
  pub one_added : {order order' : List Node} {places places' : List ℕ} {slots slots' : List (Option (Held T))} {n : ℕ} → length order ≡ n → length places ≡ length order → length slots ≡ length order → order' ≡ order ++ record { due = 0; number = 0; slot = n } ∷ [] → places' ≡ places ++ n ∷ [] → slots' ≡ slots ++ None ∷ [] → SlotsAdded 1 order places slots order' places' slots'
  one_added {order} {order'} {places} {places'} {slots} {slots'} {n} e p q a b d = record {
    order_longer = ap length a ∙ length-append order (record { due = 0; number = 0; slot = n } ∷ []);
    places_longer = ap length b ∙ length-append places (n ∷ []);
    slots_longer = ap length d ∙ length-append slots (None ∷ []);
    same = ap (listed 0) d ∙ listed_more 0 slots;
    sound = λ count made s. sound_pushed s e a b d;
  }

  pub none_added : (order : List Node) (places : List ℕ) (slots : List (Option (Held T))) → SlotsAdded 0 order places slots order places slots
  none_added order places slots = record {
    order_longer = omega arith;
    places_longer = omega arith;
    slots_longer = omega arith;
    same = refl;
    sound = λ count made s. s;
  }

  pub then_added : {a b c : List Node} {p q r : List ℕ} {x y z : List (Option (Held T))} {n m k : ℕ} → SlotsAdded n a p x b q y → SlotsAdded m b q y c r z → k ≡ n + m → SlotsAdded k a p x c r z
  then_added {a} {b} {c} {p} {q} {r} {x} {y} {z} {n} {m} {k} h g e = record {
    order_longer = omega (arith, h.order_longer, g.order_longer);
    places_longer = omega (arith, h.places_longer, g.places_longer);
    slots_longer = omega (arith, h.slots_longer, g.slots_longer);
    same = g.same ∙ h.same;
    sound = λ count made s. g.sound count made (h.sound count made s);
  }
