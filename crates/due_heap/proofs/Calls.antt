-- What a call does to the list of entries, said of the slots.
use Rattle.std.proofs.Common.{◌≡◌, ℕ, ◌+◌, ◌-◌, ◌^◌, ◌<◌, ◌≤◌, min, eqb, true, List, [], ◌∷◌, ◌++◌, length, take, drop, All, Option, Some, None, IsSome, option_map, slice_index_or, slice_set, refl, sym, ap, ◌∙◌, subst, ◌⊎◌, inl, inr, arith, length-append}
use Rattle.std.proofs.lemmas.List.{get_or-set_same, set-get_or, set-set, get_or_default}
use Rattle.std.proofs.Math.Seq.{take-append_seam}
use Rattle.std.proofs.lemmas.Bool.Decides.{nat_tests}
use Rattle.due_heap.specs.declared.key.Key.{Key}
use Rattle.due_heap.specs.declared.node.Node.{Node}
use Rattle.due_heap.specs.declared.slots.Held.{Held}
use Rattle.due_heap.specs.Heap.{Entry, TakesFirst, TakesOut, OthersStay, entry_of, without, first_due}
use Rattle.due_heap.specs.Layout.{node_at, place_of, node_of, NotAfter, no_node, Matched, IsHeap, Attached, Detached, Shows, IsSound, entry_at, listed}
use Rattle.due_heap.proofs.Listing.{by_test, AllBelow, found_if, entry_of-listed, without-listed, length-freed, length-filled, listed_last, in_slots, first-listed, all_later}
use Rattle.due_heap.proofs.Taking.{takes_out, others_stay, key_of}
use Rattle.due_heap.proofs.Soundness.{root_first, shows_node, inserted, removed, slot_in, is_free}

-- what a slice of a `Vec` leaves in it
pub written : {A : Type 0} (n : ℕ) (new items : List A) → length new ≡ n → take n (new ++ drop (length new) items) ≡ new
written n new items p = ap (λ (k : ℕ). take k (new ++ drop (length new) items)) (sym p) ∙ take-append_seam new (drop (length new) items)

-- where some room is left, the heap's end is a free slot
pub room_left : (order : List Node) (count spare : ℕ) → length order - count ≡ spare → 0 < spare → count < length order
room_left order count spare e h = omega arith

-- the slot that is read there
pub free_slot : (order : List Node) {count : ℕ} {x : Node} → count < length order → x ≡ slice_index_or order count x → x.slot ≡ (node_at order count).slot
free_slot order {count} {x} room e = ap (λ (n : Node). n.slot) (e ∙ get_or_default order count x no_node room)

equal : (a b : ℕ) → a ≡ b → eqb a b ≡ true
equal a b h = grind (arith, nat_tests)

-- what `first` tells of a node
abbrev pub told : Node → Option (ℕ × Key)
told x = Some (x.due, record { slot = x.slot; number = x.number })

abbrev pub no_pair : Option (ℕ × Key)
no_pair = None

abbrev pub pair : ℕ → Key → Option (ℕ × Key)
pair due key = Some (due, key)

module _ {T : Type 0} where
  pub record HeldAt (slots : List (Option (Held T))) (k : Key) : Type 0 where
    pub held : Held T
    pub is : slice_index_or slots k.slot None ≡ Some held
    pub number : held.number ≡ k.number

  found_held : (k : Key) (o : Option (Held T)) → IsSome (found_if k o) → (h : Held T) × (o ≡ Some h) × (h.number ≡ k.number)
  found_held k None i = cc
  found_held k (Some h) i = by_test (eqb h.number k.number)
      (λ t. (h, refl, same h.number k.number t))
      (λ t. none (rw t at i))
    where
      none : {A : Type 0} → IsSome {T = Entry T} None → A
      none e = cc

      same : (a b : ℕ) → eqb a b ≡ true → a ≡ b
      same a b h = grind (arith, nat_tests)

  -- a live key's item stands in the slot that it names
  pub held_at : (k : Key) (slots : List (Option (Held T))) (es : List (Entry T)) → listed 0 slots ≡ es → IsSome (entry_of k es) → HeldAt slots k
  held_at k slots es e i =
      let f = found_held k (slice_index_or slots k.slot None) (subst IsSome (ap (entry_of k) (sym e) ∙ entry_of-listed k 0 k.slot slots (omega arith)) i) in
      record { held = f.0; is = f.1; number = f.2 }

  pub entry_at_key : (k : Key) (slots : List (Option (Held T))) (h : Held T) → slice_index_or slots k.slot None ≡ Some h → h.number ≡ k.number → entry_of k (listed 0 slots) ≡ Some (entry_at k.slot h)
  entry_at_key k slots h is num = entry_of-listed k 0 k.slot slots (omega arith) ∙ ap (found_if k) is ∙ rw (equal h.number k.number num) refl

  -- the key's item is the one in its slot
  pub item_there : (k : Key) (slots : List (Option (Held T))) (h : Held T) → HeldAt slots k → slice_index_or slots k.slot None ≡ Some h → option_map (λ (e : Entry T). e.item) (entry_of k (listed 0 slots)) ≡ Some h.item
  item_there k slots h at is = ap (option_map (λ (e : Entry T). e.item)) (entry_at_key k slots h is (number_of h at.held (sym is ∙ at.is) at.number))
    where
      number_of : (g h : Held T) → Some g ≡ Some h → h.number ≡ k.number → g.number ≡ k.number
      number_of g h e n = let f : g ≡ h = cc in ap (λ (x : Held T). x.number) f ∙ n

  pub rest_of : (k : Key) (slots : List (Option (Held T))) → HeldAt slots k → listed 0 (slice_set slots k.slot None) ≡ without k (listed 0 slots)
  rest_of k slots at = sym (without-listed k 0 k.slot slots at.held (omega arith) at.is at.number)

  pub one_less : (k : Key) (slots : List (Option (Held T))) → HeldAt slots k → length (listed 0 (slice_set slots k.slot None)) + 1 ≡ length (listed 0 slots)
  one_less k slots at = let z = length-freed 0 k.slot slots at.held at.is in omega arith

  -- and goes out alone
  pub goes_out : (k : Key) (slots : List (Option (Held T))) (h : Held T) (es new : List (Entry T)) → HeldAt slots k → slice_index_or slots k.slot None ≡ Some h → listed 0 slots ≡ es → new ≡ without k es → (due : ℕ) × TakesOut (record { key = k; due = due; item = h.item }) es new
  goes_out k slots h es new at is old rest =
      let live = ap (entry_of k) (sym old) ∙ entry_at_key k slots h is (number_of h at.held (sym is ∙ at.is) at.number) in
      let long = ap length (sym (rest_of k slots at ∙ ap (without k) old)) in
      let less = one_less k slots at in
      let out = takes_out k es (entry_at k.slot h) live (omega (arith, long, less, ap length old)) in (
        h.due,
        subst (λ (l : List (Entry T)). TakesOut (record { key = k; due = h.due; item = h.item }) es l) (sym rest)
            (subst (λ (j : Key). TakesOut (record { key = j; due = h.due; item = h.item }) es (without k es)) (key_of k es (entry_at k.slot h) live) out),
      )
    where
      number_of : (g h : Held T) → Some g ≡ Some h → h.number ≡ k.number → g.number ≡ k.number
      number_of g h e n = let f : g ≡ h = cc in ap (λ (x : Held T). x.number) f ∙ n

  -- a free slot is filled
  module _ (slots : List (Option (Held T))) (slot : ℕ) (h : Held T) (free : slice_index_or slots slot None ≡ None) (k : Key) (at : k.slot ≡ slot) (num : h.number ≡ k.number) where
    pub fresh : entry_of k (listed 0 slots) ≡ None
    fresh = entry_of-listed k 0 slot slots (omega arith) ∙ ap (found_if k) free

    pub live : slot < length slots → entry_of k (listed 0 (slice_set slots slot (Some h))) ≡ Some (entry_at k.slot h)
    live l = entry_at_key k (slice_set slots slot (Some h)) h (ap (λ (i : ℕ). slice_index_or (slice_set slots slot (Some h)) i None) at ∙ get_or-set_same slots slot (Some h) None l) num

    pub others : slot < length slots → without k (listed 0 (slice_set slots slot (Some h))) ≡ listed 0 slots
    others l =
        without-listed k 0 slot (slice_set slots slot (Some h)) h (omega arith) (get_or-set_same slots slot (Some h) None l) num
        ∙ ap (listed 0) (set-set slots slot (Some h) None ∙ ap (slice_set slots slot) (sym free) ∙ set-get_or slots slot None)

    pub put_in : slot < length slots → (es : List (Entry T)) → listed 0 slots ≡ es → TakesOut (entry_at k.slot h) (listed 0 (slice_set slots slot (Some h))) es
    put_in l es old =
        let same = others l ∙ old in
        subst (TakesOut (entry_at k.slot h) (listed 0 (slice_set slots slot (Some h)))) same
        (takes_out k (listed 0 (slice_set slots slot (Some h))) (entry_at k.slot h) (live l)
        (let n = length-filled 0 slot slots h l free in let m = ap length (others l) in omega arith))

    pub rest_stays : slot < length slots → (es : List (Entry T)) → listed 0 slots ≡ es → OthersStay k es (listed 0 (slice_set slots slot (Some h)))
    rest_stays l es old other u = sym (others_stay k (listed 0 (slice_set slots slot (Some h))) other u) ∙ ap (entry_of other) (others l ∙ old)

    pub goes_last : slot < length slots → AllBelow h.number slots → listed 0 (slice_set slots slot (Some h)) ≡ listed 0 slots ++ entry_at k.slot h ∷ []
    goes_last l below = listed_last k.slot 0 slot slots h (omega arith) l free below

  pub all_below : {order : List Node} {places : List ℕ} {slots : List (Option (Held T))} {count made : ℕ} → IsSound order places slots count made → made < 2 ^ 64 - 1 → AllBelow made slots
  all_below {order} {places} {slots} {count} {made} s l i h e =
      let z = in_slots i slots h e in
      choose (shows_node count made i (place_of places i) (node_of order places i) h (slice_index_or slots i None) e (s.shown i (omega (arith, s.as_long)))).2
    where
      choose : (h.number < made) ⊎ (made ≡ 2 ^ 64 - 1) → h.number < made
      choose (inl m) = m
      choose (inr m) = absurd (omega arith)

  -- the same of lists that are others by another name
  pub insert_sound : {order order₁ order' : List Node} {places places₁ places' : List ℕ} {slots slots₁ slots' : List (Option (Held T))} {count made made' slot : ℕ} (h : Held T) → order₁ ≡ order → places₁ ≡ places → slots₁ ≡ slots → IsSound order places slots count made → count < length order → slot ≡ (node_at order₁ count).slot → Matched order' places' → IsHeap order' (count + 1) → Attached count slot h.due h.number order₁ places₁ order' places' → slots' ≡ slice_set slots₁ slot (Some h) → h.number ≡ made → made' ≡ min (made + 1) (2 ^ 64 - 1) → IsSound order' places' slots' (count + 1) made'
  insert_sound {order} {order₁} {order'} {places} {places₁} {places'} {slots} {slots₁} {slots'} {count} {made} {made'} {slot} h a b d s room is m heap at e num next =
      let s₁ : IsSound order₁ places₁ slots₁ count made = rw (a, b, d) s in
      let room₁ : count < length order₁ = rw a room in
      inserted s₁ slot room₁ is h m heap at e num next

  pub insert_range : {order order₁ : List Node} {places places₁ : List ℕ} {slots slots₁ : List (Option (Held T))} {count made slot : ℕ} → order₁ ≡ order → places₁ ≡ places → slots₁ ≡ slots → IsSound order places slots count made → count < length order → slot ≡ (node_at order₁ count).slot → slot < length slots₁
  insert_range {order} {order₁} {places} {places₁} {slots} {slots₁} {count} {made} {slot} a b d s room is =
      let s₁ : IsSound order₁ places₁ slots₁ count made = rw (a, b, d) s in
      let room₁ : count < length order₁ = rw a room in
      let l = slot_in s₁ slot room₁ is in omega (arith, s₁.as_long)

  pub insert_free : {order order₁ : List Node} {places places₁ : List ℕ} {slots slots₁ : List (Option (Held T))} {count made slot : ℕ} → order₁ ≡ order → places₁ ≡ places → slots₁ ≡ slots → IsSound order places slots count made → count < length order → slot ≡ (node_at order₁ count).slot → slice_index_or slots₁ slot None ≡ None
  insert_free {order} {order₁} {places} {places₁} {slots} {slots₁} {count} {made} {slot} a b d s room is =
      let s₁ : IsSound order₁ places₁ slots₁ count made = rw (a, b, d) s in
      let room₁ : count < length order₁ = rw a room in
      is_free s₁ slot room₁ is

  pub remove_sound : {order order₁ order' : List Node} {places places₁ places' : List ℕ} {slots slots₁ slots' : List (Option (Held T))} {count made place : ℕ} {k : Key} → order₁ ≡ order → places₁ ≡ places → slots₁ ≡ slots → IsSound order places slots count made → HeldAt slots k → 0 < count → place ≡ place_of places k.slot → Matched order' places' → IsHeap order' (count - 1) → Detached (count - 1) (node_at order₁ place).slot order₁ places₁ order' places' → slots' ≡ slice_set slots₁ k.slot None → IsSound order' places' slots' (count - 1) made
  remove_sound {order} {order₁} {order'} {places} {places₁} {places'} {slots} {slots₁} {slots'} {count} {made} {place} {k} a b d s at some is m heap gone e =
      let one : count ≡ count - 1 + 1 = omega arith in
      let s₁ : IsSound order₁ places₁ slots₁ (count - 1 + 1) made = rw (a, b, d, ← one) s in
      let held₁ : slice_index_or slots₁ k.slot None ≡ Some at.held = rw d at.is in
      let is₁ : place ≡ place_of places₁ k.slot = rw b is in
      removed (count - 1) made k.slot place s₁ held₁ is₁ m heap gone e

  -- the place of a live key lies in the heap
  pub place_in_heap : {order : List Node} {places : List ℕ} {slots : List (Option (Held T))} {count made : ℕ} {k : Key} → IsSound order places slots count made → HeldAt slots k → place_of places k.slot < count
  place_in_heap {order} {places} {slots} {count} {made} {k} s at =
      let z = in_slots k.slot slots at.held at.is in
      (shows_node count made k.slot (place_of places k.slot) (node_of order places k.slot) at.held (slice_index_or slots k.slot None) at.is (s.shown k.slot (omega (arith, s.as_long)))).0

  pub place_read : {order : List Node} {places : List ℕ} {slots : List (Option (Held T))} {count made : ℕ} {k : Key} {x : ℕ} → IsSound order places slots count made → HeldAt slots k → x ≡ slice_index_or places k.slot x → x ≡ place_of places k.slot
  place_read {order} {places} {slots} {count} {made} {k} {x} s at e =
      let z = in_slots k.slot slots at.held at.is in
      e ∙ get_or_default places k.slot x 0 (omega (arith, s.as_long, s.matched.same_length))

  pub slot_there : {order : List Node} {places : List ℕ} {slots : List (Option (Held T))} {count made : ℕ} {k : Key} → IsSound order places slots count made → HeldAt slots k → (k.slot < length slots) × (k.slot < length places)
  slot_there {order} {places} {slots} {count} {made} {k} s at =
      let z = in_slots k.slot slots at.held at.is in
      (z, omega (arith, s.as_long, s.matched.same_length))

  -- the root's entry is the first
  pub record Root (order : List Node) (slots : List (Option (Held T))) (x : Node) : Type 0 where
    pub held : Held T
    pub is : slice_index_or slots x.slot None ≡ Some held
    pub due : x.due ≡ held.due
    pub number : held.number ≡ x.number
    pub first : first_due (listed 0 slots) ≡ Some (entry_at x.slot held)

  in_heap : (count made s place : ℕ) (node : Node) (o : Option (Held T)) → place < count → Shows count made s node place o → (h : Held T) × (o ≡ Some h) × (node ≡ record { due = h.due; number = h.number; slot = s })
  in_heap count made s place node None l w = absurd (omega arith)
  in_heap count made s place node (Some h) l w = (h, refl, w.1)

  pub root : {order : List Node} {places : List ℕ} {slots : List (Option (Held T))} {count made : ℕ} → IsSound order places slots count made → 0 < count → Root order slots (node_at order 0)
  root {order} {places} {slots} {count} {made} s some =
      let x = node_at order 0 in
      let long : 0 < length order = omega (arith, s.within) in
      let place : place_of places x.slot ≡ 0 = s.matched.back 0 long in
      let in' : x.slot < length order = s.matched.slot_in 0 long in
      let f = in_heap count made x.slot (place_of places x.slot) (node_of order places x.slot) (slice_index_or slots x.slot None) (omega arith) (s.shown x.slot in') in
      let node : x ≡ record { due = f.0.due; number = f.0.number; slot = x.slot } = ap (node_at order) (sym place) ∙ f.2 in
      record {
        held = f.0;
        is = f.1;
        due = ap (λ (n : Node). n.due) node;
        number = sym (ap (λ (n : Node). n.number) node);
        first = first-listed x.slot 0 x.slot slots f.0 (omega arith) f.1 (λ j y e.
            let z = in_slots j slots y e in
            let w = shows_node count made j (place_of places j) (node_of order places j) y (slice_index_or slots j None) e (s.shown j (omega (arith, s.as_long))) in
            subst (λ (m : ℕ). NotAfter (record { due = f.0.due; number = f.0.number; slot = x.slot }) (record { due = y.due; number = y.number; slot = m })) (omega arith)
            (subst (λ (n : Node). NotAfter n (record { due = y.due; number = y.number; slot = j })) node
            (subst (λ (n : Node). NotAfter x n) w.1 (root_first order count s.heap (place_of places j) (place_of places j) (omega arith) w.0))));
      }

  pub root_read : {order : List Node} {places : List ℕ} {slots : List (Option (Held T))} {count made : ℕ} {x : Node} → IsSound order places slots count made → 0 < count → x ≡ slice_index_or order 0 x → x ≡ node_at order 0
  root_read {order} {places} {slots} {count} {made} {x} s some e = e ∙ get_or_default order 0 x no_node (omega (arith, s.within))

  -- `first`: what is read at the root
  abbrev pub first_told : List (Entry T) → Option (ℕ × Key)
  first_told es = option_map (λ e. (e.due, e.key)) (first_due es)

  told_same : (x : Node) (h : Held T) → x.due ≡ h.due → h.number ≡ x.number → told x ≡ option_map (λ (e : Entry T). (e.due, e.key)) (Some (entry_at x.slot h))
  told_same x h d n = rw (d, n) refl

  pub first_is : {order : List Node} {places : List ℕ} {slots : List (Option (Held T))} {count made : ℕ} {es : List (Entry T)} → IsSound order places slots count made → 0 < count → (x : Node) → x ≡ slice_index_or order 0 x → listed 0 slots ≡ es → told x ≡ first_told es
  first_is {order} {places} {slots} {count} {made} {es} s some x e same = subst (λ (l : List (Entry T)). told x ≡ first_told l) same
      (subst (λ (n : Node). told n ≡ first_told (listed 0 slots)) (sym (root_read s some e))
      (let r = root s some in
      told_same (node_at order 0) r.held r.due r.number ∙ ap (option_map (λ (e : Entry T). (e.due, e.key))) (sym r.first)))

  pub first_live : {order : List Node} {places : List ℕ} {slots : List (Option (Held T))} {count made : ℕ} {es : List (Entry T)} → IsSound order places slots count made → 0 < count → (x : Node) → x ≡ slice_index_or order 0 x → listed 0 slots ≡ es → entry_of (record { slot = x.slot; number = x.number }) es ≡ first_due es
  first_live {order} {places} {slots} {count} {made} {es} s some x e same = subst (λ (l : List (Entry T)). entry_of (record { slot = x.slot; number = x.number }) l ≡ first_due l) same
      (subst (λ (n : Node). entry_of (record { slot = n.slot; number = n.number }) (listed 0 slots) ≡ first_due (listed 0 slots)) (sym (root_read s some e))
      (let r = root s some in
      entry_at_key (record { slot = (node_at order 0).slot; number = (node_at order 0).number }) slots r.held r.is r.number ∙ sym r.first))

  abbrev timed : Entry T → ℕ × Key
  timed e = (e.due, e.key)

  -- `pop_due`: where the first is due later, so is each
  pub none_due : (now due : ℕ) (key : Key) (es : List (Entry T)) → pair due key ≡ first_told es → now < due → All (λ e. now < e.due) es
  none_due now due key es e h = all_later now es (λ m is. later m (e ∙ ap (option_map timed) is))
    where
      later : (m : Entry T) → pair due key ≡ option_map timed (Some m) → now < m.due
      later m e = let d : due ≡ m.due = ap first_part e in omega arith
        where
          first_part : Option (ℕ × Key) → ℕ
          first_part None = 0
          first_part (Some p) = p.0

  none_first : (o : Option (Entry T)) → no_pair ≡ option_map timed o → (m : Entry T) → o ≡ Some m → ⊥
  none_first None e m is = cc
  none_first (Some f) e m is = cc

  pub none_at_all : (now : ℕ) (es : List (Entry T)) → no_pair ≡ first_told es → All (λ e. now < e.due) es
  none_at_all now es e = all_later now es (λ m is. absurd (none_first (first_due es) e m is))

  -- and the first one, taken out by its key
  pub takes_first : (now due : ℕ) (key : Key) (old new : List (Entry T)) (item : T) → pair due key ≡ first_told old → entry_of key old ≡ first_due old → due ≤ now → option_map (λ e. e.item) (entry_of key old) ≡ Some item → new ≡ without key old → (d : ℕ) × TakesOut (record { key = key; due = d; item = item }) old new → OthersStay key old new → entry_of key new ≡ None → TakesFirst now old new item
  takes_first now due key old new item told live h at rest out others dead = of (first_due old) refl
    where
      second : Key → Option (ℕ × Key) → Key
      second k None = k
      second k (Some p) = p.1

      first_part : Option (ℕ × Key) → ℕ
      first_part None = 0
      first_part (Some p) = p.0

      inside : {x y : T} → Some x ≡ Some y → x ≡ y
      inside e = cc

      one_of : (d : ℕ) × TakesOut (record { key = key; due = d; item = item }) old new → length (without key old) + 1 ≡ length old
      one_of o = ap (λ (l : List (Entry T)). length l + 1) (sym rest ∙ o.1.is) ∙ (length-parts o.1.before (record { key = key; due = o.0; item = item }) o.1.after ∙ sym (ap length o.1.was))
        where
          length-parts : (xs : List (Entry T)) (y : Entry T) (ys : List (Entry T)) → length (xs ++ ys) + 1 ≡ length (xs ++ y ∷ ys)
          length-parts xs y ys = omega (arith, length-append xs ys, length-append xs (y ∷ ys))

      of : (o : Option (Entry T)) → first_due old ≡ o → TakesFirst now old new item
      of None e = let f : pair due key ≡ no_pair = told ∙ ap (option_map timed) e in absurd (impossible f)
        where
          impossible : {A : Type 0} {x : A} → Some x ≡ None → ⊥
          impossible f = cc
      of (Some m) e =
          let f : pair due key ≡ pair m.due m.key = told ∙ ap (option_map timed) e in
          let d : due ≡ m.due = ap first_part f in
          let k : key ≡ m.key = ap (second key) f in
          record {
            entry = m;
            first = e;
            due = omega arith;
            is_item = inside (sym at ∙ ap (option_map (λ (e : Entry T). e.item)) (live ∙ e));
            live = ap (λ (k : Key). entry_of k old) (sym k) ∙ live ∙ e;
            rest = rest ∙ ap (λ (k : Key). without k old) k;
            out = subst (λ (l : List (Entry T)). TakesOut m old l) (sym rest) (takes_out key old m (live ∙ e) (one_of out));
            dead = ap (λ (k : Key). entry_of k new) (sym k) ∙ dead;
            others = subst (λ (k : Key). OthersStay k old new) k others;
          }
