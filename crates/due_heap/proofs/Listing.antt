-- The entries that slots list, and what a write to one slot does to them.
use Rattle.std.proofs.Common.{◌≡◌, ◌≢◌, ℕ, zero, suc, ◌+◌, ◌<◌, ◌≤◌, Bool, true, false, ◌&&◌, ◌||◌, cond, eqb, nat_lt, nat_le, List, [], ◌∷◌, ◌++◌, length, All, Option, Some, None, option_map, slice_index_or, slice_set, refl, sym, ap, ◌∙◌, subst, arith}
use Rattle.std.proofs.lemmas.Bool.Decides.{nat_tests}
use Rattle.std.proofs.lemmas.List.Elements.{All-nil, All-cons}
use Rattle.due_heap.specs.declared.key.Key.{Key}
use Rattle.due_heap.specs.declared.slots.Held.{Held}
use Rattle.due_heap.specs.Heap.{Entry, has_key, entry_of, without, first_due, sooner}
use Rattle.due_heap.specs.Layout.{NotAfter, entry_at, among, listed, item_if, item_at}

pub by_test : {A : Type 0} (b : Bool) → (b ≡ true → A) → (b ≡ false → A) → A
by_test true f g = f refl
by_test false f g = g refl

less : (a b : ℕ) → nat_lt a b ≡ true → a < b
less a b h = grind (arith, nat_tests)

not_less : (a b : ℕ) → nat_lt a b ≡ false → b ≤ a
not_less a b h = grind (arith, nat_tests)

is_less : (a b : ℕ) → a < b → nat_lt a b ≡ true
is_less a b h = grind (arith, nat_tests)

isn't_less : (a b : ℕ) → b ≤ a → nat_lt a b ≡ false
isn't_less a b h = grind (arith, nat_tests)

same : (a b c d : ℕ) → (eqb a b && eqb c d) ≡ true → (a ≡ b) × (c ≡ d)
same a b c d h = grind (arith, nat_tests)

other_slot : (a b : ℕ) (c : Bool) → a ≢ b → (eqb a b && c) ≡ false
other_slot a b c h = rw (test a b h) refl
  where
    test : (a b : ℕ) → a ≢ b → eqb a b ≡ false
    test a b h = grind (arith, nat_tests)

same_slot : (a b : ℕ) (c : Bool) → a ≡ b → (eqb a b && c) ≡ c
same_slot a b c h = rw (test a b h) refl
  where
    test : (a b : ℕ) → a ≡ b → eqb a b ≡ true
    test a b h = grind (arith, nat_tests)

wins : (d e n m : ℕ) → d ≤ e → (d ≡ e → n ≤ m) → (nat_lt d e || (eqb d e && nat_le n m)) ≡ true
wins d e n m h k = grind (arith, nat_tests)

loses : (d e n m s r : ℕ) → d ≤ e → (d ≡ e → n ≤ m) → (d ≡ e → n ≡ m → s ≤ r) → r < s → (nat_lt e d || (eqb e d && nat_le m n)) ≡ false
loses d e n m s r h k l f = grind (arith, nat_tests)

module _ {T : Type 0} where
  -- the numbers are from n on
  abbrev pub AllFrom : ℕ → List (Entry T) → Type 0
  AllFrom n [] = Unit {0}
  AllFrom n (e ∷ es) = (n ≤ e.key.number) × AllFrom n es

  -- the numbers never fall
  abbrev pub Ascends : List (Entry T) → Type 0
  Ascends [] = Unit {0}
  Ascends (e ∷ es) = AllFrom e.key.number es × Ascends es

  -- the entry of a key in the slot that it names
  abbrev pub found_if : Key → Option (Held T) → Option (Entry T)
  found_if k None = None
  found_if k (Some h) = cond (eqb h.number k.number) (Some (entry_at k.slot h)) None

  AllFrom-less : (m n : ℕ) → m ≤ n → (es : List (Entry T)) → AllFrom n es → AllFrom m es
  AllFrom-less m n h [] a = tt
  AllFrom-less m n h (e ∷ es) a = (omega (arith, a.0), AllFrom-less m n h es a.1)

  AllFrom-among : (n : ℕ) (e : Entry T) → n ≤ e.key.number → (es : List (Entry T)) → AllFrom n es → AllFrom n (among e es)
  AllFrom-among n e h [] a = (h, tt)
  AllFrom-among n e h (f ∷ fs) a = by_test (nat_lt f.key.number e.key.number)
      (λ t. rw t (a.0, AllFrom-among n e h fs a.1))
      (λ t. rw t (h, a))

  Ascends-among : (e : Entry T) (es : List (Entry T)) → Ascends es → Ascends (among e es)
  Ascends-among e [] a = (tt, tt)
  Ascends-among e (f ∷ fs) a = by_test (nat_lt f.key.number e.key.number)
      (λ t. let l = less f.key.number e.key.number t in rw t (AllFrom-among f.key.number e (omega arith) fs a.0, Ascends-among e fs a.1))
      (λ t. let l = not_less f.key.number e.key.number t in rw t ((l, AllFrom-less e.key.number f.key.number l fs a.0), a))

  pub Ascends-listed : (s : ℕ) (slots : List (Option (Held T))) → Ascends (listed s slots)
  Ascends-listed s [] = tt
  Ascends-listed s (None ∷ slots) = Ascends-listed (s + 1) slots
  Ascends-listed s (Some h ∷ slots) = Ascends-among (entry_at s h) (listed (s + 1) slots) (Ascends-listed (s + 1) slots)

  AllFrom-without : (n : ℕ) (k : Key) (es : List (Entry T)) → AllFrom n es → AllFrom n (without k es)
  AllFrom-without n k [] a = tt
  AllFrom-without n k (e ∷ es) a = by_test (has_key k e)
      (λ t. rw t (AllFrom-without n k es a.1))
      (λ t. rw t (a.0, AllFrom-without n k es a.1))

  among_first : (e : Entry T) (es : List (Entry T)) → AllFrom e.key.number es → among e es ≡ e ∷ es
  among_first e [] a = refl
  among_first e (f ∷ fs) a = rw (isn't_less f.key.number e.key.number a.0) refl

  -- the entry of a key
  entry_of-among : (k : Key) (e : Entry T) (es : List (Entry T)) → entry_of k (among e es) ≡ cond (has_key k e) (Some e) (entry_of k es)
  entry_of-among k e [] = refl
  entry_of-among k e (f ∷ fs) = by_test (nat_lt f.key.number e.key.number)
      (λ t. let l = less f.key.number e.key.number t in
      by_test (has_key k f)
      (λ u. let v : has_key k e ≡ false = by_test (has_key k e)
      (λ w. let p = same f.key.slot k.slot f.key.number k.number u in let q = same e.key.slot k.slot e.key.number k.number w in absurd (omega arith))
      (λ w. w) in
      rw (t, u, v) refl)
      (λ u. rw (t, u) (entry_of-among k e fs)))
      (λ t. rw t refl)

  too_low : (k : Key) (s : ℕ) (slots : List (Option (Held T))) → k.slot < s → entry_of k (listed s slots) ≡ None
  too_low k s [] h = refl
  too_low k s (None ∷ slots) h = too_low k (s + 1) slots (omega arith)
  too_low k s (Some held ∷ slots) h =
      entry_of-among k (entry_at s held) (listed (s + 1) slots)
      ∙ rw (other_slot s k.slot (eqb held.number k.number) (λ e. omega arith)) (too_low k (s + 1) slots (omega arith))

  pub entry_of-listed : (k : Key) (s i : ℕ) (slots : List (Option (Held T))) → k.slot ≡ s + i → entry_of k (listed s slots) ≡ found_if k (slice_index_or slots i None)
  entry_of-listed k s i [] e = refl
  entry_of-listed k s zero (None ∷ slots) e = too_low k (s + 1) slots (omega arith)
  entry_of-listed k s (suc i) (None ∷ slots) e = entry_of-listed k (s + 1) i slots (omega arith)
  entry_of-listed k s zero (Some h ∷ slots) e =
      let at : s ≡ k.slot = omega arith in
      entry_of-among k (entry_at s h) (listed (s + 1) slots)
      ∙ rw (same_slot s k.slot (eqb h.number k.number) at, too_low k (s + 1) slots (omega arith))
      (ap (λ (n : ℕ). cond (eqb h.number k.number) (Some (entry_at n h)) None) at)
  entry_of-listed k s (suc i) (Some h ∷ slots) e =
      entry_of-among k (entry_at s h) (listed (s + 1) slots)
      ∙ rw (other_slot s k.slot (eqb h.number k.number) (λ f. omega arith)) (entry_of-listed k (s + 1) i slots (omega arith))

  item_of_found : (k : Key) (o : Option (Held T)) → item_if k.number o ≡ option_map (λ e. e.item) (found_if k o)
  item_of_found k None = refl
  item_of_found k (Some h) = by_test (eqb h.number k.number) (λ t. rw t refl) (λ t. rw t refl)

  pub item_of : (k : Key) (slots : List (Option (Held T))) → item_at slots k ≡ option_map (λ e. e.item) (entry_of k (listed 0 slots))
  item_of k slots = item_of_found k (slice_index_or slots k.slot None) ∙ ap (option_map (λ (e : Entry T). e.item)) (sym (entry_of-listed k 0 k.slot slots (omega arith)))

  -- the other entries
  without-among_same : (k : Key) (e : Entry T) → has_key k e ≡ true → (es : List (Entry T)) → without k (among e es) ≡ without k es
  without-among_same k e h [] = rw h refl
  without-among_same k e h (f ∷ fs) = by_test (nat_lt f.key.number e.key.number)
      (λ t. rw t (by_test (has_key k f)
      (λ u. rw u (without-among_same k e h fs))
      (λ u. rw u (ap (λ (l : List (Entry T)). f ∷ l) (without-among_same k e h fs)))))
      (λ t. rw (t, h) refl)

  without-among_other : (k : Key) (e : Entry T) → has_key k e ≡ false → (es : List (Entry T)) → Ascends es → without k (among e es) ≡ among e (without k es)
  without-among_other k e h [] a = rw h refl
  without-among_other k e h (f ∷ fs) a = by_test (nat_lt f.key.number e.key.number)
      (λ t. by_test (has_key k f)
      (λ u. rw (t, u) (without-among_other k e h fs a.1))
      (λ u. rw (t, u, t) (ap (λ (l : List (Entry T)). f ∷ l) (without-among_other k e h fs a.1))))
      (λ t. let l = not_less f.key.number e.key.number t in
      rw (t, h) (sym (among_first e (without k (f ∷ fs)) (AllFrom-without e.key.number k (f ∷ fs) (l, AllFrom-less e.key.number f.key.number l fs a.0)))))

  without_low : (k : Key) (s : ℕ) (slots : List (Option (Held T))) → k.slot < s → without k (listed s slots) ≡ listed s slots
  without_low k s [] h = refl
  without_low k s (None ∷ slots) h = without_low k (s + 1) slots (omega arith)
  without_low k s (Some held ∷ slots) h =
      without-among_other k (entry_at s held) (other_slot s k.slot (eqb held.number k.number) (λ e. omega arith)) (listed (s + 1) slots) (Ascends-listed (s + 1) slots)
      ∙ ap (among (entry_at s held)) (without_low k (s + 1) slots (omega arith))

  -- the slot of the key holds an item of its number, and is freed
  pub without-listed : (k : Key) (s i : ℕ) (slots : List (Option (Held T))) (h : Held T) → k.slot ≡ s + i → slice_index_or slots i None ≡ Some h → h.number ≡ k.number → without k (listed s slots) ≡ listed s (slice_set slots i None)
  without-listed k s i [] h e is m = cc
  without-listed k s zero (None ∷ slots) h e is m = cc
  without-listed k s (suc i) (None ∷ slots) h e is m = without-listed k (s + 1) i slots h (omega arith) is m
  without-listed k s zero (Some held ∷ slots) h e is m =
      let eq : held ≡ h = cc in
      let num : held.number ≡ k.number = ap (λ (x : Held T). x.number) eq ∙ m in
      without-among_same k (entry_at s held) (same_slot s k.slot (eqb held.number k.number) (omega arith) ∙ equal held.number k.number num) (listed (s + 1) slots)
      ∙ without_low k (s + 1) slots (omega arith)
    where
      equal : (a b : ℕ) → a ≡ b → eqb a b ≡ true
      equal a b h = grind (arith, nat_tests)
  without-listed k s (suc i) (Some held ∷ slots) h e is m =
      without-among_other k (entry_at s held) (other_slot s k.slot (eqb held.number k.number) (λ f. omega arith)) (listed (s + 1) slots) (Ascends-listed (s + 1) slots)
      ∙ ap (among (entry_at s held)) (without-listed k (s + 1) i slots h (omega arith) is m)

  -- how many there are
  length-among : (e : Entry T) (es : List (Entry T)) → length (among e es) ≡ suc (length es)
  length-among e [] = refl
  length-among e (f ∷ fs) = by_test (nat_lt f.key.number e.key.number) (λ t. rw t (ap suc (length-among e fs))) (λ t. rw t refl)

  pub length-filled : (s i : ℕ) (slots : List (Option (Held T))) (h : Held T) → i < length slots → slice_index_or slots i None ≡ None → length (listed s (slice_set slots i (Some h))) ≡ suc (length (listed s slots))
  length-filled s i [] h l is = absurd (omega arith)
  length-filled s zero (None ∷ slots) h l is = length-among (entry_at s h) (listed (s + 1) slots)
  length-filled s zero (Some held ∷ slots) h l is = cc
  length-filled s (suc i) (None ∷ slots) h l is = length-filled (s + 1) i slots h (omega arith) is
  length-filled s (suc i) (Some held ∷ slots) h l is =
      length-among (entry_at s held) (listed (s + 1) (slice_set slots i (Some h)))
      ∙ ap suc (length-filled (s + 1) i slots h (omega arith) is)
      ∙ sym (ap suc (length-among (entry_at s held) (listed (s + 1) slots)))

  pub length-freed : (s i : ℕ) (slots : List (Option (Held T))) (h : Held T) → slice_index_or slots i None ≡ Some h → suc (length (listed s (slice_set slots i None))) ≡ length (listed s slots)
  length-freed s i [] h is = cc
  length-freed s zero (None ∷ slots) h is = cc
  length-freed s zero (Some held ∷ slots) h is = sym (length-among (entry_at s held) (listed (s + 1) slots))
  length-freed s (suc i) (None ∷ slots) h is = length-freed (s + 1) i slots h is
  length-freed s (suc i) (Some held ∷ slots) h is =
      ap suc (length-among (entry_at s held) (listed (s + 1) (slice_set slots i None)) ∙ length-freed (s + 1) i slots h is)
      ∙ sym (length-among (entry_at s held) (listed (s + 1) slots))

  pub in_slots : (i : ℕ) (slots : List (Option (Held T))) (h : Held T) → slice_index_or slots i None ≡ Some h → i < length slots
  in_slots i [] h is = cc
  in_slots zero (o ∷ slots) h is = omega arith
  in_slots (suc i) (o ∷ slots) h is = let r = in_slots i slots h is in omega arith

  -- an entry of a greater number than all goes last
  abbrev pub AllBelow : ℕ → List (Option (Held T)) → Type 0
  AllBelow n slots = (i : ℕ) (h : Held T) → slice_index_or slots i None ≡ Some h → h.number < n

  abbrev Before : ℕ → List (Entry T) → Type 0
  Before n [] = Unit {0}
  Before n (e ∷ es) = (e.key.number < n) × Before n es

  Before-among : (n : ℕ) (e : Entry T) → e.key.number < n → (es : List (Entry T)) → Before n es → Before n (among e es)
  Before-among n e h [] b = (h, tt)
  Before-among n e h (f ∷ fs) b = by_test (nat_lt f.key.number e.key.number)
      (λ t. rw t (b.0, Before-among n e h fs b.1))
      (λ t. rw t (h, b))

  among_last : (e : Entry T) (es : List (Entry T)) → Before e.key.number es → among e es ≡ es ++ e ∷ []
  among_last e [] b = refl
  among_last e (f ∷ fs) b = rw (is_less f.key.number e.key.number b.0) (ap (λ (l : List (Entry T)). f ∷ l) (among_last e fs b.1))

  among_before_last : (a e : Entry T) → a.key.number < e.key.number → (es : List (Entry T)) → among a (es ++ e ∷ []) ≡ among a es ++ e ∷ []
  among_before_last a e h [] = rw (isn't_less e.key.number a.key.number (omega arith)) refl
  among_before_last a e h (f ∷ fs) = by_test (nat_lt f.key.number a.key.number)
      (λ t. rw t (ap (λ (l : List (Entry T)). f ∷ l) (among_before_last a e h fs)))
      (λ t. rw t refl)

  Before-listed : (n s : ℕ) (slots : List (Option (Held T))) → AllBelow n slots → Before n (listed s slots)
  Before-listed n s [] b = tt
  Before-listed n s (None ∷ slots) b = Before-listed n (s + 1) slots (λ i h e. b (suc i) h e)
  Before-listed n s (Some held ∷ slots) b = Before-among n (entry_at s held) (b 0 held refl) (listed (s + 1) slots) (Before-listed n (s + 1) slots (λ i h e. b (suc i) h e))

  pub listed_last : (k s i : ℕ) (slots : List (Option (Held T))) (h : Held T) → k ≡ s + i → i < length slots → slice_index_or slots i None ≡ None → AllBelow h.number slots → listed s (slice_set slots i (Some h)) ≡ listed s slots ++ entry_at k h ∷ []
  listed_last k s i [] h e l is b = absurd (omega arith)
  listed_last k s zero (None ∷ slots) h e l is b =
      let at : s ≡ k = omega arith in
      among_last (entry_at s h) (listed (s + 1) slots) (Before-listed h.number (s + 1) slots (λ i g f. b (suc i) g f))
      ∙ ap (λ (n : ℕ). listed (s + 1) slots ++ entry_at n h ∷ []) at
  listed_last k s zero (Some held ∷ slots) h e l is b = cc
  listed_last k s (suc i) (None ∷ slots) h e l is b = listed_last k (s + 1) i slots h (omega arith) (omega arith) is (λ i g f. b (suc i) g f)
  listed_last k s (suc i) (Some held ∷ slots) h e l is b =
      ap (among (entry_at s held)) (listed_last k (s + 1) i slots h (omega arith) (omega arith) is (λ i g f. b (suc i) g f))
      ∙ among_before_last (entry_at s held) (entry_at k h) (b 0 held refl) (listed (s + 1) slots)

  -- one more slot, which is free
  pub listed_more : (s : ℕ) (slots : List (Option (Held T))) → listed s (slots ++ None ∷ []) ≡ listed s slots
  listed_more s [] = refl
  listed_more s (None ∷ slots) = listed_more (s + 1) slots
  listed_more s (Some held ∷ slots) = ap (among (entry_at s held)) (listed_more (s + 1) slots)

  pub no_entry : (es : List (Entry T)) → length es ≡ 0 → es ≡ []
  no_entry [] h = refl
  no_entry (e ∷ es) h = absurd (omega arith)

  -- the first entry
  abbrev goes_first : Entry T → Entry T → Bool
  goes_first e f = nat_lt e.due f.due || (eqb e.due f.due && nat_le e.key.number f.key.number)

  abbrev pick : Entry T → Option (Entry T) → Entry T
  pick e None = e
  pick e (Some f) = cond (goes_first e f) e f

  from_first : (n : ℕ) (es : List (Entry T)) (m : Entry T) → AllFrom n es → first_due es ≡ Some m → n ≤ m.key.number
  from_first n [] m a e = cc
  from_first n (f ∷ fs) m a e = from_sooner (first_due fs) (from_first n fs) e
    where
      from_sooner : (o : Option (Entry T)) → ((m : Entry T) → AllFrom n fs → o ≡ Some m → n ≤ m.key.number) → Some (sooner f o) ≡ Some m → n ≤ m.key.number
      from_sooner None ih e = let is : f ≡ m = cc in subst (λ (x : Entry T). n ≤ x.key.number) is a.0
      from_sooner (Some g) ih e = by_test (nat_le f.due g.due)
          (λ t. let is : f ≡ m = some (rw t at e) in subst (λ (x : Entry T). n ≤ x.key.number) is a.0)
          (λ t. let is : g ≡ m = some (rw t at e) in subst (λ (x : Entry T). n ≤ x.key.number) is (ih g a.1 refl))
        where
          some : {x y : Entry T} → Some x ≡ Some y → x ≡ y
          some e = cc

  -- a later one of a lower number, past the choice of those behind it
  choose_none : (f e : Entry T) → f.key.number < e.key.number → cond (nat_le f.due e.due) f e ≡ cond (goes_first e f) e f
  choose_none f e h = grind (arith, nat_tests)

  choose_both : (f e m : Entry T) → f.key.number < e.key.number → f.key.number ≤ m.key.number → cond (nat_le f.due (cond (goes_first e m) e m).due) f (cond (goes_first e m) e m) ≡ pick e (Some (cond (nat_le f.due m.due) f m))
  choose_both f e m h k = by_test (goes_first e m)
      (λ t. by_test (nat_le f.due m.due)
      (λ u. rw (t, u) (choose_none f e h))
      (λ u. rw (t, u, t) (rw (later f.due e.due m.due e.key.number m.key.number t u) refl)))
      (λ t. by_test (nat_le f.due m.due)
      (λ u. rw (t, u) (rw (behind f.due e.due m.due f.key.number e.key.number m.key.number h k t u) refl))
      (λ u. rw (t, u, t) refl))
    where
      later : (f e m en mn : ℕ) → (nat_lt e m || (eqb e m && nat_le en mn)) ≡ true → nat_le f m ≡ false → nat_le f e ≡ false
      later f e m en mn t u = grind (arith, nat_tests)

      behind : (f e m fn en mn : ℕ) → fn < en → fn ≤ mn → (nat_lt e m || (eqb e m && nat_le en mn)) ≡ false → nat_le f m ≡ true → (nat_lt e f || (eqb e f && nat_le en fn)) ≡ false
      behind f e m fn en mn h k t u = grind (arith, nat_tests)

  choose_front : (e m : Entry T) → e.key.number ≤ m.key.number → cond (nat_le e.due m.due) e m ≡ cond (goes_first e m) e m
  choose_front e m h = grind (arith, nat_tests)

  first_due-among : (e : Entry T) (es : List (Entry T)) → Ascends es → first_due (among e es) ≡ Some (pick e (first_due es))
  first_due-among e [] a = refl
  first_due-among e (f ∷ fs) a = by_test (nat_lt f.key.number e.key.number)
      (λ t. rw t (ap (λ (o : Option (Entry T)). Some (sooner f o)) (first_due-among e fs a.1)
      ∙ inner (less f.key.number e.key.number t) (first_due fs) (λ m i. from_first f.key.number fs m a.0 i)))
      (λ t. let l = not_less f.key.number e.key.number t in
      rw t (ap (λ (x : Entry T). Some x) (choose_front e (sooner f (first_due fs)) (from_first e.key.number (f ∷ fs) (sooner f (first_due fs)) (l, AllFrom-less e.key.number f.key.number l fs a.0) refl))))
    where
      inner : f.key.number < e.key.number → (o : Option (Entry T)) → ((m : Entry T) → o ≡ Some m → f.key.number ≤ m.key.number) → Some (sooner f (Some (pick e o))) ≡ Some (pick e (Some (sooner f o)))
      inner h None g = ap (λ (x : Entry T). Some x) (choose_none f e h)
      inner h (Some m) g = ap (λ (x : Entry T). Some x) (choose_both f e m h (g m refl))

  -- what holds of each slot's entry holds of the first one
  of_first : (P : Entry T → Type 0) (s : ℕ) (slots : List (Option (Held T))) → ((i : ℕ) (h : Held T) → slice_index_or slots i None ≡ Some h → P (entry_at (s + i) h)) → (m : Entry T) → first_due (listed s slots) ≡ Some m → P m
  of_first P s [] all m e = cc
  of_first P s (None ∷ slots) all m e = of_first P (s + 1) slots (λ i h is. subst (λ (n : ℕ). P (entry_at n h)) (omega arith) (all (suc i) h is)) m e
  of_first P s (Some held ∷ slots) all m e =
      of_pick (first_due (listed (s + 1) slots)) (of_first P (s + 1) slots (λ i h is. subst (λ (n : ℕ). P (entry_at n h)) (omega arith) (all (suc i) h is)))
      (sym (first_due-among (entry_at s held) (listed (s + 1) slots) (Ascends-listed (s + 1) slots)) ∙ e)
    where
      here : P (entry_at s held)
      here = subst (λ (n : ℕ). P (entry_at n held)) (omega arith) (all 0 held refl)

      some : {x y : Entry T} → Some x ≡ Some y → x ≡ y
      some e = cc

      of_pick : (o : Option (Entry T)) → ((m : Entry T) → o ≡ Some m → P m) → Some (pick (entry_at s held) o) ≡ Some m → P m
      of_pick None ih e = subst P (some e) here
      of_pick (Some g) ih e = by_test (goes_first (entry_at s held) g)
          (λ t. subst P (some (rw t at e)) here)
          (λ t. subst P (some (rw t at e)) (ih g refl))

  -- x, with its slot, isn't after y, with its own
  abbrev pub Leads : ℕ → Held T → ℕ → Held T → Type 0
  Leads s x r y = NotAfter (record { due = x.due; number = x.number; slot = s }) (record { due = y.due; number = y.number; slot = r })

  pub first-listed : (k s i : ℕ) (slots : List (Option (Held T))) (x : Held T) → k ≡ s + i → slice_index_or slots i None ≡ Some x → ((j : ℕ) (y : Held T) → slice_index_or slots j None ≡ Some y → Leads k x (s + j) y) → first_due (listed s slots) ≡ Some (entry_at k x)
  first-listed k s i [] x e is all = cc
  first-listed k s zero (None ∷ slots) x e is all = cc
  first-listed k s (suc i) (None ∷ slots) x e is all = first-listed k (s + 1) i slots x (omega arith) is (λ j y f. subst (λ (n : ℕ). Leads k x n y) (omega arith) (all (suc j) y f))
  first-listed k s zero (Some held ∷ slots) x e is all =
      first_due-among (entry_at s held) (listed (s + 1) slots) (Ascends-listed (s + 1) slots)
      ∙ ap (λ (x : Entry T). Some x) (front (first_due (listed (s + 1) slots)) (of_first Led (s + 1) slots (λ j y f. subst (λ (n : ℕ). Leads k x n y) (omega arith) (all (suc j) y f))) ∙ (λ j. entry_at (at j) (eq j)))
    where
      eq : held ≡ x
      eq = cc

      at : s ≡ k
      at = omega arith

      Led : Entry T → Type 0
      Led m = NotAfter (record { due = x.due; number = x.number; slot = k }) (record { due = m.due; number = m.key.number; slot = m.key.slot })

      front : (o : Option (Entry T)) → ((m : Entry T) → o ≡ Some m → Led m) → pick (entry_at s held) o ≡ entry_at s held
      front None ih = refl
      front (Some m) ih = let l = ih m refl in rw eq (rw (wins x.due m.due x.number m.key.number l.due l.number) refl)
  first-listed k s (suc i) (Some held ∷ slots) x e is all =
      first_due-among (entry_at s held) (listed (s + 1) slots) (Ascends-listed (s + 1) slots)
      ∙ rw (first-listed k (s + 1) i slots x (omega arith) is (λ j y f. subst (λ (n : ℕ). Leads k x n y) (omega arith) (all (suc j) y f)))
      (let l = all 0 held refl in
      let m = loses x.due held.due x.number held.number k (s + 0) l.due l.number l.slot (omega arith) in
      rw m refl)

  -- where the first one is due later than n, each is
  pub all_later : (n : ℕ) (es : List (Entry T)) → ((m : Entry T) → first_due es ≡ Some m → n < m.due) → All (λ e. n < e.due) es
  all_later n [] h = All-nil (λ e. n < e.due)
  all_later n (f ∷ fs) h = All-cons (λ e. n < e.due) f fs here (all_later n fs (λ m is. behind (first_due fs) (h (sooner f (first_due fs)) refl) m is))
    where
      behind : (o : Option (Entry T)) → n < (sooner f o).due → (m : Entry T) → o ≡ Some m → n < m.due
      behind None g m is = cc
      behind (Some x) g m is = by_test (nat_le f.due x.due)
          (λ t. let u = rw t at g in let v = at_most f.due x.due t in subst (λ (y : Entry T). n < y.due) (some is) (omega arith))
          (λ t. let u = rw t at g in subst (λ (y : Entry T). n < y.due) (some is) u)
        where
          some : {x y : Entry T} → Some x ≡ Some y → x ≡ y
          some e = cc

          at_most : (a b : ℕ) → nat_le a b ≡ true → a ≤ b
          at_most a b t = grind (arith, nat_tests)

      here : n < f.due
      here = in_front (first_due fs) (h (sooner f (first_due fs)) refl)
        where
          above : (a b : ℕ) → nat_le a b ≡ false → b < a
          above a b t = grind (arith, nat_tests)

          in_front : (o : Option (Entry T)) → n < (sooner f o).due → n < f.due
          in_front None g = g
          in_front (Some x) g = by_test (nat_le f.due x.due)
              (λ t. rw t at g)
              (λ t. let u = rw t at g in let v = above f.due x.due t in omega arith)
