-- The one of a list that is due soonest, and the first of a heap.
use Rattle.std.proofs.Common.{◌≡◌, ℕ, ◌≤◌, ◌<◌, Bool, true, false, nat_le, if◌then◌else◌, ◌⊎◌, List, [], ◌∷◌, map, All, Option, Some, None, option_map, inl, inr, refl, sym, ap, ◌∙◌, subst, arith}
use Rattle.std.specs.List.{count_by}
use Rattle.std.proofs.lemmas.Bool.Decides.{nat_tests}
use Rattle.std.proofs.lemmas.List.Elements.{All-nil, All-cons, All-head, All-tail, All-weaker}
use Rattle.due_heap.specs.declared.key.Key.{Key}
use Rattle.due_heap.specs.Heap.{Entry, first_due, sooner as heap_sooner}
use Rattle.broker_history.specs.Channels.{one}
use Rattle.channel_copies.specs.Flights.{sooner, soonest, due_by}
use Rattle.channel_copies.proofs.Counts.{count-cons, count-nothing}

some_same : {X : Type 0} (a b : X) → Some a ≡ Some b → a ≡ b
some_same a b h = cc

not_none : {X : Type 0} (a : X) → Some a ≡ None → ⊥
not_none a h = cc

pub not_due : (now due : ℕ) → now < due → nat_le due now ≡ false
not_due now due h = grind (arith, nat_tests)

pub is_due : (now due : ℕ) → due ≤ now → nat_le due now ≡ true
is_due now due h = grind (arith, nat_tests)

pub due_is : (now due : ℕ) → nat_le due now ≡ true → due ≤ now
due_is now due h = grind (arith, nat_tests)

pub due_isn't : (now due : ℕ) → nat_le due now ≡ false → now < due
due_isn't now due h = grind (arith, nat_tests)

module _ {X : Type 0} (due : X → ℕ) where
  sooner_is : (x : X) (o : Option X) (y : X) → sooner due x o ≡ y → (x ≡ y) ⊎ (o ≡ Some y)
  sooner_is x None y h = inl h
  sooner_is x (Some z) y h = elim (nat_le (due x) (due z)) as (λ b. (if b then x else z) ≡ y → (x ≡ y) ⊎ (Some z ≡ Some y)) [
    | true ↦ λ h. inl h
    | false ↦ λ h. inr (ap Some h)
  ] h

  -- it stands in the list
  pub soonest_in : (p : X → Bool) (xs : List X) (x : X) → soonest due xs ≡ Some x → p x ≡ true → 0 < count_by p xs
  soonest_in p [] x h t = absurd (not_none x (sym h))
  soonest_in p (z ∷ zs) x h t = elim (sooner_is z (soonest due zs) x (some_same _ _ h)) [
    | inl e ↦ omega (arith, count-cons p z zs, ap (λ y. one (p y)) e, ap one t)
    | inr e ↦ omega (arith, count-cons p z zs, soonest_in p zs x e t)
  ]

  pub soonest_none : (xs : List X) → soonest due xs ≡ None → xs ≡ []
  soonest_none [] h = refl
  soonest_none (z ∷ zs) h = absurd (not_none _ h)

  least : (x z : X) (o : Option X) (zs : List X) → sooner due z o ≡ x → (o ≡ None → zs ≡ []) → ((w : X) → o ≡ Some w → All (λ y. due w ≤ due y) zs) → All (λ y. due x ≤ due y) (z ∷ zs)
  least x z None zs h none some = subst (λ l. All (λ y. due x ≤ due y) (z ∷ l)) (sym (none refl)) (All-cons (λ y. due x ≤ due y) z [] (omega (arith, ap due h)) (All-nil (λ y. due x ≤ due y)))
  least x z (Some w) zs h none some = elim (nat_le (due z) (due w)) as (λ b. nat_le (due z) (due w) ≡ b → (if b then z else w) ≡ x → All (λ y. due x ≤ due y) (z ∷ zs)) [
    | true ↦ λ e h. let below = due_is (due w) (due z) e in
        All-cons (λ y. due x ≤ due y) z zs (omega (arith, ap due h)) (All-weaker (λ y. due w ≤ due y) (λ y. due x ≤ due y) (λ y d. omega (arith, d, below, ap due h)) zs (some w refl))
    | false ↦ λ e h. let above = due_isn't (due w) (due z) e in
        All-cons (λ y. due x ≤ due y) z zs (omega (arith, above, ap due h)) (All-weaker (λ y. due w ≤ due y) (λ y. due x ≤ due y) (λ y d. omega (arith, d, ap due h)) zs (some w refl))
  ] refl h

  -- none is due sooner
  pub soonest_least : (xs : List X) (x : X) → soonest due xs ≡ Some x → All (λ y. due x ≤ due y) xs
  soonest_least [] x h = absurd (not_none x (sym h))
  soonest_least (z ∷ zs) x h = least x z (soonest due zs) zs (some_same _ _ h) (soonest_none zs) (soonest_least zs)

  -- where that one isn't due, none is
  none_by : (now : ℕ) (xs : List X) (o : Option X) → soonest due xs ≡ o → due_by due now o ≡ None → count_by (λ y. nat_le (due y) now) xs ≡ 0
  none_by now xs None s h = ap (count_by (λ y. nat_le (due y) now)) (soonest_none xs s)
  none_by now xs (Some x) s h = elim (nat_le (due x) now) as (λ b. nat_le (due x) now ≡ b → (if b then Some x else None) ≡ None → count_by (λ y. nat_le (due y) now) xs ≡ 0) [
    | true ↦ λ e h. absurd (not_none x h)
    | false ↦ λ e h. count-nothing (λ y. nat_le (due y) now) xs (All-weaker (λ y. due x ≤ due y) (λ y. nat_le (due y) now ≡ false) (λ y d. not_due now (due y) (omega (arith, d, due_isn't now (due x) e))) xs (soonest_least xs x s))
  ] refl h

  pub none_due : (now : ℕ) (xs : List X) → due_by due now (soonest due xs) ≡ None → count_by (λ y. nat_le (due y) now) xs ≡ 0
  none_due now xs h = none_by now xs (soonest due xs) refl h

  by_some : (now : ℕ) (o : Option X) (x : X) → due_by due now o ≡ Some x → (o ≡ Some x) × (due x ≤ now)
  by_some now None x h = absurd (not_none x (sym h))
  by_some now (Some y) x h = elim (nat_le (due y) now) as (λ b. nat_le (due y) now ≡ b → (if b then Some y else None) ≡ Some x → (Some y ≡ Some x) × (due x ≤ now)) [
    | true ↦ λ e h. (h, subst (λ z. due z ≤ now) (some_same y x h) (due_is now (due y) e))
    | false ↦ λ e h. absurd (not_none x (sym h))
  ] refl h

  pub first_is : (now : ℕ) (xs : List X) (x : X) → due_by due now (soonest due xs) ≡ Some x → (soonest due xs ≡ Some x) × (due x ≤ now)
  first_is now xs x h = by_some now (soonest due xs) x h

  -- and where the test holds of it, one that passes it and is due stands there
  pub first_in : (p : X → Bool) (now : ℕ) (xs : List X) (x : X) → due_by due now (soonest due xs) ≡ Some x → p x ≡ true → 0 < count_by p xs
  first_in p now xs x h t = soonest_in p xs x (first_is now xs x h).0 t

  pub by_later : (now : ℕ) (x : X) → now < due x → due_by due now (Some x) ≡ None
  by_later now x h = ap (λ b. if b then Some x else None) (not_due now (due x) h)

  pub by_now : (now : ℕ) (x : X) → due x ≤ now → due_by due now (Some x) ≡ Some x
  by_now now x h = ap (λ b. if b then Some x else None) (is_due now (due x) h)

module _ {T : Type 0} where
  heap_sooner_is : (e : Entry T) (o : Option (Entry T)) (f : Entry T) → heap_sooner e o ≡ f → (e ≡ f) ⊎ (o ≡ Some f)
  heap_sooner_is e None f h = inl h
  heap_sooner_is e (Some g) f h = elim (nat_le e.due g.due) as (λ b. (if b then e else g) ≡ f → (e ≡ f) ⊎ (Some g ≡ Some f)) [
    | true ↦ λ h. inl h
    | false ↦ λ h. inr (ap Some h)
  ] h

  -- what holds of each entry holds of the first
  pub first_holds : (P : Entry T → Type 0) (es : List (Entry T)) (f : Entry T) → first_due es ≡ Some f → All P es → P f
  first_holds P [] f h a = absurd (not_none f (sym h))
  first_holds P (e ∷ es) f h a = elim (heap_sooner_is e (first_due es) f (some_same _ _ h)) [
    | inl q ↦ subst P q (All-head P e es a)
    | inr q ↦ first_holds P es f q (All-tail P e es a)
  ]

  pub first_none : (es : List (Entry T)) → first_due es ≡ None → es ≡ []
  first_none [] h = refl
  first_none (e ∷ es) h = absurd (not_none _ h)

  module _ {X : Type 0} (due : X → ℕ) (g : Entry T → X) where
    chosen : (b : Bool) (e f : Entry T) → Some (g (if b then e else f)) ≡ Some (if b then g e else g f)
    chosen true e f = refl
    chosen false e f = refl

    step : (e : Entry T) (o : Option (Entry T)) (o' : Option X) → option_map g o ≡ o' → due (g e) ≡ e.due → ((f : Entry T) → o ≡ Some f → due (g f) ≡ f.due) → Some (g (heap_sooner e o)) ≡ Some (sooner due (g e) o')
    step e None o' h d k = subst (λ x. Some (g e) ≡ Some (sooner due (g e) x)) h refl
    step e (Some f) o' h d k =
        subst (λ x. Some (g (heap_sooner e (Some f))) ≡ Some (sooner due (g e) x)) h
        (chosen (nat_le e.due f.due) e f ∙ (ap (λ n. Some (if nat_le n f.due then g e else g f)) (sym d) ∙ ap (λ n. Some (if nat_le (due (g e)) n then g e else g f)) (sym (k f refl))))

    -- the heap's first is the soonest of what its entries are seen as
    pub first_seen : (es : List (Entry T)) → All (λ e. due (g e) ≡ e.due) es → option_map g (first_due es) ≡ soonest due (map g es)
    first_seen [] a = refl
    first_seen (e ∷ es) a =
        let rest = All-tail (λ e. due (g e) ≡ e.due) e es a in
        step e (first_due es) (soonest due (map g es)) (first_seen es rest) (All-head (λ e. due (g e) ≡ e.due) e es a) (λ f h. first_holds (λ e. due (g e) ≡ e.due) es f h rest)

-- what `first` of a heap tells
abbrev pub told : {T : Type 0} → Entry T → ℕ × Key
told e = (e.due, e.key)

pub told_none : {T : Type 0} (es : List (Entry T)) (o : Option (ℕ × Key)) → o ≡ option_map told (first_due es) → o ≡ None → first_due es ≡ None
told_none es o is none = by (first_due es) (sym is ∙ none)
  where
    by : {T : Type 0} (f : Option (Entry T)) → option_map told f ≡ None → f ≡ None
    by None h = refl
    by (Some e) h = absurd (not_none _ h)

pub record Told {T : Type 0} (es : List (Entry T)) (first : ℕ × Key) : Type 0 where
  pub entry : Entry T
  pub is : first_due es ≡ Some entry
  pub due : first.0 ≡ entry.due
  pub key : first.1 ≡ entry.key

pub told_some : {T : Type 0} (es : List (Entry T)) (o : Option (ℕ × Key)) (first : ℕ × Key) → o ≡ option_map told (first_due es) → o ≡ Some first → Told es first
told_some {T} es o first is some = by (first_due es) refl (sym is ∙ some)
  where
    by : (f : Option (Entry T)) → first_due es ≡ f → option_map told f ≡ Some first → Told es first
    by None e h = absurd (not_none first (sym h))
    by (Some entry) e h =
        let same = some_same (told entry) first h in
        record { entry = entry; is = e; due = ap (λ p. p.0) (sym same); key = ap (λ p. p.1) (sym same) }
