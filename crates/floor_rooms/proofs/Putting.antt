-- Clients that are put in, that go and that change.
use Rattle.std.proofs.Common.{◌≡◌, ◌⊎◌, inl, inr, ℕ, suc, set, ◌<◌, Bool, true, false, not, ◌==◌, nat_lt, if◌then◌else◌, List, [], ◌∷◌, ◌++◌, map, take, drop, get_or, Option, Some, None, option_map, refl, sym, ap, subst, ◌∙◌, append_assoc, arith}
use Rattle.std.specs.List.{All, filter, find, insert}
use Rattle.std.specs.Option.{option_or}
use Rattle.std.proofs.lemmas.Bool.{lt-ltb, le-ltb, ltb-true, eq-eqb, eqb-true, false≢true}
use Rattle.std.proofs.lemmas.Bool.Decides.{eqb_tells, leb_tells}
use Rattle.std.proofs.lemmas.List.{set_split}
use Rattle.std.proofs.lemmas.List.Folds.{find-append}
use Rattle.std.proofs.lemmas.List.Elements.{All-weaker, All-cons, filter-append, filter_passes}
use Rattle.std.proofs.lemmas.List.Kept.{AllPairs-cons, AllPairs-filter}
use Rattle.nsq_base.proofs.PutBy.{AllPairs-append, filter_all, parts_at}
use Rattle.broker_history.proofs.Lists.{find_kept, find_none}
use Rattle.broker_history.specs.State.{Client, put_client, without_client}
use Rattle.floor_rooms.specs.ClientPlaces.{AreInOrder, StandsAt, BelongsAt}

pub put_standing : (xs : List Client) (c : Client) (i : ℕ) → StandsAt xs c.number i → set xs i c ≡ put_client xs c
put_standing xs c i h = sym (rw (h.before, h.after) (sym (set_split xs i c h.in_range)))

pub put_belonging : (xs : List Client) (c : Client) (i : ℕ) → BelongsAt xs c.number i → insert xs i c ≡ put_client xs c
put_belonging xs c i h = sym (rw (h.before, h.after) refl)

-- the others of three parts, of which the middle one has the number
others : (k : ℕ) (d : Client) → (d.number == k) ≡ false → not (d.number == k) ≡ true
others k d h = ap not h

lesser_other : (k : ℕ) (d : Client) → nat_lt d.number k ≡ true → not (d.number == k) ≡ true
lesser_other k d h = elim (eqb_tells d.number k) [ inl same ↦ absurd (omega (arith, ltb-true d.number k h, same.1)) | inr apart ↦ ap not apart.0 ]

greater_other : (k : ℕ) (d : Client) → nat_lt k d.number ≡ true → not (d.number == k) ≡ true
greater_other k d h = elim (eqb_tells d.number k) [ inl same ↦ absurd (omega (arith, ltb-true k d.number h, same.1)) | inr apart ↦ ap not apart.0 ]

pub gone_standing : (xs : List Client) (k i : ℕ) → StandsAt xs k i → take i xs ++ drop (suc i) xs ≡ without_client xs k
gone_standing [] k i h = let l = h.in_range in absurd (omega arith)
gone_standing (x ∷ rest) k i h =
    let xs : List Client = x ∷ rest in
    let p : Client → Bool = λ d. not (d.number == k) in
    let front : filter p (take i xs) ≡ take i xs = subst (λ (ys : List Client). filter p ys ≡ ys) h.before (filter_all p (filter (λ d. nat_lt d.number k) xs) (All-weaker (λ (d : Client). nat_lt d.number k ≡ true) (λ (d : Client). p d ≡ true) (lesser_other k) (filter (λ d. nat_lt d.number k) xs) (filter_passes (λ d. nat_lt d.number k) xs))) in
    let back : filter p (drop (suc i) xs) ≡ drop (suc i) xs = subst (λ (ys : List Client). filter p ys ≡ ys) h.after (filter_all p (filter (λ d. nat_lt k d.number) xs) (All-weaker (λ (d : Client). nat_lt k d.number ≡ true) (λ (d : Client). p d ≡ true) (greater_other k) (filter (λ d. nat_lt k d.number) xs) (filter_passes (λ d. nat_lt k d.number) xs))) in
    let here : filter p (get_or xs i x ∷ []) ≡ [] = ap (λ b. if not b then get_or xs i x ∷ [] else []) (eq-eqb (get_or xs i x).number k (h.is x)) in
    sym (ap (filter p) (sym (parts_at xs i x h.in_range) ∙ append_assoc (take i xs) (get_or xs i x ∷ []) (drop (suc i) xs)) ∙ filter-append p (take i xs) (get_or xs i x ∷ drop (suc i) xs) ∙ ap (λ (ys : List Client). ys ++ filter p (get_or xs i x ∷ drop (suc i) xs)) front
    ∙ ap (λ (ys : List Client). take i xs ++ ys) (filter-append p (get_or xs i x ∷ []) (drop (suc i) xs) ∙ ap (λ (ys : List Client). ys ++ filter p (drop (suc i) xs)) here ∙ back))

pub order_put : (xs : List Client) (c : Client) → AreInOrder xs → AreInOrder (put_client xs c)
order_put xs c up =
    let R : Client → Client → Type 0 = λ y z. y.number < z.number in
    let p : Client → Bool = λ y. nat_lt y.number c.number in
    let q : Client → Bool = λ y. nat_lt c.number y.number in
    let above : All (R c) (filter q xs) = All-weaker (λ (y : Client). q y ≡ true) (R c) (λ y h. ltb-true c.number y.number h) (filter q xs) (filter_passes q xs) in
    AllPairs-append R (filter p xs) (c ∷ filter q xs) (AllPairs-filter R p xs up)
    (AllPairs-cons R c (filter q xs) above (AllPairs-filter R q xs up))
    (All-weaker (λ (y : Client). p y ≡ true) (λ (y : Client). All (R y) (c ∷ filter q xs))
    (λ y h. let low = ltb-true y.number c.number h in All-cons (R y) c (filter q xs) low (All-weaker (R c) (R y) (λ z k. omega (arith, low, k)) (filter q xs) above))
    (filter p xs) (filter_passes p xs))

pub order_gone : (xs : List Client) (k : ℕ) → AreInOrder xs → AreInOrder (without_client xs k)
order_gone xs k up = AllPairs-filter (λ (y z : Client). y.number < z.number) (λ d. not (d.number == k)) xs up

or_none : {X : Type 0} (o : Option X) → option_or o None ≡ o
or_none None = refl
or_none (Some x) = refl

-- what is found of a number is of that number
is_number : (k : ℕ) (d : Client) → (d.number == k) ≡ true → d.number ≡ k
is_number k d h = eqb-true d.number k h

found_where : (xs : List Client) (c : Client) (k : ℕ) → ((c.number < k) ⊎ ((c.number ≡ k) ⊎ (k < c.number)))
    → option_or (find (λ (d : Client). d.number == k) (filter (λ (d : Client). nat_lt d.number c.number) xs)) (if c.number == k then Some c else find (λ (d : Client). d.number == k) (filter (λ (d : Client). nat_lt c.number d.number) xs))
    ≡ (if c.number == k then Some c else find (λ (d : Client). d.number == k) xs)
found_where xs c k (inl below) =
    let apart : (c.number == k) ≡ false = elim (eqb_tells c.number k) [ inl same ↦ absurd (omega (arith, same.1, below)) | inr other ↦ other.0 ] in
    let front : find (λ (d : Client). d.number == k) (filter (λ (d : Client). nat_lt d.number c.number) xs) ≡ None = find_none (λ (d : Client). d.number == k) (λ (d : Client). nat_lt d.number c.number) xs (λ d h. le-ltb d.number c.number (omega (arith, is_number k d h, below))) in
    let back : find (λ (d : Client). d.number == k) (filter (λ (d : Client). nat_lt c.number d.number) xs) ≡ find (λ (d : Client). d.number == k) xs = find_kept (λ (d : Client). d.number == k) (λ (d : Client). nat_lt c.number d.number) xs (λ d h. lt-ltb c.number d.number (omega (arith, is_number k d h, below))) in
    rw (apart, front, back) refl
found_where xs c k (inr (inl same)) =
    let here : (c.number == k) ≡ true = eq-eqb c.number k same in
    let front : find (λ (d : Client). d.number == k) (filter (λ (d : Client). nat_lt d.number c.number) xs) ≡ None = find_none (λ (d : Client). d.number == k) (λ (d : Client). nat_lt d.number c.number) xs (λ d h. le-ltb d.number c.number (omega (arith, is_number k d h, same))) in
    rw (here, front) refl
found_where xs c k (inr (inr above)) =
    let apart : (c.number == k) ≡ false = elim (eqb_tells c.number k) [ inl same ↦ absurd (omega (arith, same.1, above)) | inr other ↦ other.0 ] in
    let front : find (λ (d : Client). d.number == k) (filter (λ (d : Client). nat_lt d.number c.number) xs) ≡ find (λ (d : Client). d.number == k) xs = find_kept (λ (d : Client). d.number == k) (λ (d : Client). nat_lt d.number c.number) xs (λ d h. lt-ltb d.number c.number (omega (arith, is_number k d h, above))) in
    let back : find (λ (d : Client). d.number == k) (filter (λ (d : Client). nat_lt c.number d.number) xs) ≡ None = find_none (λ (d : Client). d.number == k) (λ (d : Client). nat_lt c.number d.number) xs (λ d h. le-ltb c.number d.number (omega (arith, is_number k d h, above))) in
    rw (apart, front, back) (or_none (find (λ (d : Client). d.number == k) xs))

three_ways : (a b : ℕ) → ((a < b) ⊎ ((a ≡ b) ⊎ (b < a)))
three_ways a b = elim (eqb_tells a b) [ inl same ↦ inr (inl same.1) | inr apart ↦ elim (leb_tells a b) [ inl low ↦ inl (omega (arith, low.1, apart.1)) | inr high ↦ inr (inr high.1) ] ]

pub found_put : (xs : List Client) (c : Client) (k : ℕ) → find (λ (d : Client). d.number == k) (put_client xs c) ≡ (if c.number == k then Some c else find (λ (d : Client). d.number == k) xs)
found_put xs c k = find-append (λ (d : Client). d.number == k) (filter (λ (d : Client). nat_lt d.number c.number) xs) (c ∷ filter (λ (d : Client). nat_lt c.number d.number) xs) ∙ found_where xs c k (three_ways c.number k)

gone_where : (xs : List Client) (number k : ℕ) (b : Bool) → (number == k) ≡ b → find (λ (d : Client). d.number == k) (without_client xs number) ≡ (if b then None else find (λ (d : Client). d.number == k) xs)
gone_where xs number k true e = find_none (λ (d : Client). d.number == k) (λ (d : Client). not (d.number == number)) xs (λ d h. ap not (eq-eqb d.number number (is_number k d h ∙ sym (eqb-true number k e))))
gone_where xs number k false e = find_kept (λ (d : Client). d.number == k) (λ (d : Client). not (d.number == number)) xs (λ d h. elim (eqb_tells d.number number) [ inl same ↦ absurd (false≢true (sym e ∙ eq-eqb number k (sym same.1 ∙ is_number k d h))) | inr apart ↦ ap not apart.0 ])

pub found_gone : (xs : List Client) (number k : ℕ) → find (λ (d : Client). d.number == k) (without_client xs number) ≡ (if number == k then None else find (λ (d : Client). d.number == k) xs)
found_gone xs number k = gone_where xs number k (number == k) refl

changed_one : (f : Client → Client) (x : Client) (xs : List Client) (k : ℕ) (b : Bool) → (x.number == k) ≡ b → (f x).number ≡ x.number → find (λ (d : Client). d.number == k) (map f xs) ≡ option_map f (find (λ (d : Client). d.number == k) xs)
    → find (λ (d : Client). d.number == k) (f x ∷ map f xs) ≡ option_map f (if b then Some x else find (λ (d : Client). d.number == k) xs)
changed_one f x xs k true e same h = rw (same, e) refl
changed_one f x xs k false e same h = rw (same, e) h

pub found_map : (f : Client → Client) (xs : List Client) (k : ℕ) → ((c : Client) → (f c).number ≡ c.number) → find (λ (d : Client). d.number == k) (map f xs) ≡ option_map f (find (λ (d : Client). d.number == k) xs)
found_map f [] k same = refl
found_map f (x ∷ xs) k same = changed_one f x xs k (x.number == k) refl (same x) (found_map f xs k same)
