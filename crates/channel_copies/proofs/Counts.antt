-- How many items of a list pass a test, as one comes or goes.
use Rattle.std.proofs.Common.{◌≡◌, ◌+◌, ◌≤◌, Bool, true, false, ◌&&◌, List, [], ◌∷◌, ◌++◌, map, length, Result, Ok, Err, IsOk, OnOk, OnErr, Option, None, Some, IfNone, refl, sym, ap, ◌∙◌, subst, arith}
use Rattle.std.specs.List.{All, count_by}
use Rattle.std.proofs.lemmas.List.Sums.{sum_by-append}
use Rattle.std.proofs.lemmas.List.Elements.{All-nil, All-cons, All-head, All-tail, All-append}
use Rattle.std.proofs.lemmas.Bool.{false≢true}
use Rattle.std.proofs.lemmas.Grind.{common_steps}
use Rattle.due_heap.specs.Heap.{Entry, TakesOut}
use Rattle.broker_history.specs.Channels.{one, AsOften}
use Rattle.channel_copies.specs.Flights.{Leaves}

pub count-cons : {X : Type 0} (p : X → Bool) (x : X) (xs : List X) → count_by p (x ∷ xs) ≡ one (p x) + count_by p xs
count-cons p x xs = grind (arith, common_steps)

pub count-append : {X : Type 0} (p : X → Bool) (xs ys : List X) → count_by p (xs ++ ys) ≡ count_by p xs + count_by p ys
count-append p xs ys = sum_by-append _ xs ys

pub count-map : {X Y : Type 0} (p : Y → Bool) (f : X → Y) (xs : List X) → count_by p (map f xs) ≡ count_by (λ x. p (f x)) xs
count-map p f [] = refl
count-map p f (x ∷ xs) = count-cons p (f x) (map f xs) ∙ (ap (λ n. one (p (f x)) + n) (count-map p f xs) ∙ sym (count-cons (λ y. p (f y)) x xs))

pub count-out : {T : Type 0} (p : Entry T → Bool) {e : Entry T} {old new : List (Entry T)} → TakesOut e old new → count_by p old ≡ count_by p new + one (p e)
count-out p {e} t = omega (arith, ap (count_by p) t.was, ap (count_by p) t.is, count-append p t.before (e ∷ t.after), count-append p t.before t.after, count-cons p e t.after)

pub all-parts : {X : Type 0} (P : X → Type 0) (xs ys : List X) → All P (xs ++ ys) → All P xs × All P ys
all-parts P [] ys a = (All-nil P, a)
all-parts P (x ∷ xs) ys a =
    let b = all-parts P xs ys (All-tail P x (xs ++ ys) a) in
    (All-cons P x xs (All-head P x (xs ++ ys) a) b.0, b.1)

pub all-in : {T : Type 0} (P : Entry T → Type 0) {e : Entry T} {old new : List (Entry T)} → TakesOut e old new → P e → All P new → All P old
all-in P {e} t one all =
    let parts = all-parts P t.before t.after (subst (All P) t.is all) in
    subst (All P) (sym t.was) (All-append P t.before (e ∷ t.after) parts.0 (All-cons P e t.after one parts.1))

pub all-out : {T : Type 0} (P : Entry T → Type 0) {e : Entry T} {old new : List (Entry T)} → TakesOut e old new → All P old → P e × All P new
all-out P {e} t all =
    let parts = all-parts P t.before (e ∷ t.after) (subst (All P) t.was all) in
    (All-head P e t.after parts.1, subst (All P) (sym t.is) (All-append P t.before t.after parts.0 (All-tail P e t.after parts.1)))

pub on_ok : {T E P : Type 0} (r : Result T E) → IsOk r → OnOk r P → P
on_ok (Ok x) i p = p
on_ok (Err e) i p = absurd (false≢true i)

pub if_none : {T P : Type 0} (r : Option T) → P → IfNone r P
if_none None p = p
if_none (Some x) p = tt

-- a call that fails only where nothing was there did not fail
pub on_present : {T E X P : Type 0} (r : Result T E) {o : Option X} {x : X} → OnErr r (o ≡ None) → o ≡ Some x → OnOk r P → P
on_present (Ok y) a s p = p
on_present (Err e) a s p = absurd (let no : ⊥ = cc in no)

less : (a b : Bool) → one (a && b) ≤ one b
less true b = omega arith
less false true = omega arith
less false false = omega arith

pub count-and : {X : Type 0} (p q : X → Bool) (xs : List X) → count_by (λ x. p x && q x) xs ≤ count_by q xs
count-and p q [] = omega arith
count-and p q (x ∷ xs) = omega (arith, count-and p q xs, count-cons q x xs, count-cons (λ x. p x && q x) x xs, less (p x) (q x))

pub and_true : (a b : Bool) → b ≡ true → one (a && b) ≡ one a
and_true true b h = ap one h
and_true false b h = refl

pub count-none : {X : Type 0} (xs : List X) → count_by (λ x. false) xs ≡ 0
count-none [] = refl
count-none (x ∷ xs) = omega (arith, count-cons (λ x. false) x xs, count-none xs)

pub count-all : {X : Type 0} (xs : List X) → count_by (λ x. true) xs ≡ length xs
count-all [] = refl
count-all (x ∷ xs) = omega (arith, count-cons (λ x. true) x xs, count-all xs)

pub count-nothing : {X : Type 0} (p : X → Bool) (xs : List X) → All (λ x. p x ≡ false) xs → count_by p xs ≡ 0
count-nothing p [] a = refl
count-nothing p (x ∷ xs) a = omega (arith, count-cons p x xs, ap one (All-head (λ x. p x ≡ false) x xs a), count-nothing p xs (All-tail (λ x. p x ≡ false) x xs a))

pub shorter : {X : Type 0} (x : X) (old new : List X) → Leaves x old new → length old ≡ length new + 1
shorter x old new h = omega (arith, h (λ x. true), count-all old, count-all new)

pub as_long : {X : Type 0} (old new : List X) → AsOften old new → length old ≡ length new
as_long old new h = omega (arith, h (λ x. true), count-all old, count-all new)
