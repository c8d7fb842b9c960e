-- Ascending numbers, as one is put in and one goes.
use Rattle.std.proofs.Common.{◌≡◌, ◌≢◌, inl, inr, ◌≤◌, ◌<◌, ◌+◌, ℕ, suc, zero, Bool, true, false, ◌||◌, nat_eq, if◌then◌else◌, List, [], ◌∷◌, ◌++◌, length, take, drop, get_or, Some, Result, Ok, Err, refl, sym, ap, subst, ◌∙◌, append_assoc, arith}
use Rattle.std.specs.List.{All, insert, list_any, slice_get}
use Rattle.std.specs.List.Sorted.{IsBinarySearchResult, IsSearchInRange}
use Rattle.std.specs.Ordering.{nat_cmp}
use Rattle.std.proofs.lemmas.Bool.Decides.{eqb_tells}
use Rattle.std.proofs.lemmas.List.Sorted.{searched}
use Rattle.std.proofs.lemmas.Bool.{eq-eqb, eqb-true, false≢true, ne_eqb}
use Rattle.std.proofs.lemmas.List.{get_or-drop, get_or-take, length-drop, length-take-le, take-append-drop}
use Rattle.std.proofs.lemmas.List.Elements.{All-cons, All-head, All-tail}
use Rattle.std.proofs.lemmas.List.Folds.{list_any-append}
use Rattle.std.proofs.lemmas.List.Kept.{AllPairs-cons}
use Rattle.std.proofs.lemmas.Option.{get_or_from_slice_get, slice_get-get_or, slice_get_within}
use Rattle.nsq_base.proofs.PutBy.{AllPairs-append, parts_at}
use Rattle.floor_topics.specs.Seating.{AreAscending, IsNumberPlace}

-- none of those that are all less, or all greater, is the number
none_equal : (n : ℕ) (xs : List ℕ) → All (λ m. nat_eq n m ≡ false) xs → list_any (nat_eq n) xs ≡ false
none_equal n [] all = refl
none_equal n (x ∷ xs) all = ap (λ b. b || list_any (nat_eq n) xs) (All-head (λ m. nat_eq n m ≡ false) x xs all) ∙ none_equal n xs (All-tail (λ m. nat_eq n m ≡ false) x xs all)

-- a part of ascending numbers is ascending
front_up : (p : ℕ) (xs : List ℕ) → p ≤ length xs → AreAscending xs → AreAscending (take p xs)
front_up p xs l up =
    λ i j d low m.
    let n : j < p = omega (arith, m, length-take-le p xs l) in
    let k : i < p = omega (arith, low, n) in
    subst (λ a. a < get_or (take p xs) j d) (sym (get_or-take p xs i d k)) (subst (λ b. get_or xs i d < b) (sym (get_or-take p xs j d n)) (up i j d low (omega (arith, n, l))))

back_up : (p : ℕ) (xs : List ℕ) → AreAscending xs → AreAscending (drop p xs)
back_up p xs up =
    λ i j d low m.
    let n : p + j < length xs = omega (arith, m, length-drop p xs) in
    subst (λ a. a < get_or (drop p xs) j d) (sym (get_or-drop p xs i d)) (subst (λ b. get_or xs (p + i) d < b) (sym (get_or-drop p xs j d)) (up (p + i) (p + j) d (omega (arith, low)) n))

-- one is put in where it belongs
pub put_number_up : (p n : ℕ) (xs : List ℕ) → IsNumberPlace xs n (Err p) → AreAscending xs → AreAscending (insert xs p n)
put_number_up p n xs place up =
    AllPairs-append (λ a b. a < b) (take p xs) (n ∷ drop p xs) (front_up p xs place.0 up) (AllPairs-cons (λ a b. a < b) n (drop p xs) place.1.1 (back_up p xs up))
    (λ k d m.
    let low : get_or (take p xs) k d < n = place.1.0 k d m in
    All-cons (λ b. get_or (take p xs) k d < b) n (drop p xs) low (λ q e l. let high : n < get_or (drop p xs) q e = place.1.1 q e l in omega (arith, low, high)))

either_last : (a b c : Bool) → a || (b || c) ≡ (if b then true else (a || c))
either_last true true c = refl
either_last true false c = refl
either_last false true c = refl
either_last false false c = refl

turn_eq : (m n : ℕ) (b : Bool) → nat_eq m n ≡ b → nat_eq n m ≡ b
turn_eq m n true e = eq-eqb n m (sym (eqb-true m n e))
turn_eq m n false e = ne_eqb n m (λ same. false≢true (sym e ∙ eq-eqb m n (sym same)))

pub put_number_any : (p n : ℕ) (xs : List ℕ) (m : ℕ) → list_any (nat_eq m) (insert xs p n) ≡ (if nat_eq n m then true else list_any (nat_eq m) xs)
put_number_any p n xs m =
    list_any-append (nat_eq m) (take p xs) (n ∷ drop p xs) ∙ either_last (list_any (nat_eq m) (take p xs)) (nat_eq m n) (list_any (nat_eq m) (drop p xs))
    ∙ ap (λ b. if b then true else (list_any (nat_eq m) (take p xs) || list_any (nat_eq m) (drop p xs))) (sym (turn_eq m n (nat_eq m n) refl))
    ∙ ap (λ b. if nat_eq n m then true else b) (sym (list_any-append (nat_eq m) (take p xs) (drop p xs)) ∙ ap (list_any (nat_eq m)) (take-append-drop p xs))

-- one that stands at a place goes
pub gone_number_up : (p : ℕ) (xs : List ℕ) → p < length xs → AreAscending xs → AreAscending (take p xs ++ drop (suc p) xs)
gone_number_up p xs l up =
    AllPairs-append (λ a b. a < b) (take p xs) (drop (suc p) xs) (front_up p xs (omega (arith, l)) up) (back_up (suc p) xs up)
    (λ k d m q e r.
    let n : k < p = omega (arith, m, length-take-le p xs (omega (arith, l))) in
    let s : suc p + q < length xs = omega (arith, r, length-drop (suc p) xs) in
    let first : get_or (take p xs) k d ≡ get_or xs k d = get_or-take p xs k d n in
    let last : get_or (drop (suc p) xs) q e ≡ get_or xs (suc p + q) e = get_or-drop (suc p) xs q e in
    let far : get_or xs (suc p + q) e ≡ get_or xs (suc p + q) d = get_or_same xs (suc p + q) e d s in
    subst (λ a. a < get_or (drop (suc p) xs) q e) (sym first) (subst (λ b. get_or xs k d < b) (sym (last ∙ far)) (up k (suc p + q) d (omega (arith, n)) s)))
  where
    get_or_same : (ys : List ℕ) (i a b : ℕ) → i < length ys → get_or ys i a ≡ get_or ys i b
    get_or_same ys i a b m = get_or_from_slice_get ys i (get_or ys i b) a (slice_get-get_or ys i b m)

gone_where : (a b c d : Bool) → a || (b || c) ≡ d → (b ≡ true → a || c ≡ false) → a || c ≡ (if b then false else d)
gone_where a true c d e f = f refl
gone_where true false c d e f = e
gone_where false false c d e f = e

pub gone_number_any : (p n : ℕ) (xs : List ℕ) (m : ℕ) → slice_get xs p ≡ Some n → AreAscending xs → list_any (nat_eq m) (take p xs ++ drop (suc p) xs) ≡ (if nat_eq n m then false else list_any (nat_eq m) xs)
gone_number_any p n xs m at up =
    let l : p < length xs = slice_get_within xs p n at in
    let is : (d : ℕ) → get_or xs p d ≡ n = λ d. get_or_from_slice_get xs p n d at in
    let parts : take p xs ++ (n ∷ drop (suc p) xs) ≡ xs = ap (λ x. take p xs ++ (x ∷ drop (suc p) xs)) (sym (is n)) ∙ sym (append_assoc (take p xs) (get_or xs p n ∷ []) (drop (suc p) xs)) ∙ parts_at xs p n l in
    let a : Bool = list_any (nat_eq m) (take p xs) in
    let c : Bool = list_any (nat_eq m) (drop (suc p) xs) in
    list_any-append (nat_eq m) (take p xs) (drop (suc p) xs)
    ∙ gone_where a (nat_eq n m) c (list_any (nat_eq m) xs)
    (ap (λ b. a || (b || c)) (turn_eq m n (nat_eq m n) refl) ∙ sym (list_any-append (nat_eq m) (take p xs) (n ∷ drop (suc p) xs)) ∙ ap (list_any (nat_eq m)) parts)
    (λ same.
    let e : n ≡ m = eqb-true n m same in
    let front : a ≡ false =
    none_equal m (take p xs)
    (λ k d r.
    let q : k < p = omega (arith, r, length-take-le p xs (omega (arith, l))) in
    let low : get_or xs k d < get_or xs p d = up k p d q l in
    ne_eqb m (get_or (take p xs) k d) (λ f. let g = get_or-take p xs k d q in let w = is d in omega (arith, low, e, f, g, w))) in
    let back : c ≡ false =
    none_equal m (drop (suc p) xs)
    (λ k d r.
    let q : suc p + k < length xs = omega (arith, r, length-drop (suc p) xs) in
    let high : get_or xs p d < get_or xs (suc p + k) d = up p (suc p + k) d (omega arith) q in
    ne_eqb m (get_or (drop (suc p) xs) k d) (λ f. let g = get_or-drop (suc p) xs k d in let w = is d in omega (arith, high, e, f, g, w))) in
    ap (λ b. b || c) front ∙ back)

-- what is at a place where a number stands, and where it belongs
pub any_at : (p n : ℕ) (xs : List ℕ) → slice_get xs p ≡ Some n → list_any (nat_eq n) xs ≡ true
any_at p n [] at = absurd (let no : ⊥ = cc in no)
any_at zero n (x ∷ xs) at = let same : x ≡ n = cc in ap (λ b. b || list_any (nat_eq n) xs) (eq-eqb n x (sym same))
any_at (suc p) n (x ∷ xs) at = right (nat_eq n x) (list_any (nat_eq n) xs) (any_at p n xs at)
  where
    right : (a b : Bool) → b ≡ true → a || b ≡ true
    right true b e = refl
    right false b e = e

pub none_belongs : (p n : ℕ) (xs : List ℕ) → IsNumberPlace xs n (Err p) → list_any (nat_eq n) xs ≡ false
none_belongs p n xs place =
    ap (list_any (nat_eq n)) (sym (take-append-drop p xs)) ∙ list_any-append (nat_eq n) (take p xs) (drop p xs)
    ∙ ap (λ b. b || list_any (nat_eq n) (drop p xs)) (none_equal n (take p xs) (λ k d m. let low = place.1.0 k d m in ne_eqb n (get_or (take p xs) k d) (λ e. omega (arith, low, e))))
    ∙ none_equal n (drop p xs) (λ k d m. let high = place.1.1 k d m in ne_eqb n (get_or (drop p xs) k d) (λ e. omega (arith, high, e)))

-- what a search says of it
pub number_found : (xs : List ℕ) (n p : ℕ) → p < length xs → get_or xs p 0 ≡ n → slice_get xs p ≡ Some n
number_found xs n p l e = slice_get-get_or xs p 0 l ∙ ap Some e

pub number_belongs : (xs : List ℕ) (n p : ℕ) → p ≤ length xs → ((k : ℕ) → k < p → get_or xs k 0 < n) → ((k : ℕ) → p ≤ k → k < length xs → n < get_or xs k 0) → IsNumberPlace xs n (Err p)
number_belongs xs n p l low high = (
  l,
  (
    λ k d m.
        let q : k < p = omega (arith, m, length-take-le p xs l) in
        let is : get_or (take p xs) k d ≡ get_or xs k 0 = get_or-take p xs k d q ∙ same xs k d (omega (arith, q, l)) in
        subst (λ a. a < n) (sym is) (low k q),
    λ k d m.
        let q : p + k < length xs = omega (arith, m, length-drop p xs) in
        let is : get_or (drop p xs) k d ≡ get_or xs (p + k) 0 = get_or-drop p xs k d ∙ same xs (p + k) d q in
        subst (λ a. n < a) (sym is) (high (p + k) (omega arith) q),
  ),
)
  where
    same : (ys : List ℕ) (i d : ℕ) → i < length ys → get_or ys i d ≡ get_or ys i 0
    same ys i d m = get_or_from_slice_get ys i (get_or ys i 0) d (slice_get-get_or ys i 0 m)

rising : (xs : List ℕ) → AreAscending xs → (i j : ℕ) → i ≤ j → j < length xs → get_or xs i 0 ≤ get_or xs j 0
rising xs up i j low m =
    elim (eqb_tells i j) [
      | inl same ↦ let e : get_or xs i 0 ≡ get_or xs j 0 = ap (λ k. get_or xs k 0) same.1 in omega (arith, e)
      | inr apart ↦ let n : i < j = lesser i j low apart.1 in let less : get_or xs i 0 < get_or xs j 0 = up i j 0 n m in omega (arith, less)
    ]
  where
    lesser : (a b : ℕ) → a ≤ b → a ≢ b → a < b
    lesser a b l other = omega (arith, l, other)

pub number_place_of : (xs : List ℕ) (n : ℕ) (r : Result ℕ ℕ) → AreAscending xs → IsBinarySearchResult (λ y. nat_cmp y n) xs r → IsSearchInRange r (length xs) → IsNumberPlace xs n r
number_place_of xs n (Ok p) up h l = let s = searched xs n (Ok p) h (rising xs up) in number_found xs n p s.0 s.1
number_place_of xs n (Err p) up h l = let s = searched xs n (Err p) h (rising xs up) in number_belongs xs n p s.0 s.1 s.2
