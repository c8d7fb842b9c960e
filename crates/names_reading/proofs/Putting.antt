-- Items that are put one by one into a list in byte order of their keys.
use Rattle.std.proofs.Common.{◌≡◌, ◌≢◌, ℕ, zero, suc, ◌<◌, Bool, true, false, cond, List, [], ◌∷◌, length, get_or, refl, sym, ap, subst, ◌∙◌, arith, Ordering, Less, Equal, Greater}
use Rattle.std.specs.List.{All, Contains, filter, fold}
use Rattle.std.specs.List.Sorted.{IsPermutation}
use Rattle.std.specs.Ordering.{is_lt}
use Rattle.std.proofs.lemmas.Bool.{false≢true}
use Rattle.std.proofs.lemmas.List.Elements.{All-nil, All-cons, All-head, All-tail, All-contains, All-contains_itself, Contains-append_left, Contains-append_right}
use Rattle.std.proofs.lemmas.List.Sorted.{IsPermutation-sym, Contains-permutation}
use Rattle.nsq_base.specs.Names.{byte_order, is_before, IsAscendingBy, put_by}
use Rattle.nsq_base.proofs.PutBy.{byte_order-flip, same_from_tie, IsAscendingBy-put_by, All-put_by}
use Rattle.path_image.proofs.NameLists.{before_once}
use Rattle.names_reading.specs.Reading.{AreApart}

module _ {X : Type 0} where
  -- the first of a list is in it, and so is what is in its rest
  in_first : (x : X) (xs : List X) → Contains (x ∷ xs) x
  in_first x xs = (0, omega arith, refl)

  in_rest : (x y : X) (xs : List X) → Contains xs y → Contains (x ∷ xs) y
  in_rest x y xs c = (suc c.0, omega (arith, c.1), c.2)

  -- what is in a list is its first or in its rest
  in_cases : {A : Type 0} (x y : X) (xs : List X) → (x ≡ y → A) → (Contains xs y → A) → (k : ℕ) → k < length (x ∷ xs) → get_or (x ∷ xs) k y ≡ y → A
  in_cases x y xs f g zero l e = f e
  in_cases x y xs f g (suc k) l e = g (k, omega (arith, l), e)

  -- a filter keeps what passes
  in_filter : (p : X → Bool) (xs : List X) (y : X) → Contains xs y → p y ≡ true → Contains (filter p xs) y
  in_filter p [] y c t = absurd (let no : ⊥ = omega (arith, c.1) in no)
  in_filter p (x ∷ xs) y c t =
      in_cases x y xs
      (λ e. let is : p x ≡ true = ap p e ∙ t in
      subst (λ (b : Bool). Contains (cond b (x ∷ filter p xs) (filter p xs)) y) (sym is) (subst (Contains (x ∷ filter p xs)) e (in_first x (filter p xs))))
      (λ r. either (p x) refl (in_filter p xs y r t))
      c.0 c.1 c.2
    where
      either : (b : Bool) → p x ≡ b → Contains (filter p xs) y → Contains (cond (p x) (x ∷ filter p xs) (filter p xs)) y
      either true e r = subst (λ (b : Bool). Contains (cond b (x ∷ filter p xs) (filter p xs)) y) (sym e) (in_rest x y (filter p xs) r)
      either false e r = subst (λ (b : Bool). Contains (cond b (x ∷ filter p xs) (filter p xs)) y) (sym e) r

module _ {X : Type 0} (key : X → List ℕ) where
  -- an item of another key stays when one is put in
  stays : (xs : List X) (x y : X) → Contains xs y → key y ≢ key x → Contains (put_by key xs x) y
  stays xs x y c other = go (byte_order (key y) (key x)) refl
    where
      go : (o : Ordering) → byte_order (key y) (key x) ≡ o → Contains (put_by key xs x) y
      go Less e = Contains-append_left (filter (λ z. is_before (key z) (key x)) xs) (x ∷ filter (λ z. is_before (key x) (key z)) xs) y (in_filter (λ z. is_before (key z) (key x)) xs y c (ap is_lt e))
      go Equal e = absurd (other (same_from_tie (key y) (key x) e))
      go Greater e =
          Contains-append_right (filter (λ z. is_before (key z) (key x)) xs) (x ∷ filter (λ z. is_before (key x) (key z)) xs) y
          (in_rest x y (filter (λ z. is_before (key x) (key z)) xs) (in_filter (λ z. is_before (key x) (key z)) xs y c (ap is_lt (byte_order-flip (key y) (key x) Greater e))))

  comes : (xs : List X) (x : X) → Contains (put_by key xs x) x
  comes xs x = Contains-append_right (filter (λ z. is_before (key z) (key x)) xs) (x ∷ filter (λ z. is_before (key x) (key z)) xs) x (in_first x (filter (λ z. is_before (key x) (key z)) xs))

  -- and when several are
  all_stay : (xs more : List X) (y : X) → Contains xs y → All (λ x. key y ≢ key x) more → Contains (fold (put_by key) xs more) y
  all_stay xs [] y c other = c
  all_stay xs (x ∷ more) y c other =
      all_stay (put_by key xs x) more y (stays xs x y c (All-head (λ z. key y ≢ key z) x more other)) (All-tail (λ z. key y ≢ key z) x more other)

  all_come : (xs more : List X) → AreApart key more → All (Contains (fold (put_by key) xs more)) more
  all_come xs [] apart = All-nil (Contains xs)
  all_come xs (x ∷ more) apart =
      All-cons (Contains (fold (put_by key) xs (x ∷ more))) x more
      (all_stay (put_by key xs x) more x (comes xs x) (λ k d l. apart 0 (suc k) d (omega arith) (omega (arith, l))))
      (all_come (put_by key xs x) more (λ i j d l m. apart (suc i) (suc j) d (omega (arith, l)) (omega (arith, m))))

  -- what holds of all holds of all that is put in
  pub all_put : (P : X → Type 0) (xs more : List X) → All P xs → All P more → All P (fold (put_by key) xs more)
  all_put P xs [] h k = h
  all_put P xs (x ∷ more) h k = all_put P (put_by key xs x) more (All-put_by key P xs x h (All-head P x more k)) (All-tail P x more k)

  -- the list stays in order
  pub ascending_put : (xs more : List X) → IsAscendingBy key xs → IsAscendingBy key (fold (put_by key) xs more)
  ascending_put xs [] up = up
  ascending_put xs (x ∷ more) up = ascending_put (put_by key xs x) more (IsAscendingBy-put_by key xs x up)

  pub ascending_none : IsAscendingBy key []
  ascending_none i j d l m = absurd (let no : ⊥ = omega (arith, m) in no)

  -- of a list in order all come behind the first
  behind_first : (x : X) (xs : List X) → IsAscendingBy key (x ∷ xs) → All (λ y. is_before (key x) (key y) ≡ true) xs
  behind_first x xs up k d l = up 0 (suc k) d (omega arith) (omega (arith, l))

  up_rest : (x : X) (xs : List X) → IsAscendingBy key (x ∷ xs) → IsAscendingBy key xs
  up_rest x xs up i j d l m = up (suc i) (suc j) d (omega (arith, l)) (omega (arith, m))

  never_both : {A : Type 0} (a b : List ℕ) → is_before a b ≡ true → is_before b a ≡ true → A
  never_both a b e f = absurd (false≢true (sym (before_once a b e) ∙ f))

  in_rests : (x : X) (xs ys : List X) → All (λ z. is_before (key x) (key z) ≡ true) xs → All (Contains (x ∷ ys)) xs → All (Contains ys) xs
  in_rests x xs ys behind all k d l =
      let z = get_or xs k d in
      let c = all k d l in
      in_cases x z ys (λ e. let both : is_before (key z) (key z) ≡ true = subst (λ (w : X). is_before (key w) (key z) ≡ true) e (behind k d l) in never_both (key z) (key z) both both) (λ r. r) c.0 c.1 c.2

  -- two lists in order that have the same items are one
  one_order : (xs ys : List X) → IsAscendingBy key xs → IsAscendingBy key ys → All (Contains ys) xs → All (Contains xs) ys → xs ≡ ys
  one_order [] [] up vp h k = refl
  one_order [] (y ∷ ys) up vp h k = let c = All-head (Contains []) y ys k in absurd (let no : ⊥ = omega (arith, c.1) in no)
  one_order (x ∷ xs) [] up vp h k = let c = All-head (Contains []) x xs h in absurd (let no : ⊥ = omega (arith, c.1) in no)
  one_order (x ∷ xs) (y ∷ ys) up vp h k =
      let c = All-head (Contains (y ∷ ys)) x xs h in
      let d = All-head (Contains (x ∷ xs)) y ys k in
      let behind_x = behind_first x xs up in
      let behind_y = behind_first y ys vp in
      let same : y ≡ x =
      in_cases y x ys (λ e. e)
      (λ r. in_cases x y xs (λ e. sym e)
      (λ s. never_both (key y) (key x) (All-contains (λ z. is_before (key y) (key z) ≡ true) ys x behind_y r) (All-contains (λ z. is_before (key x) (key z) ≡ true) xs y behind_x s))
      d.0 d.1 d.2)
      c.0 c.1 c.2 in
      let rests : xs ≡ ys =
      one_order xs ys (up_rest x xs up) (up_rest y ys vp)
      (in_rests x xs ys behind_x (subst (λ (z : X). All (Contains (z ∷ ys)) xs) same (All-tail (Contains (y ∷ ys)) x xs h)))
      (in_rests y ys xs behind_y (subst (λ (z : X). All (Contains (z ∷ xs)) ys) (sym same) (All-tail (Contains (x ∷ xs)) y ys k))) in
      ap (λ (z : X). z ∷ xs) (sym same) ∙ ap (λ (zs : List X). y ∷ zs) rests

  -- items of which no two have one key, in another order that ascends, are what putting them one by one gives
  pub sorted_put : (xs ys : List X) → AreApart key xs → IsPermutation xs ys → IsAscendingBy key ys → ys ≡ fold (put_by key) [] xs
  sorted_put xs ys apart moved up =
      let put = fold (put_by key) [] xs in
      one_order ys put up (ascending_put [] xs ascending_none)
      (λ k d l. All-contains (Contains put) xs (get_or ys k d) (all_come [] xs apart) (Contains-permutation ys xs (get_or ys k d) (IsPermutation-sym xs ys moved) (All-contains_itself ys k d l)))
      (all_put (Contains ys) [] xs (All-nil (Contains ys)) (λ k d l. Contains-permutation xs ys (get_or xs k d) moved (All-contains_itself xs k d l)))
