-- The clients of a channel, by their numbers, are those clients whose channel it is.
use Rattle.std.proofs.Common.{◌≡◌, ◌⊎◌, inl, inr, ◌<◌, ℕ, suc, ◌==◌, nat_eq, Bool, true, false, ◌||◌, if◌then◌else◌, List, [], ◌∷◌, map, Option, Some, None, is_some, refl, sym, ap, subst, ◌∙◌, arith}
use Rattle.std.specs.List.{All, AllPairs, filter, list_any}
use Rattle.std.proofs.lemmas.Bool.{false≢true, eq-eqb, eqb-true, ne_eqb}
use Rattle.std.proofs.lemmas.Bool.Decides.{eqb_tells}
use Rattle.std.proofs.lemmas.List.Elements.{All-head, All-tail, All-cons, All-nil, All-map, All-filter}
use Rattle.std.proofs.lemmas.List.Kept.{AllPairs-cons, AllPairs-filter}
use Rattle.path_image.specs.Found.{Pairwise}
use Rattle.broker_history.specs.State.{Client, has_channel}
use Rattle.channel_copies.specs.declared.clients.Client as copies
use Rattle.floor_rooms.specs.ClientPlaces.{AreInOrder}
use Rattle.floor_rooms.specs.Rooms.{client_in}
use Rattle.floor_rooms.specs.Sound.{member_of}

-- numbers that differ
other : (a b : ℕ) → (a < b) ⊎ (b < a) → nat_eq a b ≡ false
other a b h = elim (eqb_tells a b) [ inl same ↦ absurd (elim h [ inl lt ↦ omega (arith, same.1, lt) | inr gt ↦ omega (arith, same.1, gt) ]) | inr apart ↦ apart.0 ]

-- a number that is below all of a list isn't in it
below_all : (n : ℕ) (xs : List ℕ) → All (λ x. n < x) xs → list_any (nat_eq n) xs ≡ false
below_all n [] h = refl
below_all n (x ∷ xs) h =
    let less : n < x = All-head (λ x. n < x) x xs h in
    ap (λ b. b || list_any (nat_eq n) xs) (other n x (inl less)) ∙ below_all n xs (All-tail (λ x. n < x) x xs h)

-- one that is in it is above what all of it are above
above_one : (a n x : ℕ) (xs : List ℕ) (b : Bool) → nat_eq n x ≡ b → a < x → (list_any (nat_eq n) xs ≡ true → a < n) → (b || list_any (nat_eq n) xs) ≡ true → a < n
above_one a n x xs true same less rest e = let is : n ≡ x = eqb-true n x same in omega (arith, is, less)
above_one a n x xs false same less rest e = rest e

in_above : (a n : ℕ) (xs : List ℕ) → All (λ x. a < x) xs → list_any (nat_eq n) xs ≡ true → a < n
in_above a n [] h e = absurd (false≢true e)
in_above a n (x ∷ xs) h e = above_one a n x xs (nat_eq n x) refl (All-head (λ x. a < x) x xs h) (in_above a n xs (All-tail (λ x. a < x) x xs h)) e

-- the parts of a list whose items are in order
first_below : {X : Type 0} (R : X → X → Type 0) (x : X) (xs : List X) → AllPairs R (x ∷ xs) → All (R x) xs
first_below R x xs up = λ k d l. up 0 (suc k) d (omega arith) (omega arith)

rest_pairs : {X : Type 0} (R : X → X → Type 0) (x : X) (xs : List X) → AllPairs R (x ∷ xs) → AllPairs R xs
rest_pairs R x xs up = λ i j d l m. up (suc i) (suc j) d (omega arith) (omega arith)

itself : (n : ℕ) (b : Bool) → (nat_eq n n || b) ≡ true
itself n b = ap (λ c. c || b) (eq-eqb n n refl)

-- where a number of the one list is in the other, it is that one's first or above it
first_or_above : (x y : ℕ) (ys : List ℕ) (b : Bool) → nat_eq x y ≡ b → All (λ z. y < z) ys → (b || list_any (nat_eq x) ys) ≡ true → (x ≡ y) ⊎ (y < x)
first_or_above x y ys true same up e = inl (eqb-true x y same)
first_or_above x y ys false same up e = inr (in_above y x ys up e)

-- numbers other than the first are in both lists without it
rest_alike : (n x : ℕ) (xs ys : List ℕ) (b : Bool) → nat_eq n x ≡ b → All (λ z. x < z) xs → All (λ z. x < z) ys → (b || list_any (nat_eq n) xs) ≡ (b || list_any (nat_eq n) ys) → list_any (nat_eq n) xs ≡ list_any (nat_eq n) ys
rest_alike n x xs ys true same up up' e =
    let is : n ≡ x = eqb-true n x same in
    below_all n xs (subst (λ m. All (λ z. m < z) xs) (sym is) up) ∙ sym (below_all n ys (subst (λ m. All (λ z. m < z) ys) (sym is) up'))
rest_alike n x xs ys false same up up' e = e

-- ascending numbers are the same list where each number is in both or in neither
same_ascending : (xs ys : List ℕ) → AllPairs (λ a b. a < b) xs → AllPairs (λ a b. a < b) ys → ((n : ℕ) → list_any (nat_eq n) xs ≡ list_any (nat_eq n) ys) → xs ≡ ys
same_ascending [] [] up up' same = refl
same_ascending [] (y ∷ ys) up up' same = absurd (false≢true (same y ∙ itself y (list_any (nat_eq y) ys)))
same_ascending (x ∷ xs) [] up up' same = absurd (false≢true (sym (same x) ∙ itself x (list_any (nat_eq x) xs)))
same_ascending (x ∷ xs) (y ∷ ys) up up' same =
    let above : All (λ z. x < z) xs = first_below (λ a b. a < b) x xs up in
    let above' : All (λ z. y < z) ys = first_below (λ a b. a < b) y ys up' in
    let there : (x ≡ y) ⊎ (y < x) = first_or_above x y ys (nat_eq x y) refl above' (sym (same x) ∙ itself x (list_any (nat_eq x) xs)) in
    let back : (y ≡ x) ⊎ (x < y) = first_or_above y x xs (nat_eq y x) refl above (same y ∙ itself y (list_any (nat_eq y) ys)) in
    let is : x ≡ y = elim there [ inl e ↦ e | inr less ↦ elim back [ inl e ↦ sym e | inr more ↦ absurd (omega (arith, less, more)) ] ] in
    let above'' : All (λ z. x < z) ys = subst (λ m. All (λ z. m < z) ys) (sym is) above' in
    let tails : xs ≡ ys = same_ascending xs ys (rest_pairs (λ a b. a < b) x xs up) (rest_pairs (λ a b. a < b) y ys up') (λ n. rest_alike n x xs ys (nat_eq n x) refl above above'' (subst (λ m. (nat_eq n x || list_any (nat_eq n) xs) ≡ (nat_eq n m || list_any (nat_eq n) ys)) (sym is) (same n))) in
    ap (λ z. z ∷ xs) is ∙ ap (λ zs. y ∷ zs) tails

-- the numbers of clients
abbrev pub numbers : List Client → List ℕ
numbers cs = map (λ (c : Client). c.number) cs

numbers_above : (n : ℕ) (cs : List Client) → All (λ (c : Client). n < c.number) cs → All (λ m. n < m) (numbers cs)
numbers_above n cs h = All-map (λ m. n < m) (λ (c : Client). c.number) cs h

numbers_ascend : (cs : List Client) → AreInOrder cs → AllPairs (λ a b. a < b) (numbers cs)
numbers_ascend [] up = λ i j d l m. absurd (let no : ⊥ = omega (arith, m) in no)
numbers_ascend (c ∷ cs) up =
    AllPairs-cons (λ a b. a < b) c.number (numbers cs) (numbers_above c.number cs (first_below (λ (a b : Client). a.number < b.number) c cs up)) (numbers_ascend cs (rest_pairs (λ (a b : Client). a.number < b.number) c cs up))

-- whether a client has the channel
abbrev has_it : (topic channel : List ℕ) → Option Client → Bool
has_it topic channel o = is_some (member_of topic channel o)

abbrev member_where : Client → Bool → Option copies.Client
member_where c b = if b then Some (record { timeout = c.timeout; ready = c.ready }) else None

some_where : (c : Client) (b : Bool) → is_some (member_where c b) ≡ b
some_where c true = refl
some_where c false = refl

has_one : (topic channel : List ℕ) (c : Client) (b : Bool) → has_channel topic channel c ≡ b → has_it topic channel (Some c) ≡ b
has_one topic channel c b e = ap (λ (b : Bool). is_some (member_where c b)) e ∙ some_where c b

-- a number is that of a client of the channel exactly where the client of this number has it
listed_one : (topic channel : List ℕ) (n : ℕ) (c : Client) (cs : List Client) (is has : Bool) → nat_eq n c.number ≡ is → (c.number == n) ≡ is → has_channel topic channel c ≡ has
    → All (λ m. c.number < m) (numbers (filter (has_channel topic channel) cs)) → list_any (nat_eq n) (numbers (filter (has_channel topic channel) cs)) ≡ has_it topic channel (client_in cs n)
    → list_any (nat_eq n) (numbers (if has then c ∷ filter (has_channel topic channel) cs else filter (has_channel topic channel) cs)) ≡ has_it topic channel (if is then Some c else client_in cs n)
listed_one topic channel n c cs true true e f g up rest = ap (λ b. b || list_any (nat_eq n) (numbers (filter (has_channel topic channel) cs))) e ∙ sym (has_one topic channel c true g)
listed_one topic channel n c cs true false e f g up rest =
    let is : n ≡ c.number = eqb-true n c.number e in
    below_all n (numbers (filter (has_channel topic channel) cs)) (subst (λ k. All (λ m. k < m) (numbers (filter (has_channel topic channel) cs))) (sym is) up) ∙ sym (has_one topic channel c false g)
listed_one topic channel n c cs false true e f g up rest = ap (λ b. b || list_any (nat_eq n) (numbers (filter (has_channel topic channel) cs))) e ∙ rest
listed_one topic channel n c cs false false e f g up rest = rest

eq_turned : (a b : ℕ) → nat_eq a b ≡ nat_eq b a
eq_turned a b = elim (eqb_tells a b) [ inl same ↦ same.0 ∙ sym (eq-eqb b a (sym same.1)) | inr apart ↦ apart.0 ∙ sym (ne_eqb b a (λ e. apart.1 (sym e))) ]

listed_in : (topic channel : List ℕ) (n : ℕ) (cs : List Client) → AreInOrder cs → list_any (nat_eq n) (numbers (filter (has_channel topic channel) cs)) ≡ has_it topic channel (client_in cs n)
listed_in topic channel n [] up = refl
listed_in topic channel n (c ∷ cs) up =
    let above : All (λ (d : Client). c.number < d.number) cs = first_below (λ (a b : Client). a.number < b.number) c cs up in
    listed_one topic channel n c cs (c.number == n) (has_channel topic channel c) (eq_turned n c.number) refl refl
    (numbers_above c.number (filter (has_channel topic channel) cs) (All-filter (has_channel topic channel) (λ (d : Client). c.number < d.number) cs above))
    (listed_in topic channel n cs (rest_pairs (λ (a b : Client). a.number < b.number) c cs up))

-- so the numbers of a channel's clients, in order, are these
pub members_are : (topic channel : List ℕ) (clients : List Client) (members : List ℕ) → AreInOrder clients → AllPairs (λ a b. a < b) members → ((n : ℕ) → list_any (nat_eq n) members ≡ is_some (member_of topic channel (client_in clients n)))
    → numbers (filter (has_channel topic channel) clients) ≡ members
members_are topic channel clients members up up' listed =
    same_ascending (numbers (filter (has_channel topic channel) clients)) members (numbers_ascend (filter (has_channel topic channel) clients) (AllPairs-filter (λ (a b : Client). a.number < b.number) (has_channel topic channel) clients up)) up'
    (λ n. listed_in topic channel n clients up ∙ sym (listed n))

-- a client of a list in order is found by its number
found_one : (c d : Client) (cs : List Client) → d.number < c.number → client_in cs c.number ≡ Some c → client_in (d ∷ cs) c.number ≡ Some c
found_one c d cs less found = ap (λ b. if b then Some d else client_in cs c.number) (other d.number c.number (inl less)) ∙ found

found_rest : (d : Client) (cs xs : List Client) → All (λ (c : Client). d.number < c.number) xs → All (λ (c : Client). client_in cs c.number ≡ Some c) xs → All (λ (c : Client). client_in (d ∷ cs) c.number ≡ Some c) xs
found_rest d cs [] above found = All-nil (λ (c : Client). client_in (d ∷ cs) c.number ≡ Some c)
found_rest d cs (x ∷ xs) above found =
    All-cons (λ (c : Client). client_in (d ∷ cs) c.number ≡ Some c) x xs
    (found_one x d cs (All-head (λ (c : Client). d.number < c.number) x xs above) (All-head (λ (c : Client). client_in cs c.number ≡ Some c) x xs found))
    (found_rest d cs xs (All-tail (λ (c : Client). d.number < c.number) x xs above) (All-tail (λ (c : Client). client_in cs c.number ≡ Some c) x xs found))

all_found : (cs : List Client) → AreInOrder cs → All (λ (c : Client). client_in cs c.number ≡ Some c) cs
all_found [] up = All-nil (λ (c : Client). client_in [] c.number ≡ Some c)
all_found (d ∷ cs) up =
    All-cons (λ (c : Client). client_in (d ∷ cs) c.number ≡ Some c) d cs (ap (λ b. if b then Some d else client_in cs d.number) (eq-eqb d.number d.number refl))
    (found_rest d cs cs (first_below (λ (a b : Client). a.number < b.number) d cs up) (all_found cs (rest_pairs (λ (a b : Client). a.number < b.number) d cs up)))

pub each_found : (p : Client → Bool) (cs : List Client) → AreInOrder cs → All (λ (c : Client). client_in cs c.number ≡ Some c) (filter p cs)
each_found p cs up = All-filter p (λ (c : Client). client_in cs c.number ≡ Some c) cs (all_found cs up)

-- what belongs to the numbers belongs to the clients
pub of_numbers : {Y : Type 0} (S : ℕ → Y → Type 0) (cs : List Client) (ys : List Y) → Pairwise S (numbers cs) ys → Pairwise (λ (c : Client) (y : Y). S c.number y) cs ys
of_numbers S [] [] h = tt
of_numbers S [] (y ∷ ys) h = absurd h
of_numbers S (c ∷ cs) [] h = absurd h
of_numbers S (c ∷ cs) (y ∷ ys) h = (h.0, of_numbers S cs ys h.1)
