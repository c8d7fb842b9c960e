-- The clients of a channel lose it.
use Rattle.std.proofs.Common.{◌≡◌, ◌<◌, ℕ, suc, set, Bool, true, false, ◌==◌, ◌||◌, nat_eq, nat_lt, if◌then◌else◌, List, [], ◌∷◌, ◌++◌, map, take, drop, get_or, Some, None, refl, sym, ap, subst, ◌∙◌, append_assoc, arith}
use Rattle.std.specs.List.{All, filter, find, list_any}
use Rattle.std.proofs.lemmas.Bool.{eq-eqb, false≢true, ltb-true, ne_eqb}
use Rattle.std.proofs.lemmas.List.{map-append, set_split}
use Rattle.std.proofs.lemmas.List.Elements.{All-cons, All-head, All-nil, All-tail, All-weaker, filter_passes}
use Rattle.std.proofs.lemmas.List.Folds.{list_any-append}
use Rattle.std.proofs.lemmas.List.Kept.{AllPairs-cons}
use Rattle.nsq_base.proofs.PutBy.{parts_at}
use Rattle.broker_history.specs.State.{Client, Lost, has_channel}
use Rattle.broker_history.specs.Changes.{lost}
use Rattle.floor_rooms.specs.ClientPlaces.{AreInOrder, StandsAt}
use Rattle.floor_rooms.specs.Rooms.{client_in}
use Rattle.floor_rooms.specs.Sound.{AsksForNone}
use Rattle.floor_topics.specs.Losing.{lost_among, lost_one}

-- lists that are changed alike, or not at all
pub map_alike : {X Y : Type 0} (f g : X → Y) (xs : List X) → All (λ x. f x ≡ g x) xs → map f xs ≡ map g xs
map_alike f g [] all = refl
map_alike f g (x ∷ xs) all = ap (λ y. y ∷ map f xs) (All-head (λ x. f x ≡ g x) x xs all) ∙ ap (λ ys. g x ∷ ys) (map_alike f g xs (All-tail (λ x. f x ≡ g x) x xs all))

pub map_same : {X : Type 0} (f : X → X) (xs : List X) → All (λ x. f x ≡ x) xs → map f xs ≡ xs
map_same f [] all = refl
map_same f (x ∷ xs) all = ap (λ y. y ∷ map f xs) (All-head (λ x. f x ≡ x) x xs all) ∙ ap (λ ys. x ∷ ys) (map_same f xs (All-tail (λ x. f x ≡ x) x xs all))

pub map_twice : {X : Type 0} (f g h : X → X) (xs : List X) → ((x : X) → g (f x) ≡ h x) → map g (map f xs) ≡ map h xs
map_twice f g h [] e = refl
map_twice f g h (x ∷ xs) e = ap (λ y. y ∷ map g (map f xs)) (e x) ∙ ap (λ ys. h x ∷ ys) (map_twice f g h xs e)

pub all_true : {X : Type 0} (P : X → Type 0) (xs : List X) → ((x : X) → P x) → All P xs
all_true P xs f = λ i d l. f (get_or xs i d)

-- losing a channel leaves a client's number, and is done once
kept_number : (c : Client) (b : Bool) → (if b then record c { phase = Lost } else c).number ≡ c.number
kept_number c true = refl
kept_number c false = refl

pub lost_number : (topic channel : List ℕ) (c : Client) → (lost topic channel c).number ≡ c.number
lost_number topic channel c = kept_number c (has_channel topic channel c)

lost_where : (topic channel : List ℕ) (c : Client) (b : Bool) → has_channel topic channel c ≡ b → lost topic channel (if b then record c { phase = Lost } else c) ≡ (if b then record c { phase = Lost } else c)
lost_where topic channel c true e = refl
lost_where topic channel c false e = ap (λ b. if b then record c { phase = Lost } else c) e

lost_twice : (topic channel : List ℕ) (c : Client) → lost topic channel (lost topic channel c) ≡ lost topic channel c
lost_twice topic channel c = lost_where topic channel c (has_channel topic channel c) refl

-- a client that lost a channel, or some others did
other_number : (n : ℕ) (topic channel : List ℕ) (c : Client) → nat_eq c.number n ≡ false → (if nat_eq c.number n then lost topic channel c else c) ≡ c
other_number n topic channel c e = ap (λ b. if b then lost topic channel c else c) e

lesser_other : (n : ℕ) (c : Client) → nat_lt c.number n ≡ true → nat_eq c.number n ≡ false
lesser_other n c h = let low = ltb-true c.number n h in ne_eqb c.number n (λ e. omega (arith, low, e))

greater_other : (n : ℕ) (c : Client) → nat_lt n c.number ≡ true → nat_eq c.number n ≡ false
greater_other n c h = let low = ltb-true n c.number h in ne_eqb c.number n (λ e. omega (arith, low, e))

module _ (n : ℕ) (topic channel : List ℕ) (cs : List Client) where
  abbrev one : Client → Client
  one c = if nat_eq c.number n then lost topic channel c else c

  front_same : (k : ℕ) → filter (λ d. nat_lt d.number n) cs ≡ take k cs → map one (take k cs) ≡ take k cs
  front_same k e =
      map_same one (take k cs)
      (subst (All (λ c. one c ≡ c)) e (All-weaker (λ (c : Client). nat_lt c.number n ≡ true) (λ c. one c ≡ c) (λ c h. other_number n topic channel c (lesser_other n c h)) (filter (λ d. nat_lt d.number n) cs) (filter_passes (λ d. nat_lt d.number n) cs)))

  back_same : (ds : List Client) → filter (λ d. nat_lt n d.number) cs ≡ ds → map one ds ≡ ds
  back_same ds e =
      map_same one ds
      (subst (All (λ c. one c ≡ c)) e (All-weaker (λ (c : Client). nat_lt n c.number ≡ true) (λ c. one c ≡ c) (λ c h. other_number n topic channel c (greater_other n c h)) (filter (λ d. nat_lt n d.number) cs) (filter_passes (λ d. nat_lt n d.number) cs)))

  pub one_standing : (k : ℕ) (x y : Client) → StandsAt cs n k → x ≡ get_or cs k x → y ≡ lost topic channel x → set cs k y ≡ lost_one n topic channel cs
  one_standing k x y h e lose =
      let number : nat_eq x.number n ≡ true = eq-eqb x.number n (ap (λ (c : Client). c.number) e ∙ h.is x) in
      let here : y ≡ one x = lose ∙ sym (ap (λ b. if b then lost topic channel x else x) number) in
      let parts : cs ≡ take k cs ++ (x ∷ drop (suc k) cs) = sym (ap (λ (c : Client). take k cs ++ (c ∷ drop (suc k) cs)) e ∙ sym (append_assoc (take k cs) (get_or cs k x ∷ []) (drop (suc k) cs)) ∙ parts_at cs k x h.in_range) in
      set_split cs k y h.in_range ∙ ap (λ (c : Client). take k cs ++ c ∷ drop (suc k) cs) here ∙ ap (λ (ds : List Client). ds ++ one x ∷ drop (suc k) cs) (sym (front_same k h.before))
      ∙ ap (λ (ds : List Client). map one (take k cs) ++ one x ∷ ds) (sym (back_same (drop (suc k) cs) h.after)) ∙ sym (map-append one (take k cs) (x ∷ drop (suc k) cs)) ∙ ap (map one) (sym parts)

  -- where none has the number nothing changes
  none_one : (c : Client) (ds : List Client) (b : Bool) → (if b then Some c else find (λ (d : Client). d.number == n) ds) ≡ None → (b ≡ false) × (find (λ (d : Client). d.number == n) ds ≡ None)
  none_one c ds true e = absurd (let no : ⊥ = cc in no)
  none_one c ds false e = (refl, e)

  none_all : (ds : List Client) → find (λ (d : Client). d.number == n) ds ≡ None → All (λ c. one c ≡ c) ds
  none_all [] e = All-nil (λ c. one c ≡ c)
  none_all (d ∷ ds) e =
      let parts = none_one d ds (d.number == n) e in
      All-cons (λ c. one c ≡ c) d ds (other_number n topic channel d parts.0) (none_all ds parts.1)

  pub one_belonging : find (λ (d : Client). d.number == n) cs ≡ None → cs ≡ lost_one n topic channel cs
  one_belonging none = sym (map_same one cs (none_all cs none))

-- one more of some
one_more : (topic channel : List ℕ) (c : Client) (a b : Bool) → (if b then lost topic channel (if a then lost topic channel c else c) else (if a then lost topic channel c else c)) ≡ (if a || b then lost topic channel c else c)
one_more topic channel c true true = lost_twice topic channel c
one_more topic channel c true false = refl
one_more topic channel c false true = refl
one_more topic channel c false false = refl

number_where : (topic channel : List ℕ) (c : Client) (a : Bool) → (if a then lost topic channel c else c).number ≡ c.number
number_where topic channel c true = lost_number topic channel c
number_where topic channel c false = refl

last_any : (a b : Bool) → a || (b || false) ≡ a || b
last_any a true = refl
last_any a false = refl

pub among_more : (numbers : List ℕ) (n : ℕ) (topic channel : List ℕ) (cs : List Client) → lost_one n topic channel (lost_among numbers topic channel cs) ≡ lost_among (numbers ++ n ∷ []) topic channel cs
among_more numbers n topic channel cs =
    map_twice (λ c. if list_any (nat_eq c.number) numbers then lost topic channel c else c) (λ c. if nat_eq c.number n then lost topic channel c else c) (λ c. if list_any (nat_eq c.number) (numbers ++ n ∷ []) then lost topic channel c else c) cs
    (λ c.
    let a : Bool = list_any (nat_eq c.number) numbers in
    let d : Client = if a then lost topic channel c else c in
    ap (λ m. if nat_eq m n then lost topic channel d else d) (number_where topic channel c a) ∙ one_more topic channel c a (nat_eq c.number n)
    ∙ ap (λ b. if b then lost topic channel c else c) (sym (list_any-append (nat_eq c.number) numbers (n ∷ []) ∙ last_any a (nat_eq c.number n))))

pub among_none : (topic channel : List ℕ) (cs : List Client) → cs ≡ lost_among [] topic channel cs
among_none topic channel cs = sym (map_same (λ c. c) cs (all_true (λ c. c ≡ c) cs (λ c. refl)))

pub all_map : {X Y : Type 0} (f : X → Y) (P : X → Type 0) (Q : Y → Type 0) (xs : List X) → ((x : X) → P x → Q (f x)) → All P xs → All Q (map f xs)
all_map f P Q [] h all = All-nil Q
all_map f P Q (x ∷ xs) h all = All-cons Q (f x) (map f xs) (h x (All-head P x xs all)) (all_map f P Q xs h (All-tail P x xs all))

-- they stay in the order of their numbers
pub order_map : (f : Client → Client) (cs : List Client) → ((c : Client) → (f c).number ≡ c.number) → AreInOrder cs → AreInOrder (map f cs)
order_map f [] same up = up
order_map f (c ∷ cs) same up =
    let R : Client → Client → Type 0 = λ a b. a.number < b.number in
    let head : All (R c) cs = λ k d m. up 0 (suc k) d (omega arith) (omega (arith, m)) in
    AllPairs-cons R (f c) (map f cs)
    (all_map f (R c) (R (f c)) cs (λ x low. let e = same x in let g = same c in omega (arith, low, e, g)) head)
    (order_map f cs same (λ i j d l m. up (suc i) (suc j) d (omega (arith, l)) (omega (arith, m))))

pub among_order : (numbers : List ℕ) (topic channel : List ℕ) (cs : List Client) → AreInOrder cs → AreInOrder (lost_among numbers topic channel cs)
among_order numbers topic channel cs up = order_map (λ c. if list_any (nat_eq c.number) numbers then lost topic channel c else c) cs (λ c. number_where topic channel c (list_any (nat_eq c.number) numbers)) up

pub lost_order : (topic channel : List ℕ) (cs : List Client) → AreInOrder cs → AreInOrder (map (lost topic channel) cs)
lost_order topic channel cs up = order_map (lost topic channel) cs (lost_number topic channel) up

-- each client in order is the one that is found of its number
pub found_itself : (cs : List Client) → AreInOrder cs → All (λ c. client_in cs c.number ≡ Some c) cs
found_itself [] up = All-nil (λ c. client_in [] c.number ≡ Some c)
found_itself (c ∷ cs) up =
    let after : AreInOrder cs = λ i j d l m. up (suc i) (suc j) d (omega (arith, l)) (omega (arith, m)) in
    let head : All (λ (d : Client). c.number < d.number) cs = λ k d m. up 0 (suc k) d (omega arith) (omega (arith, m)) in
    All-cons (λ d. client_in (c ∷ cs) d.number ≡ Some d) c cs (ap (λ b. if b then Some c else client_in cs c.number) (eq-eqb c.number c.number refl))
    (λ k d m.
    let x : Client = get_or cs k d in
    let low : c.number < x.number = head k d m in
    ap (λ b. if b then Some c else client_in cs x.number) (ne_eqb c.number x.number (λ e. omega (arith, low, e))) ∙ found_itself cs after k d m)

-- where the numbers are those of a channel's clients, these are all that lose it
known_where : (topic channel : List ℕ) (c : Client) (a b : Bool) → a ≡ b → has_channel topic channel c ≡ b → (if a then lost topic channel c else c) ≡ lost topic channel c
known_where topic channel c true true e h = refl
known_where topic channel c true false e h = absurd (false≢true (sym e))
known_where topic channel c false true e h = absurd (false≢true e)
known_where topic channel c false false e h = sym (ap (λ b. if b then record c { phase = Lost } else c) h)

pub among_members : (numbers : List ℕ) (topic channel : List ℕ) (cs : List Client) → All (λ (c : Client). list_any (nat_eq c.number) numbers ≡ has_channel topic channel c) cs → lost_among numbers topic channel cs ≡ map (lost topic channel) cs
among_members numbers topic channel cs all =
    map_alike (λ c. if list_any (nat_eq c.number) numbers then lost topic channel c else c) (lost topic channel) cs
    (All-weaker (λ (c : Client). list_any (nat_eq c.number) numbers ≡ has_channel topic channel c) (λ c. (if list_any (nat_eq c.number) numbers then lost topic channel c else c) ≡ lost topic channel c)
    (λ c e. known_where topic channel c (list_any (nat_eq c.number) numbers) (has_channel topic channel c) e refl) cs all)

-- a client without a channel asks for none still
fresh_where : (c : Client) (b : Bool) → AsksForNone c → AsksForNone (if b then record c { phase = Lost } else c)
fresh_where c true h = λ e. absurd (false≢true e)
fresh_where c false h = h

pub lost_fresh : (topic channel : List ℕ) (cs : List Client) → All AsksForNone cs → All AsksForNone (map (lost topic channel) cs)
lost_fresh topic channel cs all = all_map (lost topic channel) AsksForNone AsksForNone cs (λ c h. fresh_where c (has_channel topic channel c) h) all
