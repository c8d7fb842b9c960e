-- A list of the file of names, read item by item.
use Rattle.std.proofs.Common.{◌≡◌, ◌≢◌, ℕ, ◌+◌, ◌<◌, Bool, true, false, not, List, [], ◌∷◌, ◌++◌, length, map, take, drop, get_or, suc, append_assoc, length-append, Option, Some, None, option_map, option_and_then, codes, refl, sym, ap, subst, ◌∙◌, arith}
use Rattle.std.specs.List.{AllPairs, filter, fold, list_any}
use Rattle.std.specs.Str.{bytes_eq}
use Rattle.std.proofs.lemmas.List.{map_more, map-append, append-nil}
use Rattle.std.proofs.lemmas.List.Elements.{filter-append}
use Rattle.std.proofs.lemmas.List.Sums.{fold-append}
use Rattle.std.proofs.lemmas.List.Folds.{list_any_at, Any-from_list_any}
use Rattle.std.proofs.lemmas.List.Quantifiers.{all_pairs_push}
use Rattle.std.proofs.lemmas.List.{get_or_append_left}
use Rattle.std.proofs.Math.Seq.{get_or-append_seam}
use Rattle.std.proofs.lemmas.Slice.Eq.{bytes_eq-Decides}
use Rattle.serde_json.specs.Data as json
use Rattle.serde_json.specs.View.{items_of}
use Rattle.nsq_base.specs.Name.{is_ephemeral}
use Rattle.nsq_base.specs.Names.{is_before}
use Rattle.serde_json.specs.Find.{get, as_array}
use Rattle.serde_json.specs.Read.{read}
use Rattle.path_image.specs.Data.{KeptChannel, KeptTopic, ItemsSay, SaysList, SaysChannel, SaysTopic, IsBadNames, durable}
use Rattle.path_plain.specs.Reads.{ItemsKeep, ListKeeps, present}
use Rattle.path_image.specs.Once.{items_once}
use Rattle.path_image.proofs.NameLists.{before_once}
use Rattle.path_plain.proofs.Lists.{parts_at}

true_false : {A : Type 0} → true ≡ false → A
true_false e = cc

-- what is made of one element more
pub fold_next : {A B : Type 0} (f : B → A → B) (from : B) (xs : List A) (x : A) (old new : B) → old ≡ fold f from xs → new ≡ f old x → new ≡ fold f from (xs ++ x ∷ [])
fold_next f from xs x old new is next = next ∙ ap (λ b. f b x) is ∙ sym (fold-append f from xs (x ∷ []))

-- what a filter keeps of one more element
pub filter_in : {X : Type 0} (p : X → Bool) (xs : List X) (x : X) → p x ≡ true → filter p (xs ++ x ∷ []) ≡ filter p xs ++ x ∷ []
filter_in p xs x e = filter-append p xs (x ∷ []) ∙ rw e refl

pub filter_out : {X : Type 0} (p : X → Bool) (xs : List X) (x : X) → p x ≡ false → filter p (xs ++ x ∷ []) ≡ filter p xs
filter_out p xs x e = filter-append p xs (x ∷ []) ∙ rw e (append-nil (filter p xs))

module _ {X : Type 0} (key : X → List ℕ) (k : List ℕ) where
  -- one more that comes before k
  pub put_before : (ys before after more : List X) (y : X) → before ≡ filter (λ o. is_before (key o) k) ys → after ≡ filter (λ o. is_before k (key o)) ys → is_before (key y) k ≡ true → more ≡ before ++ y ∷ []
      → (more ≡ filter (λ o. is_before (key o) k) (ys ++ y ∷ [])) × (after ≡ filter (λ o. is_before k (key o)) (ys ++ y ∷ []))
  put_before ys before after more y e f t m = (
    m ∙ ap (λ l. l ++ y ∷ []) e ∙ sym (filter_in (λ o. is_before (key o) k) ys y t),
    f ∙ sym (filter_out (λ o. is_before k (key o)) ys y (before_once (key y) k t)),
  )

module _ {X : Type 0} (p q : X → Bool) where
  -- one more of the second kind and not of the first
  pub put_after : (ys before after more : List X) (y : X) → before ≡ filter p ys → after ≡ filter q ys → p y ≡ false → q y ≡ true → more ≡ after ++ y ∷ []
      → (before ≡ filter p (ys ++ y ∷ [])) × (more ≡ filter q (ys ++ y ∷ []))
  put_after ys before after more y e f n t m = (e ∙ sym (filter_out p ys y n), m ∙ ap (λ l. l ++ y ∷ []) f ∙ sym (filter_in q ys y t))

  -- one more of neither kind
  pub put_neither : (ys before after : List X) (y : X) → before ≡ filter p ys → after ≡ filter q ys → p y ≡ false → q y ≡ false
      → (before ≡ filter p (ys ++ y ∷ [])) × (after ≡ filter q (ys ++ y ∷ []))
  put_neither ys before after y e f n m = (e ∙ sym (filter_out p ys y n), f ∙ sym (filter_out q ys y m))

module _ {X : Type 0} (Says : json.Data → X → Type 0) (name : X → List ℕ) where
  says_more : (ds : List json.Data) (d : json.Data) (xs : List X) (x : X) → ItemsSay Says (items_of ds) xs → Says d x → ItemsSay Says (items_of (ds ++ d ∷ [])) (xs ++ x ∷ [])
  says_more [] d [] x h s = (s, tt)
  says_more [] d (y ∷ xs) x h s = absurd h
  says_more (e ∷ ds) d [] x h s = absurd h
  says_more (e ∷ ds) d (y ∷ xs) x h s = (h.0, says_more ds d xs x h.1 s)

  record Cut (ds es : List json.Data) (zs : List X) : Type 0 where
    front : List X
    back : List X
    whole : zs ≡ front ++ back
    first : ItemsSay Says (items_of ds) front
    then : ItemsSay Says (items_of es) back

  says_cut : (ds es : List json.Data) (zs : List X) → ItemsSay Says (items_of (ds ++ es)) zs → Cut ds es zs
  says_cut [] es zs h = record { front = []; back = zs; whole = refl; first = tt; then = h }
  says_cut (d ∷ ds) es [] h = absurd h
  says_cut (d ∷ ds) es (z ∷ zs) h =
      let c = says_cut ds es zs h.1 in
      record { front = z ∷ c.front; back = c.back; whole = ap (λ l. z ∷ l) c.whole; first = (h.0, c.first); then = c.then }

  -- a bad item spoils the list
  never_bad : (ds es : List json.Data) (d : json.Data) (zs : List X) → ((x : X) → Says d x → ⊥) → ItemsSay Says (items_of ((ds ++ d ∷ []) ++ es)) zs → ⊥
  never_bad [] es d [] bad h = absurd h
  never_bad [] es d (z ∷ zs) bad h = bad z h.0
  never_bad (e ∷ ds) es d [] bad h = absurd h
  never_bad (e ∷ ds) es d (z ∷ zs) bad h = never_bad ds es d zs bad h.1

module _ {V : Type 0} (f : V → json.Data) where
  -- the items up to a place and the one there
  next_part : (vs : List V) (i : ℕ) (d v : V) → i < length vs → v ≡ get_or vs i d → map f (take (i + 1) vs) ≡ map f (take i vs) ++ f v ∷ []
  next_part vs i d v l is = map_more f vs i d l ∙ ap (λ w. map f (take i vs) ++ f w ∷ []) (sym is)

  -- all items: those before a place, the one there, those behind it
  whole_parts : (vs : List V) (i : ℕ) (d v : V) → i < length vs → v ≡ get_or vs i d → map f vs ≡ (map f (take i vs) ++ f v ∷ []) ++ map f (drop (suc i) vs)
  whole_parts vs i d v l is =
      ap (map f) (parts_at vs i d l)
      ∙ map-append f (take i vs ++ get_or vs i d ∷ []) (drop (suc i) vs)
      ∙ ap (λ ds. ds ++ map f (drop (suc i) vs)) (map-append f (take i vs) (get_or vs i d ∷ []))
      ∙ ap (λ w. (map f (take i vs) ++ f w ∷ []) ++ map f (drop (suc i) vs)) (sym is)

module _ {X V : Type 0} (Says : json.Data → X → Type 0) (name : X → List ℕ) (f : V → json.Data) where
  -- a bad item at a place: the items keep nothing
  pub read_bad : (vs : List V) (i : ℕ) (d v : V) → i < length vs → v ≡ get_or vs i d → ((x : X) → Says (f v) x → ⊥) → (r : List X) → ItemsKeep Says name (items_of (map f vs)) r → ⊥
  read_bad vs i d v l is bad r h =
      let P : List json.Data → Type 0 = λ ds. ItemsSay Says (items_of ds) h.listed in
      never_bad Says name (map f (take i vs)) (map f (drop (suc i) vs)) (f v) h.listed bad (subst P (whole_parts f vs i d v l is) h.says)

  -- an ephemeral one at a place is passed over
  pub read_passed : (vs : List V) (i : ℕ) (d v : V) (durables : List X) (x : X) → i < length vs → v ≡ get_or vs i d → ItemsKeep Says name (items_of (map f (take i vs))) durables
      → Says (f v) x → is_ephemeral (name x) ≡ true → ItemsKeep Says name (items_of (map f (take (i + 1) vs))) durables
  read_passed vs i d v durables x l is h s t =
      let P : List json.Data → Type 0 = λ ds. ItemsSay Says (items_of ds) (h.listed ++ x ∷ []) in
      let R : List X → Type 0 = λ xs. AllPairs (λ a b. name a ≢ name b) xs in
      let e : durable name (h.listed ++ x ∷ []) ≡ durable name h.listed = filter_out (λ y. not (is_ephemeral (name y))) h.listed x (ap not t) in
      record {
        listed = h.listed ++ x ∷ [];
        says = subst P (sym (next_part f vs i d v l is)) (says_more Says name (map f (take i vs)) (f v) h.listed x h.says s);
        once = subst R (sym e) h.once;
        all = h.all ∙ sym e;
      }

  -- a durable one at a place whose name isn't there yet is kept
  pub read_put : (vs : List V) (i : ℕ) (d v : V) (durables more : List X) (x : X) → i < length vs → v ≡ get_or vs i d → ItemsKeep Says name (items_of (map f (take i vs))) durables
      → Says (f v) x → is_ephemeral (name x) ≡ false → list_any (λ y. bytes_eq (name y) (name x)) durables ≡ false → more ≡ durables ++ x ∷ [] → ItemsKeep Says name (items_of (map f (take (i + 1) vs))) more
  read_put vs i d v durables more x l is h s t new m =
      let P : List json.Data → Type 0 = λ ds. ItemsSay Says (items_of ds) (h.listed ++ x ∷ []) in
      let R : List X → Type 0 = λ xs. AllPairs (λ a b. name a ≢ name b) xs in
      let p : X → Bool = λ y. bytes_eq (name y) (name x) in
      let old : List X = durable name h.listed in
      let e : durable name (h.listed ++ x ∷ []) ≡ old ++ x ∷ [] = filter_in (λ y. not (is_ephemeral (name y))) h.listed x (ap not t) in
      let none : list_any p old ≡ false = ap (list_any p) (sym h.all) ∙ new in
      record {
        listed = h.listed ++ x ∷ [];
        says = subst P (sym (next_part f vs i d v l is)) (says_more Says name (map f (take i vs)) (f v) h.listed x h.says s);
        once = subst R (sym e) (all_pairs_push (λ a b. name a ≢ name b) old x h.once (λ k c n same. true_false (sym (list_any_at p old k c n ((bytes_eq-Decides (name (get_or old k c)) (name x)).1 same)) ∙ none)));
        all = m ∙ ap (λ ys. ys ++ x ∷ []) h.all ∙ sym e;
      }

  -- a durable one at a place whose name is there already: the items keep nothing
  pub read_again : ((e : json.Data) (x y : X) → Says e x → Says e y → x ≡ y) → (vs : List V) (i : ℕ) (d v : V) (durables : List X) (x : X) → i < length vs → v ≡ get_or vs i d
      → ItemsKeep Says name (items_of (map f (take i vs))) durables → Says (f v) x → is_ephemeral (name x) ≡ false → list_any (λ y. bytes_eq (name y) (name x)) durables ≡ true
      → (r : List X) → ItemsKeep Says name (items_of (map f vs)) r → ⊥
  read_again same vs i d v durables x l is h s t found r k =
      let P : List json.Data → Type 0 = λ ds. ItemsSay Says (items_of ds) k.listed in
      let R : List X → Type 0 = λ xs. AllPairs (λ a b. name a ≢ name b) xs in
      let front : List json.Data = map f (take i vs) in
      let p : X → Bool = λ y. bytes_eq (name y) (name x) in
      let old : List X = durable name h.listed in
      let c = says_cut Says name (front ++ f v ∷ []) (map f (drop (suc i) vs)) k.listed (subst P (whole_parts f vs i d v l is) k.says) in
      let e : c.front ≡ h.listed ++ x ∷ [] = items_once Says same (items_of (front ++ f v ∷ [])) c.front (h.listed ++ x ∷ []) c.first (says_more Says name front (f v) h.listed x h.says s) in
      let rest : List X = durable name c.back in
      let q : X → Bool = λ y. not (is_ephemeral (name y)) in
      let all : durable name k.listed ≡ old ++ x ∷ rest =
      ap (durable name) c.whole ∙ filter-append q c.front c.back ∙ ap (λ ys. durable name ys ++ rest) e
      ∙ ap (λ ys. ys ++ rest) (filter_in q h.listed x (ap not t)) ∙ append_assoc old (x ∷ []) rest in
      let o : R (old ++ x ∷ rest) = subst R all k.once in
      let a = Any-from_list_any p old (ap (list_any p) (sym h.all) ∙ found) in
      o a.0 (length old) a.1 a.2 (omega (arith, length-append old (x ∷ rest)))
      (ap name (get_or_append_left old (x ∷ rest) a.1 a.0 a.2 ∙ a.3) ∙ (bytes_eq-Decides (name a.1) (name x)).0 a.4 ∙ sym (ap name (get_or-append_seam old x rest a.1)))

module _ {X : Type 0} (Says : json.Data → X → Type 0) (name : X → List ℕ) where
  member_items : (m : Option json.Data) (ds : json.Items) → option_and_then as_array (present m) ≡ Some ds → m ≡ Some (json.array ds)
  member_items None ds e = cc
  member_items (Some json.null) ds e = cc
  member_items (Some (json.boolean b)) ds e = cc
  member_items (Some (json.number n)) ds e = cc
  member_items (Some (json.string s)) ds e = cc
  member_items (Some (json.array es)) ds e = ap (option_map json.array) e
  member_items (Some (json.object ms)) ds e = cc

  -- a member whose items keep nothing
  pub list_bad : (m : Option json.Data) (d : json.Data) (ds : json.Items) → Some d ≡ present m → Some ds ≡ as_array d → ((r : List X) → ItemsKeep Says name ds r → ⊥) → (r : List X) → ListKeeps Says name m r → ⊥
  list_bad m d ds e g bad r h =
      let P : Option json.Data → Type 0 = λ o. SaysList Says o h.listed in
      let is : m ≡ Some (json.array ds) = member_items m ds (ap (option_and_then as_array) (sym e) ∙ sym g) in
      bad (durable name h.listed) (record { listed = h.listed; says = subst P is h.says; once = h.keeps.once; all = refl })

-- an item whose channels are bad says no topic
pub topic_bad : (d : json.Data) → ((r : List KeptChannel) → ListKeeps SaysChannel (λ (c : KeptChannel). c.name) (get (codes "channels") d) r → ⊥) → (t : KeptTopic) → SaysTopic d t → ⊥
topic_bad d bad t h =
    let P : json.Data → Type 0 = λ e. SaysList SaysChannel (get (codes "channels") e) h.listed in
    bad t.channels (record { listed = h.listed; says = subst P (sym h.object) h.channels; keeps = h.keeps })

-- a text whose topics are bad keeps nothing
pub names_bad : (text : List ℕ) (d : json.Data) → read text ≡ Some d → ((r : List KeptTopic) → ListKeeps SaysTopic (λ (t : KeptTopic). t.name) (get (codes "topics") d) r → ⊥) → IsBadNames text
names_bad text d is bad kept h =
    let P : Option json.Data → Type 0 = λ o. SaysList SaysTopic (option_and_then (get (codes "topics")) o) h.listed in
    bad kept.topics (record { listed = h.listed; says = subst P (sym h.object ∙ is) h.topics; keeps = h.keeps })
