-- A list of the file of names, read item by item.
use Rattle.std.proofs.Common.{◌≡◌, ℕ, ◌+◌, ◌<◌, ◌≤◌, arith, Bool, true, false, not, List, [], ◌∷◌, ◌++◌, length, map, take, drop, get_or, suc, Option, Some, None, Result, Ok, Err, IfOk, IfErr, IfSome, option_map, option_and_then, codes, refl, sym, ap, subst, ◌∙◌}
use Rattle.std.specs.List.{filter}
use Rattle.std.specs.Prelude.{IsUtf8, is_some}
use Rattle.std.proofs.lemmas.Bool.{false≢true}
use Rattle.std.specs.Result.{IsErr, IsErrAnd}
use Rattle.std.proofs.lemmas.List.{map_more, map-append, append-nil, take-append-drop}
use Rattle.std.proofs.Math.Seq.{take-suc}
use Rattle.std.proofs.lemmas.List.Elements.{filter-append}
use Rattle.serde_json.specs.Data as json
use Rattle.serde_json.specs.View.{items_of}
use Rattle.serde_json.specs.Find.{get, as_array, as_object}
use Rattle.serde_json.specs.Read.{read}
use Rattle.nsq_base.specs.Name.{is_ephemeral}
use Rattle.path_image.specs.Data.{Kept, KeptChannel, KeptTopic, ItemsSay, SaysList, SaysChannel, SaysTopic, SaysEpoch, IsNames, IsBadNames, IsKept, durable, in_order, longest_data}
use Rattle.path_image.specs.Once.{items_once}
use Rattle.names_reading.specs.declared.names.Unread.{Unread}
use Rattle.names_reading.specs.declared.names.Unread.TheVariants.{Bad, Memory}
use Rattle.names_reading.specs.Reading.{AreApart, AreSorted, SaysNothing, ItemsKeep, ListKeeps, ObjectKeeps, present}

-- a list is what stands up to a place, and what stands behind it
parts_at : {X : Type 0} (xs : List X) (i : ℕ) (d : X) → i < length xs → xs ≡ (take i xs ++ get_or xs i d ∷ []) ++ drop (suc i) xs
parts_at xs i d l = sym (take-append-drop (suc i) xs) ∙ ap (λ ys. ys ++ drop (suc i) xs) (take-suc xs i d l)

-- what a filter keeps of one more element
filter_in : {X : Type 0} (p : X → Bool) (xs : List X) (x : X) → p x ≡ true → filter p (xs ++ x ∷ []) ≡ filter p xs ++ x ∷ []
filter_in p xs x e = filter-append p xs (x ∷ []) ∙ rw e refl

filter_out : {X : Type 0} (p : X → Bool) (xs : List X) (x : X) → p x ≡ false → filter p (xs ++ x ∷ []) ≡ filter p xs
filter_out p xs x e = filter-append p xs (x ∷ []) ∙ rw e (append-nil (filter p xs))

module _ {X : Type 0} (Says : json.Data → X → Type 0) where
  says_more : (ds : List json.Data) (d : json.Data) (xs : List X) (x : X) → ItemsSay Says (items_of ds) xs → Says d x → ItemsSay Says (items_of (ds ++ d ∷ [])) (xs ++ x ∷ [])
  says_more [] d [] x h s = (s, tt)
  says_more [] d (y ∷ xs) x h s = absurd h
  says_more (e ∷ ds) d [] x h s = absurd h
  says_more (e ∷ ds) d (y ∷ xs) x h s = (h.0, says_more ds d xs x h.1 s)

  -- a bad item spoils the list
  never_bad : (ds es : List json.Data) (d : json.Data) (zs : List X) → SaysNothing Says d → ItemsSay Says (items_of ((ds ++ d ∷ []) ++ es)) zs → ⊥
  never_bad [] es d [] bad h = absurd h
  never_bad [] es d (z ∷ zs) bad h = bad z h.0
  never_bad (e ∷ ds) es d [] bad h = absurd h
  never_bad (e ∷ ds) es d (z ∷ zs) bad h = never_bad ds es d zs bad h.1

module _ {V : Type 0} (f : V → json.Data) where
  -- the items up to a place and the one there
  next_part : (vs : List V) (i : ℕ) (d v : V) → i < length vs → v ≡ get_or vs i d → map f (take (i + 1) vs) ≡ map f (take i vs) ++ f v ∷ []
  next_part vs i d v l is = map_more f vs i d l ∙ ap (λ w. map f (take i vs) ++ f w ∷ []) (sym is)

  -- all items: those before a place, the one there, those behind it
  whole_parts : (vs : List V) (i : ℕ) (d v : V) → i < length vs → v ≡ get_or vs i d → map f vs ≡ (map f (take i vs) ++ f v ∷ []) ++ map f (drop (suc i) vs)
  whole_parts vs i d v l is =
      ap (map f) (parts_at vs i d l)
      ∙ map-append f (take i vs ++ get_or vs i d ∷ []) (drop (suc i) vs)
      ∙ ap (λ ds. ds ++ map f (drop (suc i) vs)) (map-append f (take i vs) (get_or vs i d ∷ []))
      ∙ ap (λ w. (map f (take i vs) ++ f w ∷ []) ++ map f (drop (suc i) vs)) (sym is)

-- no items say nothing
pub read_none : {X : Type 0} (Says : json.Data → X → Type 0) (name : X → List ℕ) (xs : List X) → xs ≡ [] → ItemsKeep Says name json.no_items xs
read_none Says name xs none = record { listed = []; says = tt; all = none }

module _ {X V : Type 0} (Says : json.Data → X → Type 0) (name : X → List ℕ) (f : V → json.Data) where
  -- a bad item at a place: the items say nothing
  pub read_bad : (vs : List V) (i : ℕ) (d v : V) → i < length vs → v ≡ get_or vs i d → SaysNothing Says (f v) → SaysNothing (ItemsSay Says) (items_of (map f vs))
  read_bad vs i d v l is bad zs h =
      never_bad Says (map f (take i vs)) (map f (drop (suc i) vs)) (f v) zs bad (subst (λ (ds : List json.Data). ItemsSay Says (items_of ds) zs) (whole_parts f vs i d v l is) h)

  -- an ephemeral one at a place is passed over
  pub read_passed : (vs : List V) (i : ℕ) (d v : V) (durables : List X) (x : X) → i < length vs → v ≡ get_or vs i d → ItemsKeep Says name (items_of (map f (take i vs))) durables
      → Says (f v) x → is_ephemeral (name x) ≡ true → ItemsKeep Says name (items_of (map f (take (i + 1) vs))) durables
  read_passed vs i d v durables x l is h s t = record {
    listed = h.listed ++ x ∷ [];
    says = subst (λ (ds : List json.Data). ItemsSay Says (items_of ds) (h.listed ++ x ∷ [])) (sym (next_part f vs i d v l is)) (says_more Says (map f (take i vs)) (f v) h.listed x h.says s);
    all = h.all ∙ sym (filter_out (λ y. not (is_ephemeral (name y))) h.listed x (ap not t));
  }

  -- a durable one is kept
  pub read_put : (vs : List V) (i : ℕ) (d v : V) (durables more : List X) (x : X) → i < length vs → v ≡ get_or vs i d → ItemsKeep Says name (items_of (map f (take i vs))) durables
      → Says (f v) x → is_ephemeral (name x) ≡ false → more ≡ durables ++ x ∷ [] → ItemsKeep Says name (items_of (map f (take (i + 1) vs))) more
  read_put vs i d v durables more x l is h s t m = record {
    listed = h.listed ++ x ∷ [];
    says = subst (λ (ds : List json.Data). ItemsSay Says (items_of ds) (h.listed ++ x ∷ [])) (sym (next_part f vs i d v l is)) (says_more Says (map f (take i vs)) (f v) h.listed x h.says s);
    all = m ∙ ap (λ ys. ys ++ x ∷ []) h.all ∙ sym (filter_in (λ y. not (is_ephemeral (name y))) h.listed x (ap not t));
  }

module _ {X : Type 0} (Says : json.Data → X → Type 0) (name : X → List ℕ) where
  member_items : (m : Option json.Data) (ds : json.Items) → option_and_then as_array (present m) ≡ Some ds → m ≡ Some (json.array ds)
  member_items None ds e = cc
  member_items (Some json.null) ds e = cc
  member_items (Some (json.boolean b)) ds e = cc
  member_items (Some (json.number n)) ds e = cc
  member_items (Some (json.string s)) ds e = cc
  member_items (Some (json.array es)) ds e = ap (option_map json.array) e
  member_items (Some (json.object ms)) ds e = cc

  member_is : (m : Option json.Data) (d : json.Data) (ds : json.Items) → Some d ≡ present m → Some ds ≡ as_array d → m ≡ Some (json.array ds)
  member_is m d ds e g = member_items m ds (ap (option_and_then as_array) (sym e) ∙ sym g)

  -- a member whose items say nothing
  pub list_bad : (m : Option json.Data) (d : json.Data) (ds : json.Items) → Some d ≡ present m → Some ds ≡ as_array d → SaysNothing (ItemsSay Says) ds → SaysNothing (ListKeeps Says name) m
  list_bad m d ds e g bad kept h = bad h.listed (subst (λ (o : Option json.Data). SaysList Says o h.listed) (member_is m d ds e g) h.says)

  -- a member whose items have one name twice
  pub list_twice : ((d : json.Data) (x y : X) → Says d x → Says d y → x ≡ y) → (m : Option json.Data) (d : json.Data) (ds : json.Items) (durables : List X) → Some d ≡ present m → Some ds ≡ as_array d
      → ItemsKeep Says name ds durables → (AreApart name durables → ⊥) → SaysNothing (ListKeeps Says name) m
  list_twice once m d ds durables e g all twice kept h =
      let says = subst (λ (o : Option json.Data). SaysList Says o h.listed) (member_is m d ds e g) h.says in
      let same = items_once Says once ds h.listed all.listed says all.says in
      twice (subst (AreApart name) (ap (durable name) same ∙ sym all.all) h.keeps.once)

  -- a member that is no list
  no_list : (m : Option json.Data) (d : json.Data) → Some d ≡ present m → None ≡ as_array d → (xs : List X) → SaysList Says m xs → ⊥
  no_list None d e none xs h = cc
  no_list (Some json.null) d e none xs h = cc
  no_list (Some (json.boolean b)) d e none xs h = h
  no_list (Some (json.number n)) d e none xs h = h
  no_list (Some (json.string s)) d e none xs h = h
  no_list (Some (json.array ds)) d e none xs h = let no : None ≡ Some ds = none ∙ ap (option_and_then as_array) e in cc
  no_list (Some (json.object ms)) d e none xs h = h

  pub list_other : (m : Option json.Data) (d : json.Data) → Some d ≡ present m → None ≡ as_array d → SaysNothing (ListKeeps Says name) m
  list_other m d e none kept h = no_list m d e none h.listed h.says

  -- a member that is absent or null
  none_kept : (xs : List X) → xs ≡ [] → IsKept name [] xs
  none_kept xs none = record { once = λ i j d l m. absurd (let no : ⊥ = omega (arith, m) in no); order = none }

  pub list_none : (m : Option json.Data) (xs : List X) → None ≡ present m → xs ≡ [] → ListKeeps Says name m xs
  list_none None xs e none = record { listed = []; says = refl; keeps = none_kept xs none }
  list_none (Some json.null) xs e none = record { listed = []; says = refl; keeps = none_kept xs none }
  list_none (Some (json.boolean b)) xs e none = absurd cc
  list_none (Some (json.number n)) xs e none = absurd cc
  list_none (Some (json.string s)) xs e none = absurd cc
  list_none (Some (json.array ds)) xs e none = absurd cc
  list_none (Some (json.object ms)) xs e none = absurd cc

  -- a member whose items are kept
  pub list_kept : (m : Option json.Data) (d : json.Data) (ds : json.Items) (durables kept : List X) → Some d ≡ present m → Some ds ≡ as_array d
      → ItemsKeep Says name ds durables → AreSorted name durables kept → ListKeeps Says name m kept
  list_kept m d ds durables kept e g all sorted = record {
    listed = all.listed;
    says = subst (λ (o : Option json.Data). SaysList Says o all.listed) (sym (member_is m d ds e g)) all.says;
    keeps = record { once = subst (AreApart name) all.all sorted.once; order = sorted.order ∙ ap (in_order name) all.all };
  }

-- an item whose channels are bad says no topic
pub topic_bad : (d : json.Data) → SaysNothing (ListKeeps SaysChannel (λ (c : KeptChannel). c.name)) (get (codes "channels") d) → SaysNothing SaysTopic d
topic_bad d bad t h =
    bad t.channels (record { listed = h.listed; says = subst (λ (e : json.Data). SaysList SaysChannel (get (codes "channels") e) h.listed) (sym h.object) h.channels; keeps = h.keeps })

-- a value that is no object, says no epoch, or whose topics are bad, keeps nothing
pub object_bad : (d : json.Data) → is_some (as_object d) ≡ false → SaysNothing ObjectKeeps d
object_bad d none kept h = false≢true (sym none ∙ h.object)

pub epoch_bad : (d : json.Data) → SaysNothing SaysEpoch (get (codes "id_epoch") d) → SaysNothing ObjectKeeps d
epoch_bad d none kept h = none kept.epoch h.epoch

pub topics_bad : (d : json.Data) → SaysNothing (ListKeeps SaysTopic (λ (t : KeptTopic). t.name)) (get (codes "topics") d) → SaysNothing ObjectKeeps d
topics_bad d none kept h = none kept.topics h.topics

-- what the text of an object keeps
names_read : (text : List ℕ) (d : json.Data) (kept : Kept) → length text ≤ longest_data → IsUtf8 text → read text ≡ Some d → ObjectKeeps d kept → IsNames text kept
names_read text json.null kept short utf8 is h = absurd (false≢true h.object)
names_read text (json.boolean b) kept short utf8 is h = absurd (false≢true h.object)
names_read text (json.number n) kept short utf8 is h = absurd (false≢true h.object)
names_read text (json.string s) kept short utf8 is h = absurd (false≢true h.object)
names_read text (json.array ds) kept short utf8 is h = absurd (false≢true h.object)
names_read text (json.object ms) kept short utf8 is h = record { members = ms; listed = h.topics.listed; short = short; utf8 = utf8; object = is; epoch = h.epoch; topics = h.topics.says; keeps = h.topics.keeps }

-- such a text keeps nothing, nor does one that is too long, or that has no value
names_bad : (text : List ℕ) (d : json.Data) → read text ≡ Some d → SaysNothing ObjectKeeps d → IsBadNames text
names_bad text d is bad kept h =
    let same : Some d ≡ Some (json.object h.members) = sym is ∙ h.object in
    let keeps : ObjectKeeps (json.object h.members) kept = record { object = refl; epoch = h.epoch; topics = record { listed = h.listed; says = h.topics; keeps = h.keeps } } in
    bad kept (subst (λ (o : Option json.Data). IfSome o (λ e. ObjectKeeps e kept)) (sym same) keeps)

pub text_bad : (text : List ℕ) → (IsUtf8 text → read text ≡ None) → IsBadNames text
text_bad text none kept h = absurd (let e : None ≡ Some (json.object h.members) = sym (none h.utf8) ∙ h.object in cc)

pub text_long : (text : List ℕ) → longest_data < length text → IsBadNames text
text_long text long kept h = omega (arith, long, h.short)

-- what is said of an answer for the value is said of it for the text
pub on_value : {T : Type 0} (r : Result T Unread) (P Q : T → Type 0) → ((x : T) → P x → Q x) → IfOk r P → IfOk r Q
on_value (Ok x) P Q f h = f x h
on_value (Err e) P Q f h = tt

module _ (text : List ℕ) (d : json.Data) (r : Result Kept Unread) where
  pub all_read : length text ≤ longest_data → IsUtf8 text → read text ≡ Some d → IfOk r (ObjectKeeps d) → IfOk r (IsNames text)
  all_read short utf8 is h = on_value r (ObjectKeeps d) (IsNames text) (λ kept k. names_read text d kept short utf8 is k) h

  pub none_read : read text ≡ Some d → IfErr r (λ e. e ≡ Bad → SaysNothing ObjectKeeps d) → IfErr r (λ e. e ≡ Bad → IsBadNames text)
  none_read is h = go r h
    where
      go : (s : Result Kept Unread) → IfErr s (λ e. e ≡ Bad → SaysNothing ObjectKeeps d) → IfErr s (λ e. e ≡ Bad → IsBadNames text)
      go (Ok kept) f = tt
      go (Err e) f = λ b. names_bad text d is (f b)

-- there is no value beside an error
pub no_value : {T : Type 0} (r : Result T Unread) (P : T → Type 0) → IsErr r → IfOk r P
no_value (Ok t) P e = absurd (false≢true e)
no_value (Err x) P e = tt

-- want of memory is no bad text
pub wanting : {T : Type 0} (P : Type 0) (r : Result T Unread) → IsErr r × IsErrAnd r (λ x. x ≡ Memory) → IfErr r (λ x. x ≡ Bad → P)
wanting P (Ok t) h = tt
wanting P (Err x) h = λ b. absurd (let e : Memory ≡ Bad = sym h.1 ∙ b in cc)

-- an error that is handed on
pub failed : {T P : Type 0} (r : Result T Unread) (e : Unread) → IsErr r × IsErrAnd r (λ x. x ≡ e) → (e ≡ Bad → P) → IfErr r (λ x. x ≡ Bad → P)
failed (Ok t) e h f = tt
failed (Err x) e h f = λ b. f (sym h.1 ∙ b)
