-- The index as a flight comes or goes.
use Rattle.std.proofs.Common.{◌≡◌, ◌≢◌, ℕ, ◌+◌, ◌≤◌, ◌<◌, Bool, true, false, cond, nat_eq, if◌then◌else◌, ◌&&◌, ◌⊎◌, List, [], ◌∷◌, ◌++◌, All, Option, Some, None, option_map, option_copied, IsSome, Bor, inl, inr, refl, sym, ap, ◌∙◌, subst, arith}
use Rattle.std.specs.List.{count_by}
use Rattle.std.specs.Str.{bytes_eq}
use Rattle.std.proofs.lemmas.Bool.{true≢false, eq-eqb}
use Rattle.std.proofs.lemmas.Slice.Eq.{bytes_eq-Decides}
use Rattle.due_heap.specs.declared.key.Key.{Key}
use Rattle.due_heap.specs.Heap.{Entry, TakesOut, OthersStay, entry_of, has_key}
use Rattle.channel_copies.specs.declared.flight.Flight.{Flight}
use Rattle.broker_history.specs.Channels.{one, AsOften}
use Rattle.channel_copies.specs.Flights.{Flying, flights_of_id, has_id, Finds, Leaves}
use Rattle.channel_copies.specs.Index.{items_of, is_of, is_with, Reaches, Shows, IsFit, IsIndexed, IsKept}
use Rattle.channel_copies.proofs.Counts.{count-cons, count-append, count-map, count-out, count-and, and_true, all-in, all-out}

-- whether two ids are the same
pub same_ids : (xs ys : List ℕ) → xs ≡ ys → bytes_eq xs ys ≡ true
same_ids xs ys h = (bytes_eq-Decides xs ys).1 h

pub ids_are_same : (xs ys : List ℕ) → bytes_eq xs ys ≡ true → xs ≡ ys
ids_are_same xs ys h = (bytes_eq-Decides xs ys).0 h

pub other_ids : (xs ys : List ℕ) → xs ≢ ys → bytes_eq xs ys ≡ false
other_ids xs ys n = elim (bytes_eq xs ys) as (λ b. bytes_eq xs ys ≡ b → bytes_eq xs ys ≡ false) [
  | true ↦ λ e. absurd (n (ids_are_same xs ys e))
  | false ↦ λ e. e
] refl

ids_tell : (xs ys : List ℕ) → ((bytes_eq xs ys ≡ true) × (xs ≡ ys)) ⊎ ((bytes_eq xs ys ≡ false) × (xs ≢ ys))
ids_tell xs ys = elim (bytes_eq xs ys) as (λ b. bytes_eq xs ys ≡ b → ((bytes_eq xs ys ≡ true) × (xs ≡ ys)) ⊎ ((bytes_eq xs ys ≡ false) × (xs ≢ ys))) [
  | true ↦ λ e. inl (e, ids_are_same xs ys e)
  | false ↦ λ e. inr (e, λ h. absurd (true≢false (sym (same_ids xs ys h) ∙ e)))
] refl

-- an id that keeps its entries and their keys is shown as before
kept : (old new : List (Entry Flight)) (q : List ℕ) (o : Option Key) → count_by (is_of q) new ≡ count_by (is_of q) old → ((key : Key) (f : Entry Flight) → entry_of key old ≡ Some f → f.item.message.id ≡ q → entry_of key new ≡ Some f) → Shows old q o → Shows new q o
kept old new q None c f s = c ∙ s
kept old new q (Some key) c f s = record { entry = s.entry; there = f key s.entry s.there s.of; of = s.of; once = c ∙ s.once }

-- an id of which there is one entry less has none
gone : (old new : List (Entry Flight)) (q : List ℕ) (o : Option Key) → count_by (is_of q) old ≡ count_by (is_of q) new + 1 → Shows old q o → count_by (is_of q) new ≡ 0
gone old new q None c s = omega (arith, s)
gone old new q (Some key) c s = omega (arith, s.once)

-- the index with another answer at one id
abbrev pub Updated : (List ℕ → Option Key) → List ℕ → Option Key → (List ℕ → Option Key) → Type 0
Updated index id o index' = (q : List ℕ) → index' q ≡ cond (bytes_eq id q) o (index q)

by_id : (id q : List ℕ) (o o' : Option Key) (P : Option Key → Type 0) → (id ≡ q → P o) → (bytes_eq id q ≡ false → id ≢ q → P o') → P (cond (bytes_eq id q) o o')
by_id id q o o' P f g =
    elim (ids_tell id q) [
      | inl e ↦ subst (λ b. P (cond b o o')) (sym e.0) (f e.1)
      | inr ne ↦ subst (λ b. P (cond b o o')) (sym ne.0) (g ne.0 ne.1)
    ]

-- of the id of an entry that comes there is one more, of another as many as before
same_id : (e : Entry Flight) (old new : List (Entry Flight)) → TakesOut e old new → count_by (is_of e.item.message.id) old ≡ count_by (is_of e.item.message.id) new + 1
same_id e old new t = count-out (is_of e.item.message.id) t ∙ ap (λ b. count_by (is_of e.item.message.id) new + one b) (same_ids e.item.message.id e.item.message.id refl)

other_id : (e : Entry Flight) (old new : List (Entry Flight)) (q : List ℕ) → TakesOut e old new → e.item.message.id ≢ q → count_by (is_of q) old ≡ count_by (is_of q) new
other_id e old new q t differs = omega (arith, count-out (is_of q) t ∙ ap (λ b. count_by (is_of q) new + one b) (other_ids q e.item.message.id (λ h. differs (sym h))))

pub put_in : {k : Key} {e : Entry Flight} {old new : List (Entry Flight)} {index index' : List ℕ → Option Key} → TakesOut e new old → entry_of k old ≡ None → entry_of k new ≡ Some e → OthersStay k old new → flights_of_id e.item.message.id (items_of old) ≡ 0 → IsFit e → IsIndexed old index → Updated index e.item.message.id (Some k) index' → IsIndexed new index'
put_in {k} {e} {old} {new} {index} {index'} t fresh live others none fit i u = record {
  shows = λ q. subst (Shows new q) (sym (u q)) (by_id e.item.message.id q (Some k) (index q) (Shows new q)
      (λ same. subst (λ n. Reaches new n k) same (record { entry = e; there = live; of = refl; once = omega (arith, same_id e new old t, none, count-map (has_id e.item.message.id) (λ (e : Entry Flight). e.item) old) }))
      (λ test differs. kept old new q (index q) (other_id e new old q t differs) (λ key f there of. others key (λ same. let none : entry_of key old ≡ None = subst (λ x. entry_of x old ≡ None) (sym same) fresh in cc) ∙ there) (i.shows q)));
  fit = all-in IsFit t fit i.fit;
}

-- `there` is what the key reached, of the same id as what goes
pub taken_out : {k : Key} {e there : Entry Flight} {old new : List (Entry Flight)} {index index' : List ℕ → Option Key} → TakesOut e old new → entry_of k old ≡ Some there → there.item ≡ e.item → OthersStay k old new → IsIndexed old index → Updated index e.item.message.id None index' → IsIndexed new index'
taken_out {k} {e} {there} {old} {new} {index} {index'} t live alike others i u = record {
  shows = λ q. subst (Shows new q) (sym (u q)) (by_id e.item.message.id q None (index q) (Shows new q)
      (λ same. subst (λ n. count_by (is_of n) new ≡ 0) same (gone old new e.item.message.id (index e.item.message.id) (same_id e old new t) (i.shows e.item.message.id)))
      (λ test differs. kept old new q (index q) (sym (other_id e old new q t differs)) (λ key f here of. others key (λ same.
      let live' : entry_of key old ≡ Some there = subst (λ x. entry_of x old ≡ Some there) (sym same) live in
      let is : there ≡ f = cc in
      differs (sym (ap (λ (x : Flight). x.message.id) alike) ∙ (ap (λ (x : Entry Flight). x.item.message.id) is ∙ of))) ∙ here) (i.shows q)));
  fit = (all-out IsFit t i.fit).1;
}

-- what a key reaches stands among the entries
record Stands (e : Entry Flight) (es : List (Entry Flight)) : Type 0 where
  before : List (Entry Flight)
  after : List (Entry Flight)
  is : es ≡ before ++ e ∷ after

stands : (key : Key) (e : Entry Flight) (es : List (Entry Flight)) → entry_of key es ≡ Some e → Stands e es
stands key e [] h = absurd (let no : ⊥ = cc in no)
stands key e (x ∷ xs) h = elim (has_key key x) as (λ b. (if b then Some x else entry_of key xs) ≡ Some e → Stands e (x ∷ xs)) [
  | true ↦ λ h. record { before = []; after = xs; is = (let same : x ≡ e = cc in ap (λ y. y ∷ xs) same) }
  | false ↦ λ h. let s = stands key e xs h in record { before = x ∷ s.before; after = s.after; is = ap (λ ys. x ∷ ys) s.is }
] h

split : (p : Entry Flight → Bool) {e : Entry Flight} {es : List (Entry Flight)} (s : Stands e es) → count_by p es ≡ count_by p s.before + (one (p e) + count_by p s.after)
split p {e} s = ap (count_by p) s.is ∙ (count-append p s.before (e ∷ s.after) ∙ ap (λ n. count_by p s.before + n) (count-cons p e s.after))

pub found : (es : List (Entry Flight)) (id : List ℕ) (key : Key) → Reaches es id key → Finds id (items_of es) (option_map (λ e. e.item) (entry_of key es))
found es id key r = subst (λ o. Finds id (items_of es) (option_map (λ e. e.item) o)) (sym r.there) (record {
  has = r.of;
  only = λ p.
      let s = stands key r.entry es r.there in
      let all = split (is_of id) s in
      let those = split (λ e. p e.item && is_of id e) s in
      omega (
        arith,
        all,
        those,
        r.once,
        count-map (λ f. p f && has_id id f) (λ (e : Entry Flight). e.item) es,
        count-and (λ e. p e.item) (is_of id) s.before,
        count-and (λ e. p e.item) (is_of id) s.after,
        ap one (same_ids id r.entry.item.message.id (sym r.of)),
        and_true (p r.entry.item) (is_of id r.entry) (same_ids id r.entry.item.message.id (sym r.of)),
      );
})

some_alike : (a b : Flight) → Some a ≡ Some b → a ≡ b
some_alike a b h = cc

-- what a key reaches that the index has for an id is of that id
pub id_of_taken : {k : Key} {item : Flight} {old : List (Entry Flight)} {index : List ℕ → Option Key} (id : List ℕ) → option_map (λ (e : Entry Flight). e.item) (entry_of k old) ≡ Some item → IsIndexed old index → index id ≡ Some k → item.message.id ≡ id
id_of_taken {k} {item} {old} id reached i at =
    let r : Reaches old id k = subst (Shows old id) at (i.shows id) in
    sym (ap (λ (f : Flight). f.message.id) (some_alike r.entry.item item (sym (ap (option_map (λ (e : Entry Flight). e.item)) r.there) ∙ reached))) ∙ r.of

-- what goes was reached by the key that the index has for an id
pub taken_by_key : {k : Key} {due : ℕ} {item : Flight} {old new : List (Entry Flight)} {index index' : List ℕ → Option Key} (id : List ℕ) → TakesOut (record { key = k; due = due; item = item }) old new → option_map (λ (e : Entry Flight). e.item) (entry_of k old) ≡ Some item → OthersStay k old new → IsIndexed old index → index id ≡ Some k → Updated index id None index' → IsIndexed new index'
taken_by_key {k} {due} {item} {old} {new} {index} {index'} id t reached others i at u =
    let r : Reaches old id k = subst (Shows old id) at (i.shows id) in
    let alike : r.entry.item ≡ item = some_alike (r.entry.item) item (sym (ap (option_map (λ (e : Entry Flight). e.item)) r.there) ∙ reached) in
    taken_out {e = record { key = k; due = due; item = item }} t r.there alike others i (subst (λ n. Updated index n None index') (sym (id_of_taken id reached i at)) u)

twice : (b : Bool) (x y z : Option Key) → cond b x (cond b y z) ≡ cond b x z
twice true x y z = refl
twice false x y z = refl

abbrev pub without : (List ℕ → Option Key) → List ℕ → List ℕ → Option Key
without index id q = cond (bytes_eq id q) None (index q)

-- what went comes again, under another key, while the index had it
pub put_again : {k : Key} {e : Entry Flight} {mid new : List (Entry Flight)} {index' : List ℕ → Option Key} (index : List ℕ → Option Key) (id : List ℕ) → IsIndexed mid (without index id) → e.item.message.id ≡ id → TakesOut e new mid → entry_of k mid ≡ None → entry_of k new ≡ Some e → OthersStay k mid new → IsFit e → Updated index id (Some k) index' → IsIndexed new index'
put_again {k} {e} {mid} {index' = index'} index id j same t fresh live others fit u =
    let at : without index id id ≡ None = ap (λ b. cond b None (index id)) (same_ids id id refl) in
    let none : flights_of_id id (items_of mid) ≡ 0 = count-map (has_id id) (λ (e : Entry Flight). e.item) mid ∙ subst (Shows mid id) at (j.shows id) in
    put_in t fresh live others (subst (λ n. flights_of_id n (items_of mid) ≡ 0) (sym same) none) fit j
    (subst (λ n. Updated (without index id) n (Some k) index') (sym same) (λ q. u q ∙ sym (twice (bytes_eq id q) (Some k) None (index q))))

pub as_often_again : {e e' : Entry Flight} {old mid new : List (Entry Flight)} → e'.item ≡ e.item → TakesOut e old mid → TakesOut e' new mid → AsOften (items_of old) (items_of new)
as_often_again {old = old} {new = new} same t t' p =
    omega (arith, ap (λ f. one (p f)) same, count-map p (λ (e : Entry Flight). e.item) old, count-map p (λ (e : Entry Flight). e.item) new, count-out (λ e. p e.item) t, count-out (λ e. p e.item) t')

some_key : (old : List (Entry Flight)) (id : List ℕ) (o : Option Key) → 1 ≤ count_by (is_of id) old → Shows old id o → (key : Key) × (o ≡ Some key)
some_key old id None n s = absurd (let no : ⊥ = omega (arith, s) in no)
some_key old id (Some key) n s = (key, refl)

-- the index has a key for the id of what stands there
pub has_key_for : {e : Entry Flight} {old new : List (Entry Flight)} {index : List ℕ → Option Key} → TakesOut e old new → IsIndexed old index → (key : Key) × (index e.item.message.id ≡ Some key)
has_key_for {e} {old} {new} {index} t i = some_key old e.item.message.id (index e.item.message.id) (omega (arith, same_id e old new t)) (i.shows e.item.message.id)

-- how many each client has, as a flight comes, goes, or goes and comes again
pub counts_more : {e : Entry Flight} {old new : List (Entry Flight)} {held held' : ℕ → ℕ} → TakesOut e new old → ((k : ℕ) → held k ≡ count_by (is_with k) old) → ((k : ℕ) → held' k ≡ held k + one (nat_eq e.item.client k)) → (k : ℕ) → held' k ≡ count_by (is_with k) new
counts_more t c d k = omega (arith, c k, d k, count-out (is_with k) t)

pub counts_less : {e : Entry Flight} {old new : List (Entry Flight)} {held : ℕ → ℕ} (held' : ℕ → ℕ) → TakesOut e old new → ((k : ℕ) → held k ≡ count_by (is_with k) old) → ((k : ℕ) → held k ≡ held' k + one (nat_eq e.item.client k)) → (k : ℕ) → held' k ≡ count_by (is_with k) new
counts_less held' t c d k = omega (arith, c k, d k, count-out (is_with k) t)

-- the client of what goes has one at least
pub has_one : {e : Entry Flight} {old new : List (Entry Flight)} {held : ℕ → ℕ} → TakesOut e old new → ((k : ℕ) → held k ≡ count_by (is_with k) old) → 1 ≤ held e.item.client
has_one {e} t c = omega (arith, c e.item.client, count-out (is_with e.item.client) t, ap one (eq-eqb e.item.client e.item.client refl))

pub counts_again : {e e' : Entry Flight} {old mid new : List (Entry Flight)} {held : ℕ → ℕ} → e'.item.client ≡ e.item.client → TakesOut e old mid → TakesOut e' new mid → ((k : ℕ) → held k ≡ count_by (is_with k) old) → (k : ℕ) → held k ≡ count_by (is_with k) new
counts_again same t t' c k = omega (arith, c k, count-out (is_with k) t, count-out (is_with k) t', ap (λ n. one (nat_eq n k)) same)

-- none of the id is left where the only one went
pub none_left : {mid : List (Entry Flight)} (index : List ℕ → Option Key) (id : List ℕ) → IsIndexed mid (without index id) → flights_of_id id (items_of mid) ≡ 0
none_left {mid} index id j = count-map (has_id id) (λ (e : Entry Flight). e.item) mid ∙ subst (Shows mid id) (ap (λ b. cond b None (index id)) (same_ids id id refl)) (j.shows id)

pub items_leave : {e : Entry Flight} {old new : List (Entry Flight)} → TakesOut e old new → Leaves e.item (items_of old) (items_of new)
items_leave {old = old} {new = new} t p = omega (arith, count-map p (λ (e : Entry Flight). e.item) old, count-map p (λ (e : Entry Flight). e.item) new, count-out (λ e. p e.item) t)

-- what goes was fit
pub fit_taken : {e : Entry Flight} {old new : List (Entry Flight)} {index : List ℕ → Option Key} → TakesOut e old new → IsIndexed old index → IsFit e
fit_taken t i = (all-out IsFit t i.fit).0

-- what a key reaches
pub record Reached (k : Key) (item : Flight) (es : List (Entry Flight)) : Type 0 where
  pub there : Entry Flight
  pub live : entry_of k es ≡ Some there
  pub alike : there.item ≡ item

pub reached : (k : Key) (item : Flight) (es : List (Entry Flight)) → option_map (λ (e : Entry Flight). e.item) (entry_of k es) ≡ Some item → Reached k item es
reached k item es h = by (entry_of k es) refl h
  where
    by : (o : Option (Entry Flight)) → entry_of k es ≡ o → option_map (λ (e : Entry Flight). e.item) o ≡ Some item → Reached k item es
    by None e h = absurd (let no : ⊥ = cc in no)
    by (Some f) e h = record { there = f; live = e; alike = some_alike f.item item h }

-- what goes by its key goes out of the index by its id
pub taken_by_id : {k : Key} {due : ℕ} {item : Flight} {old new : List (Entry Flight)} {index index' : List ℕ → Option Key} → TakesOut (record { key = k; due = due; item = item }) old new → option_map (λ (e : Entry Flight). e.item) (entry_of k old) ≡ Some item → OthersStay k old new → IsIndexed old index → Updated index item.message.id None index' → IsIndexed new index'
taken_by_id {k} {due} {item} {old} {new} t h others i u =
    let r = reached k item old h in
    taken_out {e = record { key = k; due = due; item = item }} t r.live r.alike others i u

-- the index has a key for an id of which a copy is in flight
pub has_key_of : (es : List (Entry Flight)) (index : List ℕ → Option Key) (id : List ℕ) → IsIndexed es index → 0 < flights_of_id id (items_of es) → (key : Key) × (index id ≡ Some key)
has_key_of es index id i n = some_key es id (index id) (omega (arith, n, count-map (has_id id) (λ (e : Entry Flight). e.item) es)) (i.shows id)

pub is_some_of : {X : Type 0} {o : Option X} {x : X} → o ≡ Some x → IsSome o
is_some_of h = subst IsSome (sym h) refl

pub copied_some : {X : Type 0} (r : Option (Bor X)) {x : X} → option_copied r ≡ Some x → IsSome r
copied_some None h = absurd (let no : ⊥ = cc in no)
copied_some (Some y) h = refl

-- what such a key reaches is there
pub key_reaches : (es : List (Entry Flight)) (index : List ℕ → Option Key) (id : List ℕ) (key : Key) → IsIndexed es index → index id ≡ Some key → Reaches es id key
key_reaches es index id key i at = subst (Shows es id) at (i.shows id)

-- the same list, index and numbers by another name
pub kept_alike : {es es' : List (Entry Flight)} {index index' : List ℕ → Option Key} {held held' : ℕ → ℕ} → IsKept es index held → es' ≡ es → ((q : List ℕ) → index' q ≡ index q) → ((k : ℕ) → held' k ≡ held k) → IsKept es' index' held'
kept_alike {es} {es'} {index' = index'} k same alike count = record {
  indexed = record {
    shows = λ q. subst (λ l. Shows l q (index' q)) (sym same) (subst (Shows es q) (sym (alike q)) (k.indexed.shows q));
    fit = subst (All IsFit) (sym same) k.indexed.fit;
  };
  counted = λ c. count c ∙ (k.counted c ∙ ap (count_by (is_with c)) (sym same));
}

-- without a key none is in flight
pub not_there : (es : List (Entry Flight)) {n : ℕ} {v : Flying} (id : List ℕ) → record { flights = items_of es; spare = n } ≡ v → Shows es id None → flights_of_id id v.flights ≡ 0
not_there es id is s = ap (λ (v : Flying). flights_of_id id v.flights) (sym is) ∙ (count-map (has_id id) (λ (e : Entry Flight). e.item) es ∙ s)
