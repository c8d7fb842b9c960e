-- What a set of names has after a change of one name, and which of its names begin so.
use Rattle.std.proofs.Common.{◌≡◌, ◌≢◌, ℕ, ◌<◌, Bool, get_or, List, [], ◌∷◌, length, map, take, ◌++◌, append-nil, append_assoc, refl, sym, ◌∙◌, ap, subst, arith, true, false, Some, String, string_bytes, Contains, cond, ◌||◌, ◌&&◌, ◌↔◌, nat_eq}
use mathlib.Core.Bool.{true≢false}
use Rattle.std.specs.declared.alloc.Global.{Global}
use Rattle.std.specs.BTreeMap.{is_at}
use Rattle.std.specs.BTreeSet.{BTreeSet, contains_text, IsOrdered, UpdatesBy}
use Rattle.std.specs.Cmp.{first_so, second_so}
use Rattle.std.specs.Cmp.Lexicographic.{slice_cmp, pointwise}
use Rattle.std.specs.List.{AllByRecursion, AllPairs, filter, list_any}
use Rattle.std.specs.List.Sorted.{IsStrictlySortedBy}
use Rattle.std.specs.Ordering.{is_eq, is_gt, is_le, nat_cmp, ordering_then}
use Rattle.std.specs.declared.cmp.Ordering.{Ordering}
use Rattle.std.specs.declared.cmp.Ordering.TheVariants.{Less, Equal, Greater}
use Rattle.std.specs.Set.{is_member}
use Rattle.std.specs.Str.{bytes_eq}
use Rattle.std.specs.String.{string_cmp}
use Rattle.std.proofs.lemmas.Bool.{false_from_ne_true}
use Rattle.std.proofs.lemmas.Bool.Decides.{Decides-eqb}
use Rattle.std.proofs.lemmas.Cmp.{ranked}
use Rattle.std.proofs.lemmas.List.{get_or-map, length-map, map-append}
use Rattle.std.proofs.lemmas.List.Kept.{AllPairs-filter}
use Rattle.std.proofs.lemmas.Map.Keys.{Less-from_sorted, sorted_head, sorted_tail}
use Rattle.std.proofs.lemmas.Map.Made.{is_member-Decides}
use Rattle.std.proofs.lemmas.Map.Text.{is_eq-slice_cmp, btree_set_updates_text}
use Rattle.std.proofs.lemmas.Map.Views.{any-filter_same}
use Rattle.std.proofs.lemmas.Slice.Eq.{bytes_eq-Decides}
use Rattle.nsq_system.specs.KnownNames.{ArePart, OnlyChanges, SetsName}

-- a look-up by bytes finds exactly the names among the keys
text-member : (ks : List (String Global)) (name : List ℕ) → list_any (is_at (λ k. slice_cmp nat_cmp name (string_bytes k))) ks ≡ is_member bytes_eq (map string_bytes ks) name
text-member [] name = refl
text-member (k ∷ ks) name = ap (λ b. b || list_any (is_at (λ k. slice_cmp nat_cmp name (string_bytes k))) ks) (is_eq-slice_cmp name (string_bytes k)) ∙ ap (λ b. bytes_eq name (string_bytes k) || b) (text-member ks name)

-- a change of one name
pub sets-name : (name : List ℕ) (old new : BTreeSet (String Global)) (b : Bool) → UpdatesBy string_cmp (λ k. slice_cmp nat_cmp name (string_bytes k)) old new b → SetsName old new name b
sets-name name old new b updates =
    let at = btree_set_updates_text name old new b updates in (
      at name ∙ ap (λ t. cond t b (contains_text old name)) ((bytes_eq-Decides name name).1 refl),
      λ other apart. at other ∙ ap (λ t. cond t b (contains_text old other)) (false_from_ne_true (bytes_eq name other) (λ same. apart (sym ((bytes_eq-Decides name other).0 same)))),
    )

-- a name begins with these bytes
abbrev pub begins : List ℕ → List ℕ → Bool
begins beginning name = pointwise nat_eq beginning (take (length beginning) name)

-- what stands in front, as long as it passes
abbrev pub front : {X : Type 0} → (X → Bool) → List X → List X
front p [] = []
front p (x ∷ xs) = cond (p x) (x ∷ front p xs) []

-- bytes that are the same aren't apart
apart-bytes : (x y : ℕ) → nat_eq x y ≡ true → y < x → ⊥
apart-bytes x y same below = let e : x ≡ y = (Decides-eqb x y).0 same in omega (arith, e, below)

-- bytes that are apart aren't the same
below-apart : (x z : ℕ) → x < z → nat_eq x z ≡ false
below-apart x z below = false_from_ne_true (nat_eq x z) (λ same. let e : x ≡ z = (Decides-eqb x z).0 same in omega (arith, e, below))

-- the same first bytes leave the order to the rest
le-first : (x y : ℕ) (o : Ordering) → o ≡ nat_cmp x y → (rest : Ordering) → nat_eq x y ≡ true → is_le rest ≡ true → is_le (ordering_then o rest) ≡ true
le-first x y Less o rest same le = refl
le-first x y Equal o rest same le = le
le-first x y Greater o rest same le = absurd (apart-bytes x y same (ranked x y Greater o))

-- a name isn't before what it begins with
le-from_begins : (b name : List ℕ) → begins b name ≡ true → is_le (slice_cmp nat_cmp b name) ≡ true
le-from_begins [] [] h = refl
le-from_begins [] (y ∷ ys) h = refl
le-from_begins (x ∷ xs) [] h = absurd (true≢false (sym h))
le-from_begins (x ∷ xs) (y ∷ ys) h = le-first x y (nat_cmp x y) refl (slice_cmp nat_cmp xs ys) (first_so _ _ h) (le-from_begins xs ys (second_so _ _ h))

and-false : (b : Bool) → (b && false) ≡ false
and-false true = refl
and-false false = refl

-- the first bytes of the three decide, or are the same
later-first : (x y z : ℕ) (o p : Ordering) → o ≡ nat_cmp x y → p ≡ nat_cmp y z → (r t : Ordering) (b c : Bool)
    → is_le (ordering_then o r) ≡ true → (nat_eq x y && b) ≡ false → ordering_then p t ≡ Less → (is_le r ≡ true → b ≡ false → t ≡ Less → c ≡ false) → (nat_eq x z && c) ≡ false
later-first x y z Greater p o q r t b c h n l rest = absurd (true≢false (sym h))
later-first x y z Less Greater o q r t b c h n l rest = absurd (true≢false (ap is_gt l))
later-first x y z Equal Greater o q r t b c h n l rest = absurd (true≢false (ap is_gt l))
later-first x y z Less Less o q r t b c h n l rest =
    let below : x < y = ranked x y Less o in
    let then : y < z = ranked y z Less q in
    ap (λ e. e && c) (below-apart x z (omega (arith, below, then)))
later-first x y z Less Equal o q r t b c h n l rest =
    let below : x < y = ranked x y Less o in
    let same : y ≡ z = ranked y z Equal q in
    ap (λ e. e && c) (below-apart x z (omega (arith, below, same)))
later-first x y z Equal Less o q r t b c h n l rest =
    let same : x ≡ y = ranked x y Equal o in
    let then : y < z = ranked y z Less q in
    ap (λ e. e && c) (below-apart x z (omega (arith, same, then)))
later-first x y z Equal Equal o q r t b c h n l rest =
    let same : x ≡ y = ranked x y Equal o in
    let equal : nat_eq x y ≡ true = (Decides-eqb x y).1 same in
    let none : c ≡ false = rest h (sym (ap (λ e. e && b) equal) ∙ n) l in
    ap (λ e. nat_eq x z && e) none ∙ and-false (nat_eq x z)

-- behind a name that doesn't begin so there is none that does
none-later : (b name later : List ℕ) → is_le (slice_cmp nat_cmp b name) ≡ true → begins b name ≡ false → slice_cmp nat_cmp name later ≡ Less → begins b later ≡ false
none-later [] name later h n l = absurd (true≢false n)
none-later (x ∷ xs) [] later h n l = absurd (true≢false (sym h))
none-later (x ∷ xs) (y ∷ ys) [] h n l = refl
none-later (x ∷ xs) (y ∷ ys) (z ∷ zs) h n l = later-first x y z (nat_cmp x y) (nat_cmp y z) refl refl (slice_cmp nat_cmp xs ys) (slice_cmp nat_cmp ys zs) (begins xs ys) (begins xs zs) h n l (none-later xs ys zs)

none-begin : (b : List ℕ) (k : String Global) (ks : List (String Global)) → is_le (slice_cmp nat_cmp b (string_bytes k)) ≡ true → begins b (string_bytes k) ≡ false
    → AllByRecursion (λ y. string_cmp k y ≡ Less) ks → filter (begins b) (map string_bytes ks) ≡ []
none-begin b k [] h n after = refl
none-begin b k (y ∷ ys) h n after = rw (none-later b (string_bytes k) (string_bytes y) h n after.0) (none-begin b k ys h n after.1)

-- the names from a beginning on, as long as they begin so, are all that do
pub front-range : (b : List ℕ) (in_range : String Global → Bool) → ((k : String Global) → in_range k ≡ is_le (slice_cmp nat_cmp b (string_bytes k))) → (ks : List (String Global))
    → IsStrictlySortedBy string_cmp ks → front (begins b) (map string_bytes (filter in_range ks)) ≡ filter (begins b) (map string_bytes ks)
front-range b in_range same [] sorted = refl
front-range b in_range same (k ∷ ks) sorted = by (in_range k) (begins b (string_bytes k)) refl refl (front-range b in_range same ks (sorted_tail string_cmp k ks sorted))
  where
    by : (r t : Bool) → in_range k ≡ r → begins b (string_bytes k) ≡ t → front (begins b) (map string_bytes (filter in_range ks)) ≡ filter (begins b) (map string_bytes ks)
        → front (begins b) (map string_bytes (cond r (k ∷ filter in_range ks) (filter in_range ks))) ≡ cond t (string_bytes k ∷ filter (begins b) (map string_bytes ks)) (filter (begins b) (map string_bytes ks))
    by true true r t rest = ap (λ c. cond c (string_bytes k ∷ front (begins b) (map string_bytes (filter in_range ks))) []) t ∙ ap (λ names. string_bytes k ∷ names) rest
    by true false r t rest = ap (λ c. cond c (string_bytes k ∷ front (begins b) (map string_bytes (filter in_range ks))) []) t ∙ sym (none-begin b k ks (sym (same k) ∙ r) t (sorted_head string_cmp k ks sorted))
    by false true r t rest = absurd (true≢false (sym (le-from_begins b (string_bytes k) t) ∙ sym (same k) ∙ r))
    by false false r t rest = rest

both-so : (s t : Bool) → s ≡ true → t ≡ true → (s && t) ≡ true
both-so s t h g = ap (λ b. b && t) h ∙ g

-- those that begin so are the part that is asked for
pub part-filter : (known : BTreeSet (String Global)) (b : List ℕ) (found : List (List ℕ)) → found ≡ filter (begins b) (map string_bytes known.keys) → ArePart (Some known) b found
part-filter known b found is name =
    let member : Contains found name ↔ (is_member bytes_eq found name ≡ true) = ((is_member-Decides bytes_eq-Decides found name).1, (is_member-Decides bytes_eq-Decides found name).0) in
    let both : is_member bytes_eq found name ≡ (begins b name && contains_text known name) =
    ap (λ names. is_member bytes_eq names name) is ∙ any-filter_same (bytes_eq name) (begins b) (begins b name) (λ k e. ap (begins b) (sym ((bytes_eq-Decides name k).0 e))) (map string_bytes known.keys)
    ∙ ap (λ t. begins b name && t) (sym (text-member known.keys name)) in
    let decides = bytes_eq-Decides b (take (length b) name) in (
      λ h. (second_so _ _ (sym both ∙ member.0 h), sym (decides.0 (first_so _ _ (sym both ∙ member.0 h)))),
      λ h. member.1 (both ∙ both-so (begins b name) (contains_text known name) (decides.1 (sym h.1)) h.0),
    )

-- ordered keys are each another text
texts-apart : (ks : List (String Global)) → IsStrictlySortedBy string_cmp ks → AllPairs (λ a b. a ≢ b) (map string_bytes ks)
texts-apart [] o i j d before inside same = absurd (omega arith)
texts-apart (k ∷ ks) o i j d before inside same =
    let size : length (map string_bytes (k ∷ ks)) ≡ length (k ∷ ks) = length-map (k ∷ ks) string_bytes in
    let inner : j < length (k ∷ ks) = omega (arith, size) in
    let less : string_cmp (get_or (k ∷ ks) i k) (get_or (k ∷ ks) j k) ≡ Less = Less-from_sorted string_cmp (k ∷ ks) i j k o before inner in
    let left : get_or (map string_bytes (k ∷ ks)) i d ≡ string_bytes (get_or (k ∷ ks) i k) = get_or-map string_bytes (k ∷ ks) i k d (omega arith) in
    let right : get_or (map string_bytes (k ∷ ks)) j d ≡ string_bytes (get_or (k ∷ ks) j k) = get_or-map string_bytes (k ∷ ks) j k d inner in
    let equal : bytes_eq (string_bytes (get_or (k ∷ ks) i k)) (string_bytes (get_or (k ∷ ks) j k)) ≡ true = (bytes_eq-Decides _ _).1 (sym left ∙ same ∙ right) in
    let unequal : is_eq (string_cmp (get_or (k ∷ ks) i k) (get_or (k ∷ ks) j k)) ≡ false = ap is_eq less in
    true≢false (sym equal ∙ sym (is_eq-slice_cmp (string_bytes (get_or (k ∷ ks) i k)) (string_bytes (get_or (k ∷ ks) j k))) ∙ unequal)

-- and so are those that begin so
pub once-filter : (known : BTreeSet (String Global)) (b : List ℕ) (found : List (List ℕ)) → IsOrdered string_cmp known → found ≡ filter (begins b) (map string_bytes known.keys) → AllPairs (λ a b. a ≢ b) found
once-filter known b found ordered is = subst (λ names. AllPairs (λ a b. a ≢ b) names) (sym is) (AllPairs-filter (λ a b. a ≢ b) (begins b) (map string_bytes known.keys) (texts-apart known.keys ordered))

-- what one name's change leaves
pub only-changes : (old new : BTreeSet (String Global)) (name : List ℕ) (here : Bool) → SetsName old new name here → OnlyChanges (Some old) (Some new) name
only-changes old new name here sets = record {
  known = λ h. h;
  others = λ _ other apart. (λ h. sym (sets.1 other apart) ∙ h, λ h. sets.1 other apart ∙ h);
}

-- a step of the walk: the name begins so, and its copy joins those that were found
pub walk-step : (b : List ℕ) (found joined walk rest : List (String Global)) (name copy : String Global) (all : List (List ℕ)) → map string_bytes found ++ front (begins b) (map string_bytes walk) ≡ all
    → walk ≡ name ∷ rest → begins b (string_bytes name) ≡ true → string_bytes copy ≡ string_bytes name → joined ≡ found ++ copy ∷ [] → map string_bytes joined ++ front (begins b) (map string_bytes rest) ≡ all
walk-step b found joined walk rest name copy all before next so same joins =
    let tail : List (List ℕ) = front (begins b) (map string_bytes rest) in
    let joined_bytes : map string_bytes joined ≡ map string_bytes found ++ string_bytes name ∷ [] = ap (map string_bytes) joins ∙ map-append string_bytes found (copy ∷ []) ∙ ap (λ bytes. map string_bytes found ++ bytes ∷ []) same in
    let first : front (begins b) (map string_bytes walk) ≡ string_bytes name ∷ tail = ap (λ names. front (begins b) (map string_bytes names)) next ∙ ap (λ c. cond c (string_bytes name ∷ tail) []) so in
    ap (λ names. names ++ tail) joined_bytes ∙ append_assoc (map string_bytes found) (string_bytes name ∷ []) tail ∙ sym (ap (λ names. map string_bytes found ++ names) first) ∙ before

-- the end of the walk, at the first name that doesn't begin so
pub walk-stop : (b : List ℕ) (found walk rest : List (String Global)) (name : String Global) (all : List (List ℕ)) → map string_bytes found ++ front (begins b) (map string_bytes walk) ≡ all
    → walk ≡ name ∷ rest → begins b (string_bytes name) ≡ false → map string_bytes found ≡ all
walk-stop b found walk rest name all before next so =
    let none : front (begins b) (map string_bytes walk) ≡ [] = ap (λ names. front (begins b) (map string_bytes names)) next ∙ ap (λ c. cond c (string_bytes name ∷ front (begins b) (map string_bytes rest)) []) so in
    sym (append-nil (map string_bytes found)) ∙ sym (ap (λ names. map string_bytes found ++ names) none) ∙ before

-- the end of the walk, behind the last name
pub walk-end : (b : List ℕ) (found walk : List (String Global)) (all : List (List ℕ)) → map string_bytes found ++ front (begins b) (map string_bytes walk) ≡ all → walk ≡ [] → map string_bytes found ≡ all
walk-end b found walk all before next = sym (append-nil (map string_bytes found)) ∙ sym (ap (λ names. map string_bytes found ++ front (begins b) (map string_bytes names)) next) ∙ before
