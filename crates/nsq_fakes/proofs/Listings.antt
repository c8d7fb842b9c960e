use Rattle.std.proofs.Common.{◌≡◌, ◌≢◌, ◌↔◌, ℕ, ◌<◌, Bool, List, [], ◌∷◌, length, map, filter, take, refl, sym, ◌∙◌, ap, arith, true, false, Option, Some, None, is_some, Vec, String, string_bytes, nat_eq, get_or, Contains, cond, option_map, ◌||◌, ◌&&◌}
use Rattle.std.specs.declared.alloc.Global.{Global}
use Rattle.std.specs.BTreeMap.{BTreeMap, get_by_text, IsOrdered, keys}
use Rattle.std.specs.Bool.{Decides}
use Rattle.std.specs.Cmp.Lexicographic.{slice_cmp, nat_list_eq_equiv}
use Rattle.std.specs.List.{AllPairs, starts_with}
use Rattle.std.specs.List.Sorted.{IsStrictlySortedBy}
use Rattle.std.specs.Map.{lookup, keys_of}
use Rattle.std.specs.Ordering.{is_eq, nat_cmp}
use Rattle.std.specs.declared.cmp.Ordering.TheVariants.{Less}
use Rattle.std.specs.Set.{is_member}
use Rattle.std.specs.Str.{bytes_eq}
use Rattle.std.specs.String.{string_cmp}
use Rattle.std.proofs.lemmas.Bool.{and_from, and_parts}
use Rattle.std.proofs.lemmas.List.{get_or-map, length-map}
use Rattle.std.proofs.lemmas.List.Kept.{AllPairs-filter}
use Rattle.std.proofs.lemmas.Map.Keys.{Less-from_sorted}
use Rattle.std.proofs.lemmas.Map.Made.{is_member-Decides, is_member-filter, alike_from_same}
use Rattle.std.proofs.lemmas.Map.Text.{is_eq-slice_cmp}
use Rattle.std.proofs.lemmas.Slice.Eq.{bytes_eq-Decides}
use Rattle.nsq_outside.specs.Files.{BeginsWith, IsListing}
use Rattle.nsq_fakes.specs.MemFiles.{files_of}

-- a look-up by bytes finds exactly the names among the keys
is_some-lookup : (es : List (String Global × Vec ℕ Global)) (name : List ℕ) →
    is_some (lookup (λ k. is_eq (slice_cmp nat_cmp name (string_bytes k))) es) ≡ is_member bytes_eq (map string_bytes (keys_of es)) name
is_some-lookup [] name = refl
is_some-lookup (e ∷ es) name =
    rw (is_eq-slice_cmp name (string_bytes e.0))
    (elim (bytes_eq name (string_bytes e.0))
    as (λ b. is_some (cond b (Some e.1) (lookup (λ k. is_eq (slice_cmp nat_cmp name (string_bytes k))) es)) ≡ (b || is_member bytes_eq (map string_bytes (keys_of es)) name))
    [ true ↦ refl | false ↦ is_some-lookup es name ])

is_some-option_map : {X Y : Type 0} (f : X → Y) (o : Option X) → is_some (option_map f o) ≡ is_some o
is_some-option_map f None = refl
is_some-option_map f (Some x) = refl

-- ordered keys are each another text
texts_apart : (ks : List (String Global)) → IsStrictlySortedBy string_cmp ks → AllPairs (λ a b. a ≢ b) (map string_bytes ks)
texts_apart [] o i j d before inside same = absurd (omega arith)
texts_apart (k ∷ ks) o i j d before inside same =
    let size : length (map string_bytes (k ∷ ks)) ≡ length (k ∷ ks) = length-map (k ∷ ks) string_bytes in
    let inner : j < length (k ∷ ks) = omega (arith, size) in
    let less : string_cmp (get_or (k ∷ ks) i k) (get_or (k ∷ ks) j k) ≡ Less = Less-from_sorted string_cmp (k ∷ ks) i j k o before inner in
    let left : get_or (map string_bytes (k ∷ ks)) i d ≡ string_bytes (get_or (k ∷ ks) i k) = get_or-map string_bytes (k ∷ ks) i k d (omega arith) in
    let right : get_or (map string_bytes (k ∷ ks)) j d ≡ string_bytes (get_or (k ∷ ks) j k) = get_or-map string_bytes (k ∷ ks) j k d inner in
    let equal : bytes_eq (string_bytes (get_or (k ∷ ks) i k)) (string_bytes (get_or (k ∷ ks) j k)) ≡ true = (bytes_eq-Decides _ _).1 (sym left ∙ same ∙ right) in
    let unequal : is_eq (string_cmp (get_or (k ∷ ks) i k) (get_or (k ∷ ks) j k)) ≡ false = ap is_eq less in
    let both : true ≡ false = sym equal ∙ sym (is_eq-slice_cmp (string_bytes (get_or (k ∷ ks) i k)) (string_bytes (get_or (k ∷ ks) j k))) ∙ unequal in
    cc

-- whether a name begins so, as `starts_with` tells it
abbrev pub begins : List ℕ → List ℕ → Bool
begins beginning name = starts_with nat_eq name beginning

begins-Decides : (beginning name : List ℕ) → Decides (begins beginning name) (BeginsWith name beginning)
begins-Decides beginning name =
    let decides : Decides (bytes_eq beginning (take (length beginning) name)) (beginning ≡ take (length beginning) name) = bytes_eq-Decides beginning (take (length beginning) name) in
    (λ h. sym (decides.0 h), λ e. decides.1 (sym e))

-- the names that begin so are among those of a list exactly where they are in it
filtered : (names : List (List ℕ)) (beginning name : List ℕ) → Contains (filter (begins beginning) names) name ↔ (Contains names name × BeginsWith name beginning)
filtered names beginning name =
    let passes : List ℕ → Bool = begins beginning in
    let inner : Decides (is_member bytes_eq (filter passes names) name) (Contains (filter passes names) name) = is_member-Decides bytes_eq-Decides (filter passes names) name in
    let outer : Decides (is_member bytes_eq names name) (Contains names name) = is_member-Decides bytes_eq-Decides names name in
    let both : is_member bytes_eq (filter passes names) name ≡ (is_member bytes_eq names name && passes name) =
    is_member-filter nat_list_eq_equiv passes name (alike_from_same bytes_eq-Decides passes name) names in (
      λ h. let parts = and_parts (is_member bytes_eq names name) (passes name) (sym both ∙ inner.1 h) in (outer.0 parts.0, (begins-Decides beginning name).0 parts.1),
      λ h. inner.0 (both ∙ and_from (is_member bytes_eq names name) (passes name) (outer.1 h.0) ((begins-Decides beginning name).1 h.1)),
    )

-- those names of a map's keys that begin so are a listing of its files by that beginning
pub listing-keys : (m : BTreeMap (String Global) (Vec ℕ Global)) (beginning : List ℕ) → IsOrdered string_cmp m
    → IsListing (files_of m) beginning (filter (begins beginning) (map string_bytes (keys m)))
listing-keys m beginning o = record {
  each = λ name.
      let names : List (List ℕ) = map string_bytes (keys m) in
      let same : is_some (files_of m name) ≡ is_member bytes_eq names name = is_some-option_map _ (get_by_text m name) ∙ is_some-lookup m.entries name in
      let decides : Decides (is_member bytes_eq names name) (Contains names name) = is_member-Decides bytes_eq-Decides names name in
      let passing : Contains (filter (begins beginning) names) name ↔ (Contains names name × BeginsWith name beginning) = filtered names beginning name in
      (λ h. (same ∙ decides.1 (passing.0 h).0, (passing.0 h).1), λ h. passing.1 (decides.0 (sym same ∙ h.0), h.1));
  once = AllPairs-filter (λ a b. a ≢ b) (begins beginning) (map string_bytes (keys m)) (texts_apart (keys m) o);
}
