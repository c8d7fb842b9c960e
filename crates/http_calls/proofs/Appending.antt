-- Lists that are written one behind the other.
use Rattle.std.proofs.Common.{◌≡◌, ℕ, ◌+◌, ◌<◌, ◌≤◌, ◌++◌, List, [], ◌∷◌, fold, flat_map, take, take_all, length, get_or, append_assoc, append-nil, refl, sym, ap, ◌∙◌}
use Rattle.std.proofs.lemmas.List.{take_more, flat_map_more}
use Rattle.std.specs.Str.{IsUtf8}
use Rattle.std.specs.Str.Lossy.{utf8_lossy}
use Rattle.json.specs.Token.{Token, key, begin_array, end_array}
use Rattle.http_calls.specs.Tokens.{list_tokens}
use Rattle.std.proofs.lemmas.Str.{utf8_lossy-IsUtf8}

-- parts that are appended one by one
abbrev pub appended : {X : Type 0} → List X → List (List X) → List X
appended first parts = fold (λ all part. all ++ part) first parts

-- the same from the other side, before a rest
abbrev pub before_rest : {X : Type 0} → List (List X) → List X → List X
before_rest [] rest = rest
before_rest (part ∷ parts) rest = part ++ before_rest parts rest

pub together : {X : Type 0} (first : List X) (parts : List (List X)) (rest : List X) → first ++ before_rest parts rest ≡ appended first parts ++ rest
together first [] rest = refl
together first (part ∷ parts) rest = sym (append_assoc first part (before_rest parts rest)) ∙ together (first ++ part) parts rest

pub together_alone : {X : Type 0} (first : List X) (parts : List (List X)) → first ++ before_rest parts [] ≡ appended first parts
together_alone first parts = together first parts [] ∙ append-nil (appended first parts)

-- behind what was there
pub all_appended : {X : Type 0} (old first : List X) (parts : List (List X)) → appended (old ++ first) parts ≡ old ++ appended first parts
all_appended old first [] = refl
all_appended old first (part ∷ parts) = ap (λ all. appended all parts) (append_assoc old first part) ∙ all_appended old (first ++ part) parts

-- of a list nothing is written yet
pub none_yet : {X : Type 0} (tokens : X → List Token) (items : List X) (old : List Token) → old ≡ old ++ flat_map tokens (take 0 items)
none_yet tokens items old = sym (append-nil old)

-- one more item is written
pub one_written : {X : Type 0} (tokens : X → List Token) (items : List X) (i : ℕ) (x : X) (old mid new : List Token) → x ≡ get_or items i x → i < length items → mid ≡ old ++ flat_map tokens (take i items) → new ≡ mid ++ tokens x → new ≡ old ++ flat_map tokens (take (i + 1) items)
one_written {X} tokens items i x old mid new is within so more =
    more ∙ ap (λ (m : List Token). m ++ tokens x) so ∙ flat_map_more tokens old (take i items) x ∙ ap (λ (y : X). old ++ flat_map tokens (take i items ++ y ∷ [])) is ∙ ap (λ (xs : List X). old ++ flat_map tokens xs) (sym (take_more items i x within))

-- a list whose items are all written is whole
pub list_whole : {X : Type 0} (tokens : X → List Token) (name : List ℕ) (items : List X) (i : ℕ) (old named begun all : List Token)
    → named ≡ old ++ key name ∷ [] → begun ≡ named ++ begin_array ∷ [] → all ≡ begun ++ flat_map tokens (take i items) → length items ≤ i
    → all ++ end_array ∷ [] ≡ old ++ list_tokens tokens name items
list_whole tokens name items i old named begun all n b a long =
    let listed = flat_map tokens items in
    let taken : flat_map tokens (take i items) ≡ listed = ap (flat_map tokens) (take_all i items long) in
    let is : all ≡ old ++ key name ∷ begin_array ∷ listed =
    a
    ∙ ap (λ x. begun ++ x) taken
    ∙ ap (λ x. x ++ listed) (b ∙ ap (λ x. x ++ begin_array ∷ []) n)
    ∙ append_assoc (old ++ key name ∷ []) (begin_array ∷ []) listed
    ∙ append_assoc old (key name ∷ []) (begin_array ∷ listed) in
    ap (λ x. x ++ end_array ∷ []) is ∙ append_assoc old (key name ∷ begin_array ∷ listed) (end_array ∷ [])

-- a text that is UTF-8 is written as it is
pub said_is : (text bytes : List ℕ) → text ≡ bytes → IsUtf8 bytes → text ≡ utf8_lossy bytes
said_is text bytes e utf8 = e ∙ sym (utf8_lossy-IsUtf8 bytes utf8)
