-- Lemmas on the pair that counts for a name.
use Rattle.std.proofs.Common.{◌≡◌, ◌≢◌, ℕ, ◌+◌, ◌<◌, ◌≤◌, List, ◌∷◌, ◌++◌, length, take, drop, get_or, sym, ap, ◌∙◌, subst, take-append-drop}
use Rattle.std.proofs.lemmas.List.{drop_more, take_all}
use Rattle.std.proofs.lemmas.List.Elements.{All-more}
use Rattle.nsq_base.specs.declared.pairs.Pair.{Pair}
use Rattle.http_wire.specs.Argument.{HasNoArgument, IsFirstArgument}

pub argument_here : (pairs : List Pair) (i : ℕ) (pair : Pair) (name value : List ℕ) → i < length pairs → pair ≡ get_or pairs i pair → HasNoArgument (take i pairs) name → pair.name ≡ name → value ≡ pair.value → IsFirstArgument pairs name value
argument_here pairs i pair name value l is none named v = record {
  before = take i pairs;
  pair = pair;
  behind = drop (i + 1) pairs;
  stands = sym (take-append-drop i pairs) ∙ ap (λ (x : List Pair). take i pairs ++ x) (drop_more pairs i pair l ∙ ap (λ (p : Pair). p ∷ drop (i + 1) pairs) (sym is));
  none = none;
  named = named;
  is = sym v;
}

pub argument_more : (pairs : List Pair) (i : ℕ) (pair : Pair) (name : List ℕ) → i < length pairs → pair ≡ get_or pairs i pair → HasNoArgument (take i pairs) name → pair.name ≢ name → HasNoArgument (take (i + 1) pairs) name
argument_more pairs i pair name l is none other = All-more (λ (p : Pair). p.name ≢ name) pairs i pair l none (subst (λ (p : Pair). p.name ≢ name) is other)

pub argument_never : (pairs : List Pair) (i : ℕ) (name : List ℕ) → length pairs ≤ i → HasNoArgument (take i pairs) name → HasNoArgument pairs name
argument_never pairs i name l none = subst (λ (x : List Pair). HasNoArgument x name) (take_all i pairs l) none
