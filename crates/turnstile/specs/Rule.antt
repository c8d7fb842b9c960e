-- The rule of the table, which holds between any two steps on its word, and what each step tells.
-- The slot's value is at home where the slot is, and else it is in the hands of the one pass that holds the turn.
use Rattle.std.specs.Prelude.{◌≡◌, ◌≢◌, ◌⊎◌, ℕ, Bool, true, List, [], ◌∷◌, Option, Some, All}
use mathlib.Core.Option.{some, none}
use lib.ListN.{get_elem?}
use Rattle.atomic_table.specs.Table.{State, Me, Step}
use Rattle.turnstile.specs.declared.view.View.{View}
use Rattle.turnstile.specs.declared.view.Joined.{Joined}
use Rattle.turnstile.specs.Lists.{BeginsWith, IsIn, own}
use Rattle.turnstile.specs.Views.{numbers_of, Descends, winning, counting, freeing}

-- the pass k has this view, and wasn't joined
pub record IsAt {E P : Type 0} (views : List (View E P)) (k : ℕ) (v : View E P) : Type 0 where
  pub at : get_elem? views k ≡ some v
  pub live : v.is_live ≡ true

module _ {E P : Type 0} (number : E → ℕ) (is_common : E → Bool) (longest : List E) (root : P) (given : List ℕ) (joined : List (Joined E)) where
  -- what is so of each pass that wasn't joined
  pub record Fits (v : View E P) : Type 0 where
    -- what it has seen is a front of the one list, which has no more entries of its own
    pub is_front : BeginsWith longest v.seen
    pub all_own : own number is_common v.number longest ≡ own number is_common v.number v.seen
    pub went_on : BeginsWith v.seen v.earlier
    pub same_own : own number is_common v.number v.seen ≡ own number is_common v.number v.earlier
    pub of_root : v.root ≡ Some root
    -- its number was given, and no joined pass had it
    pub was_given : IsIn v.number given
    pub not_joined : ¬ (IsIn v.number (numbers_of joined))
    -- the first pass knows which numbers were given and which passes were joined, and has seen what they had seen
    pub first : v.number ≡ 0 → (v.given ≡ given) × (v.joined ≡ joined) × All (λ j. BeginsWith v.seen j.seen) joined

-- nobody holds the turn: the value is at home, its list is the longest that was seen, and it descends from the root
pub record IsHome {X E P : Type 0} (list : X → List E) (descends : P → X → Type 0) (word : ℕ) (longest : List E) (root : P) (s : State (Option X) (View E P)) : Type 0 where
  pub free : word ≡ 0
  pub value : X
  pub home : s.homes ≡ some (Some value) ∷ []
  pub its_list : list value ≡ longest
  pub fits_root : descends root value
  pub nobody : (k : ℕ) (v : View E P) → IsAt s.views k v → v.turn ≡ 0

-- one pass holds the turn, and only that one: the slot is with it, and until it has counted, the longest list is the one that the
-- value had as it was taken; then it is what that pass has seen
pub record IsOut {X E P : Type 0} (word : ℕ) (longest : List E) (s : State (Option X) (View E P)) : Type 0 where
  pub holder : ℕ
  pub view : View E P
  pub at : IsAt s.views holder view
  pub out : s.homes ≡ none ∷ []
  pub turn : view.turn ≡ word
  pub taken : word ≡ 1 → view.taken ≡ longest
  pub counted : word ≡ 2 → view.seen ≡ longest
  pub in_turn : (word ≡ 1) ⊎ (word ≡ 2)
  pub others : (k : ℕ) (v : View E P) → IsAt s.views k v → k ≢ holder → v.turn ≡ 0

module _ {X E P : Type 0} (list : X → List E) (number : E → ℕ) (is_common : E → Bool) (descends : P → X → Type 0) where
  -- `longest` is the longest list that a pass has seen, `given` are the numbers that passes have, `joined` the passes that were joined
  pub record IsRuled (s : State (Option X) (View E P)) : Type 0 where
    pub longest : List E
    pub root : P
    pub given : List ℕ
    pub joined : List (Joined E)
    pub word : ℕ
    pub words : s.words ≡ word ∷ []
    pub fits : (k : ℕ) (v : View E P) → IsAt s.views k v → Fits number is_common longest root given joined v
    -- passes have different numbers, and each number that was given is that of a pass or of a joined one
    pub apart : (j k : ℕ) (v w : View E P) → IsAt s.views j v → IsAt s.views k w → v.number ≡ w.number → j ≡ k
    pub each_given : (n : ℕ) → IsIn n given → ((k : ℕ) × (v : View E P) × IsAt s.views k v × (v.number ≡ n)) ⊎ IsIn n (numbers_of joined)
    pub joined_given : (n : ℕ) → IsIn n (numbers_of joined) → IsIn n given
    pub first_given : IsIn 0 given
    -- some pass has seen the longest list, whose entries name numbers that were given
    pub seen : (k : ℕ) × (v : View E P) × IsAt s.views k v × (v.seen ≡ longest)
    pub named : All (λ e. IsIn (number e) given) longest
    -- of a joined pass's number the list has the entries that it had as its own
    pub kept : All (λ j. own number is_common j.number longest ≡ own number is_common j.number j.seen) joined
    pub turn : IsHome list descends word longest root s ⊎ IsOut word longest s

  -- the word was found at 0: the pass holds the turn, and the slot with the value is in its hands
  pub record Wins (m m' : Me (Option X) (View E P)) : Type 0 where
    pub value : X
    pub view : m'.0 ≡ winning (list value) m.0
    pub hand : m'.1 ≡ (0, Some value) ∷ m.1
    pub front : BeginsWith (list value) m.0.seen
    pub own : own number is_common m.0.number (list value) ≡ own number is_common m.0.number m.0.seen
    pub fits_root : Descends descends m.0.root value

  -- the step from 0 to 1: else nothing changes
  abbrev pub Won : Step (Option X) → Me (Option X) (View E P) → ℕ → Me (Option X) (View E P) → Type 0
  Won step m found m' = (found ≡ 0 → Wins m m') × (found ≢ 0 → m' ≡ m)

module _ {X E P : Type 0} (list : X → List E) (number : E → ℕ) (is_common : E → Bool) where
  -- the pass has seen the list of the value that is announced. What it took began with what it had seen, and had no more entries of its own
  pub record Counts (value : X) (m m' : Me (Option X) (View E P)) : Type 0 where
    pub view : m'.0 ≡ counting (list value) m.0
    pub hand : m'.1 ≡ m.1
    pub front : BeginsWith m.0.taken m.0.seen
    pub own : own number is_common m.0.number m.0.taken ≡ own number is_common m.0.number m.0.seen

  abbrev pub Counted : Step (Option X) → Me (Option X) (View E P) → ℕ → Me (Option X) (View E P) → Type 0
  Counted step m found m' = (value : X) → step.said ≡ some (Some value) → Counts value m m'

module _ {X E P : Type 0} where
  -- the slot is given back, and the pass holds the turn no more
  abbrev pub Freed : Step (Option X) → Me (Option X) (View E P) → ℕ → Me (Option X) (View E P) → Type 0
  Freed step m found m' = (m'.0 ≡ freeing m.0) × (m'.1 ≡ [])

module _ {E P : Type 0} (number : E → ℕ) (is_common : E → Bool) where
  -- what the rule says of one pass
  pub record Knows (v : View E P) : Type 0 where
    pub front : BeginsWith v.seen v.earlier
    pub same_own : own number is_common v.number v.seen ≡ own number is_common v.number v.earlier
    pub all_joined : v.number ≡ 0 → All (λ j. BeginsWith v.seen j.seen) v.joined

-- a step that changes nothing
abbrev pub Looked : {X E P : Type 0} → (E → ℕ) → (E → Bool) → Step (Option X) → Me (Option X) (View E P) → ℕ → Me (Option X) (View E P) → Type 0
Looked number is_common step m found m' = (m' ≡ m) × Knows number is_common m.0
