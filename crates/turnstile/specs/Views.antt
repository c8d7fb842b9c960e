-- What passes know, as it begins and as it changes.
use Rattle.std.specs.Prelude.{◌≡◌, ℕ, ◌⊎◌, true, false, if◌then◌else◌, List, [], ◌∷◌, ◌++◌, map, length, nat_le, ◌==◌, Option, Some, None}
use Rattle.turnstile.specs.declared.view.View.{View}
use Rattle.turnstile.specs.declared.view.Joined.{Joined}
use Rattle.turnstile.specs.Lists.{IsIn}

-- the slots that a pass holds: the only one while it holds the turn, and then it is empty
abbrev pub hand : {X : Type 0} → ℕ → List (ℕ × Option X)
hand turn = if turn == 0 then [] else (0, None) ∷ []

-- the longer of two lists
abbrev pub longer : {X : Type 0} → List X → List X → List X
longer xs ys = if nat_le (length xs) (length ys) then ys else xs

-- the numbers of joined passes
abbrev pub numbers_of : {E : Type 0} → List (Joined E) → List ℕ
numbers_of joined = map (λ j. j.number) joined

module _ {E P : Type 0} where
  -- the view of the first pass, where the value with which the turnstile was made has this list and this picture
  abbrev pub first_view : List E → P → View E P
  first_view list picture = record { is_live = true; number = 0; root = Some picture; seen = list; earlier = list; turn = 0; taken = []; given = 0 ∷ []; joined = [] }

  -- the first pass gave a pass this number
  abbrev pub with_given : ℕ → View E P → View E P
  with_given n v = record v { given = v.given ++ n ∷ [] }

  -- the view of a new pass of this number
  abbrev pub later_view : ℕ → View E P → View E P
  later_view n v = record { is_live = true; number = n; root = v.root; seen = v.seen; earlier = []; turn = 0; taken = []; given = []; joined = [] }

  -- the view v of the first pass after it took in another pass's view w
  abbrev pub absorbing : View E P → View E P → View E P
  absorbing v w = record v { seen = longer v.seen w.seen; earlier = v.seen; joined = v.joined ++ (record { number = w.number; seen = w.seen }) ∷ [] }

  -- the view of a pass that wins the turn and takes a value with this list
  abbrev pub winning : List E → View E P → View E P
  winning list v = record v { turn = 1; taken = list }

  -- the pass counted this list: it has seen it
  abbrev pub counting : List E → View E P → View E P
  counting list v = record v { seen = list; earlier = list; turn = 2 }

  -- the pass holds the turn no more
  abbrev pub freeing : View E P → View E P
  freeing v = record v { turn = 0; taken = [] }

  -- the view of a pass that gave the value back with this list
  abbrev pub given_back : List E → View E P → View E P
  given_back list v = freeing (counting list v)

  -- what is left of a pass that was joined
  abbrev pub spent : View E P
  spent = record { is_live = false; number = 0; root = None; seen = []; earlier = []; turn = 0; taken = []; given = []; joined = [] }

  -- the numbers of the passes that were joined to this one
  abbrev pub joined_numbers : View E P → List ℕ
  joined_numbers v = numbers_of v.joined

  -- the view is the first pass's, which has given no pass this number
  pub record IsNew (n : ℕ) (v : View E P) : Type 0 where
    pub first : v.number ≡ 0
    pub new : ¬ (IsIn n v.given)

  -- the view is the first pass's, which all others were joined to
  pub record IsLast (v : View E P) : Type 0 where
    pub first : v.number ≡ 0
    pub all : (n : ℕ) → IsIn n v.given → (n ≡ 0) ⊎ IsIn n (joined_numbers v)

-- the root is a picture from which the value descends
abbrev pub Descends : {X P : Type 0} → (P → X → Type 0) → Option P → X → Type 0
Descends {X} {P} descends root value = (picture : P) × (root ≡ Some picture) × descends picture value
