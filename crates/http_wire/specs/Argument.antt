-- The pair of a query that counts for a name.
use Rattle.std.specs.Prelude.{◌≡◌, ◌≢◌, ℕ, List, ◌∷◌, ◌++◌, All}
use Rattle.nsq_base.specs.declared.pairs.Pair.{Pair}

-- no pair has this name
abbrev pub HasNoArgument : List Pair → List ℕ → Type 0
HasNoArgument pairs name = All (λ (pair : Pair). pair.name ≢ name) pairs

-- a pair of this name has this value, and no pair before it has the name
pub record IsFirstArgument (pairs : List Pair) (name value : List ℕ) : Type 0 where
  pub before : List Pair
  pub pair : Pair
  pub behind : List Pair
  pub stands : pairs ≡ before ++ pair ∷ behind
  pub none : HasNoArgument before name
  pub named : pair.name ≡ name
  pub is : pair.value ≡ value
