-- Lists of entries: fronts of one list, the entries of a number, and what may be appended.
use Rattle.std.specs.Prelude.{◌≡◌, ◌⊎◌, ℕ, Bool, IsTrue, ◌&&◌, not, ◌==◌, if◌then◌else◌, List, [], ◌∷◌, ◌++◌, filter, All}

-- the list begins with this front
abbrev pub BeginsWith : {X : Type 0} → List X → List X → Type 0
BeginsWith {X} list front = (rest : List X) × (list ≡ front ++ rest)

-- x stands in the list
abbrev pub IsIn : {X : Type 0} → X → List X → Type 0
IsIn x [] = ⊥
IsIn x (y ∷ ys) = (x ≡ y) ⊎ IsIn x ys

-- the list of a value, empty where it isn't told
abbrev pub told : {S E : Type 0} → Bool → (S → List E) → S → List E
told tells entries value = if tells then entries value else []

module _ {E : Type 0} (number : E → ℕ) (is_common : E → Bool) where
  -- the entries of this number that aren't common, in order
  abbrev pub own : ℕ → List E → List E
  own n list = filter (λ e. (number e == n) && not (is_common e)) list

  -- the list has grown by entries that are common or name this number
  pub record Appends (n : ℕ) (old new : List E) : Type 0 where
    pub rest : List E
    pub is : new ≡ old ++ rest
    pub each : All (λ e. IsTrue (is_common e) ⊎ (number e ≡ n)) rest
