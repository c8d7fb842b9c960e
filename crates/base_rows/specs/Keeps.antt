-- What a turn leaves of a pass.
use Rattle.std.specs.Prelude.{◌≡◌, ℕ, ◌+◌, [], ◌∷◌}
use Rattle.turnstile.specs.declared.stands.Stands.{Ghosts}
use Rattle.turnstile.specs.declared.pass.Pass.{Pass}
use Rattle.turnstile.specs.declared.turnstile.Turnstile.{Turnstile}
use Rattle.turnstile.specs.Passes.{view, IsOf, IsAway}

module _ {S E P : Type 0} {G : Ghosts S E P} where
  -- the pass is of this turnstile and doesn't hold the turn
  pub record IsReady (t : Turnstile S E P) (p : Pass S E P G) : Type 0 where
    pub of : IsOf t p
    pub away : IsAway p

  -- two passes of this turnstile that don't hold the turn, of this number and of the next
  pub record ArePasses (t : Turnstile S E P) (n : ℕ) (pair : Pass S E P G × Pass S E P G) : Type 0 where
    pub first : IsReady t pair.0
    pub second : IsReady t pair.1
    pub first_number : (view pair.0).number ≡ n
    pub second_number : (view pair.1).number ≡ n + 1

  -- the pass has its number, and has given and joined no other pass
  pub record KeepsNumbers (p q : Pass S E P G) : Type 0 where
    pub number : (view q).number ≡ (view p).number
    pub given : (view q).given ≡ (view p).given
    pub joined : (view q).joined ≡ (view p).joined

  -- the first pass, which has given and joined no other pass
  pub record IsUnsplit (p : Pass S E P G) : Type 0 where
    pub number : (view p).number ≡ 0
    pub given : (view p).given ≡ 0 ∷ []
    pub joined : (view p).joined ≡ []
