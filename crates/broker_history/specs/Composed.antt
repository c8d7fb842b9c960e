-- Steps of a desk follow each other.
use Rattle.std.specs.Prelude.{ℕ, ◌≡◌}
use Rattle.std.proofs.Common.{◌∙◌, subst}

-- two steps of a desk of one number at one floor are one, where two of the floor's are
pub steps_join : {F G : Type 0} (leads : ℕ → F → F → Type 0) (l m n : ℕ) (x y z : G) (a b c : F) → (leads l a b → leads l b c → leads l a c)
    → ((m ≡ l) × (y ≡ x)) × leads l a b → ((n ≡ m) × (z ≡ y)) × leads m b c → ((n ≡ l) × (z ≡ x)) × leads l a c
steps_join leads l m n x y z a b c join p q = ((q.0.0 ∙ p.0.0, q.0.1 ∙ p.0.1), join p.1 (subst (λ k. leads k b c) p.0.0 q.1))
