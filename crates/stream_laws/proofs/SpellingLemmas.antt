-- No spelling of a command begins another's.
use Rattle.std.proofs.Common.{◌≡◌, ℕ, List, ◌++◌, refl, sym, ap, ◌∙◌}
use Rattle.std.proofs.lemmas.List.{append_cancel_right}
use Rattle.v2_frame.specs.declared.command.Command.{Command}
use Rattle.v2_frame.specs.declared.fault.Limits.{Limits}
use Rattle.v2_frame.specs.Command.{Spells}
use Rattle.v2_frame.specs.Judging.{Begins}
use Rattle.v2_frame.proofs.VerdictLemmas.{begins_unique}

-- no spelling begins that of another command
pub spells_unique : (limits : Limits) (a b x y : List ℕ) (c d : Command) → Spells limits a c → Spells limits b d → a ++ x ≡ b ++ y → (a ≡ b) × (c ≡ d) × (x ≡ y)
spells_unique limits a b x y c d s t e =
    let first : Begins limits (a ++ x) c x = record { front = a; whole = refl; spells = s } in
    let second : Begins limits (a ++ x) d y = record { front = b; whole = e; spells = t } in
    let same : (c ≡ d) × (x ≡ y) = begins_unique limits first second in
    (append_cancel_right a b x (e ∙ ap (λ (z : List ℕ). b ++ z) (sym same.1)), same.0, same.1)
