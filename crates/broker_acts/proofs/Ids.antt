-- Whether further ids are left, as a test.
use Rattle.std.proofs.Common.{◌≡◌, ℕ, ◌+◌, ◌≤◌, ◌^◌, Bool, true, nat_le, sym, ◌∙◌, arith}
use Rattle.std.proofs.lemmas.Bool.Decides.{nat_tests}
use Rattle.broker_history.specs.Reply.{are_left, most_ids}

le_true : (a b : ℕ) → nat_le a b ≡ true → a ≤ b
le_true a b h = grind (arith, nat_tests)

true_le : (a b : ℕ) → a ≤ b → nat_le a b ≡ true
true_le a b h = grind (arith, nat_tests)

-- the test decides it
pub left_iff : (b : Bool) (used count : ℕ) → b ≡ are_left used count → (b ≡ true → used + count ≤ 2 ^ 40) × (used + count ≤ 2 ^ 40 → b ≡ true)
left_iff b used count e = (λ t. le_true (used + count) most_ids (sym e ∙ t), λ l. e ∙ true_le (used + count) most_ids l)
