use Rattle.std.proofs.Common.{◌≡◌, false, is_some}
use Rattle.base_rows.proofs.fakes.journal.holds.Given as goal

abbrev pub invariant-loop-number : goal.invariant-loop-number
invariant-loop-number g l = (is_some l.journal.aside ≡ false) × (l.forgetful.is_aside ≡ false)
