use Rattle.std.proofs.Common.{◌≡◌, take, count_by}
use Rattle.broker_history.specs.State.{Copy}
use Rattle.broker_state.specs.Tests.{passes}
use Rattle.broker_state.proofs.copies.count.Given as goal

abbrev pub invariant-loop-copy : goal.invariant-loop-copy
invariant-loop-copy l = l.count ≡ count_by (λ (x : Copy). passes l.test x.place) (take l.copy-index l.copies)
