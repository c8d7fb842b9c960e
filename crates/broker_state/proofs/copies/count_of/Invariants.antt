use Rattle.std.proofs.Common.{◌≡◌, ◌&&◌, take, count_by}
use Rattle.std.specs.Str.{bytes_eq}
use Rattle.broker_history.specs.State.{Copy}
use Rattle.broker_state.specs.Tests.{passes}
use Rattle.broker_state.proofs.copies.count_of.Given as goal

abbrev pub invariant-loop-copy : goal.invariant-loop-copy
invariant-loop-copy l = l.count ≡ count_by (λ (x : Copy). passes l.test x.place && bytes_eq l.id x.message.id) (take l.copy-index l.copies)
