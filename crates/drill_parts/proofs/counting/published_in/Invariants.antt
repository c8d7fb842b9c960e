use Rattle.std.proofs.Common.{◌≡◌, ◌&&◌, not, count_by, take}
use Rattle.broker_history.specs.Entries.{is_faulted}
use Rattle.drill_parts.specs.Counting.{is_accepting}
use Rattle.drill_parts.proofs.counting.published_in.Given as goal

abbrev pub invariant-loop-entry : goal.invariant-loop-entry
invariant-loop-entry l = l.count ≡ count_by (λ e. is_accepting e.0.act && not (is_faulted e.1)) (take l.entry-index l.entries)
