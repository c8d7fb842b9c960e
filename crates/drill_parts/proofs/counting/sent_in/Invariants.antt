use Rattle.std.proofs.Common.{◌≡◌, count_by, take}
use Rattle.drill_parts.specs.Counting.{is_sending}
use Rattle.drill_parts.proofs.counting.sent_in.Given as goal

abbrev pub invariant-loop-entry : goal.invariant-loop-entry
invariant-loop-entry l = l.count ≡ count_by (λ e. is_sending e.0.act) (take l.entry-index l.entries)
