use Rattle.std.proofs.Common.{All}
use Rattle.backlog.specs.Seen.{FitsLimit}
use Rattle.queue_rows.proofs.waiting.all_of.Given as goal

abbrev pub invariant-loop-letter : goal.invariant-loop-letter
invariant-loop-letter g l = All FitsLimit l.messages.items
