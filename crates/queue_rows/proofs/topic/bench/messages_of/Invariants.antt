use Rattle.std.proofs.Common.{All}
use Rattle.backlog.specs.Seen.{FitsLimit}
use Rattle.queue_rows.proofs.topic.bench.messages_of.Given as goal

abbrev pub invariant-loop-number : goal.invariant-loop-number
invariant-loop-number l = All FitsLimit l.messages.items
