use Rattle.std.proofs.Common.{All}
use Rattle.backlog.specs.Seen.{FitsLimit}
use Rattle.channel_rows.proofs.broker.topics.messages_of.Given as goal

abbrev pub invariant-loop-i : goal.invariant-loop-i
invariant-loop-i g l = All FitsLimit l.messages.items
