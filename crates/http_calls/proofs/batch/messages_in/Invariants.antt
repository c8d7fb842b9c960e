use Rattle.std.proofs.Common.{◌≡◌, ◌-◌, ◌≤◌, length, drop}
use Rattle.http_calls.specs.Messages.{messages_in}
use Rattle.http_calls.proofs.BatchLemmas.{behind}
use Rattle.http_calls.proofs.batch.messages_in.Given as goal

-- what is found is what was read, and what is found behind it
abbrev pub invariant-messages : goal.invariant-messages
invariant-messages l = record {
  within : l.at ≤ length l.bytes;
  some : length l.messages ≤ l.count;
  found : messages_in l.most l.count l.bytes ≡ behind l.messages (messages_in l.most (l.count - length l.messages) (drop l.at l.bytes));
}

abbrev pub decreases-messages : goal.decreases-messages
decreases-messages l = l.count - length l.messages
