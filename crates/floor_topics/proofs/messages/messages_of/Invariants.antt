use Rattle.std.proofs.Common.{◌≡◌, ◌+◌, length}
use Rattle.floor_topics.specs.Publishing.{messages_of}
use Rattle.floor_topics.proofs.messages.messages_of.Given as goal

abbrev pub invariant-loop-body : goal.invariant-loop-body
invariant-loop-body l = record {
  items : l.messages.items ≡ messages_of l.hall.epoch l.hall.ids_used l.hall.moment l.delay l.yielded;
  number : l.number ≡ l.hall.ids_used + length l.yielded;
}
