use Rattle.std.proofs.Common.{◌≡◌, ◌≤◌, length, take, vec_len, vec_capacity}
use Rattle.nsq_base.proofs.names.Names.copy.Given as goal

-- the copies so far, in room for all
abbrev pub invariant-loop-topic : goal.invariant-loop-topic
invariant-loop-topic l = record {
  copied : l.topics.items ≡ take l.topic-index l.topic-items;
  long : vec_len l.topics ≡ l.topic-index;
  room : length l.topic-items ≤ vec_capacity l.topics;
}
