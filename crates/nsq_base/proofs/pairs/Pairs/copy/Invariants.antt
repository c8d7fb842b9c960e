use Rattle.std.proofs.Common.{◌≡◌, ◌≤◌, length, take, vec_len, vec_capacity}
use Rattle.nsq_base.proofs.pairs.Pairs.copy.Given as goal

-- the copies so far, in room for all
abbrev pub invariant-loop-pair : goal.invariant-loop-pair
invariant-loop-pair l = record {
  copied : l.items.items ≡ take l.pair-index l.pair-items;
  long : vec_len l.items ≡ l.pair-index;
  room : length l.pair-items ≤ vec_capacity l.items;
}
