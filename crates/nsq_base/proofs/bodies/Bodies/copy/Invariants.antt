use Rattle.std.proofs.Common.{◌≡◌, ◌≤◌, length, take, vec_len, vec_capacity}
use Rattle.nsq_base.proofs.bodies.Bodies.copy.Given as goal

-- the copies so far, in room for all
abbrev pub invariant-loop-body : goal.invariant-loop-body
invariant-loop-body l = record {
  copied : l.items.items ≡ take l.body-index l.body-items;
  long : vec_len l.items ≡ l.body-index;
  room : length l.body-items ≤ vec_capacity l.items;
}
