use Rattle.std.proofs.Common.{◌≡◌, ◌≤◌, length, take, vec_len, vec_capacity}
use Rattle.broker_history.proofs.items.ItemsTwin.twin.Given as goal

-- the copies so far, in room for all
abbrev pub invariant-loop-item : goal.invariant-loop-item
invariant-loop-item g l = record {
  copied : l.items.items ≡ take l.item-index l.item-items;
  long : vec_len l.items ≡ l.item-index;
  room : length l.item-items ≤ vec_capacity l.items;
}
