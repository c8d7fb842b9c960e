use Rattle.std.proofs.Common.{◌≡◌, ◌+◌, ◌++◌, length, reverse}
use Rattle.backlog.proofs.backlog.putting.keep.Given as goal

-- the ring's messages and those that are left, last first, are all
abbrev pub invariant-loop : goal.invariant-loop
invariant-loop l = record {
  whole : l.ring.items ++ reverse l.messages.items ≡ l.fn.ring.items ++ l.fn.messages.items;
  capacity : l.ring.capacity ≡ l.fn.ring.capacity;
  left : length l.messages.items + l.counter ≡ l.end;
}
