use Rattle.std.proofs.Common.{◌≡◌, ◌≤◌, ◌++◌, length, drop}
use Rattle.nsq_base.specs.MsgId.{hex_digits}
use Rattle.nsq_base.proofs.msg_id.write_hex.Given as goal

-- the digits that are left, then those that are written, are all of them
abbrev pub invariant-loop-i : goal.invariant-loop-i
invariant-loop-i l = record {
  in_range : l.i ≤ length l.out;
  digits : hex_digits (length l.initial.out) l.n ≡ hex_digits l.i l.left ++ drop l.i l.out;
}

abbrev pub decreases-loop-i : goal.decreases-loop-i
decreases-loop-i l = l.i
