use Rattle.std.proofs.Common.{take}
use Rattle.v2_frame.specs.Line.{HasNo}
use Rattle.v2_frame.proofs.line.place_of.Given as goal

abbrev pub invariant-loop-n : goal.invariant-loop-n
invariant-loop-n l = HasNo l.byte (take l.n l.bytes)
