use Rattle.std.proofs.Common.{◌≤◌, ◌-◌, length, drop, ◌<◌}
use Rattle.nsqd_words.specs.Parts.{GoesOn}
use Rattle.nsqd_words.proofs.durations.read_duration.Given as goal

abbrev pub invariant-loop-start : goal.invariant-loop-start
invariant-loop-start l = record {
  some : 0 < length l.text;
  in_range : l.start ≤ length l.text;
  goes_on : GoesOn l.text (drop l.start l.text) l.total;
}

abbrev pub decreases-loop-start : goal.decreases-loop-start
decreases-loop-start l = length l.text - l.start
