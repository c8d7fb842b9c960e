use Rattle.std.proofs.Common.{◌+◌, ◌≤◌, ◌-◌}
use Rattle.nsq_system.proofs.talker.hear_out.Given as goal

-- so many reads and waits were made, and no more than there may be
abbrev pub invariant-reads : goal.invariant-reads
invariant-reads g l = record {
  most_reads : l.reads ≤ 4096;
  most_waits : l.waits ≤ 2000;
  most_silence : l.silence ≤ 200;
  reads : g.T.Talker.reads l.peer ≤ g.T.Talker.reads l.initial.peer + l.reads;
  waits : g.T.Talker.waits l.peer ≤ g.T.Talker.waits l.initial.peer + l.waits;
}

abbrev pub decreases-reads : goal.decreases-reads
decreases-reads g l = 4096 - l.reads
