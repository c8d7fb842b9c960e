use Rattle.std.proofs.Common.{length, take, ◌-◌, ◌≡◌, ◌≤◌, ◌++◌, IsTrue}
use Rattle.daemon_callers.proofs.http.writing.write_all.Given as goal

-- so many of the first bytes were written
abbrev pub invariant-writes : goal.invariant-writes
invariant-writes g l = record {
  within : l.at ≤ length l.bytes;
  told : IsTrue g.K.Sink.tells_written → g.K.Sink.written l.conn ≡ g.K.Sink.written l.initial.conn ++ take l.at l.bytes;
  write_faults : g.K.Sink.write_faults l.initial.conn ≤ g.K.Sink.write_faults l.conn;
  read_faults : g.K.Source.read_faults l.initial.conn ≤ g.K.Source.read_faults l.conn;
  pieces : g.K.Source.pieces l.conn ≡ g.K.Source.pieces l.initial.conn;
  left : g.K.Source.left l.conn ≡ g.K.Source.left l.initial.conn;
}

abbrev pub decreases-writes : goal.decreases-writes
decreases-writes g l = length l.bytes - l.at
