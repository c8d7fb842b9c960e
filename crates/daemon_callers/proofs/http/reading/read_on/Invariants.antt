use Rattle.std.proofs.Common.{◌≡◌, ◌≤◌, ◌++◌, IsTrue}
use Rattle.nsq_base.specs.declared.options.Options.{Options}
use Rattle.broker_history.specs.Talk.{bytes_of}
use Rattle.daemon_callers.specs.Comings.{IsReading}
use Rattle.daemon_callers.proofs.http.reading.read_on.Given as goal

-- the reading goes on
abbrev pub invariant-reads : goal.invariant-reads
invariant-reads g l = record {
  reading : (o : Options) → IsTrue g.K.Source.tells_pieces → IsTrue g.D.Desk.tells
      → IsReading o l.number (g.K.Source.pieces l.initial.conn) (g.D.Desk.seen l.initial.desk) l.initial.intake.reader l.initial.intake.begun
      → IsReading o l.number (g.K.Source.pieces l.conn) (g.D.Desk.seen l.desk) l.intake.reader l.intake.begun;
  stream : IsTrue g.K.Source.tells_pieces → bytes_of (g.K.Source.pieces l.conn) ++ g.K.Source.left l.conn ≡ bytes_of (g.K.Source.pieces l.initial.conn) ++ g.K.Source.left l.initial.conn;
  written : g.K.Sink.written l.conn ≡ g.K.Sink.written l.initial.conn;
  write_faults : g.K.Sink.write_faults l.initial.conn ≤ g.K.Sink.write_faults l.conn;
  read_faults : g.K.Source.read_faults l.initial.conn ≤ g.K.Source.read_faults l.conn;
  number : g.D.Desk.number l.desk ≡ g.D.Desk.number l.initial.desk;
  wanted : g.D.Desk.wanted l.desk ≡ g.D.Desk.wanted l.initial.desk;
  leads : g.D.Desk.leads l.initial.desk l.desk;
}
