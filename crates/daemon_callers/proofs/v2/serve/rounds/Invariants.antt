use Rattle.std.proofs.Common.{◌≡◌, ◌≤◌, ◌++◌, IsTrue}
use Rattle.v2_frame.specs.declared.fault.Limits.{Limits}
use Rattle.broker_history.specs.Entries.{own}
use Rattle.broker_history.specs.Talk.{Sending, bytes_of}
use Rattle.broker_history.specs.Calls.{IsHere}
use Rattle.daemon_callers.specs.Sessions.{Told, InTalk}
use Rattle.daemon_callers.proofs.v2.serve.rounds.Given as goal

-- the conversation goes on, and a round begins
abbrev pub invariant-rounds : goal.invariant-rounds
invariant-rounds g l = record {
  talk : (limits : Limits) → Told g.K.Source.tells_pieces g.K.Sink.tells_written g.D.Desk.tells
      → InTalk limits (g.K.Source.pieces l.initial.conn) (own l.number (g.D.Desk.seen l.initial.desk)) (g.K.Sink.written l.initial.conn) l.initial.reader (Sending 0)
      → InTalk limits (g.K.Source.pieces l.conn) (own l.number (g.D.Desk.seen l.desk)) (g.K.Sink.written l.conn) l.reader (Sending 0);
  here : IsTrue g.D.Desk.tells → IsHere (own l.number (g.D.Desk.seen l.desk));
  limits : l.reader.limits ≡ l.initial.reader.limits;
  stream : IsTrue g.K.Source.tells_pieces → bytes_of (g.K.Source.pieces l.conn) ++ g.K.Source.left l.conn ≡ bytes_of (g.K.Source.pieces l.initial.conn) ++ g.K.Source.left l.initial.conn;
  write_faults : g.K.Sink.write_faults l.initial.conn ≤ g.K.Sink.write_faults l.conn;
  read_faults : g.K.Source.read_faults l.initial.conn ≤ g.K.Source.read_faults l.conn;
  number : g.D.Desk.number l.desk ≡ g.D.Desk.number l.initial.desk;
  wanted : g.D.Desk.wanted l.desk ≡ g.D.Desk.wanted l.initial.desk;
  leads : g.D.Desk.leads l.initial.desk l.desk;
}
