use Rattle.std.proofs.Common.{◌≡◌, ◌≤◌, ◌-◌, IsTrue}
use Rattle.v2_frame.specs.declared.fault.Limits.{Limits}
use Rattle.v2_frame.specs.Reading.{Reading}
use Rattle.broker_history.specs.Entries.{own}
use Rattle.broker_history.specs.Talk.{Sending}
use Rattle.broker_history.specs.Calls.{IsHere}
use Rattle.daemon_callers.specs.Sessions.{Told, InTalk}
use Rattle.daemon_callers.proofs.v2.round.pushes.Given as goal

-- so many were sent in this round
abbrev pub invariant-pushes : goal.invariant-pushes
invariant-pushes g l = record {
  sent : l.sent ≤ 64;
  talk : (limits : Limits) (reader : Reading) → Told g.K.Source.tells_pieces g.K.Sink.tells_written g.D.Desk.tells
      → InTalk limits (g.K.Source.pieces l.initial.conn) (own l.number (g.D.Desk.seen l.initial.desk)) (g.K.Sink.written l.initial.conn) reader (Sending 0)
      → InTalk limits (g.K.Source.pieces l.conn) (own l.number (g.D.Desk.seen l.desk)) (g.K.Sink.written l.conn) reader (Sending l.sent);
  here : IsTrue g.D.Desk.tells → IsHere (own l.number (g.D.Desk.seen l.desk));
  write_faults : g.K.Sink.write_faults l.initial.conn ≤ g.K.Sink.write_faults l.conn;
  read_faults : g.K.Source.read_faults l.initial.conn ≤ g.K.Source.read_faults l.conn;
  pieces : g.K.Source.pieces l.conn ≡ g.K.Source.pieces l.initial.conn;
  left : g.K.Source.left l.conn ≡ g.K.Source.left l.initial.conn;
  number : g.D.Desk.number l.desk ≡ g.D.Desk.number l.initial.desk;
  wanted : g.D.Desk.wanted l.desk ≡ g.D.Desk.wanted l.initial.desk;
  leads : g.D.Desk.leads l.initial.desk l.desk;
}

abbrev pub decreases-pushes : goal.decreases-pushes
decreases-pushes g l = 64 - l.sent
