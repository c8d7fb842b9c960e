use Rattle.std.proofs.Common.{◌≡◌, ◌≤◌, IsTrue, length}
use Rattle.v2_frame.specs.declared.fault.Limits.{Limits}
use Rattle.broker_history.specs.Entries.{own}
use Rattle.broker_history.specs.Talk.{Doing}
use Rattle.broker_history.specs.Calls.{IsHere}
use Rattle.daemon_callers.specs.Sessions.{Told, InTalk}
use Rattle.daemon_callers.proofs.v2.commands.commands.Given as goal

-- the conversation goes on
abbrev pub invariant-commands : goal.invariant-commands
invariant-commands g l = record {
  talk : (limits : Limits) → Told g.K.Source.tells_pieces g.K.Sink.tells_written g.D.Desk.tells
      → InTalk limits (g.K.Source.pieces l.initial.conn) (own l.number (g.D.Desk.seen l.initial.desk)) (g.K.Sink.written l.initial.conn) l.initial.reader Doing
      → InTalk limits (g.K.Source.pieces l.conn) (own l.number (g.D.Desk.seen l.desk)) (g.K.Sink.written l.conn) l.reader Doing;
  here : IsTrue g.D.Desk.tells → IsHere (own l.number (g.D.Desk.seen l.desk));
  limits : l.reader.limits ≡ l.initial.reader.limits;
  write_faults : g.K.Sink.write_faults l.initial.conn ≤ g.K.Sink.write_faults l.conn;
  read_faults : g.K.Source.read_faults l.initial.conn ≤ g.K.Source.read_faults l.conn;
  pieces : g.K.Source.pieces l.conn ≡ g.K.Source.pieces l.initial.conn;
  left : g.K.Source.left l.conn ≡ g.K.Source.left l.initial.conn;
  number : g.D.Desk.number l.desk ≡ g.D.Desk.number l.initial.desk;
  wanted : g.D.Desk.wanted l.desk ≡ g.D.Desk.wanted l.initial.desk;
  leads : g.D.Desk.leads l.initial.desk l.desk;
}

-- a command takes a byte at least
abbrev pub decreases-commands : goal.decreases-commands
decreases-commands g l = length l.reader.pending
