use Rattle.std.proofs.Common.{◌≡◌, false}
use Rattle.nsq_outside.specs.Hosts.{OnlyAcceptFaults}
use Rattle.broker_floor.specs.Floors.{flushed_of, scene_of}
use Rattle.daemon_main.specs.Rounds.{Rounds}
use Rattle.daemon_callers.specs.Served.{views, AllTell}
use Rattle.daemon_main.proofs.callers.serve_callers.Given as goal

abbrev pub invariant-callers : goal.invariant-callers
invariant-callers g l = record {
  unflushed : flushed_of l.floor ≡ false;
  rounds : Rounds (AllTell g.H.Dialer.tells g.H.Conn.Source.tells_pieces g.H.Conn.Sink.tells_written g.H.Journal.Journal.tells_notes) g.H.Dialer.tells g.H.Journal.Journal.tells_notes g.H.Folder.Folder.tells_files g.H.Clock.Clock.tells_readings
      (views g.H.Conn.Source.pieces g.H.Conn.Source.left g.H.Conn.Source.ended g.H.Conn.Sink.written g.H.Conn.Source.read_faults g.H.Conn.Sink.write_faults) l.options l.began l.number
      (scene_of l.initial.floor) (scene_of l.floor)
      (g.H.Host.content l.initial.host) (g.H.Host.content l.host);
  state : OnlyAcceptFaults (g.H.Host.state l.initial.host) (g.H.Host.state l.host);
}
