use Rattle.std.proofs.Common.{◌∙◌, refl, sym, ap, le_refl}
use Rattle.broker_history.specs.Talk.{stops_before_gone}
use Rattle.daemon_callers.specs.Sessions.{rises}
use Rattle.broker_history.specs.Calls.{has_began}
use Rattle.daemon_callers.proofs.Turning.{unbegun, begun_talk, begun_here, same_stream}
use Rattle.daemon_callers.proofs.Ending.{never_begins, over_talk, after_cause, some_wanted}
use Rattle.daemon_callers.proofs.Warning.{warned_whole, warned_after}
use Rattle.daemon_callers.proofs.Causing.{memory_has}
use Rattle.daemon_callers.proofs.Begins.{begins_or_not}
use Rattle.daemon_callers.proofs.v2.serve.conversation.Goals as goal

pub turn-gone-requires-clause-may : goal.turn-gone-requires-clause-may
turn-gone-requires-clause-may g c = c.rounds-ended.ensures.here

pub returns-in-Memory : goal.returns-in-Memory
returns-in-Memory g c =
    let turn = c.in-Memory.ensures in
    let up = c.give_up.ensures in
    record {
      talk = λ limits fresh pieces written tells no_pieces no_written.
          let desk = c.turn-turned.new.self in
          never_begins limits (stops_before_gone c.args.number (g.D.Desk.seen desk)) (rises (g.D.Desk.wanted c.args.desk.now) (g.D.Desk.wanted desk)) _ _ _ _ _ _ c.give_up.result no_pieces (c.requires.new tells) no_written up.pieces
          (unbegun c.args.number _ _ (turn.adds tells)) (up.told written) up.memory;
      warned = λ written. warned_whole c.give_up.result _ _ _ _ (up.warned written);
      cause = memory_has c.give_up.result _ _ _ _ _ up.memory;
      stream = λ told. same_stream _ _ _ _ up.pieces up.left;
      read_faults = up.read_faults;
      write_faults = up.write_faults;
      number = turn.number;
      leads = turn.leads;
    }

pub returns : goal.returns
returns g c = record {
  talk = λ limits fresh pieces written tells no_pieces no_written.
      let first = begun_talk limits c.args.number _ _ _ _ c.args.reader.now no_pieces (c.requires.new tells) no_written fresh (c.in-Begun.ensures.adds tells) in
      let seen = g.D.Desk.seen c.rounds-ended.new.desk in
      let over = c.rounds-ended.ensures.talk limits (pieces, written, tells) first in
      let before = g.D.Desk.wanted c.args.desk.now in
      let between = g.D.Desk.wanted c.rounds-ended.new.desk in
      let now = g.D.Desk.wanted c.turn-gone.new.self in
      over_talk limits c.args.number seen (g.D.Desk.seen c.turn-gone.new.self) _ _ (c.rounds-ended.ensures.here tells) (c.turn-gone.ensures.grows tells) (rises before now) c.turn-gone.result c.rounds-ended.result c.ended_after-last.result over
      (c.turn-gone.ensures.adds tells) (c.turn-gone.ensures.told tells) (some_wanted before between now c.turn-gone.result (c.rounds-ended.ensures.wanted ∙ c.in-Begun.ensures.wanted) c.turn-gone.ensures.wanted) c.ended_after-last.ensures;
  warned = λ written.
      let before = g.D.Desk.wanted c.args.desk.now in
      let between = g.D.Desk.wanted c.rounds-ended.new.desk in
      let now = g.D.Desk.wanted c.turn-gone.new.self in
      warned_after c.rounds-ended.result c.turn-gone.result c.ended_after-last.result _ _ _ (rises before now) c.ended_after-last.ensures (c.rounds-ended.ensures.warned written)
      (some_wanted before between now c.turn-gone.result (c.rounds-ended.ensures.wanted ∙ c.in-Begun.ensures.wanted) c.turn-gone.ensures.wanted);
  cause = after_cause c.rounds-ended.result c.turn-gone.result c.ended_after-last.result _ _ _ _ _ c.ended_after-last.ensures c.rounds-ended.ensures.cause;
  stream = c.rounds-ended.ensures.stream;
  read_faults = c.rounds-ended.ensures.read_faults;
  write_faults = c.rounds-ended.ensures.write_faults;
  number = c.turn-gone.ensures.number ∙ c.rounds-ended.ensures.number ∙ c.turn-turned.ensures.number;
  leads = g.met.D.Desk.goes_on _ _ _ (g.met.D.Desk.goes_on _ _ _ c.turn-turned.ensures.leads c.rounds-ended.ensures.leads) c.turn-gone.ensures.leads;
}

pub turn-turned-requires-clause-number : goal.turn-turned-requires-clause-number
turn-turned-requires-clause-number g c = c.requires.number.1

pub rounds-ended-requires-clause-number : goal.rounds-ended-requires-clause-number
rounds-ended-requires-clause-number g c = λ κs lives. c.requires.number.1 ∙ sym c.turn-turned.ensures.number

pub rounds-ended-requires-clause-limits : goal.rounds-ended-requires-clause-limits
rounds-ended-requires-clause-limits g c = λ κs lives. c.requires.limits

pub turn-gone-requires-clause-number : goal.turn-gone-requires-clause-number
turn-gone-requires-clause-number g c = c.requires.number.1 ∙ sym c.turn-turned.ensures.number ∙ sym c.rounds-ended.ensures.number

pub returns-in_default : goal.returns-in_default
returns-in_default g c =
    let turn = c.turn-turned.ensures in
    record {
      talk = λ limits fresh pieces written tells no_pieces no_written. begins_or_not c.turn-turned.result c.in_default.not-Begun c.in_default.not-Memory (turn.told tells) turn.answer;
      warned = λ written. tt;
      cause = tt;
      stream = λ told. refl;
      read_faults = le_refl _;
      write_faults = le_refl _;
      number = turn.number;
      leads = turn.leads;
    }

pub turn-turned-requires-clause-can : goal.turn-turned-requires-clause-can
turn-turned-requires-clause-can g c = tt

pub turn-turned-requires-clause-may : goal.turn-turned-requires-clause-may
turn-turned-requires-clause-may g c = λ tells. (c.requires.number.0, ap has_began (c.requires.new tells))

pub rounds-ended-requires-clause-here : goal.rounds-ended-requires-clause-here
rounds-ended-requires-clause-here g c = λ κs lives tells. begun_here c.args.number _ _ (c.requires.new tells) (c.in-Begun.ensures.adds tells)

pub turn-gone-requires-clause-can : goal.turn-gone-requires-clause-can
turn-gone-requires-clause-can g c = tt
