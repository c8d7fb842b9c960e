use Rattle.std.proofs.Common.{◌∙◌, None, Some, refl, sym, le_refl, le_trans}
use Rattle.v2_frame.proofs.ReadLemmas.{given_less, given_limits}
use Rattle.v2_frame.specs.declared.got.Got.TheVariants as got
use Rattle.broker_history.specs.Entries.{has_stop}
use Rattle.daemon_callers.proofs.Talking.{moved, starts_talk, done_talk}
use Rattle.daemon_callers.proofs.Turning.{command_here, bad_here, command_went, bad_over, over_same, memory_over}
use Rattle.daemon_callers.proofs.Warning.{warned_since, warned_or_closed}
use Rattle.daemon_callers.proofs.Causing.{command_can, cause_since, cause_or_closed, memory_cause}
use Rattle.daemon_callers.proofs.v2.commands.commands.Goals as goal

pub turn-turned-requires-clause-number : goal.turn-turned-requires-clause-number
turn-turned-requires-clause-number g c = c.requires.number ∙ sym c.commands.invariant.number

pub turn-turned-requires-clause-can : goal.turn-turned-requires-clause-can
turn-turned-requires-clause-can g c = command_can c.args.reader.now _ _ c.in-Whole.command c.in-Whole.ensures c.commands.invariant.limits c.requires.limits

pub turn-turned-requires-clause-may : goal.turn-turned-requires-clause-may
turn-turned-requires-clause-may g c = c.commands.invariant.here

pub turn-turned-requires-in-Fault-clause-number : goal.turn-turned-requires-in-Fault-clause-number
turn-turned-requires-in-Fault-clause-number g c = c.requires.number ∙ sym c.commands.invariant.number

pub turn-turned-requires-in-Fault-clause-may : goal.turn-turned-requires-in-Fault-clause-may
turn-turned-requires-in-Fault-clause-may g c = c.commands.invariant.here

pub returns-in-Some : goal.returns-in-Some
returns-in-Some g c =
    let gives = c.in-Whole.ensures in
    let turn = c.turn-turned.ensures in
    let wrote = c.in-Some.ensures in
    let before = c.commands.invariant in
    record {
      talk = λ limits told i.
          let seen = g.D.Desk.seen c.turn-turned.new.self in
          let now = starts_talk limits _ _ _ _ _ (before.talk limits told i) gives.starts in
          over_same limits (has_stop seen) _ _ _ _ _ _ wrote.pieces refl
          (command_went limits seen c.args.number _ _ _ _ _ _ _ c.in-Whole.command now gives.next c.turn-turned.result (Some c.in-Some.ended) (turn.adds told.2) (turn.stopping told.2) (turn.told told.2) (wrote.told told.1));
      here = λ tells. command_here c.args.number _ _ c.in-Whole.command c.turn-turned.result (before.here tells) (turn.adds tells);
      limits = given_limits _ _ (got.Whole c.in-Whole.command) gives ∙ before.limits;
      warned = λ written. warned_since (Some c.in-Some.ended) _ _ _ _ before.write_faults (wrote.warned written);
      cause = cause_since (Some c.in-Some.ended) _ _ _ before.write_faults wrote.cause;
      write_faults = le_trans before.write_faults c.answer.ensures.write_faults;
      read_faults = le_trans before.read_faults c.answer.ensures.read_faults;
      pieces = wrote.pieces ∙ before.pieces;
      left = wrote.left ∙ before.left;
      number = turn.number ∙ before.number;
      wanted = turn.wanted ∙ before.wanted;
      leads = g.met.D.Desk.goes_on _ _ _ before.leads turn.leads;
    }

pub commands-preserved : goal.commands-preserved
commands-preserved g c =
    let gives = c.in-Whole.ensures in
    let turn = c.turn-turned.ensures in
    let wrote = c.in_default.ensures in
    let before = c.commands.invariant in
    record {
      talk = λ limits told i.
          let now = starts_talk limits _ _ _ _ _ (before.talk limits told i) gives.starts in
          moved limits wrote.pieces refl refl refl
          (command_went limits (g.D.Desk.seen c.turn-turned.new.self) c.args.number _ _ _ _ _ _ _ c.in-Whole.command now gives.next c.turn-turned.result None (turn.adds told.2) (turn.stopping told.2) (turn.told told.2) (wrote.told told.1));
      here = λ tells. command_here c.args.number _ _ c.in-Whole.command c.turn-turned.result (before.here tells) (turn.adds tells);
      limits = given_limits _ _ (got.Whole c.in-Whole.command) gives ∙ before.limits;
      write_faults = le_trans before.write_faults c.answer.ensures.write_faults;
      read_faults = le_trans before.read_faults c.answer.ensures.read_faults;
      pieces = c.answer.ensures.pieces ∙ before.pieces;
      left = c.answer.ensures.left ∙ before.left;
      number = turn.number ∙ before.number;
      wanted = turn.wanted ∙ before.wanted;
      leads = g.met.D.Desk.goes_on _ _ _ before.leads turn.leads;
    }

pub returns-in-More : goal.returns-in-More
returns-in-More g c =
    let gives = c.in-More.ensures in
    let before = c.commands.invariant in
    record {
      talk = λ limits told i.
          let now = starts_talk limits _ _ _ _ _ (before.talk limits told i) gives.starts in
          moved limits refl refl refl gives.next.1 (done_talk limits _ _ _ _ now gives.next.0);
      here = before.here;
      limits = given_limits _ _ got.More gives ∙ before.limits;
      warned = λ written. tt;
      cause = tt;
      write_faults = before.write_faults;
      read_faults = before.read_faults;
      pieces = before.pieces;
      left = before.left;
      number = before.number;
      wanted = before.wanted;
      leads = before.leads;
    }

pub returns-in-Fault : goal.returns-in-Fault
returns-in-Fault g c =
    let gives = c.in-Fault.ensures in
    let turn = c.turn-turned-in-Fault.ensures in
    let wrote = c.answer-ended.ensures in
    let before = c.commands.invariant in
    record {
      talk = λ limits told i.
          let seen = g.D.Desk.seen c.turn-turned-in-Fault.new.self in
          let now = starts_talk limits _ _ _ _ _ (before.talk limits told i) gives.starts in
          over_same limits (has_stop seen) _ _ _ _ _ _ wrote.pieces c.unwrap_or.ensures
          (bad_over limits seen c.args.number _ _ _ _ _ _ _ c.in-Fault.fault now gives.next c.turn-turned-in-Fault.result c.answer-ended.result (turn.adds told.2) (turn.stopping told.2) (turn.told told.2) (wrote.told told.1));
      here = λ tells. bad_here c.args.number _ _ c.in-Fault.fault c.turn-turned-in-Fault.result (before.here tells) (turn.adds tells);
      limits = given_limits _ _ (got.Fault c.in-Fault.fault) gives ∙ before.limits;
      warned = λ written. warned_since (Some c.unwrap_or.result) _ _ _ _ before.write_faults (warned_or_closed c.answer-ended.result c.unwrap_or.result _ _ _ c.unwrap_or.ensures (wrote.warned written));
      cause = cause_since (Some c.unwrap_or.result) _ _ _ before.write_faults (cause_or_closed c.answer-ended.result c.unwrap_or.result _ _ c.unwrap_or.ensures wrote.cause);
      write_faults = le_trans before.write_faults c.answer-ended.ensures.write_faults;
      read_faults = le_trans before.read_faults c.answer-ended.ensures.read_faults;
      pieces = wrote.pieces ∙ before.pieces;
      left = wrote.left ∙ before.left;
      number = turn.number ∙ before.number;
      wanted = turn.wanted ∙ before.wanted;
      leads = g.met.D.Desk.goes_on _ _ _ before.leads turn.leads;
    }

pub returns-in-Memory : goal.returns-in-Memory
returns-in-Memory g c =
    let up = c.give_up.ensures in
    let before = c.commands.invariant in
    record {
      talk = λ limits told i. memory_over limits (has_stop (g.D.Desk.seen c.commands.desk)) c.give_up.result (before.talk limits told i) up.pieces (up.told told.1) up.memory;
      here = before.here;
      limits = given_limits _ _ got.Memory c.in-Memory.ensures ∙ before.limits;
      warned = λ written. warned_since (Some c.give_up.result) _ _ _ _ before.write_faults (up.warned written);
      cause = memory_cause c.give_up.result _ _ up.memory;
      write_faults = le_trans before.write_faults c.give_up.ensures.write_faults;
      read_faults = le_trans before.read_faults c.give_up.ensures.read_faults;
      pieces = up.pieces ∙ before.pieces;
      left = up.left ∙ before.left;
      number = before.number;
      wanted = before.wanted;
      leads = before.leads;
    }

pub commands-init : goal.commands-init
commands-init g c = record {
  talk = λ limits told i. i;
  here = c.requires.here;
  limits = refl;
  pieces = refl;
  left = refl;
  write_faults = le_refl _;
  read_faults = le_refl _;
  number = refl;
  wanted = refl;
  leads = g.met.D.Desk.stays _;
}

pub commands-smaller : goal.commands-smaller
commands-smaller g c = given_less _ _ c.in-Whole.command c.in-Whole.ensures

pub turn-turned-requires-in-Fault-clause-can : goal.turn-turned-requires-in-Fault-clause-can
turn-turned-requires-in-Fault-clause-can g c = tt

pub answer-requires-clause-short : goal.answer-requires-clause-short
answer-requires-clause-short g c = λ κs lives. c.turn-turned.ensures.short

pub answer-ended-requires-clause-short : goal.answer-ended-requires-clause-short
answer-ended-requires-clause-short g c = λ κs lives. c.turn-turned-in-Fault.ensures.short
