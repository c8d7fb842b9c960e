use Rattle.std.proofs.Common.{◌∙◌, refl, sym, le_refl, arith, Some}
use Rattle.broker_history.specs.Entries.{has_stop}
use Rattle.daemon_callers.specs.declared.v2.output.Delivered.TheVariants.{More, Rest, Over}
use Rattle.daemon_callers.proofs.Talking.{moved, spent_talk}
use Rattle.daemon_callers.proofs.Turning.{next_here, next_went, over_same}
use Rattle.daemon_callers.proofs.Warning.{warned_since}
use Rattle.daemon_callers.proofs.Causing.{cause_since}
use Rattle.daemon_callers.proofs.v2.round.pushes.Goals as goal

pub turn-turned-requires-clause-number : goal.turn-turned-requires-clause-number
turn-turned-requires-clause-number g c = c.requires.number ∙ sym c.pushes.invariant.number

pub turn-turned-requires-clause-may : goal.turn-turned-requires-clause-may
turn-turned-requires-clause-may g c = c.pushes.invariant.here

pub pushes-preserved : goal.pushes-preserved
pushes-preserved g c =
    let turn = c.turn-turned.ensures in
    let before = c.pushes.invariant in
    record {
      sent = omega (arith, c.pushes-test.true);
      talk = λ limits reader told i.
          moved limits c.deliver.ensures.pieces refl refl refl
          (next_went limits (g.D.Desk.seen c.turn-turned.new.self) c.args.number _ _ _ _ _ reader c.pushes.sent c.pushes-test.true (before.talk limits reader told i) c.turn-turned.result More (turn.adds told.2) (turn.stopping told.2) (turn.told told.2)
          (c.in-More.ensures.told told.1));
      here = λ tells. next_here c.args.number _ _ c.turn-turned.result (before.here tells) (turn.adds tells);
      write_faults = omega (arith, c.deliver.ensures.write_faults, c.pushes.invariant.write_faults);
      read_faults = omega (arith, c.deliver.ensures.read_faults, c.pushes.invariant.read_faults);
      pieces = c.deliver.ensures.pieces ∙ before.pieces;
      left = c.deliver.ensures.left ∙ before.left;
      number = turn.number ∙ before.number;
      wanted = turn.wanted ∙ before.wanted;
      leads = g.met.D.Desk.goes_on _ _ _ before.leads turn.leads;
    }

pub returns-in-Rest : goal.returns-in-Rest
returns-in-Rest g c =
    let turn = c.turn-turned.ensures in
    let before = c.pushes.invariant in
    record {
      talk = λ limits reader told i.
          moved limits c.deliver.ensures.pieces refl refl refl
          (next_went limits (g.D.Desk.seen c.turn-turned.new.self) c.args.number _ _ _ _ _ reader c.pushes.sent c.pushes-test.true (before.talk limits reader told i) c.turn-turned.result Rest (turn.adds told.2) (turn.stopping told.2) (turn.told told.2)
          (c.in-Rest.ensures.told told.1));
      here = λ tells. next_here c.args.number _ _ c.turn-turned.result (before.here tells) (turn.adds tells);
      warned = λ written. tt;
      cause = tt;
      write_faults = omega (arith, c.deliver.ensures.write_faults, c.pushes.invariant.write_faults);
      read_faults = omega (arith, c.deliver.ensures.read_faults, c.pushes.invariant.read_faults);
      pieces = c.deliver.ensures.pieces ∙ before.pieces;
      left = c.deliver.ensures.left ∙ before.left;
      number = turn.number ∙ before.number;
      wanted = turn.wanted ∙ before.wanted;
      leads = g.met.D.Desk.goes_on _ _ _ before.leads turn.leads;
    }

pub returns-in-Over : goal.returns-in-Over
returns-in-Over g c =
    let turn = c.turn-turned.ensures in
    let before = c.pushes.invariant in
    record {
      talk = λ limits reader told i.
          let seen = g.D.Desk.seen c.turn-turned.new.self in
          over_same limits (has_stop seen) _ _ _ _ c.in-Over.ended c.in-Over.ended c.deliver.ensures.pieces refl
          (next_went limits seen c.args.number _ _ _ _ _ reader c.pushes.sent c.pushes-test.true (before.talk limits reader told i) c.turn-turned.result (Over c.in-Over.ended) (turn.adds told.2) (turn.stopping told.2) (turn.told told.2)
          (c.in-Over.ensures.told told.1));
      here = λ tells. next_here c.args.number _ _ c.turn-turned.result (before.here tells) (turn.adds tells);
      warned = λ written. warned_since (Some c.in-Over.ended) _ _ _ _ before.write_faults (c.in-Over.ensures.warned written);
      cause = cause_since (Some c.in-Over.ended) _ _ _ before.write_faults c.in-Over.ensures.cause;
      write_faults = omega (arith, c.deliver.ensures.write_faults, c.pushes.invariant.write_faults);
      read_faults = omega (arith, c.deliver.ensures.read_faults, c.pushes.invariant.read_faults);
      pieces = c.deliver.ensures.pieces ∙ before.pieces;
      left = c.deliver.ensures.left ∙ before.left;
      number = turn.number ∙ before.number;
      wanted = turn.wanted ∙ before.wanted;
      leads = g.met.D.Desk.goes_on _ _ _ before.leads turn.leads;
    }

pub returns : goal.returns
returns g c =
    let all = c.pushes.invariant in
    record {
      talk = λ limits reader told i. spent_talk limits c.pushes.sent (all.talk limits reader told i) (omega (arith, c.pushes.invariant.sent, c.pushes-test.false));
      here = all.here;
      warned = λ written. tt;
      cause = tt;
      write_faults = all.write_faults;
      read_faults = all.read_faults;
      pieces = all.pieces;
      left = all.left;
      number = all.number;
      wanted = all.wanted;
      leads = all.leads;
    }

pub pushes-init : goal.pushes-init
pushes-init g c = record {
  sent = omega arith;
  talk = λ limits reader told i. i;
  here = c.requires.here;
  pieces = refl;
  left = refl;
  write_faults = le_refl _;
  read_faults = le_refl _;
  number = refl;
  wanted = refl;
  leads = g.met.D.Desk.stays _;
}
