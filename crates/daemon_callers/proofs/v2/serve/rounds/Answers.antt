use Rattle.std.proofs.Common.{◌∙◌, refl, sym, subst, le_refl, le_trans, Some}
use Rattle.broker_history.specs.Calls.{AreAllowed}
use Rattle.daemon_callers.proofs.Warning.{warned_since}
use Rattle.daemon_callers.proofs.Causing.{cause_from}
use Rattle.daemon_callers.proofs.Lending.{always_gives}
use Rattle.daemon_callers.proofs.v2.serve.rounds.Goals as goal

pub rounds-preserved : goal.rounds-preserved
rounds-preserved g c =
    let did = c.round.ensures in
    let before = c.rounds.invariant in
    record {
      talk = λ limits told i. c.in-None-round.ensures.talk limits told (before.talk limits told i);
      here = did.here;
      limits = did.limits ∙ before.limits;
      stream = λ told. did.stream told ∙ before.stream told;
      write_faults = le_trans before.write_faults did.write_faults;
      read_faults = le_trans before.read_faults did.read_faults;
      number = did.number ∙ before.number;
      wanted = did.wanted ∙ before.wanted;
      leads = g.met.D.Desk.goes_on _ _ _ before.leads did.leads;
    }

pub returns-in-Some-round : goal.returns-in-Some-round
returns-in-Some-round g c =
    let did = c.in-Some-round.ensures in
    let before = c.rounds.invariant in
    record {
      talk = λ limits told i. did.talk limits told (before.talk limits told i);
      warned = λ written. warned_since (Some c.in-Some-round.ended) _ _ _ _ before.write_faults (did.warned written);
      here = did.here;
      cause = cause_from c.in-Some-round.ended _ _ _ _ _ _ _ before.read_faults before.write_faults did.cause;
      stream = λ told. did.stream told ∙ before.stream told;
      read_faults = le_trans before.read_faults did.read_faults;
      write_faults = le_trans before.write_faults did.write_faults;
      number = did.number ∙ before.number;
      wanted = did.wanted ∙ before.wanted;
      leads = g.met.D.Desk.goes_on _ _ _ before.leads did.leads;
    }

pub rounds-init : goal.rounds-init
rounds-init g c = record {
  talk = λ limits told i. i;
  here = c.requires.here;
  limits = refl;
  stream = λ told. refl;
  write_faults = le_refl _;
  read_faults = le_refl _;
  number = refl;
  wanted = refl;
  leads = g.met.D.Desk.stays _;
}

pub round-requires-clause-number : goal.round-requires-clause-number
round-requires-clause-number g c = λ κs lives. c.requires.number ∙ sym c.rounds.invariant.number

pub round-requires-clause-here : goal.round-requires-clause-here
round-requires-clause-here g c = λ κs lives. c.rounds.invariant.here

pub round-requires-clause-limits : goal.round-requires-clause-limits
round-requires-clause-limits g c = λ κs lives. subst AreAllowed (sym c.rounds.invariant.limits) c.requires.limits

pub returns : goal.returns
returns g c = absurd (always_gives _ c.in-None.is c.next.ensures.steps)
