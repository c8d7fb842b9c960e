use Rattle.std.proofs.Common.{◌∙◌, refl, ap}
use Rattle.broker_history.specs.declared.turned.Turned.TheVariants.{Stopping}
use Rattle.daemon_callers.specs.Exchange.{is_listed}
use Rattle.daemon_callers.proofs.ListLemmas.{lists_none, lists_one}
use Rattle.daemon_callers.proofs.TurnLemmas.{ask_said, ask_same, says_none, asks_missed, one_listed}
use Rattle.daemon_callers.proofs.http.turns.ask.Goals as goal

pub returns-in-Said : goal.returns-in-Said
returns-in-Said g c = record {
  asks = λ tells none.
      let asks = ask_said c.args.ask c.in-Said.said none (c.in-Said.ensures.adds tells) in
      (asks, lists_one c.args.number _ asks.entry asks.whole (ap is_listed asks.asked));
  number = c.in-Said.ensures.number;
  wanted = c.in-Said.ensures.wanted;
  leads = c.in-Said.ensures.leads;
}

pub returns-in-Stopping : goal.returns-in-Stopping
returns-in-Stopping g c =
    let did = c.in-Stopping.ensures in
    let listed = c.in_ok-list_names-in-Stopping.ensures in
    record {
      asks = λ tells none.
          let same = ask_same c.args.ask Stopping refl (did.adds tells) ∙ none in
          (one_listed same (listed.listed tells), listed.behind tells (did.stopping tells) (lists_none c.args.number _ same));
      number = listed.number ∙ did.number;
      wanted = listed.wanted ∙ did.wanted;
      leads = g.met.D.Desk.goes_on _ _ _ did.leads listed.leads;
    }

pub returns-in_err-list_names-in-Stopping : goal.returns-in_err-list_names-in-Stopping
returns-in_err-list_names-in-Stopping g c =
    let did = c.in-Stopping.ensures in
    let listed = c.in_err-list_names-in-Stopping.ensures in
    record {
      asks = λ tells none. asks_missed c.args.ask c.args.number _ c.from_residual.result c.from_residual.ensures.0 (listed.listed tells ∙ ask_same c.args.ask Stopping refl (did.adds tells) ∙ none);
      number = listed.number ∙ did.number;
      wanted = listed.wanted ∙ did.wanted;
      leads = g.met.D.Desk.goes_on _ _ _ did.leads listed.leads;
    }

pub returns : goal.returns
returns g c = record {
  asks = λ tells none. ask_same c.args.ask c.turn.result (says_none c.turn.result c.in_default.not-Said) (c.turn.ensures.adds tells) ∙ none;
  number = c.turn.ensures.number;
  wanted = c.turn.ensures.wanted;
  leads = c.turn.ensures.leads;
}

pub turn-requires-clause-number : goal.turn-requires-clause-number
turn-requires-clause-number g c = c.requires.number

pub turn-requires-clause-can : goal.turn-requires-clause-can
turn-requires-clause-can g c = c.requires.can

pub turn-requires-clause-may : goal.turn-requires-clause-may
turn-requires-clause-may g c = λ tells. tt
