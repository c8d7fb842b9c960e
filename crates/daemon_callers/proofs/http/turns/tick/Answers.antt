use Rattle.std.proofs.Common.{◌∙◌, sym}
use Rattle.daemon_callers.proofs.ListLemmas.{lists_none}
use Rattle.daemon_callers.proofs.TurnLemmas.{tick_same, one_listed, stop_seen}
use Rattle.daemon_callers.proofs.http.turns.tick.Goals as goal

pub returns-then-wanting : goal.returns-then-wanting
returns-then-wanting g c =
    let did = c.turn-turned.ensures in
    record {
      ticks = λ tells none. tick_same c.turn-turned.result (did.adds tells) ∙ none;
      number = did.number;
      wanted = did.wanted;
      leads = did.leads;
    }

pub returns-then-not-stopping : goal.returns-then-not-stopping
returns-then-not-stopping g c =
    let did = c.turn-turned.ensures in
    record {
      ticks = λ tells none. tick_same c.turn-turned.result (did.adds tells) ∙ none;
      number = did.number;
      wanted = did.wanted;
      leads = did.leads;
    }

pub returns-in-Ok : goal.returns-in-Ok
returns-in-Ok g c =
    let did = c.turn-turned.ensures in
    record {
      ticks = λ tells none.
          let same = tick_same c.turn-turned.result (did.adds tells) ∙ none in
          let some = stop_seen (g.D.Desk.seen c.turn-turned.new.self) c.turn-turned.result (did.stopping tells) (sym c.is_stopping-stopping.ensures ∙ c.if-not-stopping.false) in
          (one_listed same (c.in-Ok.ensures.listed tells), c.in-Ok.ensures.behind tells some (lists_none c.args.number _ same));
      number = c.list_names.ensures.number ∙ did.number;
      wanted = c.list_names.ensures.wanted ∙ did.wanted;
      leads = g.met.D.Desk.goes_on _ _ _ did.leads c.list_names.ensures.leads;
    }

pub returns-in-Err : goal.returns-in-Err
returns-in-Err g c =
    let did = c.turn-turned.ensures in
    record {
      ticks = λ tells none. c.in-Err.ensures.listed tells ∙ tick_same c.turn-turned.result (did.adds tells) ∙ none;
      number = c.list_names.ensures.number ∙ did.number;
      wanted = c.list_names.ensures.wanted ∙ did.wanted;
      leads = g.met.D.Desk.goes_on _ _ _ did.leads c.list_names.ensures.leads;
    }
