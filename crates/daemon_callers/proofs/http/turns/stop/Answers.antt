use Rattle.daemon_callers.proofs.TurnLemmas.{stop_noted, stop_seen, stop_names}
use Rattle.std.proofs.Common.{◌∙◌, sym}
use Rattle.daemon_callers.proofs.http.turns.stop.Goals as goal

pub returns-then-not-stopping : goal.returns-then-not-stopping
returns-then-not-stopping g c =
    let did = c.turn-turned.ensures in
    record {
      stops = λ tells none. stop_noted c.turn-turned.result none (did.adds tells);
      number = did.number;
      wanted = did.wanted;
      leads = did.leads;
    }

pub returns : goal.returns
returns g c =
    let did = c.turn-turned.ensures in
    record {
      stops = λ tells none.
          let some = stop_seen (g.D.Desk.seen c.turn-turned.new.self) c.turn-turned.result (did.stopping tells) (sym c.is_stopping-stopping.ensures ∙ c.if-not-stopping.false) in
          stop_names c.args.number _ _ c.list_names.result (stop_noted c.turn-turned.result none (did.adds tells)) (c.list_names.ensures.listed tells) (c.list_names.ensures.behind tells some);
      number = c.list_names.ensures.number ∙ did.number;
      wanted = c.list_names.ensures.wanted ∙ did.wanted;
      leads = g.met.D.Desk.goes_on _ _ _ did.leads c.list_names.ensures.leads;
    }
