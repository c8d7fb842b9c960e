use Rattle.daemon_callers.proofs.Halting.{adds_stop, stop_seen}
use Rattle.daemon_callers.proofs.stopping.stop_once.Goals as goal

pub returns-clause-adds : goal.returns-clause-adds
returns-clause-adds g c = λ told. adds_stop _ _ c.take_turn-turned.result c.is_stopping-stopping.result c.is_stopping-stopping.ensures (c.take_turn-turned.ensures.adds told)

pub returns-clause-noted : goal.returns-clause-noted
returns-clause-noted g c = λ is told. stop_seen (g.T.Turner.notes c.take_turn-turned.new.self) c.take_turn-turned.result c.is_stopping-stopping.result c.is_stopping-stopping.ensures (c.take_turn-turned.ensures.stopping told) is
