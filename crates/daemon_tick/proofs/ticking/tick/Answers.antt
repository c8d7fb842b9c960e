use Rattle.daemon_tick.proofs.TickLaws.{tick_adds, ticked_so}
use Rattle.daemon_tick.proofs.ticking.tick.Goals as goal

pub returns-clause-nothing : goal.returns-clause-nothing
returns-clause-nothing g c = λ told. tick_adds _ _ c.take_turn-turned.result (c.take_turn-turned.ensures.adds told)

pub returns-clause-noted : goal.returns-clause-noted
returns-clause-noted g c = λ told. ticked_so _ (g.T.Turner.notes c.take_turn-turned.new.self) c.take_turn-turned.result c.answer_of.result c.answer_of.ensures (c.take_turn-turned.ensures.ticked told) (c.take_turn-turned.ensures.stopping told)
