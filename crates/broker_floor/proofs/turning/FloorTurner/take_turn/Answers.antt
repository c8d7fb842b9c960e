use Rattle.std.proofs.Common.{◌∙◌, [], refl, sym, inl}
use Rattle.std.proofs.lemmas.List.{append-nil}
use Rattle.floor_serving.proofs.Following.{leads_stay}
use Rattle.floor_serving.proofs.Leading.{turn_leads}
use Rattle.broker_floor.proofs.Answering.{memory_is, nothing_is}
use Rattle.broker_floor.proofs.Ticking.{turn_ticks}
use Rattle.broker_floor.proofs.turning.FloorTurner.take_turn.Goals as goal

pub returns-then-is_flushed-clause-grows : goal.returns-then-is_flushed-clause-grows
returns-then-is_flushed-clause-grows g c = λ told. record { added = []; whole = sym (append-nil (g.J.Journal.notes c.args.self.now.journal)) }

pub returns-then-is_flushed-clause-adds : goal.returns-then-is_flushed-clause-adds
returns-then-is_flushed-clause-adds g c = λ told. inl (refl, nothing_is c.args.call)

pub returns-then-is_flushed-clause-answer : goal.returns-then-is_flushed-clause-answer
returns-then-is_flushed-clause-answer g c = memory_is c.args.call

pub returns-then-is_flushed-clause-leads : goal.returns-then-is_flushed-clause-leads
returns-then-is_flushed-clause-leads g c = (refl, leads_stay _ _ _ _ _)

pub returns-then-is_flushed-clause-ticked : goal.returns-then-is_flushed-clause-ticked
returns-then-is_flushed-clause-ticked g c = λ told. tt

pub returns-clause-ticked : goal.returns-clause-ticked
returns-clause-ticked g c = λ told. turn_ticks _ _ _ c.args.conn c.turn.result c.args.call _ _ told c.turn.ensures.turn

pub returns-clause-leads : goal.returns-clause-leads
returns-clause-leads g c = (c.turn.ensures.unflushed ∙ sym (sym c.is_flushed.ensures ∙ c.if-is_flushed.false), turn_leads _ _ _ c.args.conn c.args.call c.turn.result _ _ c.requires.may c.turn.ensures.turn)
