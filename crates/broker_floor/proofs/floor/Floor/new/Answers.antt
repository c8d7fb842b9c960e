use Rattle.std.proofs.Common.{ap, sym, subst, ℕ}
use Rattle.nsq_base.specs.Options.{IsInRange}
use Rattle.nsq_base.specs.declared.options.Options.{Options}
use Rattle.floor_rooms.specs.declared.hall.Hall.{Hall}
use Rattle.floor_rooms.specs.Made.{IsEmptyHall, empty_state}
use Rattle.floor_rooms.specs.Standing.{HoldsFor, StandsFor}
use Rattle.floor_serving.specs.Scenes.{IsTied}
use Rattle.broker_floor.specs.Held.{Held}
use Rattle.broker_floor.proofs.Holding.{tied_new}
use Rattle.broker_floor.proofs.floor.Floor.new.Goals as goal

pub returns-clause-stands : goal.returns-clause-stands
returns-clause-stands g c = λ files unused.
    let hall : Hall = c.new.result in
    let at : ℕ = hall.moment in
    subst (λ (x : Held). HoldsFor x.hall files (empty_state c.args.options.now c.args.epoch x.hall.moment)) (sym c.new-held.ensures)
    (subst (λ (o : Options). HoldsFor hall files (empty_state o c.args.epoch at)) c.in-Ok-copy.ensures (subst (λ (m : ℕ). HoldsFor hall files (empty_state c.in-Ok-copy.options c.args.epoch m)) (sym c.new.ensures.is.moment) (c.new.ensures.stands files unused)))

pub new-requires-clause-options : goal.new-requires-clause-options
new-requires-clause-options g c = subst IsInRange (sym c.in-Ok-copy.ensures) c.requires.options

pub new-held-requires : goal.new-held-requires
new-held-requires g c = c.new.ensures.sound

pub invariant_of-result : goal.invariant_of-result
invariant_of-result g c = record {
  calm = c.requires.aside;
  tied = λ told. subst (λ (x : Held). IsTied x.hall (g.J.Journal.notes c.args.kit.journal)) (sym c.new-held.ensures) (tied_new _ _ _ c.new.result (g.J.Journal.notes c.args.kit.journal) c.new.ensures.is (c.requires.empty told));
  room = c.in-Ok.ensures;
}

pub returns-clause-hall : goal.returns-clause-hall
returns-clause-hall g c =
    let hall : Hall = c.new.result in
    let at : ℕ = hall.moment in
    subst (λ (x : Held). IsEmptyHall c.args.options.now c.args.epoch x.hall.moment x.hall) (sym c.new-held.ensures)
    (subst (λ (o : Options). IsEmptyHall o c.args.epoch at hall) c.in-Ok-copy.ensures (subst (λ (m : ℕ). IsEmptyHall c.in-Ok-copy.options c.args.epoch m hall) (sym c.new.ensures.is.moment) c.new.ensures.is))

pub returns-clause-unflushed : goal.returns-clause-unflushed
returns-clause-unflushed g c = ap (λ (x : Held). x.flushed) c.new-held.ensures

pub returns-clause-opens : goal.returns-clause-opens
returns-clause-opens g c = λ files.
    let hall : Hall = c.new.result in
    let at : ℕ = hall.moment in
    subst (λ (x : Held). StandsFor x.hall files (empty_state c.args.options.now c.args.epoch x.hall.moment)) (sym c.new-held.ensures)
    (subst (λ (o : Options). StandsFor hall files (empty_state o c.args.epoch at)) c.in-Ok-copy.ensures (subst (λ (m : ℕ). StandsFor hall files (empty_state c.in-Ok-copy.options c.args.epoch m)) (sym c.new.ensures.is.moment) (c.new.ensures.opens files)))

pub returns-clause-coming : goal.returns-clause-coming
returns-clause-coming g c = λ told. c.now.ensures.coming told
