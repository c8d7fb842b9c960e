use Rattle.std.proofs.Common.{refl, ap}
use Rattle.broker_floor.specs.Held.{Held}
use Rattle.broker_floor.proofs.Holding.{tied_kept}
use Rattle.broker_floor.proofs.floor.Floor.saved.Goals as goal

pub returns-clause-held : goal.returns-clause-held
returns-clause-held g c = c.saved.ensures.is

pub returns-clause-folder : goal.returns-clause-folder
returns-clause-folder g c = refl

pub returns-clause-clock : goal.returns-clause-clock
returns-clause-clock g c = refl

pub returns-clause-journal : goal.returns-clause-journal
returns-clause-journal g c = refl

pub returns-clause-stands : goal.returns-clause-stands
returns-clause-stands g c = c.saved.ensures.stands

pub invariant_of-self : goal.invariant_of-self
invariant_of-self g c = record {
  calm = c.args.self.now.calm;
  tied = λ told. tied_kept c.args.self.now.held.hall c.saved.new.self.hall (g.J.Journal.notes c.args.self.now.journal) (ap (λ (x : Held). x.hall.clients.items) c.saved.ensures.is) (ap (λ (x : Held). x.hall.stopped) c.saved.ensures.is) (c.args.self.now.tied told);
  room = c.args.self.now.room;
}
