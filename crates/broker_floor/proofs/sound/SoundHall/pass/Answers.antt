use Rattle.std.proofs.Common.{◌∙◌, ap, subst, sym}
use Rattle.floor_rooms.specs.Standing.{HoldsFor}
use Rattle.broker_floor.specs.Held.{Held}
use Rattle.broker_floor.proofs.sound.SoundHall.pass.Goals as goal

pub pass-requires : goal.pass-requires
pass-requires c = c.self.invariant.sound (ap (λ (x : Held). x.flushed) c.self.view_is ∙ c.requires)

pub returns-clause-stands : goal.returns-clause-stands
returns-clause-stands c = λ files s holds. c.pass.ensures.stands files s (subst (λ (x : Held). HoldsFor x.hall files s) (sym c.self.view_is) holds)
