use Rattle.std.proofs.Common.{false, refl, subst, sym}
use Rattle.floor_rooms.specs.Standing.{HoldsFor}
use Rattle.broker_floor.specs.Held.{Held}
use Rattle.broker_floor.proofs.Holding.{holds_saved, sound_saved}
use Rattle.broker_floor.proofs.sound.SoundHall.saved.Goals as goal

pub returns-clause-stands : goal.returns-clause-stands
returns-clause-stands c = λ files s holds. holds_saved c.self.inside.hall (record (c.self.inside.hall) { unsaved_names = false }) files s refl (subst (λ (x : Held). HoldsFor x.hall files s) (sym c.self.view_is) holds)

pub invariant_of-self : goal.invariant_of-self
invariant_of-self c = record { sound = λ still. sound_saved c.self.inside.hall (record (c.self.inside.hall) { unsaved_names = false }) (c.self.invariant.sound still) refl; epoch = c.self.invariant.epoch }
