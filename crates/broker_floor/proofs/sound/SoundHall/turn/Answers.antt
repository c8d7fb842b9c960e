use Rattle.std.proofs.Common.{◌∙◌, ap}
use Rattle.broker_floor.specs.Held.{Held}
use Rattle.broker_floor.proofs.sound.SoundHall.turn.Goals as goal

pub turn_at-requires-clause-sound : goal.turn_at-requires-clause-sound
turn_at-requires-clause-sound g c = c.self.invariant.sound (ap (λ (x : Held). x.flushed) c.self.view_is ∙ c.requires.unflushed)

pub new-steps-requires-clause-name : goal.new-steps-requires-clause-name
new-steps-requires-clause-name g c = c.requires.name

pub new-steps-requires-clause-parts : goal.new-steps-requires-clause-parts
new-steps-requires-clause-parts g c = c.requires.parts

pub new-steps-requires-clause-some : goal.new-steps-requires-clause-some
new-steps-requires-clause-some g c = c.requires.some
