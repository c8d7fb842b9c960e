use Rattle.broker_floor.proofs.Keepable.{hall_can, kept_can}
use Rattle.broker_floor.proofs.floor.Floor.kept.Goals as goal

pub returns-clause-can : goal.returns-clause-can
returns-clause-can g c = λ still. kept_can c.get.result.now c.kept.result (λ v. v.items) (hall_can c.get.result.now (c.get.ensures.sound still)) c.kept.ensures.value
