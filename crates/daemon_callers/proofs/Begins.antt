-- What a connection's Begin can be answered.
use Rattle.std.proofs.Common.{◌≢◌, refl}
use Rattle.broker_history.specs.Answers.{IsAnswerTo}
use Rattle.broker_history.specs.declared.call.Call.TheVariants as call
use Rattle.broker_history.specs.declared.turned.Turned.{Turned}
use Rattle.broker_history.specs.declared.turned.Turned.TheVariants as turned

-- it began, or memory was wanting
pub begins_or_not : {A : Type 0} (said : Turned) → said ≢ turned.Begun → said ≢ turned.Memory → said ≢ turned.Strange → IsAnswerTo call.Begin said → A
begins_or_not turned.Begun begun memory strange a = absurd (begun refl)
begins_or_not turned.Memory begun memory strange a = absurd (memory refl)
begins_or_not turned.Strange begun memory strange a = absurd (strange refl)
begins_or_not said begun memory strange a = absurd a
