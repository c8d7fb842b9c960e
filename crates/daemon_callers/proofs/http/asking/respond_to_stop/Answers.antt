use Rattle.std.proofs.Common.{refl}
use Rattle.http_calls.specs.declared.call.HttpCall.TheVariants.{Stops}
use Rattle.http_calls.specs.Answers.{stop_answer}
use Rattle.daemon_callers.proofs.ResponseLemmas.{responds, wants, wants_stop}
use Rattle.daemon_callers.proofs.http.asking.respond_to_stop.Goals as goal

pub returns-in_err-stop-clause-responds : goal.returns-in_err-stop-clause-responds
returns-in_err-stop-clause-responds g c = λ began tells none. wants began Stops c.args.number _ c.from_residual.result c.from_residual.ensures.0 (wants_stop began c.args.number _ (c.in_err-stop.ensures.stops tells none))

pub returns-clause-responds : goal.returns-clause-responds
returns-clause-responds g c = λ began tells none.
    let stops = c.in_ok-stop.ensures.stops tells none in
    responds began Stops c.args.number _ c.stop_answer.result stop_answer c.stop_answer.ensures.value (stops.0, refl) stops.1
