use Rattle.http_calls.specs.declared.call.HttpCall.TheVariants.{Asks}
use Rattle.daemon_callers.specs.Responses.{told_answer}
use Rattle.daemon_callers.proofs.ResponseLemmas.{responds, wants, wants_none, answers_told}
use Rattle.daemon_callers.proofs.http.asking.respond_to_ask.Goals as goal

pub returns-in_err-told-clause-responds : goal.returns-in_err-told-clause-responds
returns-in_err-told-clause-responds g c = λ tells none.
    let call = Asks c.args.asked in
    wants c.args.began call c.args.number _ c.from_residual.result c.from_residual.ensures.0 (wants_none c.args.began call c.args.number _ (c.in_err-told.ensures.asks tells none))

pub returns-clause-responds : goal.returns-clause-responds
returns-clause-responds g c = λ tells none.
    let seen = g.D.Desk.seen c.ask.new.desk in
    let publish = c.publishes-publish.result in
    let came = c.in_ok-told.told in
    let answers = answers_told c.args.began c.args.asked publish c.args.number seen came c.publishes-publish.ensures (c.in_ok-told.ensures.asks tells none) in
    responds c.args.began (Asks c.args.asked) c.args.number seen c.told_answer.result (told_answer publish c.args.began came) c.told_answer.ensures.value answers.0 answers.1
