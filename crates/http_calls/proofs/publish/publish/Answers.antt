use Rattle.std.proofs.Common.{◌≡◌, IfOk, subst}
use Rattle.http_calls.specs.declared.call.HttpCall.{HttpCall}
use Rattle.http_calls.proofs.PublishLemmas.{no_topic, no_message, no_delay, publishes}
use Rattle.http_calls.proofs.publish.publish.Goals as goal

pub returns-in-Err : goal.returns-in-Err
returns-in-Err c = no_topic c.args.options.now c.args.request.now c.in-Err.refusal c.in-Err.ensures

pub returns-in-Some : goal.returns-in-Some
returns-in-Some c = no_message c.args.options.now c.args.request.now c.in-Ok.topic _ c.in-Some.refusal c.in-Ok.ensures c.bytes.ensures c.in-Some.ensures

pub returns-in-Err-delay_in : goal.returns-in-Err-delay_in
returns-in-Err-delay_in c = no_delay c.args.options.now c.args.request.now c.in-Ok.topic _ _ c.in-Err-delay_in.refusal c.in-Ok.ensures c.bytes.ensures c.in_default.ensures c.argument.ensures c.in-Err-delay_in.ensures

pub returns : goal.returns
returns c =
    subst (λ (asked : HttpCall). IfOk c.one_message.result (λ call. call ≡ asked))
    (publishes c.args.options.now c.args.request.now c.in-Ok.topic _ c.replace-body.result _ c.in-Ok-delay_in.delay c.in-Ok.ensures c.bytes.ensures c.in_default.ensures c.argument.ensures c.in-Ok-delay_in.ensures c.replace-body.ensures.value)
    c.one_message.ensures
