use Rattle.std.proofs.Common.{◌≡◌, ℕ, ◌+◌, ◌-◌, ◌<◌, [], ◌∷◌, length, drop, sym, ap, subst, ◌∙◌, arith, length-drop, length-append}
use Rattle.std.proofs.lemmas.Result.{IfOk-from_err}
use Rattle.v2_frame.proofs.PlaceLemmas.{behind_place}
use Rattle.http_calls.specs.Messages.{messages_in}
use Rattle.http_calls.proofs.BatchLemmas.{behind, first_found, from_start, none_yet, fewer_left, refused_here, one_read, all_read, left_over}
use Rattle.http_calls.proofs.batch.messages_in.Goals as goal

pub messages-init : goal.messages-init
messages-init c = record {
  within = from_start c.args.bytes.now;
  some = none_yet c.args.count c.new-messages.result c.new-messages.ensures;
  found = first_found c.args.most c.args.count c.args.bytes.now c.new-messages.result c.new-messages.ensures;
}

pub messages-smaller : goal.messages-smaller
messages-smaller c =
    let done = c.messages.messages in
    let longer : length c.push.new.self ≡ length done + 1 = ap length c.in_ok-push.ensures.ok ∙ length-append done (c.in_ok-message.message ∷ []) in
    fewer_left c.args.count (length done) (length c.push.new.self) (subst (λ (n : ℕ). n < c.args.count) c.count.ensures c.messages-test.true) longer

pub returns-in_err-message : goal.returns-in_err-message
returns-in_err-message c = IfOk-from_err c.from_residual.result _ c.from_residual.ensures.0

pub returns-in_err-push : goal.returns-in_err-push
returns-in_err-push c = IfOk-from_err c.from_residual-in_err-push.result _ c.from_residual-in_err-push.ensures.0

pub returns-in-Err : goal.returns-in-Err
returns-in-Err c =
    let at = c.messages.at in
    let bytes = c.args.bytes.now in
    let done = c.messages.messages in
    refused_here c.args.most (c.args.count - length done) at bytes _ done c.in-Err.refusal (omega arith) (behind_place bytes at) c.in-Err.ensures.value ∙ sym c.messages.invariant.found

pub messages-preserved : goal.messages-preserved
messages-preserved c =
    let read = one_read c.args.most c.args.count c.messages.at c.in-Ok.size c.args.bytes.now _ c.in_ok-message.message c.messages.messages c.push.new.self (behind_place c.args.bytes.now c.messages.at) c.in-Ok.ensures.whole c.in-Ok.ensures.value c.in_ok-message.ensures c.in_ok-push.ensures.ok
    (subst (λ (n : ℕ). n < c.args.count) c.count.ensures c.messages-test.true) c.messages.invariant.found in
    record { within = read.0; some = read.1; found = read.2 }

pub returns-then-at-bytes : goal.returns-then-at-bytes
returns-then-at-bytes c =
    let i = c.messages.invariant in
    left_over c.args.most (c.args.count - length c.messages.messages) (drop c.messages.at c.args.bytes.now) c.messages.messages (messages_in c.args.most c.args.count c.args.bytes.now) i.found (omega arith)
    (omega (arith, length-drop c.messages.at c.args.bytes.now))

pub returns : goal.returns
returns c =
    let i = c.messages.invariant in
    all_read c.args.most (c.args.count - length c.messages.messages) (drop c.messages.at c.args.bytes.now) c.messages.messages (messages_in c.args.most c.args.count c.args.bytes.now) i.found (omega arith)
    (omega (arith, length-drop c.messages.at c.args.bytes.now))
