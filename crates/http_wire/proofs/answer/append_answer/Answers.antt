use Rattle.std.proofs.Common.{◌∙◌, ◌++◌, ap, List, ℕ}
use Rattle.std.proofs.lemmas.Result.{on_ok_weaker}
use Rattle.http_wire.proofs.AnswerLemmas.{answer_parts}
use Rattle.http_wire.proofs.answer.append_answer.Goals as goal

pub returns-clause-ok : goal.returns-clause-ok
returns-clause-ok c =
    on_ok_weaker c.append_all.result (λ is. is ∙ ap (λ (x : List ℕ). c.args.out.now.items ++ x) (answer_parts c.args.status.now c.args.phrase.now c.args.kind.now c.args.length.now c.args.body.now)) c.append_all.ensures.ok
