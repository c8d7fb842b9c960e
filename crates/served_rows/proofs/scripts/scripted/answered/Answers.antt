use Rattle.std.proofs.Common.{subst, sym}
use Rattle.broker_history.specs.Answers.{IsAnswerTo}
use Rattle.broker_history.specs.declared.call.Call.{Call}
use Rattle.served_rows.proofs.scripts.scripted.answered.Goals as goal

pub returns-in-Command-clause-answer : goal.returns-in-Command-clause-answer
returns-in-Command-clause-answer c = subst (λ (x : Call). IsAnswerTo x c.to_command.result) (sym c.in-Command.is) (c.to_command.ensures.answer c.in-Command.field-0)

pub returns-in-Bad-clause-answer : goal.returns-in-Bad-clause-answer
returns-in-Bad-clause-answer c = subst (λ (x : Call). IsAnswerTo x c.to_bad.result) (sym c.in-Bad.is) (c.to_bad.ensures.answer c.in-Bad.field-0)
