-- How what was asked is answered, by what came of it.
use Rattle.std.specs.Prelude.{ℕ, Bool}
use Rattle.http_calls.specs.declared.answer.HttpAnswer.{HttpAnswer}
use Rattle.http_calls.specs.declared.refusal.Refusal.TheVariants as refusal
use Rattle.http_calls.specs.Refusals.{refused_answer}
use Rattle.http_calls.specs.Answers.{answer_for}
use Rattle.http_asked.specs.declared.asked.Asked.{Asked}
use Rattle.http_asked.specs.declared.asked.Asked.TheVariants as asked

-- how it is answered by what came of what was asked
abbrev pub told_answer : (publish : Bool) → (began : ℕ) → Asked → HttpAnswer
told_answer publish began (asked.Said said) = answer_for publish began said
told_answer publish began asked.Stopping = refused_answer refusal.Stopping
