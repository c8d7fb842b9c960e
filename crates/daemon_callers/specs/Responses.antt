-- How a call is answered, by what was noted for it.
use Rattle.std.specs.Prelude.{◌≡◌, ◌⊎◌, ℕ, [], ◌∷◌, ◌++◌, Result, Ok, Err}
use Rattle.nsq_core.specs.declared.memory.Memory.{Memory as NoMemory}
use Rattle.nsq_outside.specs.declared.journal.End.{End}
use Rattle.broker_history.specs.declared.ask.Ask.{Ask}
use Rattle.broker_history.specs.declared.ask.Said.{Said}
use Rattle.broker_history.specs.declared.entry.Entry.{Entry}
use Rattle.broker_history.specs.Entries.{History, own}
use Rattle.http_calls.specs.declared.answer.HttpAnswer.{HttpAnswer}
use Rattle.http_calls.specs.declared.call.HttpCall.{HttpCall}
use Rattle.http_calls.specs.declared.call.HttpCall.TheVariants as call
use Rattle.http_calls.specs.declared.refusal.Refusal.TheVariants as refusal
use Rattle.http_calls.specs.Refusals.{refused_answer}
use Rattle.http_calls.specs.Answers.{publishes, answer_for, stop_answer}
pub use Rattle.http_asked.specs.Told.{told_answer}
use Rattle.daemon_callers.specs.Exchange.{IsListing, IsStopping, IsAsking, ListsBehindStop}

-- what was asked was noted, and is answered by what is said
pub record IsTold (began : ℕ) (a : Ask) (own : History) (answer : HttpAnswer) : Type 0 where
  pub said : Said
  pub asks : IsAsking a said own
  pub is : answer ≡ answer_for (publishes a) began said

-- a call with these entries of its connection is answered so
abbrev pub AnswersCall : (began : ℕ) → HttpCall → (own : History) → HttpAnswer → Type 0
AnswersCall began (call.Refused r) own answer = (own ≡ []) × (answer ≡ refused_answer r)
AnswersCall began (call.Answered given) own answer = (own ≡ []) × (answer ≡ given)
AnswersCall began (call.Asks a) own answer = IsTold began a own answer ⊎ (IsListing own × (answer ≡ refused_answer refusal.Stopping))
AnswersCall began call.Stops own answer = (IsStopping own ⊎ IsListing own) × (answer ≡ stop_answer)

-- memory was wanting for a call: its entries are none, or those of an answer, of which the last may be missing
pub record IsWanting (began : ℕ) (c : HttpCall) (own : History) : Type 0 where
  pub whole : History
  pub fits : (whole ≡ []) ⊎ ((answer : HttpAnswer) × AnswersCall began c whole answer)
  pub noted : (own ≡ whole) ⊎ ((last : Entry × End) × (whole ≡ own ++ last ∷ []))

-- a call is answered so with the entries of its connection, or memory was wanting for it
abbrev pub RespondsTo : (began : ℕ) → HttpCall → (number : ℕ) → (seen : History) → Result HttpAnswer NoMemory → Type 0
RespondsTo began c number seen (Ok answer) = AnswersCall began c (own number seen) answer × ListsBehindStop number seen
RespondsTo began c number seen (Err e) = IsWanting began c (own number seen) × ListsBehindStop number seen
