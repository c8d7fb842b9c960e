-- How a call is answered, by what was noted for it.
use Rattle.std.proofs.Common.{◌≡◌, ◌⊎◌, ℕ, List, [], ◌∷◌, ◌++◌, refl, sym, ap, subst, ◌∙◌, inl, inr, Result, Ok, Err, IfOk, Some, IsErr, Bool, false, true}
use Rattle.nsq_core.specs.declared.memory.Memory.{Memory as NoMemory}
use Rattle.nsq_base.specs.declared.options.Options.{Options}
use Rattle.nsq_outside.specs.declared.journal.End.{End}
use Rattle.broker_history.specs.declared.ask.Ask.{Ask}
use Rattle.broker_history.specs.declared.entry.Act.TheVariants.{Listed}
use Rattle.broker_history.specs.declared.entry.Entry.{Entry}
use Rattle.broker_history.specs.Entries.{History, own}
use Rattle.http_wire.specs.declared.request.Request.{Request}
use Rattle.http_wire.specs.Request.{Whole, IsRequest}
use Rattle.http_wire.specs.Answer.{IsStatus}
use Rattle.http_calls.specs.declared.answer.HttpAnswer.{HttpAnswer}
use Rattle.http_calls.specs.declared.call.HttpCall.{HttpCall}
use Rattle.http_calls.specs.declared.call.HttpCall.TheVariants as call
use Rattle.http_calls.specs.Answers.{publishes, answer_for, stop_answer}
use Rattle.http_calls.specs.Calls.{call_for}
use Rattle.daemon_callers.specs.Exchange.{Answers, alone, told, stopping, stopped, answer_alone, ListsBehindStop}
use Rattle.http_asked.specs.declared.asked.Asked.{Asked}
use Rattle.http_asked.specs.declared.asked.Asked.TheVariants as asked
use Rattle.daemon_callers.specs.Noted.{AsksTo, IsStopped}
use Rattle.daemon_callers.specs.Responses.{told_answer, AnswersCall, IsWanting, RespondsTo}
use Rattle.daemon_callers.proofs.ListLemmas.{lists_none}
use Rattle.daemon_callers.proofs.TurnLemmas.{stopped_lists}

module _ (began : ℕ) (c : HttpCall) (number : ℕ) (seen : History) where
  -- what was noted is answered, or memory was wanting for the answer
  pub responds : (result : Result HttpAnswer NoMemory) (answer : HttpAnswer) → IfOk result (λ given. given ≡ answer) → AnswersCall began c (own number seen) answer → ListsBehindStop number seen → RespondsTo began c number seen result
  responds (Ok given) answer is answers lists = (subst (λ (x : HttpAnswer). AnswersCall began c (own number seen) x) (sym is) answers, lists)
  responds (Err e) answer is answers lists = (record { whole = own number seen; fits = inr (answer, answers); noted = inl refl }, lists)

  -- memory was wanting
  pub wants : (result : Result HttpAnswer NoMemory) → IsErr result → IsWanting began c (own number seen) × ListsBehindStop number seen → RespondsTo began c number seen result
  wants (Ok given) is w = absurd (let e : false ≡ true = is in cc)
  wants (Err e) is w = w

  -- memory was wanting before anything was noted
  pub wants_none : own number seen ≡ [] → IsWanting began c (own number seen) × ListsBehindStop number seen
  wants_none none = (record { whole = own number seen; fits = inl none; noted = inl refl }, lists_none number seen none)

-- an answer for which memory was wanting has no status
pub unanswered : (result : Result HttpAnswer NoMemory) → IsErr result → IfOk result (λ answer. IsStatus answer.status)
unanswered (Ok answer) is = absurd (let e : false ≡ true = is in cc)
unanswered (Err e) is = tt

-- what came of what was asked is answered so
pub answers_told : (began : ℕ) (a : Ask) (publish : Bool) (number : ℕ) (seen : History) (came : Asked) → publish ≡ publishes a → AsksTo a number seen (Ok came) → AnswersCall began (call.Asks a) (own number seen) (told_answer publish began came) × ListsBehindStop number seen
answers_told began a publish number seen (asked.Said said) is n = (inl (record { said = said; asks = n.0; is = ap (λ (p : Bool). answer_for p began said) is }), n.1)
answers_told began a publish number seen asked.Stopping is n = (inr (n.0, refl), n.1)

-- memory was wanting for the names behind a Stop
wants_listed : (began : ℕ) (h : History) → IsStopped h → IsWanting began call.Stops h
wants_listed began h s =
    let last : Entry × End = (record s.stop.0 { act = Listed [] }, s.stop.1) in
    record {
      whole = s.stop ∷ last ∷ [];
      fits = inr (stop_answer, (inl (record { stop = s.stop; listed = last; whole = refl; stops = s.stops; lists = refl }), refl));
      noted = inr (last, ap (λ (x : History). x ++ last ∷ []) (sym s.whole));
    }

-- memory was wanting for a stop
pub wants_stop : (began number : ℕ) (seen : History) → (own number seen ≡ []) ⊎ IsStopped (own number seen) → IsWanting began call.Stops (own number seen) × ListsBehindStop number seen
wants_stop began number seen (inl none) = wants_none began call.Stops number seen none
wants_stop began number seen (inr s) = (wants_listed began (own number seen) s, stopped_lists number seen (inr s))

module _ (o : Options) (began : ℕ) (bytes : List ℕ) (request : Request) (whole : IsRequest o.max_body_size bytes (Whole request)) (own : History) (answer : HttpAnswer) where
  ask_answers : (a : Ask) → call_for o began request ≡ call.Asks a → AnswersCall began (call.Asks a) own answer → Answers o began bytes own answer
  ask_answers a is (inl t) = told request a t.said whole is t.asks t.is
  ask_answers a is (inr s) = stopping request a whole is s.0 s.1

  answers_at : (c : HttpCall) → call_for o began request ≡ c → AnswersCall began c own answer → Answers o began bytes own answer
  answers_at (call.Refused r) is a = alone request whole (ap answer_alone is ∙ ap (λ (x : HttpAnswer). Some x) (sym a.1)) a.0
  answers_at (call.Answered given) is a = alone request whole (ap answer_alone is ∙ ap (λ (x : HttpAnswer). Some x) (sym a.1)) a.0
  answers_at (call.Asks a) is answers = ask_answers a is answers
  answers_at call.Stops is a = stopped request whole is a.0 a.1

  -- the answer of a call is that of its request
  pub answers_call : AnswersCall began (call_for o began request) own answer → Answers o began bytes own answer
  answers_call a = answers_at (call_for o began request) refl a
