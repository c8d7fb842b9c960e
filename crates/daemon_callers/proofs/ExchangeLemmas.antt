-- An exchange, from what was read, what was noted and what was written.
use Rattle.std.proofs.Common.{◌≡◌, ◌⊎◌, ℕ, ◌≤◌, List, [], ◌∷◌, ◌++◌, take, refl, sym, ap, subst, ◌∙◌, inl, inr, Result, Ok, Err, IfOk, arith, Bool}
use Rattle.nsq_core.specs.declared.memory.Memory.{Memory as NoMemory}
use Rattle.nsq_base.specs.declared.options.Options.{Options}
use Rattle.nsq_outside.specs.declared.journal.End.{End}
use Rattle.broker_history.specs.declared.entry.Entry.{Entry}
use Rattle.broker_history.specs.Entries.{History, own}
use Rattle.broker_history.specs.Talk.{bytes_of}
use Rattle.http_wire.specs.declared.request.Request.{Request}
use Rattle.http_wire.specs.Request.{Whole, IsRequest}
use Rattle.http_calls.specs.declared.answer.HttpAnswer.{HttpAnswer}
use Rattle.http_calls.specs.declared.refusal.Refusal.{Refusal}
use Rattle.http_calls.specs.Calls.{call_for}
use Rattle.http_calls.specs.Refusals.{refused_answer}
use Rattle.daemon_callers.specs.declared.http.ended.EndedHttp.{EndedHttp}
use Rattle.daemon_callers.specs.declared.http.ended.EndedHttp.TheVariants.{Answered, EndOfInput, Cut, Closed, ReadFault, WriteFault, Memory}
use Rattle.daemon_callers.specs.Exchange.{AreRead, Answers, refused, Fits, IsGivenUp, IsExchange, IsExchangeIn, IsWarnedHttp, HasCause, ListsBehindStop, written_of}
use Rattle.daemon_callers.specs.Written.{memory_bytes, WritesFirst, Sends, Finishes}
use Rattle.daemon_callers.specs.Responses.{AnswersCall, RespondsTo}
use Rattle.daemon_callers.specs.declared.http.reading.Came.TheVariants.{Over}
use Rattle.daemon_callers.specs.Comings.{IsRefused, HasRead, EndsOtherwise}
use Rattle.daemon_callers.proofs.ListLemmas.{lists_none}
use Rattle.daemon_callers.proofs.ResponseLemmas.{answers_call}

module _ (o : Options) (began number : ℕ) (pieces : List (List ℕ)) (seen : History) (out out' : List ℕ) (empty : out ≡ []) where
  -- the answer for want of memory was written
  given_up : (whole : History) → Fits o began pieces whole → (own number seen ≡ whole) ⊎ ((last : Entry × End) × (whole ≡ own number seen ++ last ∷ [])) → WritesFirst memory_bytes out out' → IsGivenUp o began pieces (own number seen) out'
  given_up whole fits noted w = record { whole = whole; fits = fits; noted = noted; count = w.0; written = w.1 ∙ ap (λ (x : List ℕ). x ++ take w.0 memory_bytes) empty }

  -- an answer was
  sent : (answer : HttpAnswer) (ended : EndedHttp) → Answers o began (bytes_of pieces) (own number seen) answer → Sends answer out out' ended → IsExchange o began pieces (own number seen) out' ended
  sent answer Answered a w = record { answer = answer; answers = a; written = w ∙ ap (λ (x : List ℕ). x ++ written_of answer) empty }
  sent answer WriteFault a w = record { answer = answer; answers = a; count = w.0; written = w.1 ∙ ap (λ (x : List ℕ). x ++ take w.0 (written_of answer)) empty }
  sent answer Memory a w = given_up (own number seen) (inr (inl (answer, a))) (inl refl) w
  sent answer EndOfInput a w = absurd w
  sent answer Cut a w = absurd w
  sent answer Closed a w = absurd w
  sent answer ReadFault a w = absurd w

  -- want of memory while the request was read
  pub given_up_reading : (pieces' : List (List ℕ)) (ended : EndedHttp) → pieces' ≡ pieces → HasRead o number pieces seen → ended ≡ Memory → WritesFirst memory_bytes out out' → IsExchangeIn o began number seen pieces' out' ended
  given_up_reading pieces' ended same r is w =
      subst (λ (x : List (List ℕ)). IsExchangeIn o began number seen x out' ended) (sym same)
      (subst (λ (x : EndedHttp). IsExchangeIn o began number seen pieces out' x) (sym is)
      (record { read = r.read; exchange = given_up (own number seen) (inl r.none) (inl refl) w; lists = lists_none number seen r.none }))

  -- bytes that are no request
  refused_written : (r : Refusal) (answer : Result HttpAnswer NoMemory) (ended : EndedHttp) → HasRead o number pieces seen → IsRefused o.max_body_size (bytes_of pieces) r → IfOk answer (λ a. a ≡ refused_answer r) → Finishes answer out out' ended
      → IsExchange o began pieces (own number seen) out' ended
  refused_written r (Ok answer) ended has f is w = sent answer ended (refused f.outcome r f.is_request f.refuses has.none is) w
  refused_written r (Err e) ended has f is w = subst (λ (x : EndedHttp). IsExchange o began pieces (own number seen) out' x) (sym w.0) (given_up (own number seen) (inl has.none) (inl refl) w.1)

  pub refused_exchange : (pieces' : List (List ℕ)) (r : Refusal) (answer : Result HttpAnswer NoMemory) (ended : EndedHttp) → pieces' ≡ pieces → HasRead o number pieces seen → IsRefused o.max_body_size (bytes_of pieces) r → IfOk answer (λ a. a ≡ refused_answer r)
      → Finishes answer out out' ended → IsExchangeIn o began number seen pieces' out' ended
  refused_exchange pieces' r answer ended same has f is w =
      subst (λ (x : List (List ℕ)). IsExchangeIn o began number seen x out' ended) (sym same)
      (record { read = has.read; exchange = refused_written r answer ended has f is w; lists = lists_none number seen has.none })

  module _ (request : Request) (whole : IsRequest o.max_body_size (bytes_of pieces) (Whole request)) where
    fits_call : (entries : History) → (entries ≡ []) ⊎ ((answer : HttpAnswer) × AnswersCall began (call_for o began request) entries answer) → Fits o began pieces entries
    fits_call entries (inl none) = inl none
    fits_call entries (inr a) = inr (inl (a.0, answers_call o began (bytes_of pieces) request whole entries a.0 a.1))

    -- a whole request
    answered : (answer : Result HttpAnswer NoMemory) (ended : EndedHttp) → RespondsTo began (call_for o began request) number seen answer → Finishes answer out out' ended → IsExchange o began pieces (own number seen) out' ended
    answered (Ok answer) ended r w = sent answer ended (answers_call o began (bytes_of pieces) request whole (own number seen) answer r.0) w
    answered (Err e) ended r w = subst (λ (x : EndedHttp). IsExchange o began pieces (own number seen) out' x) (sym w.0) (given_up r.0.whole (fits_call r.0.whole r.0.fits) r.0.noted w.1)

    responded_lists : (answer : Result HttpAnswer NoMemory) → RespondsTo began (call_for o began request) number seen answer → ListsBehindStop number seen
    responded_lists (Ok answer) r = r.1
    responded_lists (Err e) r = r.1

    pub answered_exchange : (pieces' : List (List ℕ)) (answer : Result HttpAnswer NoMemory) (ended : EndedHttp) → pieces' ≡ pieces → AreRead o.max_body_size pieces → RespondsTo began (call_for o began request) number seen answer → Finishes answer out out' ended
        → IsExchangeIn o began number seen pieces' out' ended
    answered_exchange pieces' answer ended same read r w =
        subst (λ (x : List (List ℕ)). IsExchangeIn o began number seen x out' ended) (sym same) (record { read = read; exchange = answered answer ended r w; lists = responded_lists answer r })

-- nothing was written
pub over_exchange : (o : Options) (began number : ℕ) (pieces : List (List ℕ)) (seen : History) (out out' : List ℕ) (ended : EndedHttp) → out ≡ [] → out' ≡ out → IsExchangeIn o began number seen pieces [] ended → IsExchangeIn o began number seen pieces out' ended
over_exchange o began number pieces seen out out' ended empty same e = subst (λ (x : List ℕ). IsExchangeIn o began number seen pieces x ended) (sym (same ∙ empty)) e

-- who was told since later counts was told since earlier ones
pub warned_since : (ended : EndedHttp) (out out' out'' : List ℕ) (w w' w'' : ℕ) → out' ≡ out → w ≤ w' → IsWarnedHttp ended out' out'' w' w'' → IsWarnedHttp ended out out'' w w''
warned_since Memory out out' out'' w w' w'' same more (inl all) = inl (all ∙ ap (λ (x : List ℕ). x ++ memory_bytes) same)
warned_since Memory out out' out'' w w' w'' same more (inr rose) = inr (omega (arith, more, rose))
warned_since Answered out out' out'' w w' w'' same more t = tt
warned_since EndOfInput out out' out'' w w' w'' same more t = tt
warned_since Cut out out' out'' w w' w'' same more t = tt
warned_since Closed out out' out'' w w' w'' same more t = tt
warned_since ReadFault out out' out'' w w' w'' same more t = tt
warned_since WriteFault out out' out'' w w' w'' same more t = tt

-- an exchange that ended otherwise
pub warned_otherwise : (ended : EndedHttp) (out out' : List ℕ) (w w' : ℕ) → EndsOtherwise (Over ended) → IsWarnedHttp ended out out' w w'
warned_otherwise Memory out out' w w' other = absurd other
warned_otherwise Answered out out' w w' other = tt
warned_otherwise EndOfInput out out' w w' other = tt
warned_otherwise Cut out out' w w' other = tt
warned_otherwise Closed out out' w w' other = tt
warned_otherwise ReadFault out out' w w' other = tt
warned_otherwise WriteFault out out' w w' other = tt
