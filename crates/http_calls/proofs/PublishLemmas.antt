-- Lemmas on what a publish asks.
use Rattle.std.proofs.Common.{◌≡◌, ℕ, ◌==◌, nat_le, Bool, true, false, cond, List, [], ◌∷◌, length, codes, Option, Some, None, Result, Ok, Err, refl, ap, ◌∙◌}
use Rattle.std.specs.Result.{result_err}
use Rattle.nsq_base.specs.declared.options.Options.{Options}
use Rattle.broker_history.specs.declared.ask.Ask.{Ask}
use Rattle.broker_history.specs.declared.ask.Ask.TheVariants as ask
use Rattle.http_wire.specs.declared.request.Request.{Request}
use Rattle.http_calls.specs.declared.call.HttpCall.TheVariants as call
use Rattle.http_calls.specs.declared.refusal.Refusal.{Refusal}
use Rattle.http_calls.specs.declared.refusal.Refusal.TheVariants.{MsgEmpty, MsgTooBig}
use Rattle.http_calls.specs.Arguments.{unless, argument_of, topic_in}
use Rattle.http_calls.specs.Delay.{delay_in}
use Rattle.http_calls.specs.Messages.{message_in}
use Rattle.http_calls.specs.Calls.{asks, publish_in}

why : {X : Type 0} (found : Result X Refusal) (refusal : Refusal) → Some refusal ≡ result_err found → Err refusal ≡ found
why (Ok x) refusal e = absurd (cc)
why (Err other) refusal e = let same : refusal ≡ other = cc in ap Err same

whole : (empty short : Bool) (body : List ℕ) → None ≡ result_err (cond empty (Err MsgEmpty) (cond short (Ok body) (Err MsgTooBig))) → Ok body ≡ cond empty (Err MsgEmpty) (cond short (Ok body) (Err MsgTooBig))
whole true short body e = absurd (cc)
whole false true body e = refl
whole false false body e = absurd (cc)

module _ (o : Options) (r : Request) where
  abbrev in_time : List ℕ → List ℕ → ℕ → Result Ask Refusal
  in_time topic message delay = Ok (ask.Publish topic delay (message ∷ []))

  abbrev of_message : List ℕ → List ℕ → Result Ask Refusal
  of_message topic message = unless (delay_in o (argument_of r (codes "defer"))) (in_time topic message)

  abbrev of_topic : List ℕ → Result Ask Refusal
  of_topic topic = unless (message_in o.max_msg_size r.body) (of_message topic)

  -- the topic is refused
  pub no_topic : (refusal : Refusal) → Err refusal ≡ topic_in r → call.Refused refusal ≡ asks (publish_in o r)
  no_topic refusal t = ap (λ (x : Result (List ℕ) Refusal). asks (unless x of_topic)) t

  -- the message is
  pub no_message : (topic seen : List ℕ) (refusal : Refusal) → Ok topic ≡ topic_in r → seen ≡ r.body → Some refusal ≡ result_err (message_in o.max_msg_size seen) → call.Refused refusal ≡ asks (publish_in o r)
  no_message topic seen refusal t b m =
      ap (λ (x : Result (List ℕ) Refusal). asks (unless x (of_message topic))) (why (message_in o.max_msg_size seen) refusal m ∙ ap (message_in o.max_msg_size) b) ∙ ap (λ (x : Result (List ℕ) Refusal). asks (unless x of_topic)) t

  goes_on : (topic seen : List ℕ) → Ok topic ≡ topic_in r → seen ≡ r.body → None ≡ result_err (message_in o.max_msg_size seen) → asks (of_message topic r.body) ≡ asks (publish_in o r)
  goes_on topic seen t b m =
      let none : None ≡ result_err (message_in o.max_msg_size r.body) = m ∙ ap (λ (x : List ℕ). result_err (message_in o.max_msg_size x)) b in
      let good : Ok r.body ≡ message_in o.max_msg_size r.body = whole (length r.body == 0) (nat_le (length r.body) o.max_msg_size) r.body none in
      ap (λ (x : Result (List ℕ) Refusal). asks (unless x (of_message topic))) good ∙ ap (λ (x : Result (List ℕ) Refusal). asks (unless x of_topic)) t

  -- the delay is
  pub no_delay : (topic seen : List ℕ) (argument : Option (List ℕ)) (refusal : Refusal) → Ok topic ≡ topic_in r → seen ≡ r.body → None ≡ result_err (message_in o.max_msg_size seen)
      → argument ≡ argument_of r (codes "defer") → Err refusal ≡ delay_in o argument → call.Refused refusal ≡ asks (publish_in o r)
  no_delay topic seen argument refusal t b m a d = ap (λ (x : Result ℕ Refusal). asks (unless x (in_time topic r.body))) (d ∙ ap (delay_in o) a) ∙ goes_on topic seen t b m

  -- nothing is
  pub publishes : (topic seen body : List ℕ) (argument : Option (List ℕ)) (delay : ℕ) → Ok topic ≡ topic_in r → seen ≡ r.body → None ≡ result_err (message_in o.max_msg_size seen)
      → argument ≡ argument_of r (codes "defer") → Ok delay ≡ delay_in o argument → body ≡ r.body → asks (Ok (ask.Publish topic delay (body ∷ []))) ≡ asks (publish_in o r)
  publishes topic seen body argument delay t b m a d taken =
      ap (λ (x : List ℕ). asks (Ok (ask.Publish topic delay (x ∷ [])))) taken ∙ ap (λ (x : Result ℕ Refusal). asks (unless x (in_time topic r.body))) (d ∙ ap (delay_in o) a) ∙ goes_on topic seen t b m
