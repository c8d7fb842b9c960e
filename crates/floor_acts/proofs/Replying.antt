-- The reply to a command by what a hall has is the reply in each state that it stands for.
use Rattle.std.proofs.Common.{◌≡◌, ℕ, Bool, codes, List, Option, Some, None, Result, Ok, Err, IfOk, refl, sym, ap, subst, ◌∙◌}
use Rattle.std.specs.Result.{result_map_both}
use Rattle.nsq_base.specs.declared.options.Options.{Options}
use Rattle.v2_frame.specs.declared.command.Command.{Command}
use Rattle.v2_frame.specs.declared.command.Command.TheVariants.{Identify, Sub, Pub, Mpub, Dpub, Rdy, Fin, Req, Touch, Cls, Nop}
use Rattle.v2_frame.specs.declared.frame.Frame.{Frame}
use Rattle.broker_history.specs.State.{Client, Phase}
use Rattle.broker_history.specs.Reply.{flight_reply, has_in_flight, reply_by}
use Rattle.floor_rooms.specs.declared.hall.Hall.{Hall}
use Rattle.negotiation.specs.declared.identity.Identity.{Identity}
use Rattle.floor_acts.specs.Replies.{IsShort, KnowsOf, RepliesTo, flies_in, reply_in}
use Rattle.floor_acts.specs.declared.command.Replied.{Replied}
use Rattle.floor_acts.proofs.Found.{flies_alike}

-- a reply rests on nothing but which ids fly
same_reply : (o : Options) (used : ℕ) (phase : Phase) (f g : List ℕ → Bool) → ((id : List ℕ) → f id ≡ g id) → (command : Command) → reply_by o used phase f command ≡ reply_by o used phase g command
same_reply o used phase f g same (Identify body) = refl
same_reply o used phase f g same (Sub topic channel) = refl
same_reply o used phase f g same (Pub topic body) = refl
same_reply o used phase f g same (Mpub topic bodies) = refl
same_reply o used phase f g same (Dpub topic delay body) = refl
same_reply o used phase f g same (Rdy count) = refl
same_reply o used phase f g same (Fin id) = ap (flight_reply phase (codes "E_FIN_FAILED")) (same id)
same_reply o used phase f g same (Req id delay) = ap (flight_reply phase (codes "E_REQ_FAILED")) (same id)
same_reply o used phase f g same (Touch id) = ap (flight_reply phase (codes "E_TOUCH_FAILED")) (same id)
same_reply o used phase f g same Cls = refl
same_reply o used phase f g same Nop = refl

pub told_reply : (h : Hall) (c : Client) (command : Command) (reply : Option Frame) → reply ≡ reply_in h c command → RepliesTo h c command reply
told_reply h c command reply is lost files s holds =
    is ∙ same_reply h.options h.ids_used c.phase (flies_in h c) (has_in_flight s c) (flies_alike h c lost files s holds) command
    ∙ ap (λ o. reply_by o h.ids_used c.phase (has_in_flight s c) command) (sym holds.stands.options) ∙ ap (λ used. reply_by s.options used c.phase (has_in_flight s c) command) (sym holds.stands.ids_used)

-- a reply that says nothing of the client, as it is handed on
module _ {E : Type 0} {X : Type 0} (g : X → Option Frame) (o : Result X E) (r : Result Replied E) (is : r ≡ result_map_both (λ x. record { reply = g x; said = None }) (λ why. why) o) where
  handed : (P : Replied → Type 0) → IfOk o (λ x. P (record { reply = g x; said = None })) → IfOk r P
  handed P h = subst (λ r. IfOk r P) (sym is) (by o h)
    where
      by : (o : Result X E) → IfOk o (λ x. P (record { reply = g x; said = None })) → IfOk (result_map_both (λ x. record { reply = g x; said = None }) (λ why. why) o) P
      by (Ok x) h = h
      by (Err e) h = tt

  weaker : (P Q : X → Type 0) → ((x : X) → P x → Q x) → (o : Result X E) → IfOk o P → IfOk o Q
  weaker P Q h (Ok x) p = h x p
  weaker P Q h (Err e) p = tt

  pub handed_value : (x : X) (reply : Option Frame) → IfOk o (λ y. y ≡ x) → g x ≡ reply → IfOk r (λ r. r.reply ≡ reply)
  handed_value x reply h same = handed (λ r. r.reply ≡ reply) (weaker (λ y. y ≡ x) (λ y. g y ≡ reply) (λ y e. ap g e ∙ same) o h)

  pub handed_short : IfOk o (λ x. IsShort (g x)) → IfOk r (λ r. IsShort r.reply)
  handed_short h = handed (λ r. IsShort r.reply) h

  pub handed_said : (K : Option Frame → Option Identity → Type 0) → ((x : X) → K (g x) None) → IfOk r (λ r. K r.reply r.said)
  handed_said K k = handed (λ r. K r.reply r.said) (all o)
    where
      all : (o : Result X E) → IfOk o (λ x. K (g x) None)
      all (Ok x) = k x
      all (Err e) = tt
