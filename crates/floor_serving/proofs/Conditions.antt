-- What a reply that is no error says of the client that gave the command, and of the hall.
use Rattle.std.proofs.Common.{◌≡◌, ◌⊎◌, inl, inr, ◌<◌, ◌≤◌, ◌+◌, ◌*◌, ◌^◌, ℕ, ℤ, pos, negsuc, min, Bool, true, false, nat_le, if◌then◌else◌, List, [], ◌∷◌, length, codes, get_or, Option, Some, None, is_some, refl, sym, ap, subst, ◌∙◌, arith, leb-true}
use Rattle.std.specs.Prelude.{HoldsAt, option_map, IfSome}
use Rattle.std.specs.List.{All, AllByRecursion}
use Rattle.std.proofs.lemmas.Bool.{false≢true}
use Rattle.std.proofs.lemmas.List.Elements.{All-from_recursion, All-weaker}
use Rattle.nsq_base.specs.Options.{IsInRange}
use Rattle.nsq_base.specs.Time.{millisecond}
use Rattle.nsq_base.specs.declared.options.Options.{Options}
use Rattle.v2_frame.specs.Command.{IsSize}
use Rattle.v2_frame.specs.declared.command.Command.{Command}
use Rattle.v2_frame.specs.declared.command.Command.TheVariants as command
use Rattle.v2_frame.specs.declared.frame.Frame.{Frame}
use Rattle.broker_history.specs.State.{Client, Phase, Fresh, Subscribed, Closing, Lost, is_fresh, is_lost, is_subscribed, with_client}
use Rattle.broker_history.specs.Identify as identify
use Rattle.broker_history.specs.Identify.{identity_of}
use Rattle.nsq_outside.specs.Files.{Files}
use Rattle.broker_history.specs.Reply.{are_left, count_of, delayed_reply, disk_reply, error, flight_reply, identified, ids_spent, is_delay, not_in_flight, ok_frame, publish_reply, ready_reply, reply_by, response, span_of, wrong_state}
use Rattle.broker_history.specs.Step.{CanFault, is_error, ready_for, spoke}
use Rattle.broker_history.specs.Calls.{IsAllowedBody, IsWhole}
use Rattle.floor_rooms.specs.declared.hall.Hall.{Hall}
use Rattle.floor_rooms.specs.Standing.{longest_delay}
use Rattle.floor_calls.specs.Replies.{SaysOf, flies_in}
use Rattle.negotiation.specs.Said.{IsTimely, said}
use Rattle.negotiation.specs.declared.identity.Identity.{Identity}
use Rattle.floor_calls.specs.Acts.{DoesAt, FliesAt}
use Rattle.floor_serving.specs.Commands.{IsAccepted}

-- a reply that is chosen by a test, and is an error where that fails
passed : (b : Bool) (x y : Frame) → is_error (Some y) ≡ true → is_error (Some (if b then x else y)) ≡ false → (b ≡ true) × (is_error (Some x) ≡ false)
passed true x y bad e = (refl, e)
passed false x y bad e = absurd (false≢true (sym e ∙ bad))

-- so many ids are left
pub ids_left : (used count : ℕ) (word : List ℕ) → is_error (Some (publish_reply used word count)) ≡ false → used + count ≤ 2 ^ 40
ids_left used count word e = leb-true (used + count) (2 ^ 40) (passed (are_left used count) ok_frame (ids_spent word) refl e).0

-- the reply to a publish that is no error
pub publish_ok : (used count : ℕ) (word : List ℕ) → is_error (Some (publish_reply used word count)) ≡ false → Some (publish_reply used word count) ≡ Some ok_frame
publish_ok used count word e = ap (λ b. Some (if b then ok_frame else ids_spent word)) (passed (are_left used count) ok_frame (ids_spent word) refl e).0

-- a message that is given back, or one in flight
flown : (fresh flies : Bool) (word : List ℕ) → is_error (if fresh then Some wrong_state else (if flies then None else Some (not_in_flight word))) ≡ false → (fresh ≡ false) × (flies ≡ true)
flown true flies word e = absurd (false≢true (sym e))
flown false true word e = (refl, refl)
flown false false word e = absurd (false≢true (sym e))

-- a delay that may be published with
delay_within : (o : Options) (delay : ℤ) → is_delay o delay ≡ true → span_of delay ≤ o.max_req_timeout
delay_within o (pos ms) e = leb-true (ms * millisecond) o.max_req_timeout e
delay_within o (negsuc k) e = absurd (false≢true e)

pub min_at_most : (a b : ℕ) → a ≤ b → min a b ≡ a
min_at_most a b le = omega (arith, le)

pub delayed : (o : Options) (used : ℕ) (delay : ℤ) → is_error (Some (delayed_reply o used delay)) ≡ false → (span_of delay ≤ o.max_req_timeout) × (is_error (Some (publish_reply used (codes "E_DPUB_FAILED") 1)) ≡ false)
delayed o used delay e =
    let p = passed (is_delay o delay) (publish_reply used (codes "E_DPUB_FAILED") 1) (error (codes "E_INVALID bad delay")) refl e in
    (delay_within o delay p.0, p.1)

pub delayed_ok : (o : Options) (used : ℕ) (delay : ℤ) → is_error (Some (delayed_reply o used delay)) ≡ false → Some (delayed_reply o used delay) ≡ Some ok_frame
delayed_ok o used delay e =
    let p = passed (is_delay o delay) (publish_reply used (codes "E_DPUB_FAILED") 1) (error (codes "E_INVALID bad delay")) refl e in
    ap (λ b. Some (if b then publish_reply used (codes "E_DPUB_FAILED") 1 else error (codes "E_INVALID bad delay"))) p.0 ∙ publish_ok used 1 (codes "E_DPUB_FAILED") p.1

flight_none : (phase : Phase) (word : List ℕ) (flies : Bool) → is_error (flight_reply phase word flies) ≡ false → flight_reply phase word flies ≡ None
flight_none phase word flies e =
    let p = flown (is_fresh phase) flies word e in
    ap (λ b. if b then Some wrong_state else (if flies then None else Some (not_in_flight word))) p.0 ∙ ap (λ b. if b then None else Some (not_in_flight word)) p.1

no_some : {X : Type 0} (x : X) → None ≡ Some x → ⊥
no_some x e = false≢true (ap is_some e)

-- a disk fault can keep off what has an answer for that
module _ (o : Options) (used : ℕ) (phase : Phase) (flies : (id : List ℕ) → Bool) where
  pub can_fault : (c : Command) (frame : Frame) → disk_reply c ≡ Some frame → is_error (reply_by o used phase flies c) ≡ false → CanFault c (reply_by o used phase flies c)
  can_fault (command.Identify body) frame is e = absurd (no_some frame is)
  can_fault (command.Sub topic channel) frame is e = absurd (no_some frame is)
  can_fault (command.Pub topic body) frame is e = publish_ok used 1 (codes "E_PUB_FAILED") e
  can_fault (command.Mpub topic bodies) frame is e = publish_ok used (length bodies) (codes "E_MPUB_FAILED") e
  can_fault (command.Dpub topic delay body) frame is e = delayed_ok o used delay e
  can_fault (command.Rdy count) frame is e = absurd (no_some frame is)
  can_fault (command.Fin id) frame is e = absurd (no_some frame is)
  can_fault (command.Req id delay) frame is e = flight_none phase (codes "E_REQ_FAILED") (flies id) e
  can_fault (command.Touch id) frame is e = absurd (no_some frame is)
  can_fault command.Cls frame is e = absurd (no_some frame is)
  can_fault command.Nop frame is e = absurd (no_some frame is)

-- what is so of the client that gives the command is so at its place
pub at_accepted : (P : Client → Type 0) (h : Hall) (k : ℕ) (c : Command) (a : IsAccepted h k c) → P a.client → HoldsAt P h.clients.items k
at_accepted P h k c a p = λ d. subst P (sym (a.reads d)) p

pub from_accepted : (P : Client → Type 0) (h : Hall) (k : ℕ) (c : Command) (a : IsAccepted h k c) → HoldsAt P h.clients.items k → P a.client
from_accepted P h k c a p = subst P (a.reads a.client) (p a.client)

module _ (h : Hall) (k : ℕ) where
  -- IDENTIFY and SUB: the client has no channel
  pub identify_fresh : (body : List ℕ) (a : IsAccepted h k (command.Identify body)) → is_fresh a.client.phase ≡ true
  identify_fresh body a = (passed (is_fresh a.client.phase) (identified h.options (identity_of h.options body)) wrong_state refl a.accepted).0

  pub sub_fresh : (topic channel : List ℕ) (a : IsAccepted h k (command.Sub topic channel)) → is_fresh a.client.phase ≡ true
  sub_fresh topic channel a = (passed (is_fresh a.client.phase) ok_frame wrong_state refl a.accepted).0

  -- CLS: it gets messages
  pub cls_subscribed : (a : IsAccepted h k command.Cls) → is_subscribed a.client.phase ≡ true
  cls_subscribed a = (passed (is_subscribed a.client.phase) (response (codes "CLOSE_WAIT")) wrong_state refl a.accepted).0

  -- FIN, TOUCH and REQ: the copy is in flight with it
  pub fin_flies : (id : List ℕ) → IsAccepted h k (command.Fin id) → FliesAt k id h
  fin_flies id a = at_accepted (λ c. flies_in h c id ≡ true) h k (command.Fin id) a (flown (is_fresh a.client.phase) (flies_in h a.client id) (codes "E_FIN_FAILED") a.accepted).1

  pub touch_flies : (id : List ℕ) → IsAccepted h k (command.Touch id) → FliesAt k id h
  touch_flies id a = at_accepted (λ c. flies_in h c id ≡ true) h k (command.Touch id) a (flown (is_fresh a.client.phase) (flies_in h a.client id) (codes "E_TOUCH_FAILED") a.accepted).1

  pub req_flies : (id : List ℕ) (delay : ℤ) → IsAccepted h k (command.Req id delay) → FliesAt k id h
  req_flies id delay a = at_accepted (λ c. flies_in h c id ≡ true) h k (command.Req id delay) a (flown (is_fresh a.client.phase) (flies_in h a.client id) (codes "E_REQ_FAILED") a.accepted).1

  -- PUB, MPUB and DPUB: ids are left, and the bodies and the delay are as the options allow
  pub pub_ids : (topic body : List ℕ) → IsAccepted h k (command.Pub topic body) → h.ids_used + 1 ≤ 2 ^ 40
  pub_ids topic body a = ids_left h.ids_used 1 (codes "E_PUB_FAILED") a.accepted

  pub mpub_ids : (topic : List ℕ) (bodies : List (List ℕ)) → IsAccepted h k (command.Mpub topic bodies) → h.ids_used + length bodies ≤ 2 ^ 40
  mpub_ids topic bodies a = ids_left h.ids_used (length bodies) (codes "E_MPUB_FAILED") a.accepted

  pub dpub_within : (topic : List ℕ) (delay : ℤ) (body : List ℕ) → IsAccepted h k (command.Dpub topic delay body) → span_of delay ≤ h.options.max_req_timeout
  dpub_within topic delay body a = (delayed h.options h.ids_used delay a.accepted).0

  pub dpub_ids : (topic : List ℕ) (delay : ℤ) (body : List ℕ) → IsAccepted h k (command.Dpub topic delay body) → h.ids_used + 1 ≤ 2 ^ 40
  dpub_ids topic delay body a = ids_left h.ids_used 1 (codes "E_DPUB_FAILED") (delayed h.options h.ids_used delay a.accepted).1

-- the longest delay of options
pub longest : (o : Options) → IsInRange o → o.max_req_timeout ≤ longest_delay
longest o range = range.times.max_req_timeout.at_most

counted : (o : Options) (n : ℕ) (b : Bool) → nat_le n o.max_rdy_count ≡ b → IsInRange o → is_error (if b then None else Some (error (codes "E_INVALID bad count"))) ≡ false → n < 2 ^ 32
counted o n true is range e =
    let le = leb-true n o.max_rdy_count is in
    let most = range.sizes.max_rdy_count.at_most in
    omega (arith, le, most)
counted o n false is range e = absurd (false≢true (sym e))

-- the delay of DPUB in nanoseconds, brought into range
pub dpub_span : (h : Hall) (k : ℕ) (topic : List ℕ) (delay : ℤ) (body : List ℕ) (a : IsAccepted h k (command.Dpub topic delay body)) (span : ℕ) → span ≡ min (span_of delay) h.options.max_req_timeout → span ≡ span_of delay
dpub_span h k topic delay body a span is = is ∙ min_at_most (span_of delay) h.options.max_req_timeout (dpub_within h k topic delay body a)

pub dpub_longest : (h : Hall) (k : ℕ) (topic : List ℕ) (delay : ℤ) (body : List ℕ) (a : IsAccepted h k (command.Dpub topic delay body)) → IsInRange h.options → (span : ℕ) → span ≡ min (span_of delay) h.options.max_req_timeout → span ≤ longest_delay
dpub_longest h k topic delay body a range span is =
    let most = longest h.options range in
    omega (arith, is, most)

-- a RDY that is accepted asks for a number of 32 bits, or is in vain
ready_by : (o : Options) (phase : Phase) (count : ℤ) → IsInRange o → is_lost phase ≡ false → is_error (ready_reply o phase count) ≡ false → (count_of count < 2 ^ 32) ⊎ ((n m : ℕ) → ready_for phase n m ≡ m)
ready_by o Fresh count range stays e = absurd (false≢true (sym e))
ready_by o Subscribed (pos n) range stays e = inl (counted o n (nat_le n o.max_rdy_count) refl range e)
ready_by o Subscribed (negsuc n) range stays e = absurd (false≢true (sym e))
ready_by o Closing count range stays e = inr (λ n m. refl)
ready_by o Lost count range stays e = absurd (false≢true (sym stays))

pub ready_told : (h h' : Hall) (k : ℕ) (count : ℤ) (r : ℕ) (files : Files) (a : IsAccepted h k (command.Rdy count)) → IsInRange h.options → (count_of count < 2 ^ 32 → r ≡ count_of count) → ((n : ℤ) → count_of n ≡ r → DoesAt k (command.Rdy n) false h files h' files)
    → DoesAt k (command.Rdy count) false h files h' files
ready_told h h' k count r files a range is told =
    elim (ready_by h.options a.client.phase count range a.stays a.accepted) [
      | inl small ↦ told count (sym (is small))
      | inr vain ↦ λ d s holds.
          let c : Client = get_or h.clients.items k d in
          let by : (n : ℕ) → ready_for c.phase n c.ready ≡ c.ready = λ n. ap (λ (x : Client). ready_for x.phase n c.ready) (a.reads d) ∙ vain n c.ready in
          let x = told (pos r) refl d s holds in
          (x.0, x.1 ∙ ap (λ n. with_client (with_client s (spoke h.moment c)) (record (spoke h.moment c) { ready = n })) (by r ∙ sym (by (count_of count))), x.2)
    ]

-- what IDENTIFY said is at hand
some_mapped : {X Y : Type 0} (f : X → Y) (found : Option X) → is_some (option_map f found) ≡ is_some found
some_mapped f None = refl
some_mapped f (Some x) = refl

identified_some : (o : Options) (i : Option identify.Identity) → is_error (Some (identified o i)) ≡ false → is_some i ≡ true
identified_some o None e = absurd (false≢true (sym e))
identified_some o (Some i) e = refl

pub identify_said : (h : Hall) (k : ℕ) (body : List ℕ) (found : Option Identity) (a : IsAccepted h k (command.Identify body)) → SaysOf h.options body found → is_some found ≡ true
identify_said h k body found a says =
    sym (some_mapped said found) ∙ ap is_some says.value
    ∙ identified_some h.options (identity_of h.options body) (passed (is_fresh a.client.phase) (identified h.options (identity_of h.options body)) wrong_state refl a.accepted).1

pub none_said : (h : Hall) (k : ℕ) (body : List ℕ) (found : Option Identity) (a : IsAccepted h k (command.Identify body)) → SaysOf h.options body found → found ≡ None → ⊥
none_said h k body found a says none = false≢true (sym (ap is_some none) ∙ identify_said h k body found a says)

pub says_value : (o : Options) (body : List ℕ) (found : Option Identity) (i : Identity) → SaysOf o body found → found ≡ Some i → identity_of o body ≡ Some (said i)
says_value o body found i says is = sym says.value ∙ ap (option_map said) is

pub says_timely : (o : Options) (body : List ℕ) (found : Option Identity) (i : Identity) → SaysOf o body found → found ≡ Some i → IsTimely o i
says_timely o body found i says is = subst (λ (x : Option Identity). IfSome x (IsTimely o)) is says.timely

-- no body is longer than any options allow
size_short : (most : ℕ) → most ≤ 16777216 → (body : List ℕ) → IsSize most (length body) → length body ≤ 16777216
size_short most le body size = let within = size.within in omega (arith, le, within)

pub pub_short : (topic body : List ℕ) → IsWhole (command.Pub topic body) → All (λ (b : List ℕ). length b ≤ 16777216) (body ∷ [])
pub_short topic body w = All-from_recursion (λ (b : List ℕ). length b ≤ 16777216) (body ∷ []) (size_short w.limits.msg w.allowed.message body w.spells.within, tt)

pub dpub_short : (topic : List ℕ) (delay : ℤ) (body : List ℕ) → IsWhole (command.Dpub topic delay body) → All (λ (b : List ℕ). length b ≤ 16777216) (body ∷ [])
dpub_short topic delay body w = All-from_recursion (λ (b : List ℕ). length b ≤ 16777216) (body ∷ []) (size_short w.limits.msg w.allowed.message body w.spells.within, tt)

pub mpub_short : (topic : List ℕ) (bodies : List (List ℕ)) → IsWhole (command.Mpub topic bodies) → All (λ (b : List ℕ). length b ≤ 16777216) bodies
mpub_short topic bodies w =
    All-weaker (λ (b : List ℕ). IsSize w.limits.msg (length b)) (λ (b : List ℕ). length b ≤ 16777216) (size_short w.limits.msg w.allowed.message) bodies
    (All-from_recursion (λ (b : List ℕ). IsSize w.limits.msg (length b)) bodies w.spells.within.1)

pub asked_short : (bodies : List (List ℕ)) → AllByRecursion IsAllowedBody bodies → All (λ (b : List ℕ). length b ≤ 16777216) bodies
asked_short bodies all = All-from_recursion (λ (b : List ℕ). length b ≤ 16777216) bodies all
