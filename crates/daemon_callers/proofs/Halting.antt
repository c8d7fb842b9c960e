-- No conversation has a Stop, and what a turn for the Stop adds.
use Rattle.std.proofs.Common.{◌≡◌, inl, inr, ℕ, List, [], ◌∷◌, ◌++◌, Bool, true, false, Option, refl, sym, ◌∙◌, ap, subst, arith}
use Rattle.std.specs.Prelude.{◌⊎◌}
use Rattle.std.proofs.lemmas.Bool.{false≢true}
use Rattle.nsq_outside.specs.declared.journal.End.{End}
use Rattle.v2_frame.specs.declared.fault.Limits.{Limits}
use Rattle.v2_frame.specs.declared.frame.Frame.{Frame}
use Rattle.broker_history.specs.declared.entry.Act.{Act}
use Rattle.broker_history.specs.declared.entry.Act.TheVariants.{Stop}
use Rattle.broker_history.specs.declared.ended.Ended.{Ended}
use Rattle.broker_history.specs.declared.ended.Ended.TheVariants as ended
use Rattle.broker_history.specs.declared.entry.Entry.{Entry}
use Rattle.broker_history.specs.Entries.{History, has_stop, is_stop, own, stops_of}
use Rattle.broker_history.specs.Talk.{Going, Round, Sending, Reading, Doing, began, sent, rested, spent, nothing, read, greet, did, done, ClosesBy, ClosesDoing, ClosesSending, IsClosed, IsOpen, IsRest, IsSending, IsTalk, Leaves, Reaches, WithGone, place_of}
use Rattle.broker_history.specs.Answers.{Adds, Joins, StopsSeen}
use Rattle.broker_history.specs.declared.call.Call.TheVariants as call
use Rattle.broker_history.specs.declared.turned.Turned.{Turned}
use Rattle.broker_history.specs.declared.turned.Turned.TheVariants as turned
use Rattle.daemon_callers.specs.Stops.{says_stopping, AddsStop}
use Rattle.daemon_callers.specs.Served.{Views, IsServedTcp}
use Rattle.daemon_callers.proofs.Others.{stops-append}

one_none : (e : Entry × End) → is_stop e.0.act ≡ false → stops_of (e ∷ []) ≡ 0
one_none e f = rw f refl

no_more : (h : History) (e : Entry × End) → stops_of h ≡ 0 → is_stop e.0.act ≡ false → stops_of (h ++ e ∷ []) ≡ 0
no_more h e a f = let both = stops-append h (e ∷ []) in let one = one_none e f in omega (arith, both, a, one)

sends_no_stop : (a : Act) → IsSending a → is_stop a ≡ false
sends_no_stop Stop s = absurd s
sends_no_stop a s = refl

rests_no_stop : (a : Act) → IsRest a → is_stop a ≡ false
rests_no_stop Stop s = absurd s
rests_no_stop a s = refl

-- a conversation that goes on has no Stop
going_no_stop : {limits : Limits} {pieces : List (List ℕ)} {h : History} {greeted : Bool} {pending : List ℕ} {round : Round} → Going limits pieces h greeted pending round → stops_of h ≡ 0
going_no_stop (began e is) = one_none e (ap is_stop is)
going_no_stop (sent {h = h} e g few sends) = no_more h e (going_no_stop g) (sends_no_stop e.0.act sends)
going_no_stop (rested {h = h} e g few rests) = no_more h e (going_no_stop g) (rests_no_stop e.0.act rests)
going_no_stop (spent g most) = going_no_stop g
going_no_stop (nothing g) = going_no_stop g
going_no_stop (read piece g some short) = going_no_stop g
going_no_stop (greet g magic) = going_no_stop g
going_no_stop (did {h = h} e g begins is goes) = no_more h e (going_no_stop g) (ap is_stop is.1)
going_no_stop (done g more) = going_no_stop g

closes_doing : (limits : Limits) (place : ℕ) (greeted : Bool) (pending : List ℕ) (act : Act) (answer : Option Frame) → ClosesDoing limits place greeted pending act answer → is_stop act ≡ false
closes_doing limits place greeted pending Stop answer c = absurd c
closes_doing limits place greeted pending act answer c = refl

closes_sending : (k : ℕ) (act : Act) → ClosesSending k act → is_stop act ≡ false
closes_sending k Stop c = absurd c
closes_sending k act c = refl

closes_no_stop : (limits : Limits) (place : ℕ) (greeted : Bool) (pending : List ℕ) (round : Round) (act : Act) (answer : Option Frame) → ClosesBy limits place greeted pending round act answer → is_stop act ≡ false
closes_no_stop limits place greeted pending (Sending k) act answer c = closes_sending k act c
closes_no_stop limits place greeted pending Reading act answer c = absurd c
closes_no_stop limits place greeted pending Doing act answer c = closes_doing limits place greeted pending act answer c

closed_no_stop : (limits : Limits) (pieces : List (List ℕ)) (h : History) → IsClosed limits pieces h → stops_of h ≡ 0
closed_no_stop limits pieces h c =
    ap stops_of c.whole ∙ no_more c.before c.last (going_no_stop c.going) (closes_no_stop limits (place_of pieces c.pending) c.greeted c.pending c.round c.last.0.act _ c.closes_by)

either_no_stop : (limits : Limits) (pieces : List (List ℕ)) (h : History) → IsClosed limits pieces h ⊎ IsOpen limits pieces h → stops_of h ≡ 0
either_no_stop limits pieces h (inl c) = closed_no_stop limits pieces h c
either_no_stop limits pieces h (inr o) = going_no_stop o.going

stopped_no_stop : (limits : Limits) (stopped : Bool) (pieces : List (List ℕ)) (h : History) → IsClosed limits pieces h ⊎ (IsOpen limits pieces h × (stopped ≡ true)) → stops_of h ≡ 0
stopped_no_stop limits stopped pieces h (inl c) = closed_no_stop limits pieces h c
stopped_no_stop limits stopped pieces h (inr o) = going_no_stop o.0.going

reached_no_stop : (e : Ended) (limits : Limits) (stopped : Bool) (pieces : List (List ℕ)) (h : History) → Reaches e limits stopped pieces h → stops_of h ≡ 0
reached_no_stop ended.EndOfInput limits stopped pieces h r = going_no_stop r.going
reached_no_stop ended.Closed limits stopped pieces h r = stopped_no_stop limits stopped pieces h r
reached_no_stop ended.ReadFault limits stopped pieces h r = going_no_stop r.going
reached_no_stop ended.WriteFault limits stopped pieces h r = either_no_stop limits pieces h r
reached_no_stop ended.Memory limits stopped pieces h r = either_no_stop limits pieces h r

with_gone : (h own : History) → WithGone h own → stops_of h ≡ 0 → stops_of own ≡ 0
with_gone h own w n = ap stops_of w.whole ∙ no_more h w.gone n (ap is_stop w.is_gone)

may_have_gone : (wanted : ℕ) (P : Type 0) (h own : History) → WithGone h own ⊎ ((own ≡ h) × P) → stops_of h ≡ 0 → stops_of own ≡ 0
may_have_gone wanted P h own (inl w) n = with_gone h own w n
may_have_gone wanted P h own (inr e) n = ap stops_of e.0 ∙ n

left_no_stop : (e : Ended) (wanted : ℕ) (h own : History) → Leaves e wanted h own → stops_of h ≡ 0 → stops_of own ≡ 0
left_no_stop ended.Closed wanted h own l n = with_gone h own l n
left_no_stop ended.EndOfInput wanted h own l n = may_have_gone wanted _ h own l n
left_no_stop ended.ReadFault wanted h own l n = may_have_gone wanted _ h own l n
left_no_stop ended.WriteFault wanted h own l n = may_have_gone wanted _ h own l n
left_no_stop ended.Memory wanted h own l n = may_have_gone wanted _ h own l n

talk_no_stop : (limits : Limits) (stopped : Bool) (wanted : ℕ) (pieces : List (List ℕ)) (own : History) (out : List ℕ) (e : Ended) → IsTalk limits stopped wanted pieces own out e → stops_of own ≡ 0
talk_no_stop limits stopped wanted pieces own out e (inl t) = left_no_stop e wanted t.entries own t.leaves (reached_no_stop e limits stopped pieces t.entries t.reached)
talk_no_stop limits stopped wanted pieces own out e (inr t) = ap stops_of t.no_own

-- a caller of the TCP protocol that was served has none
pub served_no_stop : {K : Type 0} (seen : Views K) (limits : Limits) (h : History) (n : ℕ) (bytes : List ℕ) (conn : K) → IsServedTcp seen limits h n bytes conn → stops_of (own n h) ≡ 0
served_no_stop seen limits h n bytes conn s = talk_no_stop limits _ s.talks.wanted (seen.pieces conn) (own n h) (seen.written conn) s.ended s.talks.talk

-- what a turn for the Stop adds
pub adds_stop : (own own' : History) (t : Turned) (b : Bool) → b ≡ says_stopping t → Adds 0 own own' call.Stop t → AddsStop own own' b
adds_stop own own' t b e a = go t b e a
  where
    joined : (t : Turned) → says_stopping t ≡ false → Joins 0 own own' call.Stop t → ⊥
    joined turned.Stopping fails_so j = absurd (false≢true (sym fails_so))
    joined t fails_so j = absurd j.answers

    go : (t : Turned) (b : Bool) → b ≡ says_stopping t → Adds 0 own own' call.Stop t → AddsStop own own' b
    go turned.Stopping b e (inl a) = subst (λ x. AddsStop own own' x) (sym e) (inl a.0)
    go turned.Stopping b e (inr j) = subst (λ x. AddsStop own own' x) (sym e) (inr j)
    go t b e (inl a) = by_no b a.0
      where
        by_no : (b : Bool) → own' ≡ own → AddsStop own own' b
        by_no true same = inl same
        by_no false same = same
    go t true e (inr j) = absurd j.answers
    go t false e (inr j) = absurd (joined t (sym e) j)

pub stop_seen : (seen : History) (t : Turned) (b : Bool) → b ≡ says_stopping t → StopsSeen seen t → b ≡ true → has_stop seen ≡ true
stop_seen seen turned.Stopping b e s is = s
stop_seen seen t b e s is = absurd (false≢true (sym e ∙ is))

-- two turns, of which the first didn't stop
pub adds_then : (a b c : History) (first second : Bool) → first ≡ false → AddsStop a b first → AddsStop b c second → AddsStop a c second
adds_then a b c first second is p q = subst (λ x. AddsStop x c second) (subst (λ x. AddsStop a b x) is p) q
