-- A conversation that is over, and its Gone.
use Rattle.std.proofs.Common.{◌≡◌, ◌≢◌, ◌⊎◌, ℕ, ◌+◌, ◌-◌, ◌^◌, ◌<◌, min, Bool, true, false, if◌then◌else◌, List, [], refl, sym, ap, subst, ◌∙◌, inl, inr, arith, nat_le, le_refl}
use Rattle.std.proofs.lemmas.Bool.{le-leb}
use Rattle.std.proofs.lemmas.List.{append-nil}
use Rattle.nsq_outside.specs.Causes.{CountsFault}
use Rattle.v2_frame.specs.declared.fault.Limits.{Limits}
use Rattle.broker_history.specs.declared.ended.Ended.{Ended}
use Rattle.broker_history.specs.declared.ended.Ended.TheVariants.{EndOfInput, Closed, ReadFault, WriteFault, Memory}
use Rattle.broker_history.specs.Entries.{History, own, has_stop}
use Rattle.broker_history.specs.Reply.{frames}
use Rattle.broker_history.specs.Talk.{WithGone, IsOpen, IsClosed, IsGivenUp, Reaches, Leaves, IsTalk, IsTalkIn, stops_before_gone}
use Rattle.broker_history.specs.Calls.{IsHere}
use Rattle.broker_history.specs.Answers.{Grows, Adds, stays_for_memory}
use Rattle.broker_history.specs.declared.call.Call.TheVariants as call
use Rattle.broker_history.specs.declared.turned.Turned.{Turned}
use Rattle.broker_history.specs.declared.turned.Turned.TheVariants as turned
use Rattle.daemon_callers.specs.Outputs.{memory_bytes, WritesFirst}
use Rattle.daemon_callers.specs.Sessions.{IsOver, HasCause, EndsAfter, rises}
use Rattle.daemon_callers.proofs.Owning.{stopped_before}
use Rattle.daemon_callers.proofs.Talking.{given_up}
use Rattle.daemon_callers.proofs.Turning.{joined, unchanged, refuted}

-- memory was wanting before the conversation began
pub never_begins : (limits : Limits) (stopped : Bool) (wanted : ℕ) (pieces later : List (List ℕ)) (h h' : History) (out out' : List ℕ) (ended : Ended) → pieces ≡ [] → h ≡ [] → out ≡ [] → later ≡ pieces → h' ≡ h → WritesFirst memory_bytes out out'
    → ended ≡ Memory → IsTalk limits stopped wanted later h' out' ended
never_begins limits stopped wanted pieces later h h' out out' ended p n o l s w m = inr (record { memory = m; no_pieces = l ∙ p; no_own = s ∙ n; given_up = given_up [] out out' o w })

-- an ending stays where the Gone was noted
ends_after : (ended last : Ended) → EndsAfter ended turned.Ended last → last ≡ ended
ends_after EndOfInput last l = l
ends_after ReadFault last l = l
ends_after WriteFault last l = l
ends_after Memory last l = l
ends_after Closed last l = l

-- and has the cause that it had
pub after_cause : (ended : Ended) (said : Turned) (last : Ended) (at_end : Bool) (r r' w w' : ℕ) → EndsAfter ended said last → HasCause ended at_end r r' w w' → HasCause last at_end r r' w w'
after_cause Closed turned.Memory last e r r' w w' l c = subst (λ x. HasCause x e r r' w w') (sym l) tt
after_cause ended said last e r r' w w' l c = subst (λ x. HasCause x e r r' w w') (sym l) c

-- a Stop that was seen while the conversation went on stands before its Gone
reached_after : (ended : Ended) (limits : Limits) (stopped stopped' : Bool) (pieces : List (List ℕ)) (h : History) → (stopped ≡ true → stopped' ≡ true) → Reaches ended limits stopped pieces h → Reaches ended limits stopped' pieces h
reached_after Closed limits stopped stopped' pieces h later (inl closed) = inl closed
reached_after Closed limits stopped stopped' pieces h later (inr so) = inr (so.0, later so.1)
reached_after EndOfInput limits stopped stopped' pieces h later r = r
reached_after ReadFault limits stopped stopped' pieces h later r = r
reached_after WriteFault limits stopped stopped' pieces h later r = r
reached_after Memory limits stopped stopped' pieces h later r = r

leaves_gone : (ended : Ended) (wanted : ℕ) (h h' : History) → WithGone h h' → Leaves ended wanted h h'
leaves_gone Closed wanted h h' w = w
leaves_gone EndOfInput wanted h h' w = inl w
leaves_gone ReadFault wanted h h' w = inl w
leaves_gone WriteFault wanted h h' w = inl w
leaves_gone Memory wanted h h' w = inl w

one_of_two : (b : Bool) → b ≡ true → 0 < (if b then 1 else 0)
one_of_two true e = omega arith
one_of_two false e = cc

-- a count that was raised rises
rises_some : (before between now : ℕ) → between ≡ before → CountsFault between now true → 0 < rises before now
rises_some before between now same counted =
    let full : now ≡ min (before + 1) (2 ^ 64 - 1) = counted ∙ ap (λ x. min (x + 1) (2 ^ 64 - 1)) same in
    let most : nat_le (min (before + 1) (2 ^ 64 - 1)) (min (before + 1) (2 ^ 64 - 1)) ≡ true = le-leb (min (before + 1) (2 ^ 64 - 1)) (min (before + 1) (2 ^ 64 - 1)) (le_refl (min (before + 1) (2 ^ 64 - 1))) in
    one_of_two (nat_le (min (before + 1) (2 ^ 64 - 1)) now) (ap (λ x. nat_le (min (before + 1) (2 ^ 64 - 1)) x) full ∙ most)

module _ (limits : Limits) (number : ℕ) (seen seen' : History) (pieces : List (List ℕ)) (out : List ℕ) (here : IsHere (own number seen)) (grows : Grows seen seen') (wanted : ℕ) where
  -- a conversation that is over, and its Gone
  gone_talk : (ended : Ended) → IsOver limits (has_stop seen) pieces (own number seen) out ended → WithGone (own number seen) (own number seen') → IsTalkIn limits number seen' wanted pieces out ended
  gone_talk ended o w = inl (record {
    entries = own number seen;
    reached = reached_after ended limits (has_stop seen) (stops_before_gone number seen') pieces (own number seen) (λ s. stopped_before number seen seen' s here grows w) o.reached;
    leaves = leaves_gone ended wanted (own number seen) (own number seen') w;
    written = o.written;
  })

  none_given_up : out ≡ frames (own number seen) → IsGivenUp (own number seen) out
  none_given_up all = given_up (own number seen) out out all (0, sym (append-nil out))

  -- a conversation that was closed, whose Gone wanted memory, ended by that
  stayed_closed : IsClosed limits pieces (own number seen) ⊎ (IsOpen limits pieces (own number seen) × (has_stop seen ≡ true)) → out ≡ frames (own number seen) → own number seen' ≡ own number seen → 0 < wanted
      → IsTalkIn limits number seen' wanted pieces out Memory
  stayed_closed (inl closed) all same some = inl (record { entries = own number seen; reached = inl closed; leaves = inr (same, some); written = none_given_up all })
  stayed_closed (inr so) all same some = inl (record { entries = own number seen; reached = inr so.0; leaves = inr (same, some); written = none_given_up all })

  -- a conversation that is over, whose Gone wanted memory
  stayed_talk : (ended last : Ended) → IsOver limits (has_stop seen) pieces (own number seen) out ended → own number seen' ≡ own number seen → 0 < wanted → EndsAfter ended turned.Memory last → IsTalkIn limits number seen' wanted pieces out last
  stayed_talk Closed last o same some l = subst (λ x. IsTalkIn limits number seen' wanted pieces out x) (sym l) (stayed_closed o.reached o.written same some)
  stayed_talk EndOfInput last o same some l =
      subst (λ x. IsTalkIn limits number seen' wanted pieces out x) (sym l) (inl (record { entries = own number seen; reached = o.reached; leaves = inr (same, some); written = o.written }))
  stayed_talk ReadFault last o same some l =
      subst (λ x. IsTalkIn limits number seen' wanted pieces out x) (sym l) (inl (record { entries = own number seen; reached = o.reached; leaves = inr (same, some); written = o.written }))
  stayed_talk WriteFault last o same some l =
      subst (λ x. IsTalkIn limits number seen' wanted pieces out x) (sym l) (inl (record { entries = own number seen; reached = o.reached; leaves = inr (same, some); written = o.written }))
  stayed_talk Memory last o same some l =
      subst (λ x. IsTalkIn limits number seen' wanted pieces out x) (sym l) (inl (record { entries = own number seen; reached = o.reached; leaves = inr (same, some); written = o.written }))

  -- what the answer to its going does
  pub over_talk : (said : Turned) (ended last : Ended) → IsOver limits (has_stop seen) pieces (own number seen) out ended → Adds number (own number seen) (own number seen') call.Gone said → said ≢ turned.Strange
      → (stays_for_memory call.Gone said ≡ true → 0 < wanted) → EndsAfter ended said last → IsTalkIn limits number seen' wanted pieces out last
  over_talk turned.Ended ended last o a k some l =
      let j = joined a (λ x. x) in
      subst (λ x. IsTalkIn limits number seen' wanted pieces out x) (sym (ends_after ended last l)) (gone_talk ended o (record { gone = j.entry; is_gone = j.answers; whole = j.whole }))
  over_talk turned.Memory ended last o a k some l = stayed_talk ended last o (unchanged a (λ e x. x)) (some refl) l
  over_talk turned.Strange ended last o a k some l = absurd (k refl)
  over_talk turned.Begun ended last o a k some l = refuted a (λ x. x) (λ e x. x)
  over_talk (turned.Reply frame closing) ended last o a k some l = refuted a (λ x. x) (λ e x. x)
  over_talk turned.Quiet ended last o a k some l = refuted a (λ x. x) (λ e x. x)
  over_talk turned.Deleted ended last o a k some l = refuted a (λ x. x) (λ e x. x)
  over_talk turned.Stopping ended last o a k some l = refuted a (λ x. x) (λ e x. x)
  over_talk (turned.Send frame) ended last o a k some l = refuted a (λ x. x) (λ e x. x)
  over_talk turned.Idle ended last o a k some l = refuted a (λ x. x) (λ e x. x)
  over_talk turned.Silent ended last o a k some l = refuted a (λ x. x) (λ e x. x)
  over_talk (turned.Said told) ended last o a k some l = refuted a (λ x. x) (λ e x. x)
  over_talk (turned.Listed names at) ended last o a k some l = refuted a (λ x. x) (λ e x. x)

-- where the going wanted memory, the count rose
pub some_wanted : (before between now : ℕ) (said : Turned) → between ≡ before → CountsFault between now (stays_for_memory call.Gone said) → stays_for_memory call.Gone said ≡ true → 0 < rises before now
some_wanted before between now said same counted is = rises_some before between now same (subst (λ b. CountsFault between now b) is counted)
