-- Where a caller is for whose going memory was wanting for the first time.
use Rattle.std.proofs.Common.{ℕ, ◌<◌, [], inl, inr, refl, subst, sym, append-nil}
use Rattle.nsq_outside.specs.Causes.{CountsFault}
use Rattle.broker_history.specs.Entries.{History}
use Rattle.broker_history.specs.Answers.{Adds, AddsNothing, Grows, IsAnswerTo, stays_for_memory}
use Rattle.broker_history.specs.Calls.{IsHere, MayCall}
use Rattle.broker_history.specs.declared.call.Call.{Call}
use Rattle.broker_history.specs.declared.call.Call.TheVariants as call
use Rattle.broker_history.specs.declared.turned.Turned.{Turned}
use Rattle.broker_history.specs.declared.turned.Turned.TheVariants as turned

-- where a turn is the first for whose going memory was wanting, its connection is still there
pub stays_behind : (number : ℕ) (own own' : History) (c : Call) (t : Turned) (wanted wanted' : ℕ) → (0 < wanted → ⊥) → MayCall number own c → Adds number own own' c t → CountsFault wanted wanted' (stays_for_memory c t) → 0 < wanted' → IsHere own'
stays_behind number own own' call.Gone turned.Memory wanted wanted' none may (inl a) counts some = subst IsHere (sym a.0) may
stays_behind number own own' call.Gone turned.Memory wanted wanted' none may (inr j) counts some = absurd j.answers
stays_behind number own own' call.Gone t wanted wanted' none may adds counts some = absurd (none (subst (λ (n : ℕ). 0 < n) counts some))
stays_behind number own own' c t wanted wanted' none may adds counts some = absurd (none (subst (λ (n : ℕ). 0 < n) counts some))

-- a turn that wants memory adds nothing, whatever its call is
nothing_added : (c : Call) → AddsNothing c turned.Memory
nothing_added call.Tick = tt
nothing_added c = tt

pub memory_adds : (number : ℕ) (own : History) (c : Call) → Adds number own own c turned.Memory
memory_adds number own c = inl (refl, nothing_added c)

-- and may be answered so
pub memory_answers : (c : Call) → IsAnswerTo c turned.Memory
memory_answers call.Begin = tt
memory_answers c = tt

-- a history grows by nothing
pub grows_none : (h : History) → Grows h h
grows_none h = record { added = []; whole = sym (append-nil h) }
