-- A connection that ends by want of memory was told so.
use Rattle.std.proofs.Common.{◌≡◌, ℕ, ◌≤◌, ◌<◌, Bool, true, false, List, refl, sym, subst, inl, inr, arith, Option, Some, None, unwrap_or}
use Rattle.nsq_outside.specs.Causes.{Rose}
use Rattle.broker_history.specs.declared.ended.Ended.{Ended}
use Rattle.broker_history.specs.declared.ended.Ended.TheVariants.{EndOfInput, Closed, ReadFault, WriteFault, Memory}
use Rattle.broker_history.specs.Answers.{stays_for_memory}
use Rattle.broker_history.specs.declared.call.Call.TheVariants as call
use Rattle.broker_history.specs.declared.turned.Turned.{Turned}
use Rattle.broker_history.specs.declared.turned.Turned.TheVariants as turned
use Rattle.daemon_callers.specs.Outputs.{memory_bytes, WritesAll, Warns}
use Rattle.daemon_callers.specs.Sessions.{EndsAfter, IsWarned}

-- the frame was written, or a write failed
pub warned_all : (written written' : List ℕ) (all : Bool) (before now : ℕ) → WritesAll memory_bytes written written' all → (all ≡ false → Rose before now) → Warns (Some Memory) written' before now
warned_all written written' true before now w rose = inl (record { front = written; whole = w })
warned_all written written' false before now w rose = inr (rose refl)

-- what was so since a later count was so since an earlier one
pub warned_since : (result : Option Ended) (written : List ℕ) (before between now : ℕ) → before ≤ between → Warns result written between now → Warns result written before now
warned_since (Some Memory) written before between now more (inl last) = inl last
warned_since (Some Memory) written before between now more (inr rose) = inr (omega (arith, more, rose))
warned_since (Some EndOfInput) written before between now more w = tt
warned_since (Some Closed) written before between now more w = tt
warned_since (Some ReadFault) written before between now more w = tt
warned_since (Some WriteFault) written before between now more w = tt
warned_since None written before between now more w = tt

-- a connection that is closed otherwise was told so
pub warned_or_closed : (result : Option Ended) (ended : Ended) (written : List ℕ) (before now : ℕ) → ended ≡ unwrap_or result Closed → Warns result written before now → Warns (Some ended) written before now
warned_or_closed (Some other) ended written before now is w = subst (λ x. Warns (Some x) written before now) (sym is) w
warned_or_closed None ended written before now is w = subst (λ x. Warns (Some x) written before now) (sym is) tt

-- in the words of a whole conversation
pub warned_whole : (ended : Ended) (written : List ℕ) (before now wanted : ℕ) → Warns (Some ended) written before now → IsWarned ended written before now wanted
warned_whole Memory written before now wanted w = inl w
warned_whole EndOfInput written before now wanted w = tt
warned_whole Closed written before now wanted w = tt
warned_whole ReadFault written before now wanted w = tt
warned_whole WriteFault written before now wanted w = tt

-- whatever its going was answered
pub warned_after : (ended : Ended) (said : Turned) (last : Ended) (written : List ℕ) (before now wanted : ℕ) → EndsAfter ended said last → Warns (Some ended) written before now → (stays_for_memory call.Gone said ≡ true → 0 < wanted)
    → IsWarned last written before now wanted
warned_after Closed turned.Memory last written before now wanted l w some = subst (λ x. IsWarned x written before now wanted) (sym l) (inr (some refl))
warned_after ended said last written before now wanted l w some = subst (λ x. IsWarned x written before now wanted) (sym l) (warned_whole ended written before now wanted w)
