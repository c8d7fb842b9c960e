-- How endings of a part of a round are those of the whole.
use Rattle.std.proofs.Common.{◌≡◌, ℕ, ◌≤◌, Bool, sym, ap, subst, ◌∙◌, arith, List, Option, Some, None, unwrap_or, Result, Ok, Err}
use Rattle.nsq_core.specs.declared.memory.Memory.{Memory as NoMemory}
use Rattle.v2_frame.specs.declared.command.Command.{Command}
use Rattle.v2_frame.specs.declared.got.Got.TheVariants as got
use Rattle.v2_frame.specs.Reading.{Reading, Gives, IsFed}
use Rattle.v2_frame.proofs.ReadLemmas.{fed_limits, given_limits}
use Rattle.broker_history.specs.declared.ended.Ended.{Ended}
use Rattle.broker_history.specs.declared.ended.Ended.TheVariants.{EndOfInput, Closed, ReadFault, WriteFault, Memory}
use Rattle.broker_history.specs.Calls.{AreAllowed, IsWhole}
use Rattle.daemon_callers.specs.Outputs.{HasOutCause}
use Rattle.daemon_callers.specs.Sessions.{HasCause, HasRoundCause}

-- a command that a reader gives can be asked of a desk
pub command_can : (first old new : Reading) (command : Command) → Gives old new (got.Whole command) → old.limits ≡ first.limits → AreAllowed first.limits → IsWhole command
command_can first old new command gives same allowed =
    let taken = gives.next in
    let begun : gives.begun.limits ≡ first.limits = sym taken.limits ∙ given_limits old new (got.Whole command) gives ∙ same in
    record { limits = gives.begun.limits; allowed = subst AreAllowed (sym begun) allowed; bytes = taken.begins.front; spells = taken.begins.spells }

-- a piece leaves the limits
pub fed_keeps : (old : Reading) (piece : List ℕ) (result : Result (Unit {0}) NoMemory) (new : Reading) → IsFed old piece result new → new.limits ≡ old.limits
fed_keeps old piece (Ok x) new is = ap (λ (r : Reading). r.limits) is ∙ fed_limits old piece
fed_keeps old piece (Err x) new is = ap (λ (r : Reading). r.limits) is

-- what had its cause since a later count had it since an earlier one
pub cause_since : (result : Option Ended) (before between now : ℕ) → before ≤ between → HasOutCause result between now → HasOutCause result before now
cause_since (Some WriteFault) before between now more rose = omega (arith, more, rose)
cause_since (Some EndOfInput) before between now more bad = absurd bad
cause_since (Some ReadFault) before between now more bad = absurd bad
cause_since (Some Closed) before between now more c = tt
cause_since (Some Memory) before between now more c = tt
cause_since None before between now more c = tt

-- a connection that is closed otherwise has the cause that it had
pub cause_or_closed : (result : Option Ended) (ended : Ended) (before now : ℕ) → ended ≡ unwrap_or result Closed → HasOutCause result before now → HasOutCause (Some ended) before now
cause_or_closed (Some other) ended before now is c = subst (λ x. HasOutCause (Some x) before now) (sym is) c
cause_or_closed None ended before now is c = subst (λ x. HasOutCause (Some x) before now) (sym is) tt

-- want of memory needs no cause of a connection's
pub memory_cause : (ended : Ended) (before now : ℕ) → ended ≡ Memory → HasOutCause (Some ended) before now
memory_cause ended before now is = subst (λ x. HasOutCause (Some x) before now) (sym is) tt

-- the cause of an ending that came with writing, in the words of a round
pub round_cause : (result : Option Ended) (at_end : Bool) (r r' before between now : ℕ) → before ≤ between → HasOutCause result between now → HasRoundCause result at_end r r' before now
round_cause (Some WriteFault) at_end r r' before between now more rose = omega (arith, more, rose)
round_cause (Some EndOfInput) at_end r r' before between now more bad = absurd bad
round_cause (Some ReadFault) at_end r r' before between now more bad = absurd bad
round_cause (Some Closed) at_end r r' before between now more c = tt
round_cause (Some Memory) at_end r r' before between now more c = tt
round_cause None at_end r r' before between now more c = tt

-- the cause of an ending since earlier counts
pub cause_from : (ended : Ended) (at_end : Bool) (r0 r r' w0 w w' : ℕ) → r0 ≤ r → w0 ≤ w → HasCause ended at_end r r' w w' → HasCause ended at_end r0 r' w0 w'
cause_from EndOfInput at_end r0 r r' w0 w w' reads writes c = c
cause_from Closed at_end r0 r r' w0 w w' reads writes c = tt
cause_from ReadFault at_end r0 r r' w0 w w' reads writes c = omega (arith, reads, c)
cause_from WriteFault at_end r0 r r' w0 w w' reads writes c = omega (arith, writes, c)
cause_from Memory at_end r0 r r' w0 w w' reads writes c = tt

-- want of memory has its cause anywhere
pub memory_has : (ended : Ended) (at_end : Bool) (r r' w w' : ℕ) → ended ≡ Memory → HasCause ended at_end r r' w w'
memory_has ended at_end r r' w w' is = subst (λ x. HasCause x at_end r r' w w') (sym is) tt
