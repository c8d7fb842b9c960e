-- What a reader's answers leave of its limits and of what is pending.
use Rattle.std.proofs.Common.{◌≡◌, ℕ, ◌<◌, ◌≤◌, List, ◌∷◌, length, refl, ap, ◌∙◌, arith, length-append, inl, inr}
use Rattle.v2_frame.specs.declared.command.Command.{Command}
use Rattle.v2_frame.specs.declared.fault.Limits.{Limits}
use Rattle.v2_frame.specs.declared.got.Got.{Got}
use Rattle.v2_frame.specs.declared.got.Got.TheVariants as got
use Rattle.v2_frame.specs.declared.got.Stage.{Stage}
use Rattle.v2_frame.specs.declared.got.Stage.TheVariants.{Opening, Commands, Failed}
use Rattle.v2_frame.specs.Command.{bytes_behind}
use Rattle.v2_frame.specs.Script.{magic}
use Rattle.v2_frame.specs.Reading.{Reading, fed, Starts, Gives, GivesNext}

pub starts_limits : (old new : Reading) → Starts old new → new.limits ≡ old.limits
starts_limits old new (inl e) = ap (λ (x : Reading). x.limits) e
starts_limits old new (inr m) = m.limits

fed_limits_at : (stage : Stage) (limits : Limits) (place : ℕ) (pending piece : List ℕ) → (fed stage (record { limits = limits; stage = stage; place = place; pending = pending }) piece).limits ≡ limits
fed_limits_at Opening limits place pending piece = refl
fed_limits_at Commands limits place pending piece = refl
fed_limits_at (Failed fault) limits place pending piece = refl

-- the limits stay
pub fed_limits : (reader : Reading) (piece : List ℕ) → (fed reader.stage reader piece).limits ≡ reader.limits
fed_limits reader piece = fed_limits_at reader.stage reader.limits reader.place reader.pending piece

next_limits : (old new : Reading) (answer : Got) → GivesNext old new answer → new.limits ≡ old.limits
next_limits old new (got.Whole command) t = t.limits
next_limits old new got.More t = ap (λ (x : Reading). x.limits) t.1
next_limits old new (got.Fault fault) t = t.limits
next_limits old new got.Memory t = ap (λ (x : Reading). x.limits) t.2

pub given_limits : (old new : Reading) (answer : Got) → Gives old new answer → new.limits ≡ old.limits
given_limits old new answer g = next_limits g.begun new answer g.next ∙ starts_limits old g.begun g.starts

starts_less : (old new : Reading) → Starts old new → length new.pending ≤ length old.pending
starts_less old new (inl e) = omega (arith, ap (λ (x : Reading). length x.pending) e)
starts_less old new (inr m) = omega (arith, ap length m.whole, length-append magic new.pending)

-- a command takes one byte at least
pub given_less : (old new : Reading) (command : Command) → Gives old new (got.Whole command) → length new.pending < length old.pending
given_less old new command g =
    let front = g.next.begins.front in
    let line = g.next.begins.spells.line in
    omega (arith, starts_less old g.begun g.starts, ap length g.next.begins.whole, length-append front new.pending, ap length g.next.begins.spells.whole, length-append line (10 ∷ bytes_behind command))
