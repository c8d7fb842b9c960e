-- A client's phase as the definitions have it, and ranges of numbers that a client gives.
use Rattle.std.specs.Prelude.{ℕ, ◌*◌, ℤ, pos, negsuc, Bool, false, nat_le}
use Rattle.nsq_base.specs.Time.{millisecond}
use Rattle.broker_history.specs.State as state
use Rattle.broker_state.specs.declared.phase.Phase.{Phase}
use Rattle.broker_state.specs.declared.phase.Phase.TheVariants.{Fresh, Subscribed, Closing, Lost}

abbrev pub phase_of : Phase → state.Phase
phase_of Fresh = state.Fresh
phase_of Subscribed = state.Subscribed
phase_of Closing = state.Closing
phase_of Lost = state.Lost

-- whether so many milliseconds are 0 to this span
abbrev pub is_span_to : (most : ℕ) → ℤ → Bool
is_span_to most (pos ms) = nat_le (ms * millisecond) most
is_span_to most (negsuc k) = false

-- whether a number is 0 to this one
abbrev pub is_count_to : (most : ℕ) → ℤ → Bool
is_count_to most (pos n) = nat_le n most
is_count_to most (negsuc k) = false
