-- When a copy in flight was sent.
use Rattle.std.specs.Prelude.{◌≡◌, ℕ, ◌==◌, if◌then◌else◌, Option, Some, None}
use Rattle.broker_history.specs.State as state

-- the moment at which a copy was sent that is in flight with the client
abbrev pub sent_at : ℕ → state.Place → Option ℕ
sent_at number (state.InFlight client due sent) = if client == number then Some sent else None
sent_at number place = None
