-- How many messages a client may have in flight, how many it has, and what is due to it.
use Rattle.std.specs.Prelude.{ℕ, ◌+◌, ◌*◌, Bool, false, not, ◌&&◌, nat_le, Option, Some, None, option_map, unwrap_or}
use Rattle.broker_history.specs.State.{Client, Channel, State, client_of, client_channel, flying, is_lost, is_subscribed}
use Rattle.broker_history.specs.Channels.{has_credit, can_send}
use Rattle.broker_history.specs.Reply.{copies_in}

-- the last RDY of a client that was accepted, or 0
abbrev pub rdy : State → (number : ℕ) → ℕ
rdy s number = unwrap_or (option_map (λ c. c.ready) (client_of s number)) 0

-- how many copies are in flight with a client: all of them in its channel, since a client subscribes once
abbrev pub in_flight_with : State → (number : ℕ) → ℕ
in_flight_with s number = unwrap_or (option_map (λ c. flying number (copies_in (client_channel s c.route))) (client_of s number)) 0

-- a span of time passed since a moment
abbrev pub has_passed : (since span at : ℕ) → Bool
has_passed since span at = nat_le (since + span) at

-- the client was silent for two heartbeat intervals: since its last command, or else since it began
abbrev pub is_silent : (at : ℕ) → Client → Bool
is_silent at c = unwrap_or (option_map (λ interval. has_passed c.last_command (2 * interval) at) c.heartbeat) false

-- a heartbeat is due to the client
abbrev pub is_beat_due : (at : ℕ) → Client → Bool
is_beat_due at c = unwrap_or (option_map (λ interval. has_passed c.beat_from interval at) c.heartbeat) false

-- the client may get a message of its channel, as far as client and channel go: it is subscribed and not closing, and it has credit
abbrev pub may_get : Client → Option Channel → Bool
may_get c None = false
may_get c (Some k) = is_subscribed c.phase && has_credit c.ready c.number k

-- there is a message that it may get
abbrev pub has_message : Option Channel → Bool
has_message None = false
has_message (Some k) = can_send k.copies

-- neither is the client's channel gone, nor was it silent, nor is a heartbeat due: a message may be sent, if there is one
abbrev pub is_quiet : (at : ℕ) → Client → Bool
is_quiet at c = not (is_lost c.phase) && not (is_silent at c) && not (is_beat_due at c)
