-- What is known of a copy that was drawn.
use Rattle.std.specs.Prelude.{ℕ, Option, Some, None}
use Rattle.v2_frame.specs.declared.message.Message.{Message}
use Rattle.channel_core.specs.declared.drawn.Drawn.{Drawn}
use Rattle.channel_core.specs.declared.drawn.Drawn.TheVariants.{Nothing, ToSend, ToHold}

-- the message that is to be held back, where there is one
abbrev pub held_of : Drawn → Option Message
held_of Nothing = None
held_of (ToSend s) = None
held_of (ToHold message now) = Some message

-- how often a message to be sent was sent before
abbrev pub attempts_of : Drawn → (attempts : ℕ) → ℕ
attempts_of Nothing attempts = attempts
attempts_of (ToSend s) attempts = s.attempts
attempts_of (ToHold message now) attempts = attempts
