-- What bytes are as a message.
use Rattle.std.specs.Prelude.{◌≡◌, ℕ, ◌^◌, ◌<◌, ◌≤◌, List, length}
use Rattle.v2_frame.specs.declared.message.Message.{Message}
use Rattle.v2_frame.specs.declared.message.Taken.{Taken}
use Rattle.v2_frame.specs.declared.message.Taken.TheVariants.{Whole, Short, Memory}
use Rattle.v2_frame.specs.Written.{message_bytes}

-- the message without a delay that the bytes are, too few bytes for one, or enough bytes and no memory
abbrev pub IsTaken : List ℕ → Taken → Type 0
IsTaken bytes (Whole message) = (bytes ≡ message_bytes message) × (message.delay ≡ 0) × (26 ≤ length bytes)
IsTaken bytes Short = length bytes < 26
IsTaken bytes Memory = 26 ≤ length bytes

-- the message's numbers fit their bytes, and its id has 16
pub record FitsItsBytes (message : Message) : Type 0 where
  pub stamp : message.stamp < 2 ^ 64
  pub attempts : message.attempts < 2 ^ 16
  pub id : length message.id ≡ 16

-- the messages are equal but for their delays
pub record SameButDelay (a b : Message) : Type 0 where
  pub stamp : a.stamp ≡ b.stamp
  pub attempts : a.attempts ≡ b.attempts
  pub id : a.id ≡ b.id
  pub body : a.body ≡ b.body

-- messages of equal bytes are equal but for their delays
abbrev pub MessageBytesAreOne : Type 0
MessageBytesAreOne = (a b : Message) → FitsItsBytes a → FitsItsBytes b → message_bytes a ≡ message_bytes b → SameButDelay a b
