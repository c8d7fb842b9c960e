-- What is written to a client, whole or in part.
use Rattle.std.specs.Prelude.{◌≡◌, ◌⊎◌, ℕ, List, ◌++◌, take, Bool, true, false, Option, Some, None}
use Rattle.nsq_outside.specs.Causes.{Rose}
use Rattle.v2_frame.specs.declared.frame.Frame.{Frame}
use Rattle.broker_history.specs.declared.ended.Ended.{Ended}
use Rattle.broker_history.specs.declared.ended.Ended.TheVariants.{EndOfInput, Closed, ReadFault, WriteFault, Memory}
use Rattle.broker_history.specs.Reply.{answer_bytes, memory_frame}
use Rattle.broker_history.specs.declared.turned.Turned.{Turned}
use Rattle.broker_history.specs.declared.turned.Turned.TheVariants as turned
use Rattle.daemon_callers.specs.declared.v2.output.Delivered.{Delivered}
use Rattle.daemon_callers.specs.declared.v2.output.Delivered.TheVariants.{More, Rest, Over}

-- the bytes of the frame for want of memory
abbrev pub memory_bytes : List ℕ
memory_bytes = answer_bytes (Some memory_frame)

-- some of the first of these bytes were written
abbrev pub WritesFirst : (bytes written written' : List ℕ) → Type 0
WritesFirst bytes written written' = (count : ℕ) × (written' ≡ written ++ take count bytes)

-- all these bytes were written, or some of the first
abbrev pub WritesAll : (bytes written written' : List ℕ) → (all : Bool) → Type 0
WritesAll bytes written written' true = written' ≡ written ++ bytes
WritesAll bytes written written' false = WritesFirst bytes written written'

-- a frame was written whole; or in part, or for want of memory the frame for that in part
abbrev pub WritesFrame : Frame → (written written' : List ℕ) → Option Ended → Type 0
WritesFrame frame written written' None = written' ≡ written ++ answer_bytes (Some frame)
WritesFrame frame written written' (Some WriteFault) = WritesFirst (answer_bytes (Some frame)) written written'
WritesFrame frame written written' (Some Memory) = WritesFirst memory_bytes written written'
WritesFrame frame written written' (Some _) = ⊥

-- a reply was written, and the connection is closed after it where it closes
abbrev pub WritesReply : Frame → (closing : Bool) → (written written' : List ℕ) → Option Ended → Type 0
WritesReply frame closing written written' None = (closing ≡ false) × WritesFrame frame written written' None
WritesReply frame closing written written' (Some Closed) = (closing ≡ true) × WritesFrame frame written written' None
WritesReply frame closing written written' (Some ended) = WritesFrame frame written written' (Some ended)

-- what a turn answered to a command or to a fault was written, and how the connection ends then, unless it goes on
abbrev pub WritesAnswer : Turned → (written written' : List ℕ) → Option Ended → Type 0
WritesAnswer (turned.Reply frame closing) written written' result = WritesReply frame closing written written' result
WritesAnswer turned.Quiet written written' result = (result ≡ None) × (written' ≡ written)
WritesAnswer turned.Memory written written' result = (result ≡ Some Memory) × WritesFirst memory_bytes written written'
WritesAnswer _ written written' result = (result ≡ Some Closed) × (written' ≡ written)

-- what was to be sent was written, and more may be sent; or not whole, and the connection ends
abbrev pub DeliversFrame : Frame → (written written' : List ℕ) → Delivered → Type 0
DeliversFrame frame written written' More = WritesFrame frame written written' None
DeliversFrame frame written written' Rest = ⊥
DeliversFrame frame written written' (Over ended) = WritesFrame frame written written' (Some ended)

-- what a turn answered to the question what is to be sent was written, and whether more may be sent
abbrev pub Delivers : Turned → (written written' : List ℕ) → Delivered → Type 0
Delivers (turned.Send frame) written written' result = DeliversFrame frame written written' result
Delivers turned.Idle written written' result = (result ≡ Rest) × (written' ≡ written)
Delivers turned.Memory written written' result = (result ≡ Over Memory) × WritesFirst memory_bytes written written'
Delivers _ written written' result = (result ≡ Over Closed) × (written' ≡ written)

-- of the faults of a connection only one of writing comes, and only with a rise of its count
abbrev pub HasOutCause : Option Ended → (write_faults write_faults' : ℕ) → Type 0
HasOutCause (Some WriteFault) write_faults write_faults' = Rose write_faults write_faults'
HasOutCause (Some EndOfInput) write_faults write_faults' = ⊥
HasOutCause (Some ReadFault) write_faults write_faults' = ⊥
HasOutCause _ write_faults write_faults' = Unit {0}

-- these bytes are the last of what was written
pub record IsLast (bytes written : List ℕ) : Type 0 where
  pub front : List ℕ
  pub whole : written ≡ front ++ bytes

-- a connection that ends by want of memory was told so: the frame for it is the last that was written, whole unless a write failed
abbrev pub Warns : Option Ended → (written : List ℕ) → (write_faults write_faults' : ℕ) → Type 0
Warns (Some Memory) written write_faults write_faults' = IsLast memory_bytes written ⊎ Rose write_faults write_faults'
Warns _ written write_faults write_faults' = Unit {0}

-- how the connection ends, unless more may be sent or there is nothing
abbrev pub ending_of : Delivered → Option Ended
ending_of More = None
ending_of Rest = None
ending_of (Over ended) = Some ended
