-- The bytes that a daemon writes to a client.
use Rattle.std.specs.Prelude.{ℕ, ◌+◌, List, ◌++◌, length, codes}
use Rattle.std.specs.Int.{to_be_bytes, w16, w64}
use Rattle.v2_frame.specs.declared.fault.FaultKind.{FaultKind}
use Rattle.v2_frame.specs.declared.fault.FaultKind.TheVariants.{BadMagic, LineTooLong, BadWord, BadTopic, BadChannel, BadSize, BadBody}
use Rattle.v2_frame.specs.declared.frame.FrameKind.{FrameKind}
use Rattle.v2_frame.specs.declared.frame.FrameKind.TheVariants as kind
use Rattle.v2_frame.specs.declared.message.Message.{Message}
use Rattle.v2_frame.specs.Command.{size4}

-- the number of a frame's type
abbrev pub type_of : FrameKind → ℕ
type_of kind.Response = 0
type_of kind.Error = 1
type_of kind.Message = 2

-- a frame: the size of the type and the data, the type, and the data
abbrev pub frame_bytes : FrameKind → List ℕ → List ℕ
frame_bytes k body = size4 (4 + length body) ++ size4 (type_of k) ++ body

-- a message: its timestamp in 8 bytes, its attempts in 2, its id, and its body; the delay isn't written
abbrev pub message_bytes : Message → List ℕ
message_bytes message = to_be_bytes w64 message.stamp ++ to_be_bytes w16 message.attempts ++ message.id ++ message.body

-- the text of a heartbeat
abbrev pub heartbeat_text : List ℕ
heartbeat_text = codes "_heartbeat_"

-- the frame of a heartbeat
abbrev pub heartbeat_frame : List ℕ
heartbeat_frame = frame_bytes kind.Response heartbeat_text

-- the text of the reply to a command that was carried out
abbrev pub ok_text : List ℕ
ok_text = codes "OK"

-- the error text that a daemon answers to a fault in the stream
abbrev pub fault_text : FaultKind → List ℕ
fault_text BadMagic = codes "E_BAD_PROTOCOL"
fault_text LineTooLong = codes "E_INVALID line too long"
fault_text BadWord = codes "E_INVALID bad command"
fault_text BadTopic = codes "E_BAD_TOPIC bad topic name"
fault_text BadChannel = codes "E_BAD_CHANNEL bad channel name"
fault_text BadSize = codes "E_BAD_MESSAGE bad size"
fault_text BadBody = codes "E_BAD_BODY bad body"
