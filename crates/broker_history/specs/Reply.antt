-- What a client is answered (nsq.io, TCP Protocol Spec): each command has its refusals in one order, and the first that holds is its answer.
use Rattle.std.specs.Prelude.{ℕ, ◌+◌, ◌*◌, ◌^◌, min, ℤ, pos, negsuc, ◌||◌, Bool, false, not, nat_le, nat_lt, nat_eq, if◌then◌else◌, List, [], ◌++◌, length, flat_map, codes, Option, Some, None, option_and_then}
use Rattle.std.specs.List.{starts_with}
use Rattle.nsq_outside.specs.declared.journal.End.{End}
use Rattle.nsq_outside.specs.declared.journal.End.TheVariants as end
use Rattle.nsq_base.specs.declared.options.Options.{Options}
use Rattle.nsq_base.specs.Time.{millisecond}
use Rattle.v2_frame.specs.declared.command.Command.{Command}
use Rattle.v2_frame.specs.declared.command.Command.TheVariants.{Identify, Sub, Pub, Mpub, Dpub, Rdy, Fin, Req, Touch, Cls, Nop}
use Rattle.v2_frame.specs.declared.fault.Fault.{Fault}
use Rattle.v2_frame.specs.declared.frame.Frame.{Frame}
use Rattle.v2_frame.specs.declared.frame.FrameKind.{FrameKind}
use Rattle.v2_frame.specs.declared.frame.FrameKind.TheVariants.{Response, Error, Message}
use Rattle.v2_frame.specs.declared.message.Message as message
use Rattle.v2_frame.specs.Written.{frame_bytes, message_bytes, heartbeat_text, ok_text, fault_text}
use Rattle.broker_history.specs.declared.entry.Act.{Act}
use Rattle.broker_history.specs.declared.entry.Act.TheVariants.{Did, Refused, Sent, Beat}
use Rattle.broker_history.specs.declared.entry.Entry.{Entry}
use Rattle.broker_history.specs.State.{Client, Channel, Copy, Phase, Fresh, Subscribed, Closing, Lost, State, client_of, client_channel, flying_with, is_fresh, is_subscribed}
use Rattle.broker_history.specs.Identify.{Identity, identity_of, features_text}

-- the frame of a response
abbrev pub response : List ℕ → Frame
response text = record { kind = Response; body = text }

-- the frame of an error
abbrev pub error : List ℕ → Frame
error text = record { kind = Error; body = text }

-- the frame of a message
abbrev pub message_frame : message.Message → Frame
message_frame m = record { kind = Message; body = message_bytes m }

-- the frame of a heartbeat
abbrev pub beat_frame : Frame
beat_frame = response heartbeat_text

-- the frame that says that a command was carried out
abbrev pub ok_frame : Frame
ok_frame = response ok_text

-- the frame for want of memory
abbrev pub memory_frame : Frame
memory_frame = error (codes "E_MEMORY out of memory")

-- the answer to a fault in a client's bytes
abbrev pub refusal : Fault → Frame
refusal fault = error (fault_text fault.kind)

-- the answer to a command that doesn't fit the client's phase
abbrev pub wrong_state : Frame
wrong_state = error (codes "E_INVALID not in this state")

-- the answer to a command that can't be carried out as the run's ids are spent
abbrev pub ids_spent : (word : List ℕ) → Frame
ids_spent word = error (word ++ codes " ids spent")

-- the answer to a command that a disk fault kept from being carried out
abbrev pub disk_fault : (word : List ℕ) → Frame
disk_fault word = error (word ++ codes " disk fault")

-- the answer to a command on a message that isn't in flight with this client
abbrev pub not_in_flight : (word : List ℕ) → Frame
not_in_flight word = error (word ++ codes " message not in flight")

-- the most ids that one run gives
abbrev pub most_ids : ℕ
most_ids = 2 ^ 40

-- whether so many further ids are left, where so many were used
abbrev pub are_left : (used count : ℕ) → Bool
are_left used count = nat_le (used + count) most_ids

abbrev pub has_ids : State → ℕ → Bool
has_ids s count = are_left s.ids_used count

-- a delay that a client gives in milliseconds, in nanoseconds; one below 0 counts as 0
abbrev pub span_of : ℤ → ℕ
span_of (pos ms) = ms * millisecond
span_of (negsuc k) = 0

-- whether a message may be published with this delay: 0 ms to the longest one
abbrev pub is_delay : Options → ℤ → Bool
is_delay o (pos ms) = nat_le (ms * millisecond) o.max_req_timeout
is_delay o (negsuc k) = false

-- how long a message that is given back waits: its delay, brought into the range of 0 to the longest one
abbrev pub requeue_delay : Options → ℤ → ℕ
requeue_delay o delay = min (span_of delay) o.max_req_timeout

-- how many messages RDY asks for
abbrev pub count_of : ℤ → ℕ
count_of (pos count) = count
count_of (negsuc k) = 0

-- whether a client may ask for so many messages in flight: 0 to the greatest number
abbrev pub is_ready_count : Options → ℤ → Bool
is_ready_count o (pos count) = nat_le count o.max_rdy_count
is_ready_count o (negsuc k) = false

-- the copies of a channel, none where there is none
abbrev pub copies_in : Option Channel → List Copy
copies_in None = []
copies_in (Some k) = k.copies

-- whether a copy of this id is in flight with the client
abbrev pub has_in_flight : State → Client → (id : List ℕ) → Bool
has_in_flight s c id = nat_lt 0 (flying_with c.number id (copies_in (client_channel s c.route)))

-- the reply to a publish of so many messages, where so many ids were used
abbrev pub publish_reply : (used : ℕ) → (word : List ℕ) → (count : ℕ) → Frame
publish_reply used word count = if are_left used count then ok_frame else ids_spent word

-- the reply to DPUB
abbrev pub delayed_reply : Options → (used : ℕ) → ℤ → Frame
delayed_reply o used delay = if is_delay o delay then publish_reply used (codes "E_DPUB_FAILED") 1 else error (codes "E_INVALID bad delay")

-- the reply to IDENTIFY, by what the client said
abbrev pub identified : Options → Option Identity → Frame
identified o None = error (codes "E_BAD_BODY bad JSON")
identified o (Some said) = if said.negotiates then response (features_text o said) else ok_frame

-- the reply to a command on a message, which is in flight with the client or isn't
abbrev pub flight_reply : Phase → (word : List ℕ) → (flies : Bool) → Option Frame
flight_reply phase word flies = if is_fresh phase then Some wrong_state else (if flies then None else Some (not_in_flight word))

-- the reply to RDY: a client that is closing is judged no further, and gets no messages
abbrev pub ready_reply : Options → Phase → ℤ → Option Frame
ready_reply o Fresh count = Some wrong_state
ready_reply o Subscribed count = if is_ready_count o count then None else Some (error (codes "E_INVALID bad count"))
ready_reply o Closing count = None
ready_reply o Lost count = None

-- the reply to a command, by the first cause that holds, or none: it depends on the options, on how many ids were used, on the client's phase,
-- and on which messages are in flight with it
module _ (o : Options) (used : ℕ) (phase : Phase) (flies : (id : List ℕ) → Bool) where
  abbrev pub reply_by : Command → Option Frame
  reply_by (Identify body) = Some (if is_fresh phase then identified o (identity_of o body) else wrong_state)
  reply_by (Sub topic channel) = Some (if is_fresh phase then ok_frame else wrong_state)
  reply_by (Pub topic body) = Some (publish_reply used (codes "E_PUB_FAILED") 1)
  reply_by (Mpub topic bodies) = Some (publish_reply used (codes "E_MPUB_FAILED") (length bodies))
  reply_by (Dpub topic delay body) = Some (delayed_reply o used delay)
  reply_by (Rdy count) = ready_reply o phase count
  reply_by (Fin id) = flight_reply phase (codes "E_FIN_FAILED") (flies id)
  reply_by (Req id delay) = flight_reply phase (codes "E_REQ_FAILED") (flies id)
  reply_by (Touch id) = flight_reply phase (codes "E_TOUCH_FAILED") (flies id)
  reply_by Cls = Some (if is_subscribed phase then response (codes "CLOSE_WAIT") else wrong_state)
  reply_by Nop = None

-- the reply to a command of a client
abbrev pub reply_to : State → Client → Command → Option Frame
reply_to s c command = reply_by s.options s.ids_used c.phase (has_in_flight s c) command

-- the reply to a command of this connection; none where its client isn't there
abbrev pub reply : State → ℕ → Command → Option Frame
reply s number command = option_and_then (λ c. reply_to s c command) (client_of s number)

-- the reply to a command that a disk fault kept from being carried out; None for those that never write to disk
abbrev pub disk_reply : Command → Option Frame
disk_reply (Pub topic body) = Some (disk_fault (codes "E_PUB_FAILED"))
disk_reply (Mpub topic bodies) = Some (disk_fault (codes "E_MPUB_FAILED"))
disk_reply (Dpub topic delay body) = Some (disk_fault (codes "E_DPUB_FAILED"))
disk_reply (Req id delay) = Some (disk_fault (codes "E_REQ_FAILED"))
disk_reply _ = None

-- whether the text begins with the prefix
abbrev pub begins_with : List ℕ → List ℕ → Bool
begins_with text front = starts_with nat_eq text front

-- whether an error of this text leaves the connection open
abbrev pub leaves_open : List ℕ → Bool
leaves_open text = begins_with text (codes "E_FIN_FAILED") || begins_with text (codes "E_REQ_FAILED") || begins_with text (codes "E_TOUCH_FAILED")

-- whether the connection is closed after a frame of this kind and text
abbrev pub closes_after : FrameKind → List ℕ → Bool
closes_after Response text = false
closes_after Error text = not (leaves_open text)
closes_after Message text = false

-- whether the connection is closed after this frame
abbrev pub closes : Frame → Bool
closes frame = closes_after frame.kind frame.body

-- whether the connection is closed after this answer
abbrev pub closes_answer : Option Frame → Bool
closes_answer None = false
closes_answer (Some frame) = closes frame

-- what the client of a command was answered, by the entry's end
abbrev pub did_answered : Command → Option Frame → End → Option Frame
did_answered command r end.Done = r
did_answered command r (end.Faulted n) = disk_reply command
did_answered command r end.Skip = None

-- what the client got by an act with this end
abbrev pub act_answered : Act → End → Option Frame
act_answered (Did command r) e = did_answered command r e
act_answered (Refused fault frame) e = Some frame
act_answered (Sent m) e = Some (message_frame m)
act_answered Beat e = Some beat_frame
act_answered _ e = None

-- what the client got by an entry with its end
abbrev pub answered : Entry × End → Option Frame
answered e = act_answered e.0.act e.1

-- the bytes of what was answered
abbrev pub answer_bytes : Option Frame → List ℕ
answer_bytes None = []
answer_bytes (Some frame) = frame_bytes frame.kind frame.body

-- the bytes that an entry writes to its client
abbrev pub written_by : Entry × End → List ℕ
written_by e = answer_bytes (answered e)

-- the bytes that entries write to their client, in order
abbrev pub frames : List (Entry × End) → List ℕ
frames h = flat_map written_by h
