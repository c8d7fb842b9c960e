-- What an entry makes of the state, and where it is allowed as far as the state goes.
use Rattle.std.specs.Prelude.{◌≡◌, ◌≤◌, ℕ, ◌+◌, ◌^◌, ◌<◌, Bool, true, false, ◌&&◌, if◌then◌else◌, List, [], ◌∷◌, ◌++◌, length, Option, Some, None}
use Rattle.nsq_outside.specs.declared.journal.End.{End}
use Rattle.nsq_outside.specs.declared.journal.End.TheVariants.{Done, Faulted, Skip}
use Rattle.nsq_base.specs.declared.options.Options.{Options}
use Rattle.v2_frame.specs.declared.command.Command.{Command}
use Rattle.v2_frame.specs.declared.command.Command.TheVariants.{Identify, Sub, Pub, Mpub, Dpub, Rdy, Fin, Req, Touch, Cls, Nop}
use Rattle.v2_frame.specs.declared.frame.Frame.{Frame}
use Rattle.v2_frame.specs.declared.frame.FrameKind.{FrameKind}
use Rattle.v2_frame.specs.declared.frame.FrameKind.TheVariants.{Error}
use Rattle.v2_frame.specs.declared.message.Message.{Message}
use Rattle.broker_history.specs.declared.ask.Ask.{Ask}
use Rattle.broker_history.specs.declared.ask.Ask.TheVariants as ask
use Rattle.broker_history.specs.declared.ask.Said.{Said}
use Rattle.broker_history.specs.declared.ask.Said.TheVariants as said
use Rattle.broker_history.specs.declared.entry.Act.{Act}
use Rattle.broker_history.specs.declared.entry.Act.TheVariants.{Began, Did, Refused, Sent, Beat, Idle, Silent, Dropped, Gone, Asked, Listed, Ticked, Stop, Took, Copied, TimedOut, CameDue, HeldBack, Stuck}
use Rattle.broker_history.specs.declared.entry.Entry.{Entry}
use Rattle.broker_history.specs.State.{Topic, Channel, Client, Phase, Fresh, Subscribed, Closing, Route, State, counted, client_of, client_channel, topic_of, has_begun, is_there, put_client, with_client, at_moment, names_of, is_ephemeral_channel, is_lost}
use Rattle.broker_history.specs.Channels.{Room, Moves, Joins, Sends, Finishes, Touches, GivesBack, TimesOut, ComesDue, HoldsBack, Gets, is_free}
use Rattle.broker_history.specs.Topics.{Takes, Pays, takes}
use Rattle.broker_history.specs.Identify.{Identity, default_heartbeat, identity_of}
use Rattle.broker_history.specs.Reply.{ok_frame, refusal, reply_to, span_of, requeue_delay, count_of, copies_in}
use Rattle.broker_history.specs.Said.{Says}
use Rattle.broker_history.specs.Changes.{published, made, made_channel, deleted, deleted_first, emptied, set_paused, gone, channels_in, AtTopic, AtChannel, InChannel, at_client}
use Rattle.broker_history.specs.Credit.{is_silent, is_beat_due, is_quiet, may_get, has_message}

-- the greatest moment
abbrev pub last_moment : ℕ
last_moment = 2 ^ 62

-- how much room a channel of a topic has
abbrev pub room_of : State → (topic channel : List ℕ) → Room
room_of s topic channel = record { ephemeral = is_ephemeral_channel topic channel; mem = s.options.mem_queue_size }

-- Copied: the channel gets the message, which its topic owes it no more
pub record Copies (room : Room) (at : ℕ) (channel : List ℕ) (m : Message) (old new : Topic) : Type 0 where
  pub between : Topic
  pub gets : InChannel channel (Gets Joins room at m) old between
  pub pays : Pays channel m old.taken new.taken
  pub is : new ≡ record between { taken = new.taken }

-- what a move makes of the state, where it is due
abbrev pub DoesMove : State → (at : ℕ) → Act → State → Type 0
DoesMove s at (Took topic m names) s' = AtTopic topic (Takes m names) s s'
DoesMove s at (Copied topic channel m) s' = AtTopic topic (Copies (room_of s topic channel) at channel m) s s'
DoesMove s at (TimedOut topic channel id) s' = AtChannel topic channel (TimesOut Moves (room_of s topic channel) id at) s s'
DoesMove s at (CameDue topic channel id) s' = AtChannel topic channel (ComesDue Moves (room_of s topic channel) id at) s s'
DoesMove s at (HeldBack topic channel id) s' = AtChannel topic channel (HoldsBack Moves id (at + s.options.msg_timeout)) s s'
DoesMove s at act s' = ⊥

-- a client as it begins: its heartbeat is on, and its time for a message is the option's
abbrev pub new_client : Options → (at number : ℕ) → Client
new_client o at number = record {
  number = number;
  phase = Fresh;
  route = None;
  ready = 0;
  heartbeat = Some (default_heartbeat o);
  timeout = o.msg_timeout;
  client_id = [];
  hostname = [];
  user_agent = [];
  last_command = at;
  beat_from = at;
  finish_count = 0;
  message_count = 0;
  requeue_count = 0;
}

-- the state with a client that began
abbrev pub begun : State → (at number : ℕ) → State
begun s at number = record s { began = s.began ++ number ∷ []; clients = put_client s.clients (new_client s.options at number) }

-- a client after an accepted IDENTIFY, which sets all members anew; its next heartbeat counts from here
abbrev pub known_as : (at : ℕ) → Identity → Client → Client
known_as at i c = record c { heartbeat = i.heartbeat; timeout = i.timeout; client_id = i.client_id; hostname = i.hostname; user_agent = i.user_agent; beat_from = at }

abbrev pub with_identity : State → (at : ℕ) → Client → Option Identity → State
with_identity s at c None = s
with_identity s at c (Some i) = with_client s (known_as at i c)

-- a client after SUB
abbrev pub subscribed : (topic channel : List ℕ) → Client → Client
subscribed topic channel c = record c { phase = Subscribed; route = Some (record { topic = topic; channel = channel }) }

-- a client's RDY, which a closing one gives in vain
abbrev pub ready_for : Phase → (count ready : ℕ) → ℕ
ready_for Subscribed count ready = count
ready_for phase count ready = ready

-- a row takes place at the channel of a client, which then changes
pub record AtOwn (c : Client) (Row : Channel → Channel → Type 0) (f : Client → Client) (s s' : State) : Type 0 where
  pub route : Route
  pub between : State
  pub on : c.route ≡ Some route
  pub channel : AtChannel route.topic route.channel Row s between
  pub is : s' ≡ with_client between (f c)

-- how much room the channel of a client has
abbrev pub own_room : State → Option Route → Room
own_room s None = record { ephemeral = false; mem = s.options.mem_queue_size }
own_room s (Some route) = room_of s route.topic route.channel

-- what a command that succeeds makes of the state, in which its client stands as its last command leaves it
abbrev pub CarriesOut : State → (at : ℕ) → Client → Command → State → Type 0
CarriesOut s at c (Identify body) s' = s' ≡ with_identity s at c (identity_of s.options body)
CarriesOut s at c (Sub topic channel) s' = s' ≡ with_client (made_channel s topic channel) (subscribed topic channel c)
CarriesOut s at c (Pub topic body) s' = s' ≡ published s at 0 topic (body ∷ [])
CarriesOut s at c (Mpub topic bodies) s' = s' ≡ published s at 0 topic bodies
CarriesOut s at c (Dpub topic delay body) s' = s' ≡ published s at (span_of delay) topic (body ∷ [])
CarriesOut s at c (Rdy count) s' = s' ≡ with_client s (record c { ready = ready_for c.phase (count_of count) c.ready })
CarriesOut s at c (Fin id) s' = AtOwn c (Finishes Moves c.number id) (λ (d : Client). record d { finish_count = counted d.finish_count }) s s'
CarriesOut s at c (Req id delay) s' = AtOwn c (GivesBack Moves (own_room s c.route) c.number id at (requeue_delay s.options delay)) (λ (d : Client). record d { requeue_count = counted d.requeue_count }) s s'
CarriesOut s at c (Touch id) s' = AtOwn c (Touches Moves c.number id at c.timeout s.options.max_msg_timeout) (λ d. d) s s'
CarriesOut s at c Cls s' = s' ≡ with_client s (record c { phase = Closing })
CarriesOut s at c Nop s' = s' ≡ s

-- whether an answer is an error
abbrev pub is_error_kind : FrameKind → Bool
is_error_kind Error = true
is_error_kind kind = false

abbrev pub is_error : Option Frame → Bool
is_error None = false
is_error (Some frame) = is_error_kind frame.kind

-- a client that just gave a command
abbrev pub spoke : (at : ℕ) → Client → Client
spoke at c = record c { last_command = at }

-- what a command with this reply makes of the state: a refused one changes nothing but the moment of the client's last command
abbrev pub DoesCommand : State → (at : ℕ) → Client → Command → (refused : Bool) → State → Type 0
DoesCommand s at c command true s' = s' ≡ with_client s (spoke at c)
DoesCommand s at c command false s' = CarriesOut (with_client s (spoke at c)) at (spoke at c) command s'

-- a disk fault keeps a command from being carried out, as a refusal does
abbrev pub is_kept_off : Option Frame → End → Bool
is_kept_off r Done = is_error r
is_kept_off r end = true

pub record DoesDid (s : State) (at number : ℕ) (command : Command) (r : Option Frame) (end : End) (s' : State) : Type 0 where
  pub client : Client
  pub there : client_of s number ≡ Some client
  pub does : DoesCommand s at client command (is_kept_off r end) s'

-- what a message that is sent makes of the state
pub record DoesSend (s : State) (at number : ℕ) (m : Message) (s' : State) : Type 0 where
  pub client : Client
  pub there : client_of s number ≡ Some client
  pub sends : AtOwn client (Sends Moves number at client.timeout m) (λ (d : Client). record d { message_count = counted d.message_count }) s s'

-- what was asked and done makes of the state; every other answer changes nothing
abbrev pub carried_out : State → (at : ℕ) → Ask → State
carried_out s at (ask.Publish topic delay bodies) = published s at delay topic bodies
carried_out s at (ask.Stats topic channel) = s
carried_out s at (ask.Create topic channel) = made s topic channel
carried_out s at (ask.Delete topic channel) = deleted s topic channel
carried_out s at (ask.Empty topic channel) = emptied s topic channel
carried_out s at (ask.Pause topic channel) = set_paused true s topic channel
carried_out s at (ask.Unpause topic channel) = set_paused false s topic channel

abbrev pub is_done : Said → Bool
is_done said.Done = true
is_done answer = false

-- what a disk fault leaves of what was asked: of a topic's deletion the channels that were deleted
abbrev pub broken_off : State → Ask → (count : ℕ) → State
broken_off s (ask.Delete topic None) count = deleted_first s topic count
broken_off s a count = s

abbrev pub asked_state : State → (at : ℕ) → Ask → Said → End → State
asked_state s at a answer Done = if is_done answer then carried_out s at a else s
asked_state s at a answer (Faulted count) = broken_off s a count
asked_state s at a answer Skip = s

-- what a move with this end makes of the state: one that met a disk fault changes nothing
abbrev pub DoesMoveTo : State → (at : ℕ) → Act → End → State → Type 0
DoesMoveTo s at act Done s' = DoesMove s at act s'
DoesMoveTo s at act end s' = s' ≡ s

-- what the act of a connection at a moment, with this end, makes of all but the state's moment
abbrev pub DoesAct : State → (at number : ℕ) → Act → End → State → Type 0
DoesAct s at number Began end s' = s' ≡ begun s at number
DoesAct s at number (Did command r) end s' = DoesDid s at number command r end s'
DoesAct s at number (Refused fault frame) end s' = s' ≡ s
DoesAct s at number (Sent m) end s' = DoesSend s at number m s'
DoesAct s at number Beat end s' = s' ≡ at_client (λ (c : Client). record c { beat_from = at }) s number
DoesAct s at number Idle end s' = s' ≡ s
DoesAct s at number Silent end s' = s' ≡ s
DoesAct s at number Dropped end s' = s' ≡ s
DoesAct s at number Gone end s' = s' ≡ gone s number
DoesAct s at number (Asked a answer) end s' = s' ≡ asked_state s at a answer end
DoesAct s at number (Listed names) end s' = s' ≡ s
DoesAct s at number Ticked end s' = s' ≡ s
DoesAct s at number Stop end s' = s' ≡ record s { stopped = true }
DoesAct s at number (Stuck topic channel) end s' = s' ≡ s
DoesAct s at number act end s' = DoesMoveTo s at act end s'

-- the client is there, no Stop was noted, and this holds of it
pub record OfClient (s : State) (number : ℕ) (Is : Client → Type 0) : Type 0 where
  pub client : Client
  pub there : client_of s number ≡ Some client
  pub running : s.stopped ≡ false
  pub is : Is client

-- the client's channel was not deleted
abbrev pub IsNotLost : Client → Type 0
IsNotLost c = is_lost c.phase ≡ false

-- a disk fault can keep this command, with this reply, from being carried out: a publish or a REQ that succeeds
abbrev pub CanFault : Command → Option Frame → Type 0
CanFault (Pub topic body) r = r ≡ Some ok_frame
CanFault (Mpub topic bodies) r = r ≡ Some ok_frame
CanFault (Dpub topic delay body) r = r ≡ Some ok_frame
CanFault (Req id delay) r = r ≡ None
CanFault _ r = ⊥

-- a disk fault can keep what was asked from being done, behind so many channels that a topic's deletion had deleted
abbrev pub CanFaultAsk : State → Ask → (count : ℕ) → Type 0
CanFaultAsk s (ask.Publish topic delay bodies) count = count ≡ 0
CanFaultAsk s (ask.Empty topic channel) count = count ≡ 0
CanFaultAsk s (ask.Delete topic (Some channel)) count = count ≡ 0
CanFaultAsk s (ask.Delete topic None) count = count ≤ length (channels_in (topic_of s topic))
CanFaultAsk s _ count = ⊥

-- the daemon does it, before a Stop
pub record IsDaemons (s : State) (number : ℕ) : Type 0 where
  pub daemon : number ≡ 0
  pub running : s.stopped ≡ false

-- a topic is stuck: a message of it was to be taken
pub record IsTopicStuck (s : State) (topic : List ℕ) : Type 0 where
  pub of : Topic
  pub there : topic_of s topic ≡ Some of
  pub due : takes of ≡ true

-- a client may be sent a message, whatever stands in its channel
pub record MayBeSent (s : State) (at : ℕ) (c : Client) : Type 0 where
  pub quiet : is_quiet at c ≡ true
  pub credit : may_get c (client_channel s c.route) ≡ true

-- nothing is to be sent to a client
pub record IsIdle (s : State) (at : ℕ) (c : Client) : Type 0 where
  pub quiet : is_quiet at c ≡ true
  pub none : (may_get c (client_channel s c.route) && has_message (client_channel s c.route)) ≡ false

-- what ends Done alone
abbrev pub IfDone : End → Type 0 → Type 0
IfDone Done P = P
IfDone end P = ⊥

-- what ends with a disk fault alone, of which nothing is counted
abbrev pub IfFaulted : End → Type 0 → Type 0
IfFaulted (Faulted n) P = (n ≡ 0) × P
IfFaulted end P = ⊥

-- a move is due: it leads to some state
abbrev pub IsMoveDue : State → (at : ℕ) → Act → Type 0
IsMoveDue s at act = (t : State) × DoesMove s at act t

-- a move may stand where it is due; where it is Done, what it does says so
abbrev pub MayMove : State → (at number : ℕ) → Act → End → Type 0
MayMove s at number act Done = IsDaemons s number
MayMove s at number act (Faulted n) = IsDaemons s number × (n ≡ 0) × IsMoveDue s at act
MayMove s at number act Skip = ⊥

-- a command may stand with its reply, and with a disk fault where one can keep it off
abbrev pub MayDo : State → (number : ℕ) → Command → Option Frame → End → Type 0
MayDo s number command r Done = OfClient s number (λ c. IsNotLost c × (r ≡ reply_to s c command))
MayDo s number command r (Faulted n) = OfClient s number (λ c. IsNotLost c × (r ≡ reply_to s c command)) × CanFault command r × (n ≡ 0)
MayDo s number command r Skip = ⊥

-- what is asked may stand with what may be said, and with a disk fault where one can keep it from being done
abbrev pub MayAsk : State → Ask → Said → End → Type 0
MayAsk s a answer Done = Says s a answer
MayAsk s a answer (Faulted n) = Says s a answer × (answer ≡ said.Done) × CanFaultAsk s a n
MayAsk s a answer Skip = ⊥

-- a Stuck may stand: the daemon's names a topic alone, a client's its channel
abbrev pub MayBeStuck : State → (at number : ℕ) → (topic : List ℕ) → Option (List ℕ) → Type 0
MayBeStuck s at number topic None = IsDaemons s number × IsTopicStuck s topic
MayBeStuck s at number topic (Some channel) = OfClient s number (λ c. MayBeSent s at c × (c.route ≡ Some (record { topic = topic; channel = channel })))

-- the act of this connection at this moment may stand in a history behind this state, with this end, as far as the state goes; what it says of
-- a copy or a message is in what it does
abbrev pub IsAllowedAct : State → (at number : ℕ) → Act → End → Type 0
IsAllowedAct s at number Began end = IfDone end ((0 < number) × (has_begun s number ≡ false))
IsAllowedAct s at number (Did command r) end = MayDo s number command r end
IsAllowedAct s at number (Refused fault frame) end = IfDone end (OfClient s number (λ c. frame ≡ refusal fault))
IsAllowedAct s at number (Sent m) end = IfDone end (OfClient s number (λ c. MayBeSent s at c × (is_free m.id (copies_in (client_channel s c.route)) ≡ true)))
IsAllowedAct s at number Beat end = IfDone end (OfClient s number (λ c. IsNotLost c × (is_silent at c ≡ false) × (is_beat_due at c ≡ true)))
IsAllowedAct s at number Idle end = IfDone end (OfClient s number (IsIdle s at))
IsAllowedAct s at number Silent end = IfDone end (OfClient s number (λ c. IsNotLost c × (is_silent at c ≡ true)))
IsAllowedAct s at number Dropped end = IfDone end (OfClient s number (λ c. is_lost c.phase ≡ true))
IsAllowedAct s at number Gone end = IfDone end (is_there s number ≡ true)
IsAllowedAct s at number (Asked a answer) end = (s.stopped ≡ false) × MayAsk s a answer end
IsAllowedAct s at number (Listed names) end = IfDone end (names ≡ names_of s)
IsAllowedAct s at number Ticked end = IfDone end (IsDaemons s number)
IsAllowedAct s at number Stop end = IfDone end (s.stopped ≡ false)
IsAllowedAct s at number (Stuck topic channel) end = IfFaulted end (MayBeStuck s at number topic channel)
IsAllowedAct s at number act end = MayMove s at number act end

-- the entry with this end leads from the first state to the second: it may stand behind the first, at a moment that isn't before that state's,
-- and makes the second of it
pub record Step (s : State) (e : Entry × End) (s' : State) : Type 0 where
  pub allowed : IsAllowedAct s e.0.at e.0.conn e.0.act e.1
  pub later : s.moment ≤ e.0.at
  pub bounded : e.0.at ≤ last_moment
  pub between : State
  pub does : DoesAct s e.0.at e.0.conn e.0.act e.1 between
  pub is : s' ≡ at_moment between e.0.at
