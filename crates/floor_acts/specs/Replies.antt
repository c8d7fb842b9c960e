-- What a reply of a floor is of the states that its hall stands for.
use Rattle.std.specs.Prelude.{◌≡◌, ◌<◌, ℕ, ◌*◌, ◌^◌, ℤ, pos, negsuc, Bool, false, nat_le, nat_lt, List, [], length, Option, Some, None, IfSome, option_map}
use Rattle.nsq_base.specs.Time.{millisecond}
use Rattle.nsq_base.specs.declared.options.Options.{Options}
use Rattle.nsq_outside.specs.Files.{Files}
use Rattle.v2_frame.specs.declared.command.Command.{Command}
use Rattle.v2_frame.specs.declared.command.Command.TheVariants as command
use Rattle.v2_frame.specs.declared.frame.Frame.{Frame}
use Rattle.broker_history.specs.State.{Client, Copy, Route, State, flying_with, is_lost}
use Rattle.broker_history.specs.Identify.{identity_of}
use Rattle.broker_history.specs.Reply.{reply_by, reply_to}
use Rattle.broker_history.specs.Step.{is_error}
use Rattle.negotiation.specs.declared.identity.Identity.{Identity}
use Rattle.negotiation.specs.Said.{said, IsTimely}
use Rattle.channel_core.specs.Seen.{channel_with}
use Rattle.floor_rooms.specs.Seen.{held_channel}
use Rattle.floor_rooms.specs.declared.stall.Stall.{Stall}
use Rattle.floor_rooms.specs.declared.room.Room.{Room}
use Rattle.floor_rooms.specs.declared.hall.Hall.{Hall}
use Rattle.floor_rooms.specs.Rooms.{stall_at}
use Rattle.floor_rooms.specs.Standing.{HoldsFor}

-- a frame has a body of fewer than 2^31 bytes
abbrev pub IsShortFrame : Frame → Type 0
IsShortFrame frame = length frame.body < 2 ^ 31

-- so has a reply, where there is one
abbrev pub IsShort : Option Frame → Type 0
IsShort reply = IfSome reply IsShortFrame

-- whether so many milliseconds are 0 to this span
abbrev pub is_span_to : (most : ℕ) → ℤ → Bool
is_span_to most (pos ms) = nat_le (ms * millisecond) most
is_span_to most (negsuc k) = false

-- whether a number is 0 to this one
abbrev pub is_count_to : (most : ℕ) → ℤ → Bool
is_count_to most (pos n) = nat_le n most
is_count_to most (negsuc k) = false

-- the channel of a client in a hall, where it has one that is there
abbrev pub stall_on : List Room → Option Route → Option Stall
stall_on rooms None = None
stall_on rooms (Some route) = stall_at rooms route.topic route.channel

abbrev pub stall_of : Hall → Client → Option Stall
stall_of h c = stall_on h.rooms.items (held_channel c.phase c.route)

-- the copies of a channel that may be in flight, none where there is none
abbrev pub copies_at : Option Stall → List Copy
copies_at None = []
copies_at (Some x) = (channel_with x.channel []).copies

-- whether a copy of this id is in flight with the client
abbrev pub flies_in : Hall → Client → (id : List ℕ) → Bool
flies_in h c id = nat_lt 0 (flying_with c.number id (copies_at (stall_of h c)))

-- the reply to a command of a client, by what the hall has
abbrev pub reply_in : Hall → Client → Command → Option Frame
reply_in h c command = reply_by h.options h.ids_used c.phase (flies_in h c) command

-- this is the reply to a command of the client, whose channel wasn't deleted, in each state that the hall stands for
abbrev pub RepliesTo : Hall → Client → Command → Option Frame → Type 0
RepliesTo h c command reply = is_lost c.phase ≡ false → (files : Files) (s : State) → HoldsFor h files s → reply ≡ reply_to s c command

-- what an IDENTIFY that is accepted said is at hand, with times that the options allow
pub record SaysOf (o : Options) (body : List ℕ) (found : Option Identity) : Type 0 where
  pub value : option_map said found ≡ identity_of o body
  pub timely : IfSome found (IsTimely o)

abbrev pub KnowsOf : Options → Command → Option Frame → Option Identity → Type 0
KnowsOf o (command.Identify body) reply found = is_error reply ≡ false → SaysOf o body found
KnowsOf o _ reply found = found ≡ None
