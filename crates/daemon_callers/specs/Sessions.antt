-- A conversation as it goes on, and as it is over before its Gone.
use Rattle.std.specs.Prelude.{◌≡◌, ◌⊎◌, ℕ, ◌+◌, ◌-◌, ◌^◌, ◌<◌, List, ◌++◌, min, nat_le, if◌then◌else◌, Bool, true, false, IsTrue, Option, Some, None}
use Rattle.nsq_outside.specs.Causes.{Rose}
use Rattle.v2_frame.specs.declared.fault.Limits.{Limits}
use Rattle.v2_frame.specs.declared.got.Stage.{Stage}
use Rattle.v2_frame.specs.declared.got.Stage.TheVariants.{Opening, Commands, Failed}
use Rattle.v2_frame.specs.Script.{magic, told_place}
use Rattle.v2_frame.specs.Reading.{Reading}
use Rattle.broker_history.specs.declared.ended.Ended.{Ended}
use Rattle.broker_history.specs.declared.ended.Ended.TheVariants.{EndOfInput, Closed, ReadFault, WriteFault, Memory}
use Rattle.broker_history.specs.Entries.{History, has_stop}
use Rattle.broker_history.specs.Reply.{frames}
use Rattle.broker_history.specs.Talk as talk
use Rattle.broker_history.specs.Talk.{Round, Sending, Going, Reaches, Writes, place_of}
use Rattle.broker_history.specs.declared.turned.Turned.{Turned}
use Rattle.broker_history.specs.declared.turned.Turned.TheVariants as turned
use Rattle.daemon_callers.specs.Outputs.{Warns}
use Rattle.daemon_callers.specs.declared.v2.output.Delivered.{Delivered}
use Rattle.daemon_callers.specs.declared.v2.output.Delivered.TheVariants.{More, Rest, Over}

-- connection and desk tell their content
abbrev pub Told : (tells_pieces tells_written tells : Bool) → Type 0
Told tells_pieces tells_written tells = IsTrue tells_pieces × IsTrue tells_written × IsTrue tells

-- whether a count rose, or stands at the end of its type: 1 where it did
abbrev pub rises : (before now : ℕ) → ℕ
rises before now = if nat_le (min (before + 1) (2 ^ 64 - 1)) now then 1 else 0

-- a reader at this stage holds the bytes of a conversation that aren't done: before the magic is read it may stand before them
abbrev pub Holds : Stage → (told : ℕ) → (held : List ℕ) → (place : ℕ) → (greeted : Bool) → (pending : List ℕ) → Type 0
Holds Opening told held place false pending = held ≡ pending
Holds Opening told held place true pending = (held ≡ magic ++ pending) × (place ≡ 4)
Holds Commands told held place greeted pending = (greeted ≡ true) × (held ≡ pending) × (told ≡ told_place place)
Holds (Failed fault) told held place greeted pending = ⊥

-- a conversation goes on, its round stands here, the reader holds what isn't done, and all answers were written
pub record InTalk (limits : Limits) (pieces : List (List ℕ)) (own : History) (out : List ℕ) (reader : Reading) (round : Round) : Type 0 where
  pub greeted : Bool
  pub pending : List ℕ
  pub going : Going limits pieces own greeted pending round
  pub limits_are : reader.limits ≡ limits
  pub holds : Holds reader.stage reader.place reader.pending (place_of pieces pending) greeted pending
  pub all_out : out ≡ frames own

-- a conversation is over but for its Gone, and ended so
pub record IsOver (limits : Limits) (stopped : Bool) (pieces : List (List ℕ)) (own : History) (out : List ℕ) (ended : Ended) : Type 0 where
  pub reached : Reaches ended limits stopped pieces own
  pub written : Writes ended own out

-- a conversation goes on with its round here, or it is over
abbrev pub Goes : Limits → (seen : History) → List (List ℕ) → (own : History) → (out : List ℕ) → Reading → Round → Option Ended → Type 0
Goes limits seen pieces own out reader round None = InTalk limits pieces own out reader round
Goes limits seen pieces own out reader round (Some ended) = IsOver limits (has_stop seen) pieces own out ended

-- behind so many sendings of a round: one more, or it is to read, or it is over
abbrev pub Sends : (k : ℕ) → Limits → (seen : History) → List (List ℕ) → (own : History) → (out : List ℕ) → Reading → Delivered → Type 0
Sends k limits seen pieces own out reader More = InTalk limits pieces own out reader (Sending (k + 1))
Sends k limits seen pieces own out reader Rest = InTalk limits pieces own out reader talk.Reading
Sends k limits seen pieces own out reader (Over ended) = IsOver limits (has_stop seen) pieces own out ended

-- the ending had its cause: the source answered the end, or the count of failed reads or of failed writes rose. Of a new connection, whose counts
-- are 0, this is `Allows`
abbrev pub HasCause : Ended → (at_end : Bool) → (read_faults read_faults' write_faults write_faults' : ℕ) → Type 0
HasCause EndOfInput at_end read_faults read_faults' write_faults write_faults' = at_end ≡ true
HasCause Closed at_end read_faults read_faults' write_faults write_faults' = Unit {0}
HasCause ReadFault at_end read_faults read_faults' write_faults write_faults' = Rose read_faults read_faults'
HasCause WriteFault at_end read_faults read_faults' write_faults write_faults' = Rose write_faults write_faults'
HasCause Memory at_end read_faults read_faults' write_faults write_faults' = Unit {0}

-- the same, where one came
abbrev pub HasRoundCause : Option Ended → (at_end : Bool) → (read_faults read_faults' write_faults write_faults' : ℕ) → Type 0
HasRoundCause None at_end read_faults read_faults' write_faults write_faults' = Unit {0}
HasRoundCause (Some ended) at_end read_faults read_faults' write_faults write_faults' = HasCause ended at_end read_faults read_faults' write_faults write_faults'

-- an ending, by what its Gone was answered: a conversation that was closed, but whose Gone wanted memory, ended by want of memory
abbrev pub EndsAfter : Ended → Turned → Ended → Type 0
EndsAfter Closed turned.Memory last = last ≡ Memory
EndsAfter ended gone last = last ≡ ended

-- a connection that ended by want of memory was told so, unless memory was wanting for its Gone
abbrev pub IsWarned : Ended → (written : List ℕ) → (write_faults write_faults' wanted : ℕ) → Type 0
IsWarned Memory written write_faults write_faults' wanted = Warns (Some Memory) written write_faults write_faults' ⊎ (0 < wanted)
IsWarned _ written write_faults write_faults' wanted = Unit {0}
