-- What the bytes that a client sent, the entries of its connection and the bytes that it got have to do with each other: a conversation in
-- rounds.
use Rattle.std.specs.Prelude.{◌≡◌, ◌≢◌, ◌⊎◌, ℕ, ◌+◌, ◌-◌, ◌<◌, ◌≤◌, ◌==◌, Bool, true, false, if◌then◌else◌, List, [], ◌∷◌, ◌++◌, length, take, flat_map, Option, Some, IsSome}
use Rattle.std.specs.List.{concat}
use Rattle.nsq_outside.specs.declared.journal.End.{End}
use Rattle.nsq_outside.specs.Causes.{Rose}
use Rattle.v2_frame.specs.declared.command.Command.{Command}
use Rattle.v2_frame.specs.declared.fault.Fault.{Fault}
use Rattle.v2_frame.specs.declared.fault.FaultKind.TheVariants.{BadMagic}
use Rattle.v2_frame.specs.declared.fault.Limits.{Limits}
use Rattle.v2_frame.specs.declared.fault.Rest.TheVariants.{Faulty}
use Rattle.v2_frame.specs.declared.frame.Frame.{Frame}
use Rattle.v2_frame.specs.Judging.{HasFront, Begins, IsUnfinished}
use Rattle.v2_frame.specs.Script.{magic, Ends}
use Rattle.broker_history.specs.declared.entry.Act.{Act}
use Rattle.broker_history.specs.declared.entry.Act.TheVariants.{Began, Did, Refused, Sent, Beat, Idle, Silent, Dropped, Gone, Stuck}
use Rattle.broker_history.specs.declared.ended.Ended.{Ended}
use Rattle.broker_history.specs.declared.ended.Ended.TheVariants.{EndOfInput, Closed, ReadFault, WriteFault, Memory}
use Rattle.broker_history.specs.declared.entry.Entry.{Entry}
use Rattle.broker_history.specs.Entries.{History, own, is_gone, is_stop}
use Rattle.broker_history.specs.Reply.{closes_answer, answered, answer_bytes, written_by, frames, memory_frame}

-- whether the connection of this number is gone in these entries
abbrev pub has_gone : ℕ → History → Bool
has_gone number [] = false
has_gone number (e ∷ h) = if e.0.conn == number then (if is_gone e.0.act then true else has_gone number h) else has_gone number h

-- whether a Stop stands before the Gone of the connection of this number; without a Gone none does
abbrev pub stops_before_gone : ℕ → History → Bool
stops_before_gone number [] = false
stops_before_gone number (e ∷ h) = if is_stop e.0.act then has_gone number h else (if e.0.conn == number then (if is_gone e.0.act then false else stops_before_gone number h) else stops_before_gone number h)

-- the most bytes that one read gives
abbrev pub longest_piece : ℕ
longest_piece = 16384

-- the most that is sent in a round
abbrev pub most_sent : ℕ
most_sent = 64

-- the bytes of all pieces, in order
abbrev pub bytes_of : List (List ℕ) → List ℕ
bytes_of pieces = concat pieces

-- the place in the stream of the first byte that isn't done
abbrev pub place_of : List (List ℕ) → List ℕ → ℕ
place_of pieces pending = length (bytes_of pieces) - length pending

-- nothing can be done with the bytes that aren't done: fewer than the four of the magic, or an unfinished command
abbrev pub NeedsMore : Limits → (greeted : Bool) → (pending : List ℕ) → Type 0
NeedsMore limits false pending = length pending < 4
NeedsMore limits true pending = IsUnfinished limits pending

-- where a round stands: so many were sent in it, or it is to read, or it does what was read
pub data Round : Type 0 where
  Sending : ℕ → Round
  Reading : Round
  Doing : Round

-- something was sent
abbrev pub IsSending : Act → Type 0
IsSending (Sent m) = Unit {0}
IsSending Beat = Unit {0}
IsSending act = ⊥

-- nothing was to be sent, or it couldn't be
abbrev pub IsRest : Act → Type 0
IsRest Idle = Unit {0}
IsRest (Stuck topic (Some channel)) = Unit {0}
IsRest act = ⊥

-- the act took this command
abbrev pub IsDid : Command → Act → Type 0
IsDid command act = (r : Option Frame) × (act ≡ Did command r)

-- a conversation that goes on: the pieces read, its entries, whether the magic was read, the bytes that aren't done, and where its round
-- stands. It begins with a round. In one, something is sent up to 64 times, and then, unless it was 64 times, nothing more was to be sent;
-- then there is one read, which gives a piece or nothing; the magic is read; each whole command is done, and its answer doesn't close; and
-- where nothing more can be done, the next round begins
pub data Going (limits : Limits) : List (List ℕ) → History → (greeted : Bool) → (pending : List ℕ) → Round → Type 0 where
  began : (e : Entry × End) → e.0.act ≡ Began → Going limits [] (e ∷ []) false [] (Sending 0)
  sent : {pieces : List (List ℕ)} {h : History} {greeted : Bool} {pending : List ℕ} {k : ℕ} (e : Entry × End) → Going limits pieces h greeted pending (Sending k) → k < most_sent → IsSending e.0.act
      → Going limits pieces (h ++ e ∷ []) greeted pending (Sending (k + 1))
  rested : {pieces : List (List ℕ)} {h : History} {greeted : Bool} {pending : List ℕ} {k : ℕ} (e : Entry × End) → Going limits pieces h greeted pending (Sending k) → k < most_sent → IsRest e.0.act
      → Going limits pieces (h ++ e ∷ []) greeted pending Reading
  spent : {pieces : List (List ℕ)} {h : History} {greeted : Bool} {pending : List ℕ} {k : ℕ} → Going limits pieces h greeted pending (Sending k) → k ≡ most_sent → Going limits pieces h greeted pending Reading
  nothing : {pieces : List (List ℕ)} {h : History} {greeted : Bool} {pending : List ℕ} → Going limits pieces h greeted pending Reading → Going limits pieces h greeted pending (Sending 0)
  read : {pieces : List (List ℕ)} {h : History} {greeted : Bool} {pending : List ℕ} (piece : List ℕ) → Going limits pieces h greeted pending Reading → 0 < length piece → length piece ≤ longest_piece
      → Going limits (pieces ++ piece ∷ []) h greeted (pending ++ piece) Doing
  greet : {pieces : List (List ℕ)} {h : History} {pending rest : List ℕ} → Going limits pieces h false pending Doing → pending ≡ magic ++ rest → Going limits pieces h true rest Doing
  did : {pieces : List (List ℕ)} {h : History} {pending rest : List ℕ} {command : Command} (e : Entry × End) → Going limits pieces h true pending Doing → Begins limits pending command rest → IsDid command e.0.act
      → closes_answer (answered e) ≡ false → Going limits pieces (h ++ e ∷ []) true rest Doing
  done : {pieces : List (List ℕ)} {h : History} {greeted : Bool} {pending : List ℕ} → Going limits pieces h greeted pending Doing → NeedsMore limits greeted pending → Going limits pieces h greeted pending (Sending 0)

-- the bytes begin with four others than the magic
pub record HasBadMagic (bytes : List ℕ) : Type 0 where
  pub front : List ℕ
  pub after : List ℕ
  pub has : HasFront bytes 4 front after
  pub other : front ≢ magic

-- the bytes that aren't done, from this place of the stream on, have this fault
abbrev pub HasFault : Limits → (place : ℕ) → (greeted : Bool) → (pending : List ℕ) → Fault → Type 0
HasFault limits place false pending fault = HasBadMagic pending × (fault ≡ record { kind = BadMagic; at = 0 })
HasFault limits place true pending fault = Ends limits place pending (Faulty fault)

-- a whole command stands at the front of the bytes that aren't done
abbrev pub HasCommand : Limits → (greeted : Bool) → (pending : List ℕ) → Type 0
HasCommand limits greeted pending = (greeted ≡ true) × (command : Command) × (rest : List ℕ) × Begins limits pending command rest

-- the act, with this answer, ends a conversation whose round does what was read: a command at the front of the bytes whose answer closes, the
-- refusal of their fault, or a command that met a deleted channel
abbrev pub ClosesDoing : Limits → (place : ℕ) → (greeted : Bool) → (pending : List ℕ) → Act → Option Frame → Type 0
ClosesDoing limits place greeted pending (Did command r) answer = (greeted ≡ true) × (rest : List ℕ) × Begins limits pending command rest × (closes_answer answer ≡ true)
ClosesDoing limits place greeted pending (Refused fault frame) answer = HasFault limits place greeted pending fault
ClosesDoing limits place greeted pending Dropped answer = HasCommand limits greeted pending
ClosesDoing limits place greeted pending act answer = ⊥

-- the act ends a conversation whose round is to send: the client was silent, or its channel was deleted
abbrev pub ClosesSending : (sent : ℕ) → Act → Type 0
ClosesSending k Silent = k < most_sent
ClosesSending k Dropped = k < most_sent
ClosesSending k act = ⊥

-- the act, with this answer, ends a conversation
abbrev pub ClosesBy : Limits → (place : ℕ) → (greeted : Bool) → (pending : List ℕ) → Round → Act → Option Frame → Type 0
ClosesBy limits place greeted pending (Sending k) act answer = ClosesSending k act
ClosesBy limits place greeted pending Reading act answer = ⊥
ClosesBy limits place greeted pending Doing act answer = ClosesDoing limits place greeted pending act answer

-- the conversation goes on behind these entries
pub record IsOpen (limits : Limits) (pieces : List (List ℕ)) (h : History) : Type 0 where
  pub greeted : Bool
  pub pending : List ℕ
  pub round : Round
  pub going : Going limits pieces h greeted pending round

-- the conversation is to read behind these entries
pub record IsWaiting (limits : Limits) (pieces : List (List ℕ)) (h : History) : Type 0 where
  pub greeted : Bool
  pub pending : List ℕ
  pub going : Going limits pieces h greeted pending Reading

-- the last of these entries ended the conversation
pub record IsClosed (limits : Limits) (pieces : List (List ℕ)) (h : History) : Type 0 where
  pub greeted : Bool
  pub pending : List ℕ
  pub round : Round
  pub before : History
  pub last : Entry × End
  pub whole : h ≡ before ++ last ∷ []
  pub going : Going limits pieces before greeted pending round
  pub closes_by : ClosesBy limits (place_of pieces pending) greeted pending round last.0.act (answered last)

-- the entries, and a Gone behind them
pub record WithGone (h own : History) : Type 0 where
  pub gone : Entry × End
  pub is_gone : gone.0.act ≡ Gone
  pub whole : own ≡ h ++ gone ∷ []

-- all answers but the last entry's were written, and of that one the first bytes
pub record IsCutShort (h : History) (out : List ℕ) : Type 0 where
  pub before : History
  pub last : Entry × End
  pub whole : h ≡ before ++ last ∷ []
  pub is_answer : IsSome (answered last)
  pub count : ℕ
  pub written : out ≡ frames before ++ take count (written_by last)

-- all answers were written, or all but the last entry's, and then the first bytes of the frame for want of memory
pub record IsGivenUp (h : History) (out : List ℕ) : Type 0 where
  pub written : History
  pub whole : (h ≡ written) ⊎ ((last : Entry × End) × (h ≡ written ++ last ∷ []))
  pub count : ℕ
  pub out_is : out ≡ frames written ++ take count (answer_bytes (Some memory_frame))

-- where a conversation stood as it ended so; `stopped` says whether a Stop stands before the connection's Gone
abbrev pub Reaches : Ended → Limits → (stopped : Bool) → List (List ℕ) → History → Type 0
Reaches EndOfInput limits stopped pieces h = IsWaiting limits pieces h
Reaches Closed limits stopped pieces h = IsClosed limits pieces h ⊎ (IsOpen limits pieces h × (stopped ≡ true))
Reaches ReadFault limits stopped pieces h = IsWaiting limits pieces h
Reaches WriteFault limits stopped pieces h = IsClosed limits pieces h ⊎ IsOpen limits pieces h
Reaches Memory limits stopped pieces h = IsClosed limits pieces h ⊎ IsOpen limits pieces h

-- what is behind its entries: a Gone, which may be missing where the desk wanted memory, and never where it was closed
abbrev pub Leaves : Ended → (wanted : ℕ) → (h own : History) → Type 0
Leaves Closed wanted h own = WithGone h own
Leaves ended wanted h own = WithGone h own ⊎ ((own ≡ h) × (0 < wanted))

-- what was written
abbrev pub Writes : Ended → History → (out : List ℕ) → Type 0
Writes EndOfInput h out = out ≡ frames h
Writes Closed h out = out ≡ frames h
Writes ReadFault h out = out ≡ frames h
Writes WriteFault h out = IsCutShort h out
Writes Memory h out = IsGivenUp h out

-- a conversation that ended so
pub record Finishes (limits : Limits) (stopped : Bool) (wanted : ℕ) (pieces : List (List ℕ)) (own : History) (out : List ℕ) (ended : Ended) : Type 0 where
  pub entries : History
  pub reached : Reaches ended limits stopped pieces entries
  pub leaves : Leaves ended wanted entries own
  pub written : Writes ended entries out

-- memory was wanting before the conversation began
pub record NeverBegins (pieces : List (List ℕ)) (own : History) (out : List ℕ) (ended : Ended) : Type 0 where
  pub memory : ended ≡ Memory
  pub no_pieces : pieces ≡ []
  pub no_own : own ≡ []
  pub given_up : IsGivenUp [] out

-- the pieces that a client sent, the entries of its connection and the bytes that it got are a conversation that ended so; `stopped` says
-- whether a Stop stands before the connection's Gone, `wanted` how many of its turns wanted memory
abbrev pub IsTalk : Limits → (stopped : Bool) → (wanted : ℕ) → List (List ℕ) → (own : History) → (out : List ℕ) → Ended → Type 0
IsTalk limits stopped wanted pieces own out ended = Finishes limits stopped wanted pieces own out ended ⊎ NeverBegins pieces own out ended

-- the conversation of a connection in a history: what it sent, what it got and how it ended
abbrev pub IsTalkIn : Limits → (number : ℕ) → History → (wanted : ℕ) → List (List ℕ) → (out : List ℕ) → Ended → Type 0
IsTalkIn limits number h wanted pieces out ended = IsTalk limits (stops_before_gone number h) wanted pieces (own number h) out ended

-- the ending had its cause: the source answered the end, or the count of failed reads or of failed writes rose
abbrev pub Allows : Ended → (at_end : Bool) → (read_faults write_faults : ℕ) → Type 0
Allows EndOfInput at_end read_faults write_faults = at_end ≡ true
Allows Closed at_end read_faults write_faults = Unit {0}
Allows ReadFault at_end read_faults write_faults = Rose 0 read_faults
Allows WriteFault at_end read_faults write_faults = Rose 0 write_faults
Allows Memory at_end read_faults write_faults = Unit {0}

-- the command that an act took
abbrev pub command_in : Act → List Command
command_in (Did command r) = command ∷ []
command_in act = []

-- the commands that these entries took, in order
abbrev pub commands_of : History → List Command
commands_of h = flat_map (λ e. command_in e.0.act) h
