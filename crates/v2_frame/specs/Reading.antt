-- What a reader of a stream in pieces goes on from, and what it is still to give.
use Rattle.std.specs.Prelude.{◌≡◌, ◌⊎◌, ℕ, ◌+◌, ◌-◌, ◌<◌, ◌≤◌, List, [], ◌++◌, length, take, drop, Result, Ok, Err}
use Rattle.nsq_core.specs.declared.memory.Memory.{Memory}
use Rattle.v2_frame.specs.declared.command.Command.{Command}
use Rattle.v2_frame.specs.declared.fault.Fault.{Fault}
use Rattle.v2_frame.specs.declared.fault.Limits.{Limits}
use Rattle.v2_frame.specs.declared.fault.Rest.{Rest}
use Rattle.v2_frame.specs.declared.fault.Rest.TheVariants.{Unfinished, Faulty}
use Rattle.v2_frame.specs.declared.got.Got.{Got}
use Rattle.v2_frame.specs.declared.got.Got.TheVariants as got
use Rattle.v2_frame.specs.declared.got.Stage.{Stage}
use Rattle.v2_frame.specs.declared.got.Stage.TheVariants.{Opening, Commands, Failed}
use Rattle.v2_frame.specs.Line.{HasNo}
use Rattle.v2_frame.specs.Judging.{Begins, IsUnfinished}
use Rattle.v2_frame.specs.Script.{magic, told_place, HasScript, IsScript}
use Rattle.v2_frame.specs.Parts.{HasSizedText}

-- a reader: its limits, how far it has come, the place in the stream of the first byte that isn't done, as it is told, and
-- the bytes that were fed and aren't done
pub record Reading : Type 0 where
  pub limits : Limits
  pub stage : Stage
  pub place : ℕ
  pub pending : List ℕ

-- a reader that was fed nothing
abbrev pub fresh : Limits → Reading
fresh limits = record { limits = limits; stage = Opening; place = 0; pending = [] }

-- the commands that a reader is still to give for the bytes that were fed, and what stands behind them
abbrev pub LeftAt : Stage → Limits → ℕ → List ℕ → List Command → Rest → Type 0
LeftAt Opening limits place pending commands rest = IsScript limits pending commands rest
LeftAt Commands limits place pending commands rest = HasScript limits place pending commands rest
LeftAt (Failed fault) limits place pending commands rest = (commands ≡ []) × (rest ≡ Faulty fault)

-- the same, of a whole reader
abbrev pub IsLeft : Reading → List Command → Rest → Type 0
IsLeft reader commands rest = LeftAt reader.stage reader.limits reader.place reader.pending commands rest

-- one more piece is pending; after a fault nothing more is kept
abbrev pub fed : Stage → Reading → List ℕ → Reading
fed (Failed fault) reader piece = reader
fed _ reader piece = record { limits = reader.limits; stage = reader.stage; place = reader.place; pending = reader.pending ++ piece }

-- what a piece does: it is pending, or for want of memory nothing changed
abbrev pub IsFed : Reading → List ℕ → Result (Unit {0}) Memory → Reading → Type 0
IsFed old piece (Ok _) new = new ≡ fed old.stage old piece
IsFed old piece (Err _) new = new ≡ old

-- the magic stands at the front, and is done
pub record ReadsMagic (old new : Reading) : Type 0 where
  pub opening : old.stage ≡ Opening
  pub begun : new.stage ≡ Commands
  pub limits : new.limits ≡ old.limits
  pub place : new.place ≡ 4
  pub whole : old.pending ≡ magic ++ new.pending

-- nothing changed, or the magic was read
abbrev pub Starts : Reading → Reading → Type 0
Starts old new = (new ≡ old) ⊎ ReadsMagic old new

-- the command stands at the front, and is done
pub record Takes (old new : Reading) (command : Command) : Type 0 where
  pub stands : old.stage ≡ Commands
  pub goes_on : new.stage ≡ Commands
  pub limits : new.limits ≡ old.limits
  pub begins : Begins old.limits old.pending command new.pending
  pub place : new.place ≡ told_place (old.place + (length old.pending - length new.pending))

-- the fault is all that is left, and stays
pub record Fails (old new : Reading) (fault : Fault) : Type 0 where
  pub left : IsLeft old [] (Faulty fault)
  pub failed : new.stage ≡ Failed fault
  pub limits : new.limits ≡ old.limits

-- what is given by a reader that has read the magic, where it stands at the front: the next command, or nothing yet, or the
-- stream's fault; or memory is wanting for what stands behind a command's line, where the line and the size behind it are good
-- and so many bytes are there, and nothing changed
abbrev pub GivesNext : Reading → Reading → Got → Type 0
GivesNext old new (got.Whole command) = Takes old new command
GivesNext old new got.More = IsLeft old [] Unfinished × (new ≡ old)
GivesNext old new (got.Fault fault) = Fails old new fault
GivesNext old new got.Memory = (old.stage ≡ Commands) × HasSizedText old.limits old.pending × (new ≡ old)

-- what a reader gives
pub record Gives (old new : Reading) (got : Got) : Type 0 where
  pub begun : Reading
  pub starts : Starts old begun
  pub next : GivesNext begun new got

-- what a reader remembers of its bytes: how many are done, how many of the others have no line feed among them, and how many
-- have to be pending before anything more is found
pub record Remembers (limits : Limits) (bytes : List ℕ) (start scanned needed : ℕ) : Type 0 where
  pub done : start ≤ length bytes
  pub scan : start + scanned ≤ length bytes
  pub none : HasNo 10 (take scanned (drop start bytes))
  pub waits : (more : List ℕ) → length (drop start bytes ++ more) < needed → IsUnfinished limits (drop start bytes ++ more)
