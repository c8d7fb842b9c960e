-- What a reader's answers say of the whole stream, whatever the pieces were.
use Rattle.std.specs.Prelude.{◌≡◌, ◌↔◌, ℕ, ◌+◌, ◌-◌, ◌<◌, List, [], ◌∷◌, ◌++◌, length}
use Rattle.v2_frame.specs.declared.command.Command.{Command}
use Rattle.v2_frame.specs.declared.fault.Fault.{Fault}
use Rattle.v2_frame.specs.declared.fault.Limits.{Limits}
use Rattle.v2_frame.specs.declared.fault.Rest.{Rest}
use Rattle.v2_frame.specs.declared.fault.Rest.TheVariants.{Unfinished, Faulty}
use Rattle.v2_frame.specs.declared.got.Got.{Got}
use Rattle.v2_frame.specs.declared.got.Got.TheVariants as got
use Rattle.v2_frame.specs.declared.got.Stage.{Stage}
use Rattle.v2_frame.specs.declared.got.Stage.TheVariants.{Opening, Commands, Failed}
use Rattle.v2_frame.specs.Script.{magic, told_place, IsScript, Row}
use Rattle.v2_frame.specs.Reading.{Reading, fresh, fed, IsLeft, Gives}

-- these commands stand in a row behind the stream's magic, and what is pending stands behind them, at the reader's place
pub record HasGiven (limits : Limits) (place : ℕ) (pending bytes : List ℕ) (commands : List Command) : Type 0 where
  pub after : List ℕ
  pub whole : bytes ≡ magic ++ after
  pub row : Row limits after commands pending
  pub at : place ≡ told_place (4 + (length after - length pending))

-- a reader at this stage has read these bytes and given these commands
abbrev pub HasReadAt : Stage → Limits → ℕ → List ℕ → List ℕ → List Command → Type 0
HasReadAt Opening limits place pending bytes commands = (pending ≡ bytes) × (commands ≡ [])
HasReadAt Commands limits place pending bytes commands = HasGiven limits place pending bytes commands
HasReadAt (Failed fault) limits place pending bytes commands = IsScript limits bytes commands (Faulty fault)

-- the bytes fed to the reader since its start are these, and the commands that it gave are these
abbrev pub HasRead : Reading → List ℕ → List Command → Type 0
HasRead reader bytes commands = HasReadAt reader.stage reader.limits reader.place reader.pending bytes commands

-- the commands that an answer gives
abbrev pub given : Got → List Command
given (got.Whole command) = command ∷ []
given _ = []

-- what an answer says of the bytes that were fed, behind the commands that were given: that nothing whole and no fault is
-- left, or the fault
abbrev pub Tells : Limits → List ℕ → List Command → Got → Type 0
Tells limits bytes commands got.More = IsScript limits bytes commands Unfinished
Tells limits bytes commands (got.Fault fault) = IsScript limits bytes commands (Faulty fault)
Tells limits bytes commands _ = Unit {0}

-- a new reader has read nothing
abbrev pub FreshHasRead : Type 0
FreshHasRead = (limits : Limits) → HasRead (fresh limits) [] []

-- the limits stay, whatever is fed and given
pub record LimitsStay : Type 0 where
  pub fed : (reader : Reading) (piece : List ℕ) → (fed reader.stage reader piece).limits ≡ reader.limits
  pub given : (old new : Reading) (answer : Got) → Gives old new answer → new.limits ≡ old.limits

-- a piece that is fed stands behind the bytes read so far
abbrev pub FedHasRead : Type 0
FedHasRead = (reader : Reading) (bytes piece : List ℕ) (commands : List Command) → HasRead reader bytes commands → HasRead (fed reader.stage reader piece) (bytes ++ piece) commands

-- a command that is given stands behind the commands given so far, and what else is told is true of the bytes read so far
abbrev pub GivenHasRead : Type 0
GivenHasRead = (old new : Reading) (got : Got) (bytes : List ℕ) (commands : List Command) → Gives old new got → HasRead old bytes commands → HasRead new bytes (commands ++ given got) × Tells old.limits bytes commands got

-- the commands given so far and what is left are the script of all bytes that were fed
abbrev pub ReadIsScript : Type 0
ReadIsScript = (reader : Reading) (bytes : List ℕ) (commands more : List Command) (rest : Rest) → HasRead reader bytes commands → IsLeft reader more rest → IsScript reader.limits bytes (commands ++ more) rest

-- a command that is given takes one byte at least of those that are pending
abbrev pub CommandsTakeBytes : Type 0
CommandsTakeBytes = (old new : Reading) (command : Command) → Gives old new (got.Whole command) → length new.pending < length old.pending

-- what was left is what is given and what is left then
abbrev pub GivenIsLeft : Type 0
GivenIsLeft = (old new : Reading) (got : Got) (commands : List Command) (rest : Rest) → Gives old new got → IsLeft old (given got ++ commands) rest ↔ IsLeft new commands rest

-- after a fault each answer is that fault
abbrev pub FaultStays : Type 0
FaultStays = (old new : Reading) (answer : Got) (fault : Fault) → old.stage ≡ Failed fault → Gives old new answer → (answer ≡ got.Fault fault) × (new.stage ≡ Failed fault)
