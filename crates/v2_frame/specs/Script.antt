-- The script of a stream: the commands that stand in a row, and what stands behind them.
use Rattle.std.specs.Prelude.{◌≡◌, ◌≢◌, ℕ, ◌+◌, ◌-◌, ◌^◌, ◌<◌, min, List, [], ◌∷◌, ◌++◌, length, codes}
use Rattle.v2_frame.specs.declared.command.Command.{Command}
use Rattle.v2_frame.specs.declared.fault.FaultKind.TheVariants.{BadMagic}
use Rattle.v2_frame.specs.declared.fault.Limits.{Limits}
use Rattle.v2_frame.specs.declared.fault.Rest.{Rest}
use Rattle.v2_frame.specs.declared.fault.Rest.TheVariants.{Unfinished, Faulty}
use Rattle.v2_frame.specs.Judging.{HasFront, Begins, IsFault, IsUnfinished}

-- the four bytes that a stream begins with
abbrev pub magic : List ℕ
magic = codes "  V2"

-- spellings of these commands stand in a row at the front of the bytes, and the rest is left
pub data Row (limits : Limits) : List ℕ → List Command → List ℕ → Type 0 where
  none : {bytes : List ℕ} → Row limits bytes [] bytes
  more : {bytes rest left : List ℕ} {command : Command} {commands : List Command} → Begins limits bytes command rest → Row limits rest commands left → Row limits bytes (command ∷ commands) left

-- a place as it is told: one above 2^63 is given as 2^63
abbrev pub told_place : ℕ → ℕ
told_place at = min at (2 ^ 63)

-- what the bytes at a place of the stream are, at the start of a command: unfinished, or a fault
abbrev pub Ends : Limits → ℕ → List ℕ → Rest → Type 0
Ends limits place bytes Unfinished = IsUnfinished limits bytes
Ends limits place bytes (Faulty fault) = (at : ℕ) × IsFault limits bytes fault.kind at × (fault.at ≡ told_place (place + at))

-- the script of bytes that begin at a place of the stream: the commands in a row, as many as are whole, and what is left
pub record HasScript (limits : Limits) (place : ℕ) (bytes : List ℕ) (commands : List Command) (rest : Rest) : Type 0 where
  pub left : List ℕ
  pub row : Row limits bytes commands left
  pub ends : Ends limits (place + (length bytes - length left)) left rest

-- the script of a stream: too few bytes for the magic, another magic, or the commands behind it
pub data IsScript (limits : Limits) (bytes : List ℕ) (commands : List Command) (rest : Rest) : Type 0 where
  open_magic : length bytes < 4 → commands ≡ [] → rest ≡ Unfinished → IsScript limits bytes commands rest
  bad_magic : {front after : List ℕ} → HasFront bytes 4 front after → front ≢ magic → commands ≡ [] → rest ≡ Faulty (record { kind = BadMagic; at = 0 }) → IsScript limits bytes commands rest
  good_magic : {after : List ℕ} → bytes ≡ magic ++ after → HasScript limits 4 after commands rest → IsScript limits bytes commands rest
