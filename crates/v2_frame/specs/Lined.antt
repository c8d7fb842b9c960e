-- What a line and what stands behind it answer.
use Rattle.std.specs.Prelude.{◌≡◌, ℕ, List}
use Rattle.v2_frame.specs.declared.fault.FaultKind.{FaultKind}
use Rattle.v2_frame.specs.declared.fault.Limits.{Limits}
use Rattle.v2_frame.specs.declared.start.Start.{Start}
use Rattle.v2_frame.specs.Line.{HasLine}
use Rattle.v2_frame.specs.Heading.{Heading}
use Rattle.v2_frame.specs.Command.{LineSays}
use Rattle.v2_frame.specs.Judging.{Verdict, Faulty, shifted, Behind, Judged}
use Rattle.v2_frame.specs.Parts.{IsStart}

-- the line says a heading with good names, which starts a command
pub record LineStarts (line : List ℕ) (start : Start) : Type 0 where
  pub heading : Heading
  pub says : LineSays line heading
  pub is : IsStart heading start

-- bytes that begin with the line are at fault
abbrev pub IsBadLine : List ℕ → FaultKind → Type 0
IsBadLine line kind = (limits : Limits) (bytes rest : List ℕ) → HasLine bytes line rest → Judged limits bytes (Faulty kind 0)

-- the verdict on what stands behind a line, told from the command's first byte
pub record BehindLine (limits : Limits) (heading : Heading) (rest : List ℕ) (line : ℕ) (shown : Verdict) : Type 0 where
  pub verdict : Verdict
  pub behind : Behind limits heading rest verdict
  pub is : shown ≡ shifted line verdict
