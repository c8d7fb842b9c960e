-- How the program ends: without having served, and with its line told.
use Rattle.std.specs.Prelude.{◌≡◌, ◌⊎◌, ℕ, List, ◌∷◌, [], ◌++◌, Option, Some, None}
use Rattle.nsq_outside.specs.Causes.{Rose}
use Rattle.nsq_outside.specs.Hosts.{HostContent, Tells}
use Rattle.daemon_endings.specs.declared.ending.Ending.{Ending}
use Rattle.daemon_endings.specs.declared.ending.Ending.TheVariants.{Served, Printed, BadOptions, OutputFault, Memory}

-- it ended without having served
abbrev pub IsUnserved : Ending → Type 0
IsUnserved (Served ended) = ⊥
IsUnserved Printed = Unit {0}
IsUnserved BadOptions = Unit {0}
IsUnserved OutputFault = Unit {0}
IsUnserved Memory = Unit {0}

-- the lines that were told grew by this one, or telling it failed and was counted; without a line none was told
abbrev pub IsTold : Option (List ℕ) → (lines lines' : List (List ℕ)) → (tell tell' : ℕ) → Type 0
IsTold None lines lines' tell tell' = lines' ≡ lines
IsTold (Some line) lines lines' tell tell' = (lines' ≡ lines ++ line ∷ []) ⊎ ((lines' ≡ lines) × Rose tell tell')

-- how telling the line of an ending changes what a host tells
abbrev pub TellsLine : {K : Type 0} → Option (List ℕ) → (old new : HostContent K) → (tell tell' : ℕ) → Type 0
TellsLine None old new tell tell' = new ≡ old
TellsLine (Some line) old new tell tell' = Tells old new line tell tell'
