-- How the program ends: its status and its line.
use Rattle.std.specs.Prelude.{ℕ, List, Option, Some, None, codes}
use Rattle.daemon_endings.specs.Endings.{status_of as serve_status}
use Rattle.daemon_endings.specs.declared.ending.Ending.{Ending}
use Rattle.daemon_endings.specs.declared.ending.Ending.TheVariants.{Served, Printed, BadOptions, OutputFault, Memory}
use Rattle.daemon_endings.specs.declared.serving.ServeEnd.TheVariants as end

-- the status
abbrev pub status_of : Ending → ℕ
status_of (Served ended) = serve_status ended
status_of Printed = 0
status_of BadOptions = 1
status_of OutputFault = 6
status_of Memory = 5

-- the line that is told, without its line end, where one is
abbrev pub line_of : Ending → Option (List ℕ)
line_of (Served end.Clean) = None
line_of (Served end.BadData) = Some (codes "nsqd: data path: bad data")
line_of (Served end.EpochSpent) = Some (codes "nsqd: data path: ids spent")
line_of (Served end.OpeningFault) = Some (codes "nsqd: data path: disk fault")
line_of (Served end.StopFault) = Some (codes "nsqd: stop: disk fault")
line_of (Served end.AcceptFailed) = Some (codes "nsqd: accept failed")
line_of (Served end.Memory) = Some (codes "nsqd: out of memory")
line_of Printed = None
line_of BadOptions = Some (codes "nsqd: bad options")
line_of OutputFault = Some (codes "nsqd: output fault")
line_of Memory = Some (codes "nsqd: out of memory")
