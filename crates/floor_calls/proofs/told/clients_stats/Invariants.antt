use Rattle.std.proofs.Common.{take}
use Rattle.path_image.specs.Found.{Pairwise}
use Rattle.floor_calls.specs.Stats.{IsToldOfNumber}
use Rattle.floor_calls.proofs.told.clients_stats.Given as goal

abbrev pub invariant-members : goal.invariant-members
invariant-members l = Pairwise (IsToldOfNumber l.hall.clients.items l.stall) (take l.number-index l.number-items) l.told
