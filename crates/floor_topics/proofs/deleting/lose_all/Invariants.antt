use Rattle.std.proofs.Common.{◌≡◌, length}
use Rattle.std.specs.Prelude.{HoldsAt}
use Rattle.floor_topics.specs.Deleting.{LosesOn}
use Rattle.floor_topics.proofs.deleting.lose_all.Given as goal

abbrev pub invariant-loop-count : goal.invariant-loop-count
invariant-loop-count g l = record {
  on : LosesOn g.F.Folder.tells_files l.i l.count l.initial.hall l.hall (g.F.Folder.files l.initial.folder) (g.F.Folder.files l.folder) (g.F.Folder.folder_faults l.initial.folder) (g.F.Folder.folder_faults l.folder);
  all : HoldsAt (λ r. l.all ≡ length r.stalls.items) l.initial.hall.rooms.items l.i;
}
