use Rattle.std.proofs.Common.{◌≡◌, false}
use Rattle.floor_moves.specs.Moves.{sight}
use Rattle.floor_turns.proofs.Rounds.{HeldSoFar}
use Rattle.floor_turns.proofs.drawing.draw.Given as goal

abbrev pub invariant-loop : goal.invariant-loop
invariant-loop g l =
    HeldSoFar g.J.Journal.tells_notes g.F.Folder.tells_files (sight l.fn.hall (g.J.Journal.notes l.fn.journal) (g.F.Folder.files l.fn.folder) (g.F.Folder.folder_faults l.fn.folder)) (sight l.hall (g.J.Journal.notes l.journal) (g.F.Folder.files l.folder) (g.F.Folder.folder_faults l.folder))
    × (g.J.Journal.is_aside l.journal ≡ false)
