use Rattle.std.proofs.Common.{◌≡◌, ◌≤◌, length, take}
use Rattle.backlog.proofs.Putting.{Spilling}
use Rattle.backlog.proofs.backlog.putting.spill.Given as goal

-- the messages so far are staged
abbrev pub invariant-loop-message : goal.invariant-loop-message
invariant-loop-message g l = record {
  spilling : Spilling g.F.Folder.tells_files l.initial.queue l.queue (g.F.Folder.files l.initial.folder) (g.F.Folder.files l.folder) (take l.message-index l.messages);
  scratch : length l.scratch ≡ length l.initial.scratch;
  faults : g.F.Folder.folder_faults l.initial.folder ≤ g.F.Folder.folder_faults l.folder;
}
