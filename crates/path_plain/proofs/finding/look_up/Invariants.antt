use Rattle.std.proofs.Common.{◌≡◌, drop}
use Rattle.path_plain.specs.Folders.{files_of}
use Rattle.path_plain.proofs.finding.look_up.Given as goal

abbrev pub invariant-loop-file : goal.invariant-loop-file
invariant-loop-file l = files_of (drop l.file-index l.files) l.name ≡ files_of l.files l.name
