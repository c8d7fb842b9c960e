use Rattle.std.proofs.Common.{◌≡◌, ◌≤◌, ◌<◌, ℕ, None, max, take}
use Rattle.queue_image.specs.FileNames.{data_file}
use Rattle.path_plain.specs.Folders.{files_of}
use Rattle.path_plain.proofs.finding.next_number.Given as goal

abbrev pub invariant-loop-file : goal.invariant-loop-file
invariant-loop-file l = record {
  low : l.from ≤ l.next;
  high : l.next ≤ max l.from l.last;
  absent : (k : ℕ) → l.from ≤ k → k < l.next → files_of (take l.file-index l.files) (data_file l.name k) ≡ None;
}
