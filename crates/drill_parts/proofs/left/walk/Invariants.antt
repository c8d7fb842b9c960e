use Rattle.std.proofs.Common.{◌≤◌, ◌+◌, ◌-◌}
use Rattle.queue_image.specs.Between.{content}
use Rattle.nsq_fakes.specs.MemFolders.{files_in}
use Rattle.drill_parts.specs.Left.{WalksOver}
use Rattle.drill_parts.proofs.left.walk.Given as goal

abbrev pub invariant-loop-number : goal.invariant-loop-number
invariant-loop-number l = record {
  high : l.number ≤ l.positions.write_file + 1;
  walks : WalksOver l.positions (content (files_in l.folder) l.name) l.number l.sum;
}

abbrev pub decreases-loop-number : goal.decreases-loop-number
decreases-loop-number l = (l.positions.write_file + 1) - l.number
