use Rattle.std.proofs.Common.{◌≤◌, ◌+◌, ◌-◌}
use Rattle.queue_image.specs.Between.{content}
use Rattle.queue_image.specs.Finds.{Walks}
use Rattle.path_plain.specs.Folders.{files_of}
use Rattle.path_plain.proofs.finding.walk.Given as goal

abbrev pub invariant-loop-number : goal.invariant-loop-number
invariant-loop-number l = record {
  high : l.number ≤ l.positions.write_file + 1;
  walks : Walks l.least l.limit l.positions (content (files_of l.files) l.name) l.number l.listing.bodies l.listing.bad.items;
}

abbrev pub decreases-loop-number : goal.decreases-loop-number
decreases-loop-number l = (l.positions.write_file + 1) - l.number
