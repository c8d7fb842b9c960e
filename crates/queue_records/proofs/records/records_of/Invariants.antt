use Rattle.std.proofs.Common.{◌≤◌, ◌-◌, length, take}
use Rattle.queue_image.specs.Records.{IsRow}
use Rattle.queue_records.proofs.records.records_of.Given as goal

abbrev pub invariant-loop-place : goal.invariant-loop-place
invariant-loop-place l = record {
  inside : l.place ≤ length l.bytes;
  row : IsRow l.least l.limit (take l.place l.bytes) l.bodies;
}

abbrev pub decreases-loop-place : goal.decreases-loop-place
decreases-loop-place l = length l.bytes - l.place
