use Rattle.queue_image.specs.Finds.IsBadFile.{damaged}
use Rattle.path_plain.proofs.finding.part_of.Goals as goal

pub returns-in-Damaged : goal.returns-in-Damaged
returns-in-Damaged c =
    let here = rw c.in-Damaged.is at c.in_ok-bodies.ensures in
    damaged c.in-Damaged.place c.in-Damaged.size (rw (c.start_in-start.ensures, c.end_in-end.ensures) at here)
