use Rattle.std.proofs.Common.{arith, refl}
use Rattle.queue_image.specs.Finds.IsBadFile.{damaged}
use Rattle.drill_parts.specs.Left.GivesSo.{bad, good}
use Rattle.drill_parts.proofs.left.in_file.Goals as goal

pub returns-in-Whole : goal.returns-in-Whole
returns-in-Whole c =
    let here = rw c.in-Whole.is at c.in_ok-bodies.ensures in
    good c.in-Whole.bodies
    (record {
      starts_inside = omega (arith, c.if-start-len.false, c.start_in-start.ensures);
      ends_inside = omega (arith, c.if-end-len.false, c.end_in-end.ensures);
      row = rw (c.start_in-start.ensures, c.end_in-end.ensures) at here;
    }) c.count.ensures

pub returns-in-Damaged : goal.returns-in-Damaged
returns-in-Damaged c =
    let here = rw c.in-Damaged.is at c.in_ok-bodies.ensures in
    bad (damaged c.in-Damaged.place c.in-Damaged.size (rw (c.start_in-start.ensures, c.end_in-end.ensures) at here)) refl
