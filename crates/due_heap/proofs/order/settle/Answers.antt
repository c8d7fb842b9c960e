use Rattle.std.proofs.Common.{arith}
use Rattle.due_heap.proofs.Rising.{above_from_across, no_parent, one_parent}
use Rattle.due_heap.proofs.order.settle.Goals.{else-j-gt0-via-then-j-gt0+else-is_before, else-j-gt0-via-else-j-gt0}
use Rattle.due_heap.proofs.order.settle.Goals as goal

pub rise-requires : goal.rise-requires
rise-requires g c = record {
  matched = c.requires.matched;
  in_range = c.requires.in_range;
  within = c.requires.within;
  but = c.requires.but;
  above = above_from_across c.if-j-gt0.true c.if-is_before.ensures c.requires.but;
}

pub returns-then-is_before : goal.returns-then-is_before
returns-then-is_before g c = record { matched = c.rise.ensures.matched; heap = c.rise.ensures.heap; moved = c.rise.ensures.moved; steps = c.rise.ensures.steps }

pub sink-requires : goal.sink-requires
sink-requires g c = record {
  matched = c.requires.matched;
  in_range = c.requires.in_range;
  within = c.requires.within;
  but = c.requires.but;
  below = elim c.else-j-gt0.branch [
    | else-j-gt0-via-then-j-gt0+else-is_before w ↦ one_parent c.args.order.now c.args.j w.if-is_before.ensures
    | else-j-gt0-via-else-j-gt0 w ↦ no_parent c.args.order.now c.args.j (omega (arith, w.if-j-gt0.false))
  ];
}

pub returns-else-j-gt0 : goal.returns-else-j-gt0
returns-else-j-gt0 g c = record { matched = c.sink.ensures.matched; heap = c.sink.ensures.heap; moved = c.sink.ensures.moved; steps = c.sink.ensures.steps }
