use Rattle.std.proofs.Common.{refl, sym, ◌∙◌}
use Rattle.due_heap.proofs.Exchanging.{child_nearer, has_child, place_within, within_same}
use Rattle.due_heap.proofs.Rising.{by, sink_begins, sink_steps, sink_ends, sinks, sinks_below, closes, above_both, no_child, moved_again, moved_not}
use Rattle.due_heap.proofs.order.sink.Goals as goal

pub loop-j-init : goal.loop-j-init
loop-j-init g c = record {
  matched = c.requires.matched;
  long = refl;
  in_range = c.requires.in_range;
  here = refl;
  but = c.requires.but;
  below = c.requires.below;
  moved = moved_not c.args.order.now c.args.places.now;
  steps = sink_begins c.args.n c.args.steps.now c.args.start;
}

pub first_child-child-requires : goal.first_child-child-requires
first_child-child-requires g c = record { child = has_child c.loop-j-test.true; within = within_same c.requires.within c.loop-j.invariant.long }

pub returns-then-not-is_before : goal.returns-then-not-is_before
returns-then-not-is_before g c = record {
  matched = c.loop-j.invariant.matched;
  heap = closes c.loop-j.invariant.but (above_both c.loop-j.order c.args.n c.loop-j.j c.first_child-child.result c.first_child-child.ensures.first (by (sym c.loop-j.invariant.here) refl c.if-not-is_before.ensures)) c.loop-j.invariant.below;
  moved = c.loop-j.invariant.moved;
  steps = sink_ends c.loop-j.invariant.steps c.loop-j.invariant.in_range;
}

pub exchange-requires : goal.exchange-requires
exchange-requires g c = record {
  matched = c.loop-j.invariant.matched;
  i_in = place_within c.loop-j.invariant.in_range c.requires.within c.loop-j.invariant.long;
  j_in = place_within c.first_child-child.ensures.in_range c.requires.within c.loop-j.invariant.long;
  at_i = c.loop-j.invariant.here;
  at_j = refl;
}

pub loop-j-smaller : goal.loop-j-smaller
loop-j-smaller g c = child_nearer c.loop-j.j c.first_child-child.ensures.from c.first_child-child.ensures.in_range

pub loop-j-preserved : goal.loop-j-preserved
loop-j-preserved g c =
    let l = c.loop-j.invariant in
    let e = c.exchange.ensures in
    let f = c.first_child-child.ensures in
    record {
      matched = e.matched;
      long = e.exchanged.same_length ∙ l.long;
      in_range = f.in_range;
      here = l.here ∙ sym e.exchanged.at_j;
      but = sinks e.exchanged f.from f.to f.in_range f.first l.but;
      below = sinks_below e.exchanged f.from f.to f.in_range (by refl (sym l.here) c.if-not-is_before.ensures);
      moved = moved_again l.moved (e.moved c.args.n l.in_range f.in_range);
      steps = sink_steps l.steps f.from e.steps;
    }

pub returns : goal.returns
returns g c = record {
  matched = c.loop-j.invariant.matched;
  heap = closes c.loop-j.invariant.but (no_child c.loop-j.order c.args.n c.loop-j.j c.loop-j-test.false) c.loop-j.invariant.below;
  moved = c.loop-j.invariant.moved;
  steps = sink_ends c.loop-j.invariant.steps c.loop-j.invariant.in_range;
}
