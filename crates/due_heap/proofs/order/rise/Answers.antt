use Rattle.std.proofs.Common.{refl, sym, ◌∙◌, arith}
use Rattle.due_heap.proofs.Exchanging.{parent_less, parent_within, place_within}
use Rattle.due_heap.proofs.Rising.{by, climb_begins, climb_steps, climb_ends, rises, rises_above, closes, no_parent, one_parent, moved_again, moved_not}
use Rattle.due_heap.proofs.order.rise.Goals as goal

pub loop-j-init : goal.loop-j-init
loop-j-init g c = record {
  matched = c.requires.matched;
  long = refl;
  in_range = c.requires.in_range;
  here = refl;
  but = c.requires.but;
  above = c.requires.above;
  moved = moved_not c.args.order.now c.args.places.now;
  steps = climb_begins c.args.n c.args.steps.now c.args.start c.requires.in_range;
}

pub returns-then-not-is_before : goal.returns-then-not-is_before
returns-then-not-is_before g c = record {
  matched = c.loop-j.invariant.matched;
  heap = closes c.loop-j.invariant.but c.loop-j.invariant.above (one_parent c.loop-j.order c.loop-j.j (by refl (sym c.loop-j.invariant.here) c.if-not-is_before.ensures));
  moved = c.loop-j.invariant.moved;
  steps = climb_ends c.loop-j.invariant.steps;
}

pub exchange-requires : goal.exchange-requires
exchange-requires g c = record {
  matched = c.loop-j.invariant.matched;
  i_in = parent_within c.loop-j.invariant.in_range c.requires.within c.loop-j.invariant.long;
  j_in = place_within c.loop-j.invariant.in_range c.requires.within c.loop-j.invariant.long;
  at_i = refl;
  at_j = c.loop-j.invariant.here;
}

pub loop-j-smaller : goal.loop-j-smaller
loop-j-smaller g c = parent_less c.loop-j-test.true

pub loop-j-preserved : goal.loop-j-preserved
loop-j-preserved g c =
    let l = c.loop-j.invariant in
    let e = c.exchange.ensures in
    let t = by (sym l.here) refl c.if-not-is_before.ensures in
    record {
      matched = e.matched;
      long = e.exchanged.same_length ∙ l.long;
      in_range = omega arith;
      here = l.here ∙ sym e.exchanged.at_i;
      but = rises e.exchanged (omega arith) (omega arith) (omega arith) t l.but;
      above = rises_above e.exchanged (omega arith) (omega arith) (omega arith) t l.but;
      moved = moved_again l.moved (e.moved c.args.n (omega arith) (omega arith));
      steps = climb_steps l.steps (omega arith) e.steps;
    }

pub returns : goal.returns
returns g c = record {
  matched = c.loop-j.invariant.matched;
  heap = closes c.loop-j.invariant.but c.loop-j.invariant.above (no_parent c.loop-j.order c.loop-j.j (omega (arith, c.loop-j-test.false)));
  moved = c.loop-j.invariant.moved;
  steps = climb_ends c.loop-j.invariant.steps;
}
