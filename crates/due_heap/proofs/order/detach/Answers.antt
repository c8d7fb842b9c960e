use Rattle.std.proofs.Common.{refl, ◌+◌}
use Rattle.due_heap.proofs.Exchanging.{below_both, but_place, detached_last, detached_moved, few_detached, few_none, heap_less, less_or, next_of, not_last, place_next, within_same}
use Rattle.due_heap.proofs.order.detach.Goals as goal

pub returns-then-place-last : goal.returns-then-place-last
returns-then-place-last g c = record {
  matched = c.requires.matched;
  heap = heap_less c.args.order.now c.args.last c.requires.heap;
  detached = detached_last c.requires.matched c.if-place-last.true c.requires.within;
  steps = few_none (c.args.last + 1) c.args.steps.now;
}

pub exchange-requires : goal.exchange-requires
exchange-requires g c = record {
  matched = c.requires.matched;
  i_in = below_both c.requires.in_range c.requires.within;
  j_in = c.requires.within;
  at_i = refl;
  at_j = refl;
}

pub settle-requires : goal.settle-requires
settle-requires g c = record {
  matched = c.exchange.ensures.matched;
  in_range = not_last c.requires.in_range c.if-place-last.false;
  within = within_same (less_or c.requires.within) c.exchange.ensures.exchanged.same_length;
  but = but_place c.exchange.ensures.exchanged (not_last c.requires.in_range c.if-place-last.false) c.requires.heap;
}

pub returns : goal.returns
returns g c = record {
  matched = c.settle.ensures.matched;
  heap = c.settle.ensures.heap;
  detached = detached_moved c.requires.matched c.exchange.ensures.matched (below_both c.requires.in_range c.requires.within) c.requires.within c.exchange.ensures.exchanged
      (c.exchange.ensures.moved (c.args.last + 1) (next_of c.requires.in_range) (place_next c.args.last)) c.settle.ensures.moved;
  steps = few_detached c.args.last c.args.steps.now c.exchange.new.steps c.settle.new.steps c.exchange.ensures.steps c.settle.ensures.steps;
}
