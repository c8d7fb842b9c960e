use Rattle.due_heap.proofs.Exchanging.{few_attached, place_next, put_above, put_attached, put_but, put_matched, put_within}
use Rattle.due_heap.proofs.order.attach.Goals as goal

pub rise-requires : goal.rise-requires
rise-requires g c = record {
  matched = put_matched c.args.order.now c.args.places.now c.args.place c.args.node c.requires.matched c.requires.in_range c.requires.slot;
  in_range = place_next c.args.place;
  within = put_within c.args.order.now c.args.places.now c.args.place c.args.node c.requires.matched c.requires.in_range c.requires.slot;
  but = put_but c.args.order.now c.args.places.now c.args.place c.args.node c.requires.matched c.requires.in_range c.requires.slot c.requires.heap;
  above = put_above c.args.order.now c.args.places.now c.args.place c.args.node c.requires.matched c.requires.in_range c.requires.slot;
}

pub returns : goal.returns
returns g c = record {
  matched = c.rise.ensures.matched;
  heap = c.rise.ensures.heap;
  attached = put_attached c.args.order.now c.args.places.now c.args.place c.args.node c.requires.matched c.requires.in_range c.requires.slot c.rise.ensures.moved;
  steps = few_attached c.args.place c.args.steps.now c.tick.new.self c.rise.new.steps c.tick.ensures c.rise.ensures.steps;
}
