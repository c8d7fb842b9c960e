use Rattle.std.proofs.Common.{refl}
use Rattle.turnstile.proofs.Taking.{alive, held_as, gave_front, gave_own}
use Rattle.turnstile.proofs.turnstile.Turnstile.give.Goals as goal

pub put_back-requires : goal.put_back-requires
put_back-requires g c = record {
  of = c.requires.of;
  pass = record { live = c.args.pass.now.is_live; in_hand = c.args.pass.now.in_hand };
  turn = c.requires.taken.holds;
  appended = c.requires.appended;
  descends = c.requires.descends;
}

pub invariant_of-pass : goal.invariant_of-pass
invariant_of-pass g c = record {
  is_live = alive _ _ c.put_back.ensures.view c.args.pass.now.is_live;
  in_hand = held_as _ _ _ _ c.put_back.ensures.view c.put_back.ensures.hand refl;
}

pub returns : goal.returns
returns g c = record {
  of = c.put_back.ensures.same;
  view = c.put_back.ensures.view;
  front = gave_front _ _ c.args.pass.now.seat.me.0 c.put_back.new.seat.me.0 _ c.put_back.ensures.view c.put_back.ensures.front c.requires.appended;
  own = gave_own _ _ c.args.pass.now.seat.me.0 c.put_back.new.seat.me.0 _ c.put_back.ensures.view c.put_back.ensures.own;
}
