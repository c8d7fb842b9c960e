use Rattle.std.proofs.Common.{refl, sym}
use Rattle.turnstile.proofs.Taking.{alive, held_as}
use Rattle.turnstile.proofs.turnstile.Turnstile.take.Goals as goal

pub take_out-value-requires : goal.take_out-value-requires
take_out-value-requires g c = record { of = c.requires.of; pass = record { live = c.args.pass.now.is_live; in_hand = c.args.pass.now.in_hand }; away = c.requires.away }

pub invariant_of-pass : goal.invariant_of-pass
invariant_of-pass g c = record {
  is_live = alive _ _ c.take_out-value.ensures.view c.args.pass.now.is_live;
  in_hand = held_as _ _ _ _ c.take_out-value.ensures.view c.take_out-value.ensures.hand refl;
}

pub returns : goal.returns
returns g c = record {
  of = c.take_out-value.ensures.same;
  taken = record {
    holds = λ i. (c.take_out-value.ensures.view i).turn;
    same = (λ i. (sym c.of.ensures i).seat.table_id, λ i. (sym c.of.ensures i).seat.id);
    list = λ i. (c.of.ensures i).seat.me.0.taken;
  };
  view = c.take_out-value.ensures.view;
  front = c.take_out-value.ensures.front;
  own = c.take_out-value.ensures.own;
  descends = c.take_out-value.ensures.descends;
}
