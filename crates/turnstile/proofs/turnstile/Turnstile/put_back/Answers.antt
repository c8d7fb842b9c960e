use Rattle.std.proofs.Common.{◌∙◌, refl}
use Rattle.turnstile.proofs.Keeps.{counts}
use Rattle.turnstile.proofs.Taking.{has_word, has_empty_slot, slot_empty, slot_filled, may_free, gave}
use Rattle.turnstile.proofs.turnstile.Turnstile.put_back.Goals as goal

pub compare_exchange_with-requires : goal.compare_exchange_with-requires
compare_exchange_with-requires g c = (
  c.requires.of,
  has_word _ c.args.self.now.sized.0,
  counts _ _ _ _ _ _ _ c.args.value g.S.Stands.common_is_0 c.requires.pass.live c.requires.turn c.requires.appended,
)

pub exchange-empty-requires : goal.exchange-empty-requires
exchange-empty-requires g c = (
  c.compare_exchange_with.ensures.0 ∙ c.requires.of,
  has_empty_slot _ _ _ c.args.seat.now.me c.compare_exchange_with.new.seat.me c.args.value (c.compare_exchange_with.ensures.2 c.args.value refl) c.requires.pass.in_hand c.requires.turn,
)

pub unreachable-requires : goal.unreachable-requires
unreachable-requires g c =
    slot_empty _ _ _ c.args.seat.now.me c.compare_exchange_with.new.seat.me c.args.value c.exchange-empty.result _ (c.compare_exchange_with.ensures.2 c.args.value refl) c.requires.pass.in_hand c.requires.turn c.exchange-empty.ensures.2 c.in_default.is

pub store-requires : goal.store-requires
store-requires g c = (
  c.exchange-empty.ensures.0 ∙ c.compare_exchange_with.ensures.0 ∙ c.requires.of,
  has_word _ c.args.self.now.sized.0,
  may_free _ _ _ _ _ _ c.args.seat.now.me.0 c.exchange-empty.new.seat.me c.args.value
      (slot_filled _ _ _ c.args.seat.now.me c.compare_exchange_with.new.seat.me c.exchange-empty.new.seat.me c.args.value (c.compare_exchange_with.ensures.2 c.args.value refl) c.requires.pass.in_hand c.requires.turn c.exchange-empty.ensures.3)
      c.requires.pass.live c.requires.descends,
)

pub returns : goal.returns
returns g c =
    let counted = c.compare_exchange_with.ensures.2 c.args.value refl in
    record {
      same = (c.store.ensures.0 ∙ c.exchange-empty.ensures.0 ∙ c.compare_exchange_with.ensures.0, c.store.ensures.1 ∙ c.exchange-empty.ensures.1 ∙ c.compare_exchange_with.ensures.1);
      view = gave _ _ _ c.args.seat.now.me c.compare_exchange_with.new.seat.me c.exchange-empty.new.seat.me c.store.new.seat.me c.args.value counted c.exchange-empty.ensures.3 c.store.ensures.2.0;
      hand = c.store.ensures.2.1;
      front = counted.front;
      own = counted.own;
    }
