use Rattle.std.proofs.Common.{◌∙◌}
use Rattle.turnstile.proofs.Taking.{has_slot, slot_full, took}
use Rattle.turnstile.proofs.turnstile.Turnstile.take_out.Goals as goal

pub exchange-requires : goal.exchange-requires
exchange-requires g c = (c.win.ensures.same.0 ∙ c.requires.of, has_slot _ _ _ _ c.args.seat.now.me c.win.new.seat.me c.win.ensures.won)

pub unreachable-requires : goal.unreachable-requires
unreachable-requires g c = slot_full _ _ _ _ c.args.seat.now.me c.win.new.seat.me c.exchange.result c.win.ensures.won c.exchange.ensures.2 c.in_default.is

pub returns : goal.returns
returns g c =
    let t = took _ _ _ _ c.args.seat.now.me c.win.new.seat.me c.exchange.new.seat.me c.exchange.result c.in-Some.value c.win.ensures.won c.requires.pass.in_hand c.requires.away c.exchange.ensures.2 c.exchange.ensures.3 c.in-Some.is in
    record {
      same = (c.exchange.ensures.0 ∙ c.win.ensures.same.0, c.exchange.ensures.1 ∙ c.win.ensures.same.1);
      view = t.view;
      hand = t.in_hand;
      front = t.front;
      own = t.its_own;
      descends = t.fits_root;
    }
