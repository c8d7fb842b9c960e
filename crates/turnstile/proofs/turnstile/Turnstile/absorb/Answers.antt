use Rattle.std.proofs.Common.{◌∙◌, refl}
use Rattle.turnstile.proofs.Keeps.{joins, looks}
use Rattle.turnstile.proofs.Taking.{has_word, seat_grown}
use Rattle.turnstile.proofs.turnstile.Turnstile.absorb.Goals as goal

pub join_seat-requires : goal.join_seat-requires
join_seat-requires g c = (
  c.requires.of.0,
  c.requires.of.1,
  rw (c.requires.pass.1.in_hand, c.requires.away) refl,
  has_word _ c.args.self.now.sized.0,
  joins _ _ _ _ _ _ _ _ c.requires.pass.0.live c.requires.first c.requires.pass.1.live c.requires.away,
)

pub load-requires : goal.load-requires
load-requires g c = (c.join_seat.ensures.0 ∙ c.requires.of.0, has_word _ c.args.self.now.sized.0, looks _ _ _ _ _ _ _ (rw c.join_seat.ensures.2 c.requires.pass.0.live))

pub returns : goal.returns
returns g c =
    let t = seat_grown _ _ c.args.seat.now.me c.join_seat.new.seat.me c.load.new.seat.me c.args.other.me.0 c.join_seat.ensures.2 c.load.ensures.2.0 c.requires.first c.load.ensures.2.1 in
    record {
      same = ((c.load.ensures.0 ∙ c.join_seat.ensures.0, c.load.ensures.1 ∙ c.join_seat.ensures.1), λ i. ((c.load.ensures.2.0 ∙ c.join_seat.ensures.2) i).1);
      view = λ i. ((c.load.ensures.2.0 ∙ c.join_seat.ensures.2) i).0;
      both = (t.one, t.other);
      own = t.its_own;
    }
