use Rattle.std.proofs.Common.{◌∙◌, refl}
use Rattle.turnstile.proofs.Keeps.{splits, looks}
use Rattle.turnstile.proofs.Taking.{has_word}
use Rattle.turnstile.proofs.turnstile.Turnstile.cut.Goals as goal

pub split_seat-new-requires : goal.split_seat-new-requires
split_seat-new-requires g c = (
  c.requires.of,
  has_word _ c.args.self.now.sized.0,
  splits _ _ _ _ _ _ _ c.requires.pass.live c.requires.new.first (rw (← c.requires.number) c.requires.new.new),
)

pub load-requires : goal.load-requires
load-requires g c = (c.split_seat-new.ensures.3 ∙ c.requires.of, has_word _ c.args.self.now.sized.0, looks _ _ _ _ _ _ _ (rw c.split_seat-new.ensures.4 refl))
