use Rattle.turnstile.proofs.Keeps.{wins}
use Rattle.turnstile.proofs.Taking.{has_word}
use Rattle.turnstile.proofs.turnstile.Turnstile.try_win.Goals as goal

pub compare_exchange-requires : goal.compare_exchange-requires
compare_exchange-requires g c = (c.requires.of, has_word _ c.args.self.now.sized.0, wins _ _ _ _ _ _ _ c.requires.pass.live c.requires.away)
