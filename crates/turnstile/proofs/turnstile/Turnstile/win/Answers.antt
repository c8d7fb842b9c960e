use Rattle.turnstile.proofs.turnstile.Turnstile.win.Goals as goal

pub returns-then-spin-clause-won : goal.returns-then-spin-clause-won
returns-then-spin-clause-won g c = rw (← c.if-try_win.ensures.won) c.if-spin.ensures.won

pub returns-clause-won : goal.returns-clause-won
returns-clause-won g c = rw (← c.if-try_win.ensures.won, ← c.if-spin.ensures.won) c.sleep.ensures.won
