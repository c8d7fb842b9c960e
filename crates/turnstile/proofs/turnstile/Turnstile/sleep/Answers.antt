use Rattle.std.proofs.Common.{◌∙◌}
use Rattle.turnstile.proofs.Taking.{pass_stays, away_stays}
use Rattle.turnstile.proofs.turnstile.Turnstile.sleep.Goals as goal

pub try_win-requires : goal.try_win-requires
try_win-requires g c = record {
  of = c.loop.invariant.same.0 ∙ c.requires.of;
  pass = pass_stays c.loop.seat c.args.seat.now c.loop.invariant.me c.requires.pass;
  away = away_stays c.loop.seat c.args.seat.now c.loop.invariant.me c.requires.away;
}

pub returns-then-try_win : goal.returns-then-try_win
returns-then-try_win g c = record {
  same = (c.if-try_win.ensures.same.0 ∙ c.loop.invariant.same.0, c.if-try_win.ensures.same.1 ∙ c.loop.invariant.same.1);
  won = rw (← c.loop.invariant.me) c.if-try_win.ensures.won;
}
