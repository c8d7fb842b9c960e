use Rattle.turnstile.proofs.turnstile.Turnstile.split.Given as goal

abbrev pub ghosts-cut : goal.ghosts-cut
ghosts-cut g a = record { number = a.number }
