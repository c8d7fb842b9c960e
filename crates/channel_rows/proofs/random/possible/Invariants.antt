use Rattle.channel_rows.proofs.random.possible.Given as goal

-- the ledger that the blank is for
abbrev pub ghosts-check_runs : goal.ghosts-check_runs
ghosts-check_runs g a = record { name = a.blank.name; parts = a.blank.parts }
