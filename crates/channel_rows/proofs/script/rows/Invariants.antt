use Rattle.channel_rows.proofs.script.rows.Given as goal

-- the ledger that the blank is for
abbrev pub ghosts-check_scripts : goal.ghosts-check_scripts
ghosts-check_scripts g a = record { name = a.blank.name; parts = a.blank.parts }
