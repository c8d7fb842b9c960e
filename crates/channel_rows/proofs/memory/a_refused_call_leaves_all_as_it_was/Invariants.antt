use Rattle.channel_rows.proofs.memory.a_refused_call_leaves_all_as_it_was.Given as goal

-- the ledger that the blank is for
abbrev pub ghosts-check_channels : goal.ghosts-check_channels
ghosts-check_channels g a = record { name = a.blank.name; parts = a.blank.parts }
