use Rattle.base_rows.proofs.base.heap.rows.Given as goal

-- the ledger that the blank is for
abbrev pub ghosts-check_rows : goal.ghosts-check_rows
ghosts-check_rows g a = record { name = a.blank.name; parts = a.blank.parts }
