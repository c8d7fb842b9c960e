use Rattle.base_rows.proofs.base.many_calls.many_calls_answer_as_a_plain_list_does.Given as goal

-- the ledger that the blank is for
abbrev pub ghosts-calls_the_same : goal.ghosts-calls_the_same
ghosts-calls_the_same g a = record { name = a.blank.name; parts = a.blank.parts }
