use Rattle.broker_floor.proofs.floor.Floor.flush.Given as goal

abbrev pub ghosts-flush_in : goal.ghosts-flush_in
ghosts-flush_in g a = record { name = a.blank.name; parts = a.blank.parts }
