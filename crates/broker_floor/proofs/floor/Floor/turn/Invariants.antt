use Rattle.broker_floor.proofs.floor.Floor.turn.Given as goal

abbrev pub ghosts-turn_in : goal.ghosts-turn_in
ghosts-turn_in g a = record { name = a.blank.name; parts = a.blank.parts }
