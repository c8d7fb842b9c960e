use Rattle.floor_laws.proofs.Laying.{turns_join, turns_of, laid_adds, laid_timed}
use Rattle.floor_laws.proofs.turns.turns.Goals as goal

pub returns : goal.returns
returns c = record { join = λ number h k a b. turns_join a b; of = λ number h a. turns_of a; add = λ at number d answer h k laid. laid_adds at number d answer k laid h; timed = laid_timed }
