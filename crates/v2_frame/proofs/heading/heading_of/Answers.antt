use Rattle.std.proofs.Common.{[], ◌∷◌}
use Rattle.v2_frame.proofs.HeadingLemmas.{verb_nothing}
use Rattle.v2_frame.proofs.heading.heading_of.Goals as goal

pub returns-in-None : goal.returns-in-None
returns-in-None c = λ all are. verb_nothing all c.in-One.first.now [] (rw c.in-One.is at are) c.in-None.ensures

pub returns-in-None-verb_of : goal.returns-in-None-verb_of
returns-in-None-verb_of c = λ all are. verb_nothing all c.in-Two.first.now (c.in-Two.word.now ∷ []) (rw c.in-Two.is at are) c.in-None-verb_of.ensures

pub returns-in-None-verb_of-2 : goal.returns-in-None-verb_of-2
returns-in-None-verb_of-2 c = λ all are. verb_nothing all c.in-Three.first.now (c.in-Three.word.now ∷ c.in-Three.last.now ∷ []) (rw c.in-Three.is at are) c.in-None-verb_of-2.ensures
