use Rattle.v2_frame.proofs.HeadingLemmas.{rdy_nothing}
use Rattle.v2_frame.proofs.heading.with_one.Goals as goal

pub returns-in-None : goal.returns-in-None
returns-in-None c = rw c.in-Rdy.is (rdy_nothing c.args.word.now c.in-None.ensures)
