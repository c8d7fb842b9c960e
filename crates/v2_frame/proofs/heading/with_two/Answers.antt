use Rattle.v2_frame.proofs.HeadingLemmas.{dpub_nothing, req_nothing}
use Rattle.v2_frame.proofs.heading.with_two.Goals as goal

pub returns-in-None : goal.returns-in-None
returns-in-None c = rw c.in-Dpub.is (dpub_nothing c.args.word.now c.args.last.now c.in-None.ensures)

pub returns-in-None-number_of : goal.returns-in-None-number_of
returns-in-None-number_of c = rw c.in-Req.is (req_nothing c.args.word.now c.args.last.now (λ id. c.in-None-number_of.ensures))
