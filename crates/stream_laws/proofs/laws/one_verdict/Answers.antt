use Rattle.v2_frame.proofs.VerdictLemmas.{judged_unique}
use Rattle.stream_laws.proofs.laws.one_verdict.Goals as goal

pub returns : goal.returns
returns c = λ limits bytes v w d e. judged_unique limits d e
