use Rattle.v2_frame.proofs.VerdictLemmas.{begins_judged, judged_begins}
use Rattle.stream_laws.proofs.laws.whole_is_spelled.Goals as goal

pub returns : goal.returns
returns c = record { spelled = λ limits bytes rest command b. begins_judged b; whole = λ limits bytes rest command d. judged_begins d }
