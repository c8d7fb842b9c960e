use Rattle.nsqd_words.proofs.SayingLemmas.{drills_known}
use Rattle.nsqd_words.proofs.laws.other_requests_are_known.Goals as goal

pub returns-clause-drill : goal.returns-clause-drill
returns-clause-drill c = drills_known
