use Rattle.nsqd_words.proofs.Refusals.{one_refusal}
use Rattle.nsqd_words.proofs.laws.refusals_are_one.Goals as goal

pub returns : goal.returns
returns c = one_refusal
