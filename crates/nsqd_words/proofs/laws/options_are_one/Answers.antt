use Rattle.nsqd_words.proofs.SayingLemmas.{values_one}
use Rattle.nsqd_words.proofs.laws.options_are_one.Goals as goal

pub returns : goal.returns
returns c = λ words o p s t. values_one _ o p s.values t.values
