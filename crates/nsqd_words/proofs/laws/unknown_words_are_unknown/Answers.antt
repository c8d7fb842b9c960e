use Rattle.nsqd_words.proofs.SayingLemmas.{unknown_is_unknown}
use Rattle.nsqd_words.proofs.laws.unknown_words_are_unknown.Goals as goal

pub returns : goal.returns
returns c = unknown_is_unknown
