use Rattle.v2_frame.proofs.PlaceLemmas.{many_words}
use Rattle.v2_frame.proofs.line.words_of.Goals as goal

pub returns-in-Some-parted-2 : goal.returns-in-Some-parted-2
returns-in-Some-parted-2 c = many_words _ _ _ c.args.text.now c.in-Some.rest.now c.in-Some-parted.rest.now c.in-Some-parted-2.field-0.1.now c.in-Some.ensures c.in-Some-parted.ensures c.in-Some-parted-2.ensures
