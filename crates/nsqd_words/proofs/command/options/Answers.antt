use Rattle.std.proofs.Common.{refl}
use Rattle.nsqd_words.proofs.command.options.Goals as goal

pub returns : goal.returns
returns c = refl
