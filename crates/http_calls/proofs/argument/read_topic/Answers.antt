use Rattle.http_calls.proofs.ArgumentLemmas.{name_is}
use Rattle.http_calls.proofs.argument.read_topic.Goals as goal

pub returns : goal.returns
returns c = name_is c.args.bytes.now c.read.result c.read.ensures
