use Rattle.http_calls.proofs.ArgumentLemmas.{argument_is}
use Rattle.http_calls.proofs.argument.argument.Goals as goal

pub returns : goal.returns
returns c = argument_is c.args.request.now.query c.args.name.now c.argument.result c.argument.ensures
