use Rattle.http_calls.specs.declared.refusal.Refusal.TheVariants.{MissingTopic}
use Rattle.http_calls.proofs.ArgumentLemmas.{no_name}
use Rattle.http_calls.proofs.argument.topic_of.Goals as goal

pub returns-in-None : goal.returns-in-None
returns-in-None c = rw c.in-Some.is (no_name MissingTopic c.args.invalid c.in-Some.bytes.now c.in-None.ensures)
