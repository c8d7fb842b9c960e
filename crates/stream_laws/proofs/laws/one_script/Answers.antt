use Rattle.stream_laws.proofs.ScriptLemmas.{script_unique}
use Rattle.stream_laws.proofs.laws.one_script.Goals as goal

pub returns : goal.returns
returns c = script_unique
