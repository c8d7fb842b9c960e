use Rattle.stream_laws.proofs.ScriptLemmas.{script_more}
use Rattle.stream_laws.proofs.laws.scripts_go_on.Goals as goal

pub returns : goal.returns
returns c = script_more
