use Rattle.stream_laws.proofs.EveryLemmas.{verdict_there, script_there}
use Rattle.stream_laws.proofs.laws.every_stream_has_a_script.Goals as goal

pub returns : goal.returns
returns c = record { verdict = verdict_there; script = script_there }
