use Rattle.drill_parts.proofs.Talking.{gives_all, gives_commands, talk_talks}
use Rattle.drill_parts.proofs.laws.callers.Goals as goal

pub returns : goal.returns
returns c = record { talking = talk_talks; in_order = gives_commands; all = gives_all }
