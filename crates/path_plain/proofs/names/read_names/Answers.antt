use Rattle.serde_json.specs.View.{view}
use Rattle.path_plain.proofs.NameLists.{names_bad}
use Rattle.path_plain.proofs.names.read_names.Goals as goal

pub returns : goal.returns
returns c = names_bad c.args.text.now (view c.in-Ok.value) c.in-Ok.ensures.ok.1 (rw c.in-None.is at c.in_ok-topics.ensures)
