use Rattle.serde_json.specs.View.{view}
use Rattle.path_plain.proofs.NameLists.{topic_bad}
use Rattle.path_plain.proofs.names.KeptTopicListed.read.Goals as goal

pub returns-in-None : goal.returns-in-None
returns-in-None c = topic_bad (view c.args.item.now) (rw c.in-None.is at c.in_ok-channels.ensures)
