use Rattle.serde_json.specs.View.{view}
use Rattle.path_plain.proofs.NameLists.{list_bad}
use Rattle.path_plain.proofs.names_lists.read_list.Goals as goal

pub returns-in-None : goal.returns-in-None
returns-in-None g c =
    list_bad g.X.Listed.says g.X.Named.name_of _ (view c.in-Some.member.now) _ c.in-Some.ensures c.in-Some-as_array.ensures (rw (c.in-None.is, c.deref.ensures.value) at c.in_ok-durables.ensures)
