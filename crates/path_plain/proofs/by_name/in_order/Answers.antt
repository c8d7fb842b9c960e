use Rattle.std.proofs.Common.{[]}
use Rattle.nsq_base.specs.Names.{put_by}
use Rattle.path_plain.proofs.NameLists.{fold_next}
use Rattle.path_plain.proofs.by_name.in_order.Goals as goal

pub loop-one-preserved : goal.loop-one-preserved
loop-one-preserved g c = fold_next (put_by g.X.Named.name_of) [] c.loop-one.yielded c.in-Some.one _ _ c.loop-one.invariant c.in_ok-kept.ensures
