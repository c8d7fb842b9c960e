use Rattle.std.proofs.Common.{◌≡◌, []}
use Rattle.std.specs.List.{fold}
use Rattle.nsq_base.specs.Names.{put_by}
use Rattle.path_plain.proofs.by_name.in_order.Given as goal

abbrev pub invariant-loop-one : goal.invariant-loop-one
invariant-loop-one g l = l.kept.items ≡ fold (put_by g.X.Named.name_of) [] l.yielded
