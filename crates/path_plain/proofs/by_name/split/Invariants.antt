use Rattle.std.proofs.Common.{◌≡◌}
use Rattle.std.specs.List.{filter}
use Rattle.nsq_base.specs.Names.{is_before}
use Rattle.path_plain.proofs.by_name.split.Given as goal

abbrev pub invariant-loop-other : goal.invariant-loop-other
invariant-loop-other g l =
    let key = g.X.Named.name_of in
    (l.before.items ≡ filter (λ other. is_before (key other) (key l.one)) l.yielded)
    × (l.after.items ≡ filter (λ other. is_before (key l.one) (key other)) l.yielded)
