use Rattle.std.proofs.Common.{◌≢◌, List, length, sym, subst, rules}
use Rattle.std.specs.List.{AllAdjacentBelow}
use Rattle.std.specs.Cmp.Lexicographic.{nat_list_cmp_total}
use Rattle.std.specs.Ordering.{is_lt}
use Rattle.std.proofs.lemmas.List.Sorted.{ranks_by, answers_always}
use Rattle.nsq_base.specs.Names.{byte_order}
use Rattle.names_reading.specs.Reading.{AreApart}
use Rattle.names_reading.proofs.Sorting.{are_sorted, apart_moved}
use Rattle.names_reading.proofs.sorted.sort.Goals as goal

pub returns-clause-once : goal.returns-clause-once
returns-clause-once g c t =
    let key = g.X.Named.name_of in
    are_sorted key c.args.list.now.items c.sort_unstable_by.new.self.items c.sort_unstable_by.ensures.permutation
    (c.sort_unstable_by.ensures.sorted (λ a b. is_lt (byte_order (key a) (key b))) (ranks_by nat_list_cmp_total key) (answers_always _ _ _ (λ f a r f' k. search rules)))
    (subst (λ (zs : List _). AllAdjacentBelow (λ a b. key a ≢ key b) zs (length zs)) c.deref.ensures.value (c.are_apart.ensures.apart t))

pub returns-clause-twice : goal.returns-clause-twice
returns-clause-twice g c f apart =
    let key = g.X.Named.name_of in
    c.are_apart.ensures.twice f (subst (AreApart key) (sym c.deref.ensures.value) (apart_moved key c.args.list.now.items c.sort_unstable_by.new.self.items apart c.sort_unstable_by.ensures.permutation))
