use Rattle.std.proofs.Common.{map, sym, subst, ◌∙◌}
use Rattle.std.proofs.lemmas.List.{take_all}
use Rattle.serde_json.specs.View.{view, items_of}
use Rattle.path_plain.specs.Reads.{ItemsKeep}
use Rattle.path_plain.proofs.NameLists.{read_bad, read_passed, read_put, read_again}
use Rattle.path_plain.proofs.names_lists.read_items.Goals as goal

pub returns-in_default : goal.returns-in_default
returns-in_default g c =
    read_bad g.X.Listed.says g.X.Named.name_of view c.args.items.now c.loop-item.item-index _ c.item-item.result c.loop-item-test.true c.item-item.is (rw c.in_default.is at c.in_ok-listed.ensures)

pub loop-item-preserved-then-is_ephemeral : goal.loop-item-preserved-then-is_ephemeral
loop-item-preserved-then-is_ephemeral g c =
    read_passed g.X.Listed.says g.X.Named.name_of view c.args.items.now c.loop-item.item-index _ c.item-item.result c.loop-item.durables.items c.in-Some.listed c.loop-item-test.true c.item-item.is c.loop-item.invariant
    (rw c.in-Some.is at c.in_ok-listed.ensures) (sym c.is_ephemeral.ensures ∙ c.if-is_ephemeral.true)

pub returns-then-has : goal.returns-then-has
returns-then-has g c =
    read_again g.X.Listed.says g.X.Named.name_of view g.met.X.Listed.once c.args.items.now c.loop-item.item-index _ c.item-item.result c.loop-item.durables.items c.in-Some.listed c.loop-item-test.true c.item-item.is c.loop-item.invariant
    (rw c.in-Some.is at c.in_ok-listed.ensures) (sym c.is_ephemeral.ensures ∙ c.if-is_ephemeral.false) (rw c.deref.ensures.value at (sym c.has.ensures ∙ c.if-has.true))

pub loop-item-preserved : goal.loop-item-preserved
loop-item-preserved g c =
    read_put g.X.Listed.says g.X.Named.name_of view c.args.items.now c.loop-item.item-index _ c.item-item.result c.loop-item.durables.items c.push.new.self.items c.in-Some.listed c.loop-item-test.true c.item-item.is c.loop-item.invariant
    (rw c.in-Some.is at c.in_ok-listed.ensures) (sym c.is_ephemeral.ensures ∙ c.if-is_ephemeral.false) (rw c.deref.ensures.value at (sym c.has.ensures ∙ c.if-has.false)) c.in_ok-push.ensures.items

pub returns : goal.returns
returns g c =
    subst (λ vs. ItemsKeep g.X.Listed.says g.X.Named.name_of (items_of (map view vs)) c.loop-item.durables.items) (take_all c.loop-item.item-index c.args.items.now c.loop-item-test.false) c.loop-item.invariant
