use Rattle.std.proofs.Common.{List, sym, subst, map, ◌∙◌}
use Rattle.std.proofs.lemmas.List.{take_all}
use Rattle.serde_json.specs.View.{view, items_of}
use Rattle.serde_json.specs.declared.value.Value.{Value}
use Rattle.names_reading.specs.Reading.{ItemsKeep}
use Rattle.names_reading.proofs.Listing.{failed, no_value, read_bad, read_none, read_passed, read_put, wanting}
use Rattle.names_reading.proofs.items.read_items.Goals as goal

pub loop-item-init : goal.loop-item-init
loop-item-init g c = read_none g.X.Listed.says g.X.Named.name_of c.new-durables.result.items c.new-durables.ensures.items

pub returns-in_err-listed : goal.returns-in_err-listed
returns-in_err-listed g c = record {
  value = no_value c.from_residual.result _ c.from_residual.ensures.0;
  bad = failed c.from_residual.result c.in_err-listed.field-0.0 c.from_residual.ensures
      (λ b. read_bad g.X.Listed.says g.X.Named.name_of view c.args.items.now c.loop-item.item-index _ c.item-item.result c.loop-item-test.true c.item-item.is (c.in_err-listed.ensures.bad b));
}

pub loop-item-preserved-then-is_ephemeral : goal.loop-item-preserved-then-is_ephemeral
loop-item-preserved-then-is_ephemeral g c =
    read_passed g.X.Listed.says g.X.Named.name_of view c.args.items.now c.loop-item.item-index _ c.item-item.result c.loop-item.durables.items c.in_ok-listed.listed c.loop-item-test.true c.item-item.is c.loop-item.invariant
    c.in_ok-listed.ensures.value (sym c.is_ephemeral.ensures ∙ c.if-is_ephemeral.true)

pub returns-in_err-push : goal.returns-in_err-push
returns-in_err-push g c = record {
  value = no_value c.from_residual-in_err-push.result _ c.from_residual-in_err-push.ensures.0;
  bad = wanting _ c.from_residual-in_err-push.result c.from_residual-in_err-push.ensures;
}

pub loop-item-preserved : goal.loop-item-preserved
loop-item-preserved g c =
    read_put g.X.Listed.says g.X.Named.name_of view c.args.items.now c.loop-item.item-index _ c.item-item.result c.loop-item.durables.items c.push.new.self.items c.in_ok-listed.listed c.loop-item-test.true c.item-item.is c.loop-item.invariant
    c.in_ok-listed.ensures.value (sym c.is_ephemeral.ensures ∙ c.if-is_ephemeral.false) c.in_ok-push.ensures.items

pub returns : goal.returns
returns g c = record {
  value = subst (λ (vs : List Value). ItemsKeep g.X.Listed.says g.X.Named.name_of (items_of (map view vs)) c.loop-item.durables.items) (take_all c.loop-item.item-index c.args.items.now c.loop-item-test.false) c.loop-item.invariant;
  bad = tt;
}
