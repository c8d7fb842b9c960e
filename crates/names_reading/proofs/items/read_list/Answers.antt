use Rattle.serde_json.specs.View.{view}
use Rattle.names_reading.proofs.Listing.{failed, list_bad, list_kept, list_none, list_other, list_twice, no_value}
use Rattle.names_reading.proofs.items.read_list.Goals as goal

pub returns-in_default : goal.returns-in_default
returns-in_default g c = record { value = list_none g.X.Listed.says g.X.Named.name_of _ c.new.result.items c.in_default.ensures c.new.ensures.items; bad = tt }

pub returns-in_default-as_array : goal.returns-in_default-as_array
returns-in_default-as_array g c = record {
  value = tt;
  bad = λ bad. list_other g.X.Listed.says g.X.Named.name_of _ (view c.in-Some.member.now) c.in-Some.ensures c.in_default-as_array.ensures;
}

pub returns-in_err-list : goal.returns-in_err-list
returns-in_err-list g c = record {
  value = no_value c.from_residual.result _ c.from_residual.ensures.0;
  bad = failed c.from_residual.result c.in_err-list.field-0.0 c.from_residual.ensures
      (λ b. list_bad g.X.Listed.says g.X.Named.name_of _ (view c.in-Some.member.now) _ c.in-Some.ensures (rw c.deref.ensures.value c.in-Some-as_array.ensures) (c.in_err-list.ensures.bad b));
}

pub returns-then-not-sort : goal.returns-then-not-sort
returns-then-not-sort g c = record {
  value = tt;
  bad = λ bad. list_twice g.X.Listed.says g.X.Named.name_of g.met.X.Listed.once _ (view c.in-Some.member.now) _ c.in_ok-list.list.items c.in-Some.ensures (rw c.deref.ensures.value c.in-Some-as_array.ensures) c.in_ok-list.ensures.value (c.sort.ensures.twice c.if-not-sort.true);
}

pub returns : goal.returns
returns g c = record {
  value = list_kept g.X.Listed.says g.X.Named.name_of _ (view c.in-Some.member.now) _ c.in_ok-list.list.items c.sort.new.list.items c.in-Some.ensures (rw c.deref.ensures.value c.in-Some-as_array.ensures) c.in_ok-list.ensures.value (c.sort.ensures.once c.if-not-sort.false);
  bad = tt;
}
