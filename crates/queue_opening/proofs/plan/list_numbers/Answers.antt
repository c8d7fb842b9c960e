use Rattle.std.proofs.Common.{◌∙◌, refl}
use Rattle.std.proofs.Math.Nat.{le_of_eq}
use Rattle.queue_opening.proofs.Plans.{numbers_listed}
use Rattle.queue_opening.proofs.plan.list_numbers.Goals as goal

pub returns-in_default : goal.returns-in_default
returns-in_default g c = record {
  numbers = λ told. tt;
  same = λ told name. refl;
  faults = le_of_eq refl;
  cause = tt;
  exact = λ counts. refl;
  meta = tt;
}

pub returns-in-Failed : goal.returns-in-Failed
returns-in-Failed g c = record {
  numbers = λ told. tt;
  same = c.in-Failed.ensures.same;
  faults = c.in-Failed.ensures.faults;
  cause = c.in-Failed.ensures.cause;
  exact = c.in-Failed.ensures.exact;
  meta = tt;
}

pub returns-in-Memory : goal.returns-in-Memory
returns-in-Memory g c = record {
  numbers = λ told. tt;
  same = c.in-Memory.ensures.same;
  faults = c.in-Memory.ensures.faults;
  cause = tt;
  exact = c.in-Memory.ensures.exact;
  meta = tt;
}

pub returns-in-Ok-numbers_in : goal.returns-in-Ok-numbers_in
returns-in-Ok-numbers_in g c = record {
  numbers = λ told.
      numbers_listed (g.F.Folder.files c.args.folder.now) c.args.name.now c.as_str.result.now c.in-Ok-numbers_in.numbers.items c.new-names.result.items c.list.new.names.items c.deref.result.now
      (c.as_str.ensures.value ∙ c.in-Ok.ensures) c.new-names.ensures.items c.deref.ensures.value (c.in-Done.ensures.names told) c.in-Ok-numbers_in.ensures;
  same = c.in-Done.ensures.same;
  faults = c.in-Done.ensures.faults;
  cause = tt;
  exact = c.in-Done.ensures.exact;
  meta = tt;
}

pub returns : goal.returns
returns g c = record {
  numbers = λ told. tt;
  same = c.in-Done.ensures.same;
  faults = c.in-Done.ensures.faults;
  cause = tt;
  exact = c.in-Done.ensures.exact;
  meta = tt;
}
