use Rattle.std.proofs.Common.{refl}
use Rattle.std.proofs.lemmas.Bool.{false≢true}
use Rattle.std.proofs.Math.Nat.{le_of_eq}
use Rattle.nsq_fakes.proofs.folder.refuses.Goals as goal

pub returns-then-count : goal.returns-then-count
returns-then-count c = record {
  refused = c.if-count.ensures.fails;
  counted = c.count.ensures.counted;
  rose = λ _. c.add.ensures.rose;
  fault = c.add.ensures.counted;
  faults = c.add.ensures.faults;
}

pub returns : goal.returns
returns c = record {
  refused = c.if-count.ensures.fails;
  counted = c.count.ensures.counted;
  rose = λ so. absurd (false≢true so);
  fault = refl;
  faults = le_of_eq refl;
}
