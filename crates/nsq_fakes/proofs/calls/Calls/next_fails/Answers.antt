use Rattle.std.proofs.Common.{true, false, refl}
use Rattle.std.proofs.lemmas.Bool.{false≢true}
use Rattle.std.proofs.Math.Nat.{le_of_eq}
use Rattle.nsq_fakes.proofs.Lists.{contains_is}
use Rattle.nsq_fakes.proofs.calls.Calls.next_fails.Goals as goal

pub returns-then-contains : goal.returns-then-contains
returns-then-contains c = record {
  failing = contains_is c.args.self.now.fails.items c.deref.result.now c.args.self.now.next true c.deref.ensures.value c.if-contains.ensures.cases;
  counted = (refl, c.saturating_add-self.ensures);
  faults = c.add.ensures.faults;
  cause = λ _. c.add.ensures.rose;
  fault = c.add.ensures.counted;
}

pub returns : goal.returns
returns c = record {
  failing = contains_is c.args.self.now.fails.items c.deref.result.now c.args.self.now.next false c.deref.ensures.value c.if-contains.ensures.cases;
  counted = (refl, c.saturating_add-self.ensures);
  faults = le_of_eq refl;
  cause = λ so. absurd (false≢true so);
  fault = refl;
}
