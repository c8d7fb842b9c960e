use Rattle.std.proofs.Common.{◌≡◌, ◌≤◌, ℕ, refl, true, false, subst, IsTrue, is_ok, inl, inr, rules}
use Rattle.std.proofs.lemmas.Bool.{false≢true}
use Rattle.nsq_outside.specs.Causes.{Rose, CountsFault}
use Rattle.nsq_fakes.specs.MemFolders.{called_of, counts_of, fails_of}
use Rattle.nsq_fakes.proofs.FolderCalls.{joins_outcome, refused_by}
use Rattle.nsq_fakes.proofs.Results.{from_good, from_bad}
use Rattle.nsq_fakes.proofs.folder.MemFolder.fails.Goals as goal

pub returns-then-refuses : goal.returns-then-refuses
returns-then-refuses c = record {
  refused = λ _. refl;
  why = λ _. inl ((refused_by (counts_of c.args.self.now) c.args.call c.deref.result.now (fails_of c.args.self.now) true c.deref.ensures.value c.if-refuses.ensures.refused).0 refl);
  called = joins_outcome (called_of c.args.self.now) c.keep_call.new.list.items c.args.call c.args.name.now c.args.to.now c.keep_call.result (IsTrue true) refl c.keep_call.ensures.ok c.keep_call.ensures.err;
  counted = c.refuses.ensures.counted;
  rest = refl;
  rose = λ _. c.if-refuses.ensures.rose refl;
  fault = c.if-refuses.ensures.fault;
  faults = c.refuses.ensures.faults;
}

pub returns-then-not-is_kept : goal.returns-then-not-is_kept
returns-then-not-is_kept c =
    let lost : is_ok c.keep_call.result ≡ false = search rules in
    record {
      refused = λ _. refl;
      why = λ _. inr (from_bad c.keep_call.result _ lost c.keep_call.ensures.err);
      called = joins_outcome (called_of c.args.self.now) c.keep_call.new.list.items c.args.call c.args.name.now c.args.to.now c.keep_call.result (IsTrue true) refl c.keep_call.ensures.ok c.keep_call.ensures.err;
      counted = c.refuses.ensures.counted;
      rest = refl;
      rose = λ _. subst (λ (n : ℕ). Rose n c.add.new.self.count) c.if-refuses.ensures.fault c.add.ensures.rose;
      fault = subst (λ (n : ℕ). CountsFault n c.add.new.self.count true) c.if-refuses.ensures.fault c.add.ensures.counted;
      faults = subst (λ (n : ℕ). n ≤ c.add.new.self.count) c.if-refuses.ensures.fault c.add.ensures.faults;
    }

pub returns : goal.returns
returns c =
    let kept : is_ok c.keep_call.result ≡ true = search rules in
    record {
      refused = (refused_by (counts_of c.args.self.now) c.args.call c.deref.result.now (fails_of c.args.self.now) false c.deref.ensures.value c.if-refuses.ensures.refused).1;
      why = λ so. absurd (false≢true so);
      called = inl (from_good c.keep_call.result _ kept c.keep_call.ensures.ok);
      counted = c.refuses.ensures.counted;
      rest = refl;
      rose = λ so. absurd (false≢true so);
      fault = c.if-refuses.ensures.fault;
      faults = c.refuses.ensures.faults;
    }
