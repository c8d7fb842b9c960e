use Rattle.std.proofs.Common.{◌≡◌, ◌≤◌, [], ℕ, refl, subst, inr, true, rules}
use Rattle.std.proofs.lemmas.Bool.{false≢true}
use Rattle.nsq_outside.specs.Causes.{Rose, CountsFault}
use Rattle.nsq_fakes.specs.MemFolders.{called_of}
use Rattle.nsq_fakes.proofs.FolderCalls.{files_stay, fails_stay, joins_failed, joins_done, got_not_failed, or_more}
use Rattle.nsq_fakes.specs.declared.folder_calls.FolderCall.TheVariants.{ReadAt}
use Rattle.nsq_outside.specs.declared.folder.ReadAt.TheVariants.{Failed}
use Rattle.nsq_fakes.proofs.folder.MemFolderFolder.read_at.Goals as goal

pub returns-then-fails : goal.returns-then-fails
returns-then-fails c = record {
  amount = tt;
  bytes = refl;
  limit = tt;
  same = files_stay c.args.self.now c.fails.new.self c.fails.ensures.rest;
  faults = c.fails.ensures.faults;
  cause = c.if-fails.ensures.rose refl;
  counted = c.if-fails.ensures.fault;
  calls = c.fails.ensures.counted;
  called = joins_failed (called_of c.args.self.now) (called_of c.fails.new.self) ReadAt c.args.name.now [] (Failed ≡ Failed) refl c.if-fails.ensures.called;
  fails = fails_stay c.args.self.now c.fails.new.self c.fails.ensures.rest;
  refused = λ _. refl;
  failed = λ _. or_more (c.if-fails.ensures.why refl);
  past = λ _. refl;
}

pub returns-then-saturating_add-gt-LIMIT : goal.returns-then-saturating_add-gt-LIMIT
returns-then-saturating_add-gt-LIMIT c = record {
  amount = tt;
  bytes = refl;
  limit = tt;
  same = files_stay c.args.self.now c.fails.new.self c.fails.ensures.rest;
  faults = subst (λ (n : ℕ). n ≤ c.add.new.self.count) c.if-fails.ensures.fault c.add.ensures.faults;
  cause = subst (λ (n : ℕ). Rose n c.add.new.self.count) c.if-fails.ensures.fault c.add.ensures.rose;
  counted = subst (λ (n : ℕ). CountsFault n c.add.new.self.count true) c.if-fails.ensures.fault c.add.ensures.counted;
  calls = c.fails.ensures.counted;
  called = joins_done (called_of c.args.self.now) (called_of c.fails.new.self) ReadAt c.args.name.now [] (Failed ≡ Failed) c.if-fails.ensures.called;
  fails = fails_stay c.args.self.now c.fails.new.self c.fails.ensures.rest;
  refused = λ _. refl;
  failed = λ _. inr (inr (search rules));
  past = λ _. refl;
}

pub returns : goal.returns
returns c = record {
  amount = search rules;
  bytes = search rules;
  limit = search rules;
  same = files_stay c.args.self.now c.fails.new.self c.fails.ensures.rest;
  faults = c.fails.ensures.faults;
  cause = tt;
  counted = c.if-fails.ensures.fault;
  calls = c.fails.ensures.counted;
  called = joins_done (called_of c.args.self.now) (called_of c.fails.new.self) ReadAt c.args.name.now [] _ c.if-fails.ensures.called;
  fails = fails_stay c.args.self.now c.fails.new.self c.fails.ensures.rest;
  refused = λ refused. absurd (false≢true (c.if-fails.ensures.refused refused));
  failed = λ same. absurd (got_not_failed same);
  past = search rules;
}
