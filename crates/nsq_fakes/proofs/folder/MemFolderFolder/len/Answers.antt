use Rattle.std.proofs.Common.{◌≡◌, ◌≤◌, [], ℕ, refl, subst, inr, true, arith, rules}
use Rattle.std.proofs.lemmas.Bool.{false≢true}
use Rattle.std.proofs.lemmas.Map.Text.{text_keys}
use Rattle.nsq_outside.specs.Causes.{Rose, CountsFault}
use Rattle.nsq_fakes.specs.MemFolders.{called_of}
use Rattle.nsq_fakes.proofs.FolderCalls.{files_stay, fails_stay, joins_failed, joins_done, is_not_failed, absent_not_failed, or_more}
use Rattle.nsq_fakes.specs.declared.folder_calls.FolderCall.TheVariants.{Len}
use Rattle.nsq_outside.specs.declared.folder.Length.TheVariants.{Absent, Failed}
use Rattle.nsq_fakes.proofs.folder.MemFolderFolder.len.Goals as goal

pub returns-then-fails : goal.returns-then-fails
returns-then-fails c = record {
  length = tt;
  limit = tt;
  same = files_stay c.args.self.now c.fails.new.self c.fails.ensures.rest;
  faults = c.fails.ensures.faults;
  cause = c.if-fails.ensures.rose refl;
  counted = c.if-fails.ensures.fault;
  calls = c.fails.ensures.counted;
  called = joins_failed (called_of c.args.self.now) (called_of c.fails.new.self) Len c.args.name.now [] (Failed ≡ Failed) refl c.if-fails.ensures.called;
  fails = fails_stay c.args.self.now c.fails.new.self c.fails.ensures.rest;
  refused = λ _. refl;
  failed = λ _. or_more (c.if-fails.ensures.why refl);
}

pub returns-in-None : goal.returns-in-None
returns-in-None c = record {
  length = search rules;
  limit = tt;
  same = files_stay c.args.self.now c.fails.new.self c.fails.ensures.rest;
  faults = c.fails.ensures.faults;
  cause = tt;
  counted = c.if-fails.ensures.fault;
  calls = c.fails.ensures.counted;
  called = joins_done (called_of c.args.self.now) (called_of c.fails.new.self) Len c.args.name.now [] (Absent ≡ Failed) c.if-fails.ensures.called;
  fails = fails_stay c.args.self.now c.fails.new.self c.fails.ensures.rest;
  refused = λ refused. absurd (false≢true (c.if-fails.ensures.refused refused));
  failed = λ same. absurd (absent_not_failed same);
}

pub returns-in-Some : goal.returns-in-Some
returns-in-Some c = record {
  length = search rules;
  limit = search rules;
  same = files_stay c.args.self.now c.fails.new.self c.fails.ensures.rest;
  faults = c.fails.ensures.faults;
  cause = tt;
  counted = c.if-fails.ensures.fault;
  calls = c.fails.ensures.counted;
  called = joins_done (called_of c.args.self.now) (called_of c.fails.new.self) Len c.args.name.now [] _ c.if-fails.ensures.called;
  fails = fails_stay c.args.self.now c.fails.new.self c.fails.ensures.rest;
  refused = λ refused. absurd (false≢true (c.if-fails.ensures.refused refused));
  failed = λ same. absurd (is_not_failed same);
}

pub returns-in-Some-2 : goal.returns-in-Some-2
returns-in-Some-2 c = record {
  length = tt;
  limit = tt;
  same = files_stay c.args.self.now c.fails.new.self c.fails.ensures.rest;
  faults = subst (λ (n : ℕ). n ≤ c.add.new.self.count) c.if-fails.ensures.fault c.add.ensures.faults;
  cause = subst (λ (n : ℕ). Rose n c.add.new.self.count) c.if-fails.ensures.fault c.add.ensures.rose;
  counted = subst (λ (n : ℕ). CountsFault n c.add.new.self.count true) c.if-fails.ensures.fault c.add.ensures.counted;
  calls = c.fails.ensures.counted;
  called = joins_done (called_of c.args.self.now) (called_of c.fails.new.self) Len c.args.name.now [] (Failed ≡ Failed) c.if-fails.ensures.called;
  fails = fails_stay c.args.self.now c.fails.new.self c.fails.ensures.rest;
  refused = λ _. refl;
  failed = λ _. inr (grind (arith, text_keys));
}
