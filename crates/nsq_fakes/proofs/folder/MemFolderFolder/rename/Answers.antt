use Rattle.std.proofs.Common.{◌≡◌, ◌≤◌, ℕ, ap, refl, subst, inl, inr}
use Rattle.std.proofs.lemmas.Bool.{false≢true}
use Rattle.nsq_outside.specs.Causes.{DidFails, DidCounts}
use Rattle.nsq_outside.specs.Files.{SameFiles}
use Rattle.nsq_fakes.specs.MemFiles.{files_of, MovesToNew}
use Rattle.nsq_fakes.specs.MemFolders.{called_of}
use Rattle.nsq_fakes.specs.declared.folder.MemFolder.{MemFolder}
use Rattle.nsq_fakes.proofs.FolderCalls.{files_stay, fails_stay, joins_failed, joins_done, or_more}
use Rattle.nsq_fakes.proofs.Outcomes.{rename_outcome, behind_failed}
use Rattle.nsq_fakes.specs.declared.folder_calls.FolderCall.TheVariants.{Rename}
use Rattle.nsq_outside.specs.declared.did.Did.TheVariants.{Failed}
use Rattle.nsq_fakes.proofs.folder.MemFolderFolder.rename.Goals as goal

pub returns-then-fails : goal.returns-then-fails
returns-then-fails c = record {
  files = inl (files_stay c.args.self.now c.fails.new.self c.fails.ensures.rest);
  faults = c.fails.ensures.faults;
  cause = c.if-fails.ensures.rose refl;
  counted = c.if-fails.ensures.fault;
  calls = c.fails.ensures.counted;
  called = joins_failed (called_of c.args.self.now) (called_of c.fails.new.self) Rename c.args.from.now c.args.to.now (Failed ≡ Failed) refl c.if-fails.ensures.called;
  fails = fails_stay c.args.self.now c.fails.new.self c.fails.ensures.rest;
  refused = λ _. refl;
  failed = λ _. files_stay c.args.self.now c.fails.new.self c.fails.ensures.rest;
  why = λ _. or_more (c.if-fails.ensures.why refl);
}

pub returns : goal.returns
returns c = record {
  files = let before : c.fails.new.self.files ≡ c.args.self.now.files = ap (λ (folder : MemFolder). folder.files) c.fails.ensures.rest in
      rw (← before) (rename_outcome (files_of c.fails.new.self.files) (files_of c.rename-outcome.new.files) c.args.from.now c.args.to.now c.rename-outcome.result c.answer.result c.answer.ensures.done c.answer.ensures.failed c.rename-outcome.ensures.ok c.rename-outcome.ensures.err);
  faults = subst (λ (n : ℕ). n ≤ c.answer.new.faults.count) c.if-fails.ensures.fault c.answer.ensures.faults;
  cause = subst (λ (n : ℕ). DidFails n c.answer.new.faults.count c.answer.result) c.if-fails.ensures.fault c.answer.ensures.cause;
  counted = subst (λ (n : ℕ). DidCounts n c.answer.new.faults.count c.answer.result) c.if-fails.ensures.fault c.answer.ensures.counted;
  calls = c.fails.ensures.counted;
  called = joins_done (called_of c.args.self.now) (called_of c.fails.new.self) Rename c.args.from.now c.args.to.now (c.answer.result ≡ Failed) c.if-fails.ensures.called;
  fails = fails_stay c.args.self.now c.fails.new.self c.fails.ensures.rest;
  refused = λ refused. absurd (false≢true (c.if-fails.ensures.refused refused));
  failed = λ failed.
      let before : c.fails.new.self.files ≡ c.args.self.now.files = ap (λ (folder : MemFolder). folder.files) c.fails.ensures.rest in
      rw (← before) (behind_failed c.rename-outcome.result c.answer.result (SameFiles (files_of c.fails.new.self.files) (files_of c.rename-outcome.new.files)) c.answer.ensures.done c.rename-outcome.ensures.err failed);
  why = λ failed.
      let before : c.fails.new.self.files ≡ c.args.self.now.files = ap (λ (folder : MemFolder). folder.files) c.fails.ensures.rest in
      inr (inr (rw (← before) (behind_failed c.rename-outcome.result c.answer.result (MovesToNew (files_of c.fails.new.self.files) c.args.from.now c.args.to.now) c.answer.ensures.done c.rename-outcome.ensures.moves failed)));
}
