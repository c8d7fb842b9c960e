use Rattle.std.proofs.Common.{◌≡◌, ◌≤◌, [], ℕ, Some, unwrap_or, ap, refl, subst, inl, inr}
use Rattle.std.proofs.lemmas.Bool.{false≢true}
use Rattle.nsq_outside.specs.Causes.{DidFails, DidCounts}
use Rattle.nsq_outside.specs.Files.{SameFiles, cut_to}
use Rattle.nsq_fakes.specs.MemFiles.{files_of, GrowsTo}
use Rattle.nsq_fakes.specs.MemFolders.{called_of}
use Rattle.nsq_fakes.specs.declared.folder.MemFolder.{MemFolder}
use Rattle.nsq_fakes.proofs.FolderCalls.{files_stay, fails_stay, joins_failed, joins_done, or_more}
use Rattle.nsq_fakes.proofs.Outcomes.{cut_outcome, others_stay, ends_within, behind_failed}
use Rattle.nsq_fakes.specs.declared.folder_calls.FolderCall.TheVariants.{Cut}
use Rattle.nsq_outside.specs.declared.did.Did.TheVariants.{Failed}
use Rattle.nsq_fakes.proofs.folder.MemFolderFolder.cut.Goals as goal

pub returns-then-fails : goal.returns-then-fails
returns-then-fails c = record {
  bytes = inl (files_stay c.args.self.now c.fails.new.self c.fails.ensures.rest c.args.name.now);
  limit = tt;
  others = λ other _. files_stay c.args.self.now c.fails.new.self c.fails.ensures.rest other;
  faults = c.fails.ensures.faults;
  cause = c.if-fails.ensures.rose refl;
  counted = c.if-fails.ensures.fault;
  calls = c.fails.ensures.counted;
  called = joins_failed (called_of c.args.self.now) (called_of c.fails.new.self) Cut c.args.name.now [] (Failed ≡ Failed) refl c.if-fails.ensures.called;
  fails = fails_stay c.args.self.now c.fails.new.self c.fails.ensures.rest;
  refused = λ _. refl;
  failed = λ _. files_stay c.args.self.now c.fails.new.self c.fails.ensures.rest;
  why = λ _. or_more (c.if-fails.ensures.why refl);
}

pub returns : goal.returns
returns c = record {
  bytes = let before : c.fails.new.self.files ≡ c.args.self.now.files = ap (λ (folder : MemFolder). folder.files) c.fails.ensures.rest in
      rw (← before) (cut_outcome (files_of c.fails.new.self.files) (files_of c.cut-outcome.new.files) c.args.name.now c.args.to c.cut-outcome.result c.answer.result c.answer.ensures.done c.answer.ensures.failed c.cut-outcome.ensures.ok c.cut-outcome.ensures.err);
  limit = ends_within c.args.to c.cut-outcome.result c.answer.result c.answer.ensures.done c.answer.ensures.failed c.cut-outcome.ensures.fits;
  others = let before : c.fails.new.self.files ≡ c.args.self.now.files = ap (λ (folder : MemFolder). folder.files) c.fails.ensures.rest in
      rw (← before) (others_stay (files_of c.fails.new.self.files) (files_of c.cut-outcome.new.files) c.args.name.now (Some (cut_to (unwrap_or (files_of c.fails.new.self.files c.args.name.now) []) c.args.to)) c.cut-outcome.result c.cut-outcome.ensures.ok c.cut-outcome.ensures.err);
  faults = subst (λ (n : ℕ). n ≤ c.answer.new.faults.count) c.if-fails.ensures.fault c.answer.ensures.faults;
  cause = subst (λ (n : ℕ). DidFails n c.answer.new.faults.count c.answer.result) c.if-fails.ensures.fault c.answer.ensures.cause;
  counted = subst (λ (n : ℕ). DidCounts n c.answer.new.faults.count c.answer.result) c.if-fails.ensures.fault c.answer.ensures.counted;
  calls = c.fails.ensures.counted;
  called = joins_done (called_of c.args.self.now) (called_of c.fails.new.self) Cut c.args.name.now [] (c.answer.result ≡ Failed) c.if-fails.ensures.called;
  fails = fails_stay c.args.self.now c.fails.new.self c.fails.ensures.rest;
  refused = λ refused. absurd (false≢true (c.if-fails.ensures.refused refused));
  failed = λ failed.
      let before : c.fails.new.self.files ≡ c.args.self.now.files = ap (λ (folder : MemFolder). folder.files) c.fails.ensures.rest in
      rw (← before) (behind_failed c.cut-outcome.result c.answer.result (SameFiles (files_of c.fails.new.self.files) (files_of c.cut-outcome.new.files)) c.answer.ensures.done c.cut-outcome.ensures.err failed);
  why = λ failed.
      let before : c.fails.new.self.files ≡ c.args.self.now.files = ap (λ (folder : MemFolder). folder.files) c.fails.ensures.rest in
      inr (inr (rw (← before) (behind_failed c.cut-outcome.result c.answer.result (GrowsTo (files_of c.fails.new.self.files c.args.name.now) c.args.to) c.answer.ensures.done c.cut-outcome.ensures.grows failed)));
}
