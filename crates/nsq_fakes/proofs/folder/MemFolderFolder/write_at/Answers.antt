use Rattle.std.proofs.Common.{◌≡◌, ◌+◌, ◌≤◌, [], ℕ, Some, length, unwrap_or, ap, refl, subst, inr}
use Rattle.std.proofs.lemmas.Bool.{false≢true}
use Rattle.nsq_outside.specs.Causes.{DidFails, DidCounts}
use Rattle.nsq_outside.specs.Files.{SameFiles, written_at}
use Rattle.nsq_fakes.specs.MemFiles.{files_of, GrowsTo}
use Rattle.nsq_fakes.specs.MemFolders.{files_in, called_of}
use Rattle.nsq_fakes.specs.declared.folder.MemFolder.{MemFolder}
use Rattle.nsq_fakes.proofs.FolderCalls.{files_stay, fails_stay, joins_failed, joins_done, or_more}
use Rattle.nsq_fakes.proofs.Outcomes.{write_refused, write_outcome, others_stay, ends_within, behind_failed}
use Rattle.nsq_fakes.specs.declared.folder_calls.FolderCall.TheVariants.{WriteAt}
use Rattle.nsq_outside.specs.declared.did.Did.TheVariants.{Failed}
use Rattle.nsq_fakes.proofs.folder.MemFolderFolder.write_at.Goals as goal

pub returns-then-fails : goal.returns-then-fails
returns-then-fails c = record {
  bytes = write_refused (files_in c.args.self.now) (files_in c.fails.new.self) c.args.name.now c.args.from.now c.args.at (files_stay c.args.self.now c.fails.new.self c.fails.ensures.rest);
  limit = tt;
  others = λ other _. files_stay c.args.self.now c.fails.new.self c.fails.ensures.rest other;
  faults = c.fails.ensures.faults;
  cause = c.if-fails.ensures.rose refl;
  counted = c.if-fails.ensures.fault;
  calls = c.fails.ensures.counted;
  called = joins_failed (called_of c.args.self.now) (called_of c.fails.new.self) WriteAt c.args.name.now [] (Failed ≡ Failed) refl c.if-fails.ensures.called;
  fails = fails_stay c.args.self.now c.fails.new.self c.fails.ensures.rest;
  refused = λ _. refl;
  failed = λ _. files_stay c.args.self.now c.fails.new.self c.fails.ensures.rest;
  why = λ _. or_more (c.if-fails.ensures.why refl);
}

pub returns : goal.returns
returns c = record {
  bytes = let before : c.fails.new.self.files ≡ c.args.self.now.files = ap (λ (folder : MemFolder). folder.files) c.fails.ensures.rest in
      rw (← before) (write_outcome (files_of c.fails.new.self.files) (files_of c.write-outcome.new.files) c.args.name.now c.args.from.now c.args.at c.write-outcome.result c.answer.result c.answer.ensures.done c.answer.ensures.failed c.write-outcome.ensures.ok c.write-outcome.ensures.err);
  limit = ends_within (c.args.at + length c.args.from.now) c.write-outcome.result c.answer.result c.answer.ensures.done c.answer.ensures.failed c.write-outcome.ensures.fits;
  others = let before : c.fails.new.self.files ≡ c.args.self.now.files = ap (λ (folder : MemFolder). folder.files) c.fails.ensures.rest in
      rw (← before) (others_stay (files_of c.fails.new.self.files) (files_of c.write-outcome.new.files) c.args.name.now (Some (written_at (unwrap_or (files_of c.fails.new.self.files c.args.name.now) []) c.args.at c.args.from.now)) c.write-outcome.result c.write-outcome.ensures.ok c.write-outcome.ensures.err);
  faults = subst (λ (n : ℕ). n ≤ c.answer.new.faults.count) c.if-fails.ensures.fault c.answer.ensures.faults;
  cause = subst (λ (n : ℕ). DidFails n c.answer.new.faults.count c.answer.result) c.if-fails.ensures.fault c.answer.ensures.cause;
  counted = subst (λ (n : ℕ). DidCounts n c.answer.new.faults.count c.answer.result) c.if-fails.ensures.fault c.answer.ensures.counted;
  calls = c.fails.ensures.counted;
  called = joins_done (called_of c.args.self.now) (called_of c.fails.new.self) WriteAt c.args.name.now [] (c.answer.result ≡ Failed) c.if-fails.ensures.called;
  fails = fails_stay c.args.self.now c.fails.new.self c.fails.ensures.rest;
  refused = λ refused. absurd (false≢true (c.if-fails.ensures.refused refused));
  failed = λ failed.
      let before : c.fails.new.self.files ≡ c.args.self.now.files = ap (λ (folder : MemFolder). folder.files) c.fails.ensures.rest in
      rw (← before) (behind_failed c.write-outcome.result c.answer.result (SameFiles (files_of c.fails.new.self.files) (files_of c.write-outcome.new.files)) c.answer.ensures.done c.write-outcome.ensures.err failed);
  why = λ failed.
      let before : c.fails.new.self.files ≡ c.args.self.now.files = ap (λ (folder : MemFolder). folder.files) c.fails.ensures.rest in
      inr (inr (rw (← before) (behind_failed c.write-outcome.result c.answer.result (GrowsTo (files_of c.fails.new.self.files c.args.name.now) (c.args.at + length c.args.from.now)) c.answer.ensures.done c.write-outcome.ensures.grows failed)));
}
