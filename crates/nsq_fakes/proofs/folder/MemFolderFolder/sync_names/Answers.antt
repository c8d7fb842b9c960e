use Rattle.std.proofs.Common.{◌≡◌, [], refl}
use Rattle.std.proofs.lemmas.Bool.{false≢true}
use Rattle.nsq_fakes.specs.MemFolders.{called_of}
use Rattle.nsq_fakes.proofs.FolderCalls.{files_stay, fails_stay, joins_failed, joins_done}
use Rattle.nsq_fakes.proofs.Outcomes.{done_failed}
use Rattle.nsq_fakes.specs.declared.folder_calls.FolderCall.TheVariants.{SyncNames}
use Rattle.nsq_outside.specs.declared.did.Did.TheVariants.{Done, Failed}
use Rattle.nsq_fakes.proofs.folder.MemFolderFolder.sync_names.Goals as goal

pub returns-then-fails : goal.returns-then-fails
returns-then-fails c = record {
  same = files_stay c.args.self.now c.fails.new.self c.fails.ensures.rest;
  faults = c.fails.ensures.faults;
  cause = c.if-fails.ensures.rose refl;
  counted = c.if-fails.ensures.fault;
  calls = c.fails.ensures.counted;
  called = joins_failed (called_of c.args.self.now) (called_of c.fails.new.self) SyncNames [] [] (Failed ≡ Failed) refl c.if-fails.ensures.called;
  fails = fails_stay c.args.self.now c.fails.new.self c.fails.ensures.rest;
  refused = λ _. refl;
  why = λ _. c.if-fails.ensures.why refl;
}

pub returns : goal.returns
returns c = record {
  same = files_stay c.args.self.now c.fails.new.self c.fails.ensures.rest;
  faults = c.fails.ensures.faults;
  cause = tt;
  counted = c.if-fails.ensures.fault;
  calls = c.fails.ensures.counted;
  called = joins_done (called_of c.args.self.now) (called_of c.fails.new.self) SyncNames [] [] (Done ≡ Failed) c.if-fails.ensures.called;
  fails = fails_stay c.args.self.now c.fails.new.self c.fails.ensures.rest;
  refused = λ refused. absurd (false≢true (c.if-fails.ensures.refused refused));
  why = λ failed. absurd (done_failed Done refl failed);
}
