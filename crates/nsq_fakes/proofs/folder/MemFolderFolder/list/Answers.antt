use Rattle.std.proofs.Common.{◌≡◌, ◌≢◌, ◌++◌, ◌∷◌, [], inl, refl, true, false}
use Rattle.nsq_outside.specs.declared.folder.Listing.TheVariants.{Done, Memory, Failed}
use Rattle.nsq_fakes.specs.MemFolders.{called_of, counts_of, fails_of}
use Rattle.nsq_fakes.specs.declared.folder_calls.FolderCall.TheVariants.{List as ListCalls}
use Rattle.nsq_fakes.proofs.FolderCalls.{joins_outcome, failed_not_done, memory_not_done, done_not_failed, memory_not_failed, not_refused, refused_by}
use Rattle.nsq_fakes.proofs.Results.{from_ok}
use Rattle.nsq_fakes.proofs.folder.MemFolderFolder.list.Goals as goal

pub returns-then-refuses : goal.returns-then-refuses
returns-then-refuses c = record {
  names = refl;
  kept = refl;
  same = λ _. refl;
  faults = c.refuses.ensures.faults;
  cause = c.if-refuses.ensures.rose refl;
  counted = c.if-refuses.ensures.fault;
  calls = c.refuses.ensures.counted;
  called = joins_outcome (called_of c.args.self.now) c.keep_call-kept.new.list.items ListCalls [] [] c.keep_call-kept.result (Failed ≢ Done) failed_not_done c.keep_call-kept.ensures.ok c.keep_call-kept.ensures.err;
  fails = refl;
  refused = (λ _. (refused_by (counts_of c.args.self.now) ListCalls c.deref.result.now (fails_of c.args.self.now) true c.deref.ensures.value c.if-refuses.ensures.refused).0 refl, λ _. refl);
}

pub returns-then-is_err : goal.returns-then-is_err
returns-then-is_err c = record {
  names = refl;
  kept = refl;
  same = λ _. refl;
  faults = c.refuses.ensures.faults;
  cause = tt;
  counted = c.if-refuses.ensures.fault;
  calls = c.refuses.ensures.counted;
  called = joins_outcome (called_of c.args.self.now) c.keep_call-kept.new.list.items ListCalls [] [] c.keep_call-kept.result (Memory ≢ Done) memory_not_done c.keep_call-kept.ensures.ok c.keep_call-kept.ensures.err;
  fails = refl;
  refused = not_refused memory_not_failed (refused_by (counts_of c.args.self.now) ListCalls c.deref.result.now (fails_of c.args.self.now) false c.deref.ensures.value c.if-refuses.ensures.refused);
}

pub returns-in-Ok : goal.returns-in-Ok
returns-in-Ok c = record {
  names = c.in-Ok.ensures.ok;
  kept = (c.in-Ok.ensures.ok.added, c.in-Ok.ensures.ok.appended);
  same = λ _. refl;
  faults = c.refuses.ensures.faults;
  cause = tt;
  counted = c.if-refuses.ensures.fault;
  calls = c.refuses.ensures.counted;
  called = inl (from_ok c.keep_call-kept.result (c.keep_call-kept.new.list.items ≡ called_of c.args.self.now ++ record { call = ListCalls; name = []; to = [] } ∷ []) c.if-is_err.ensures.value c.keep_call-kept.ensures.ok);
  fails = refl;
  refused = not_refused done_not_failed (refused_by (counts_of c.args.self.now) ListCalls c.deref.result.now (fails_of c.args.self.now) false c.deref.ensures.value c.if-refuses.ensures.refused);
}

pub returns-in-Err : goal.returns-in-Err
returns-in-Err c = record {
  names = c.in-Err.ensures.err;
  kept = c.in-Err.ensures.err;
  same = λ _. refl;
  faults = c.refuses.ensures.faults;
  cause = tt;
  counted = c.if-refuses.ensures.fault;
  calls = c.refuses.ensures.counted;
  called = inl (from_ok c.keep_call-kept.result (c.keep_call-kept.new.list.items ≡ called_of c.args.self.now ++ record { call = ListCalls; name = []; to = [] } ∷ []) c.if-is_err.ensures.value c.keep_call-kept.ensures.ok);
  fails = refl;
  refused = not_refused memory_not_failed (refused_by (counts_of c.args.self.now) ListCalls c.deref.result.now (fails_of c.args.self.now) false c.deref.ensures.value c.if-refuses.ensures.refused);
}
