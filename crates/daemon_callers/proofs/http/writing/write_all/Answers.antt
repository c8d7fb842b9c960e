use Rattle.std.proofs.Common.{◌∙◌, refl, sym, le_refl, le_trans, arith}
use Rattle.std.proofs.lemmas.Bool.{false≢true}
use Rattle.std.proofs.lemmas.List.{append-nil}
use Rattle.daemon_callers.proofs.WriteLemmas.{one_more, all_written, rose_since}
use Rattle.daemon_callers.proofs.http.writing.write_all.Goals as goal

pub writes-init : goal.writes-init
writes-init g c = record {
  within = omega arith;
  told = λ told. sym (append-nil _);
  write_faults = le_refl _;
  read_faults = le_refl _;
  pieces = refl;
  left = refl;
}

pub writes-preserved : goal.writes-preserved
writes-preserved g c = record {
  within = omega (arith, c.in-Took.ensures.amount, c.writes.invariant.within, c.writes-test.true);
  told = λ told. one_more c.writes.at c.in-Took.count c.args.bytes.now _ _ _ (c.writes.invariant.told told) (c.in-Took.ensures.told told);
  write_faults = le_trans c.writes.invariant.write_faults c.put.ensures.faults;
  read_faults = le_trans c.writes.invariant.read_faults c.put.ensures.read_faults;
  pieces = c.put.ensures.pieces ∙ c.writes.invariant.pieces;
  left = c.put.ensures.left ∙ c.writes.invariant.left;
}

pub returns-in-Failed : goal.returns-in-Failed
returns-in-Failed g c = record {
  told = λ told. (c.writes.at, c.in-Failed.ensures.told told ∙ c.writes.invariant.told told);
  cause = λ failed. rose_since _ _ _ c.writes.invariant.write_faults c.in-Failed.ensures.cause;
  write_faults = le_trans c.writes.invariant.write_faults c.put.ensures.faults;
  read_faults = le_trans c.writes.invariant.read_faults c.put.ensures.read_faults;
  pieces = c.put.ensures.pieces ∙ c.writes.invariant.pieces;
  left = c.put.ensures.left ∙ c.writes.invariant.left;
}

pub returns : goal.returns
returns g c = record {
  told = λ told. all_written c.writes.at c.args.bytes.now _ _ (c.writes.invariant.told told) c.writes-test.false;
  cause = λ failed. absurd (false≢true (sym failed));
  write_faults = c.writes.invariant.write_faults;
  read_faults = c.writes.invariant.read_faults;
  pieces = c.writes.invariant.pieces;
  left = c.writes.invariant.left;
}
