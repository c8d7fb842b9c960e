use Rattle.std.proofs.Common.{◌∙◌, refl, sym, le_refl, arith}
use Rattle.std.proofs.lemmas.List.{append-nil}
use Rattle.daemon_callers.proofs.Writing.{one_more}
use Rattle.daemon_callers.proofs.v2.output.write_all.Goals as goal

pub writes-preserved : goal.writes-preserved
writes-preserved g c = record {
  within = omega (arith, c.in-Took.ensures.amount, c.writes.invariant.within, c.writes-test.true);
  told = λ told. one_more c.writes.at c.in-Took.count c.args.bytes.now _ _ _ (c.writes.invariant.told told) (c.in-Took.ensures.told told);
  write_faults = omega (arith, c.put.ensures.faults, c.writes.invariant.write_faults);
  read_faults = omega (arith, c.put.ensures.read_faults, c.writes.invariant.read_faults);
  pieces = c.put.ensures.pieces ∙ c.writes.invariant.pieces;
  left = c.put.ensures.left ∙ c.writes.invariant.left;
}

pub writes-init : goal.writes-init
writes-init g c = record {
  within = omega arith;
  told = λ told. sym (append-nil _);
  write_faults = le_refl _;
  read_faults = le_refl _;
  pieces = refl;
  left = refl;
}

pub returns-in-Failed-clause-write_faults : goal.returns-in-Failed-clause-write_faults
returns-in-Failed-clause-write_faults g c = omega (arith, c.put.ensures.faults, c.writes.invariant.write_faults)

pub returns-in-Failed-clause-read_faults : goal.returns-in-Failed-clause-read_faults
returns-in-Failed-clause-read_faults g c = omega (arith, c.put.ensures.read_faults, c.writes.invariant.read_faults)

pub returns-in-Failed-clause-pieces : goal.returns-in-Failed-clause-pieces
returns-in-Failed-clause-pieces g c = c.put.ensures.pieces ∙ c.writes.invariant.pieces

pub returns-in-Failed-clause-left : goal.returns-in-Failed-clause-left
returns-in-Failed-clause-left g c = c.put.ensures.left ∙ c.writes.invariant.left

pub returns-in-Failed-clause-cause : goal.returns-in-Failed-clause-cause
returns-in-Failed-clause-cause g c = λ failed. omega (arith, c.writes.invariant.write_faults, c.in-Failed.ensures.cause)

pub returns-clause-write_faults : goal.returns-clause-write_faults
returns-clause-write_faults g c = c.writes.invariant.write_faults

pub returns-clause-read_faults : goal.returns-clause-read_faults
returns-clause-read_faults g c = c.writes.invariant.read_faults

pub returns-clause-pieces : goal.returns-clause-pieces
returns-clause-pieces g c = c.writes.invariant.pieces

pub returns-clause-left : goal.returns-clause-left
returns-clause-left g c = c.writes.invariant.left
