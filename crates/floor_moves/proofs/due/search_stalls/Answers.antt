use Rattle.std.proofs.Common.{[], length, refl, sym, ◌∙◌, arith}
use Rattle.std.proofs.lemmas.Option.{slice_get_read}
use Rattle.floor_moves.proofs.Searching.{due_now, stalls_step}
use Rattle.floor_moves.proofs.due.search_stalls.Goals as goal

pub returns-then-has_come : goal.returns-then-has_come
returns-then-has_come c = record {
  stall = c.index-stalls-j.result;
  there = slice_get_read c.args.stalls.now (length c.args.stalls.now) c.loop-j.j c.index-stalls-j.result refl c.loop-j-test.true c.index-stalls-j.is;
  is = due_now c.args.now c.index-stalls-j.result c.next_due-due.result (c.next_due-due.ensures []) (sym c.has_come.ensures ∙ c.if-has_come.true);
}

pub loop-j-preserved : goal.loop-j-preserved
loop-j-preserved c =
    stalls_step c.args.now c.loop-j.soonest c.sooner-soonest.result c.args.stalls.now c.loop-j.j c.index-stalls-j.result c.next_due-due.result c.sooner-soonest.ensures
    (slice_get_read c.args.stalls.now (length c.args.stalls.now) c.loop-j.j c.index-stalls-j.result refl c.loop-j-test.true c.index-stalls-j.is) (c.next_due-due.ensures []) (sym c.has_come.ensures ∙ c.if-has_come.false) c.loop-j.invariant.0 c.loop-j.invariant.1

pub returns : goal.returns
returns c = let past = c.loop-j-test.false in (c.loop-j.invariant.0, λ k d within. c.loop-j.invariant.1 k d (omega arith) (omega (arith, past, within)))
