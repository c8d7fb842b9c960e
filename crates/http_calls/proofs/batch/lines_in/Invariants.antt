use Rattle.std.proofs.Common.{◌≡◌, true, map}
use Rattle.std.specs.List.{list_all}
use Rattle.http_calls.proofs.LineLemmas.{is_short, some_of}
use Rattle.http_calls.proofs.batch.lines_in.Given as goal

-- the lines are those parts so far that have a byte, and each is short enough
abbrev pub invariant-lines : goal.invariant-lines
invariant-lines l = record {
  can : (goal.iterator-lines).can_next l.line-iterator;
  finite : (goal.iterator-lines).is_finite l.line-iterator;
  lines : l.lines ≡ some_of (map (λ part. part.now) l.yielded);
  short : list_all (is_short l.most) l.lines ≡ true;
}
