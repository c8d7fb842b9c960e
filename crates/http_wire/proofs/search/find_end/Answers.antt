use Rattle.std.proofs.Common.{◌≡◌, ◌≤◌, length, take, arith}
use Rattle.std.specs.Prelude.{min}
use Rattle.std.proofs.lemmas.List.{length-take}
use Rattle.http_wire.proofs.SearchLemmas.{HasNoEnd_front, HasNoEnd_back, EndsAt_back, back_ends}
use Rattle.http_wire.proofs.search.find_end.Goals as goal

pub first_end-requires-clause-none : goal.first_end-requires-clause-none
first_end-requires-clause-none c = λ n l e.
    HasNoEnd_front c.args.bytes.now c.min.result c.args.from.done c.skip_line_ends-begin.result (omega (arith, c.min.ensures, c.requires.done_within, c.requires.done_longest)) c.skip_line_ends-begin.ensures.line_ends c.requires.none n
    (omega (arith, c.max.ensures, l)) e

pub returns-in-Some-clause-searched : goal.returns-in-Some-clause-searched
returns-in-Some-clause-searched c =
    let bytes = c.args.bytes.now in
    let m = c.min.result in
    let size : length (take m bytes) ≡ min m (length bytes) = length-take m bytes in
    let at = EndsAt_back bytes m c.in-Some.end c.in-Some.ensures.0 in
    let short : c.in-Some.end ≤ length (take m bytes) = c.in-Some.ensures.0.within in
    let begin : c.skip_line_ends-begin.result ≤ length (take m bytes) = c.skip_line_ends-begin.ensures.within in
    record {
      line_ends = back_ends bytes m c.skip_line_ends-begin.result (omega arith) c.skip_line_ends-begin.ensures.line_ends;
      begin_within = omega (arith, c.min.ensures);
      begin_longest = omega (arith, c.min.ensures);
      done_within = omega (arith, c.min.ensures);
      done_longest = omega (arith, c.min.ensures);
      none = λ n l e. at.first n (omega (arith, l, c.in-Some.ensures.1)) e;
    }

pub returns-in-Some-clause-found : goal.returns-in-Some-clause-found
returns-in-Some-clause-found c =
    let bytes = c.args.bytes.now in
    let m = c.min.result in
    let size : length (take m bytes) ≡ min m (length bytes) = length-take m bytes in
    let short : c.in-Some.end ≤ length (take m bytes) = c.in-Some.ensures.0.within in
    (EndsAt_back bytes m c.in-Some.end c.in-Some.ensures.0, omega (arith, c.min.ensures))

pub returns-in-None-clause-searched : goal.returns-in-None-clause-searched
returns-in-None-clause-searched c =
    let bytes = c.args.bytes.now in
    let m = c.min.result in
    let size : length (take m bytes) ≡ min m (length bytes) = length-take m bytes in
    let begin : c.skip_line_ends-begin.result ≤ length (take m bytes) = c.skip_line_ends-begin.ensures.within in
    record {
      line_ends = back_ends bytes m c.skip_line_ends-begin.result (omega arith) c.skip_line_ends-begin.ensures.line_ends;
      begin_within = omega (arith, c.min.ensures);
      begin_longest = omega (arith, c.min.ensures);
      done_within = omega (arith, c.min.ensures);
      done_longest = omega (arith, c.min.ensures);
      none = HasNoEnd_back bytes m (length (take m bytes)) (omega arith) c.in-None.ensures;
    }

pub returns-in-None-clause-found : goal.returns-in-None-clause-found
returns-in-None-clause-found c = λ n l e.
    let bytes = c.args.bytes.now in
    let m = c.min.result in
    let size : length (take m bytes) ≡ min m (length bytes) = length-take m bytes in
    HasNoEnd_back bytes m (length (take m bytes)) (omega arith) c.in-None.ensures n (omega (arith, c.min.ensures, l)) e
