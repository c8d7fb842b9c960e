use Rattle.std.proofs.Common.{rules, ◌≡◌, ◌==◌, ◌≤◌, nat_le, not, false, length, sym, ap, ◌∙◌, arith}
use Rattle.std.proofs.lemmas.Bool.{false_from_ne_true, leb-true, ne_eqb}
use Rattle.std.proofs.lemmas.Iterator.Consumers.{YieldsList-turn, YieldsList-end}
use Rattle.std.proofs.lemmas.Iterator.Splits.{YieldsList-from_slice_split}
use Rattle.http_calls.proofs.LineLemmas.{some_of, too_long, no_lines, good_lines}
use Rattle.http_calls.proofs.batch.lines_in.Goals as goal

pub returns-then-line-most : goal.returns-then-line-most
returns-then-line-most c =
    let line = c.in-Some.line.now in
    let t = YieldsList-turn (YieldsList-from_slice_split _ (λ b. b == 10) c.args.body.now (cc) (cc) (cc) (λ x b q k. search rules)) c.lines.yielded c.lines.line-iterator c.lines.yielded_by c.next.result c.next.new.self c.in-Some.line c.in-Some.is c.next.ensures.steps in
    let some : (length line == 0) ≡ false = sym c.is_empty.ensures ∙ c.if-is_empty.false in
    too_long c.args.most c.args.body.now (length c.lines.yielded) line t.0 t.1 (ap not some)
    (false_from_ne_true (nat_le (length line) c.args.most) (λ e. let short : length line ≤ c.args.most = leb-true (length line) c.args.most e in omega arith))

pub returns-then-count-eq0 : goal.returns-then-count-eq0
returns-then-count-eq0 c =
    let all = YieldsList-end (YieldsList-from_slice_split _ (λ b. b == 10) c.args.body.now (cc) (cc) (cc) (λ x b q k. search rules)) c.lines.yielded c.lines.line-iterator c.lines.yielded_by c.next.result c.next.new.self c.in-None.is c.next.ensures.steps in
    no_lines c.args.most c.args.body.now c.lines.lines (c.lines.invariant.lines ∙ ap some_of all.0) (omega (arith, c.count.ensures))

pub returns : goal.returns
returns c =
    let all = YieldsList-end (YieldsList-from_slice_split _ (λ b. b == 10) c.args.body.now (cc) (cc) (cc) (λ x b q k. search rules)) c.lines.yielded c.lines.line-iterator c.lines.yielded_by c.next.result c.next.new.self c.in-None.is c.next.ensures.steps in
    good_lines c.args.most c.args.body.now c.lines.lines (c.lines.invariant.lines ∙ ap some_of all.0) c.lines.invariant.short (ne_eqb (length c.lines.lines) 0 (λ z. omega (arith, c.count.ensures, c.if-count-eq0.false, z)))
