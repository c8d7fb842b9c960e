use Rattle.std.proofs.Common.{◌≡◌, ◌+◌, ◌^◌, ◌<◌, ◌≤◌, length, Some, Err, ap, ◌∙◌, refl, inl, inr, arith}
use Rattle.std.proofs.lemmas.Map.Text.{text_keys}
use Rattle.std.proofs.lemmas.Result.{err_from_is_err_and, IfOk-from_err}
use Rattle.nsq_fakes.specs.MemFiles.{files_of}
use Rattle.nsq_fakes.proofs.Outcomes.{memory_not_long, made_not_long, of_good, of_bad}
use Rattle.nsq_fakes.proofs.files.write.Goals as goal
use Rattle.nsq_fakes.proofs.files.write.Goals.{then-at-gt-LIMIT-via-then-at-gt-LIMIT, then-at-gt-LIMIT-via-else-at-gt-LIMIT+then-from-at}

pub returns-then-at-gt-LIMIT : goal.returns-then-at-gt-LIMIT
returns-then-at-gt-LIMIT c =
    let long : 2 ^ 62 < c.args.at + length c.args.from.now = elim c.then-at-gt-LIMIT.branch [
      | then-at-gt-LIMIT-via-then-at-gt-LIMIT w ↦ omega (arith, w.if-at-gt-LIMIT.true)
      | then-at-gt-LIMIT-via-else-at-gt-LIMIT+then-from-at w ↦ omega (arith, w.if-at-gt-LIMIT.false, w.if-from-at.true)
    ] in
    record { fits = tt; too_long = (λ _. long, λ _. refl); ok = tt; err = λ _. refl; grows = inl long }

pub returns-in_err-write_over-in-Some : goal.returns-in_err-write_over-in-Some
returns-in_err-write_over-in-Some c =
    let p = err_from_is_err_and c.from_residual.result c.from_residual.ensures.1 in
    let fits : c.args.at + length c.args.from.now ≤ 2 ^ 62 = omega (arith, c.if-at-gt-LIMIT.false, c.if-from-at.false) in
    let here : files_of c.args.files.now c.args.name.now ≡ Some c.in-Some.file.now.items = grind (arith, text_keys) in
    record {
      fits = of_good c.from_residual.result fits;
      too_long = (λ same. absurd (memory_not_long c.from_residual.result (p.1 ∙ ap Err p.2) same), λ long. absurd (omega (arith, fits, long)));
      ok = IfOk-from_err c.from_residual.result _ c.from_residual.ensures.0;
      err = grind (arith, text_keys);
      grows = of_bad c.from_residual.result (inr (rw here c.in_err-write_over-in-Some.ensures.grows));
    }

pub returns-in_err-written-in-None-clause-fits : goal.returns-in_err-written-in-None-clause-fits
returns-in_err-written-in-None-clause-fits c = of_good c.from_residual-in_err-written-in-None.result (omega (arith, c.if-at-gt-LIMIT.false, c.if-from-at.false))

pub returns-in_err-written-in-None-clause-too_long : goal.returns-in_err-written-in-None-clause-too_long
returns-in_err-written-in-None-clause-too_long c =
    let p = err_from_is_err_and c.from_residual-in_err-written-in-None.result c.from_residual-in_err-written-in-None.ensures.1 in
    (λ same. absurd (memory_not_long c.from_residual-in_err-written-in-None.result (p.1 ∙ ap Err p.2) same), λ long. absurd (omega (arith, c.if-at-gt-LIMIT.false, c.if-from-at.false, long)))

pub returns-in_err-written-in-None-clause-ok : goal.returns-in_err-written-in-None-clause-ok
returns-in_err-written-in-None-clause-ok c = IfOk-from_err c.from_residual-in_err-written-in-None.result _ c.from_residual-in_err-written-in-None.ensures.0

pub returns-in_err-put_in-in-None-clause-fits : goal.returns-in_err-put_in-in-None-clause-fits
returns-in_err-put_in-in-None-clause-fits c = of_good c.from_residual-in_err-put_in-in-None.result (omega (arith, c.if-at-gt-LIMIT.false, c.if-from-at.false))

pub returns-in_err-put_in-in-None-clause-too_long : goal.returns-in_err-put_in-in-None-clause-too_long
returns-in_err-put_in-in-None-clause-too_long c =
    let p = err_from_is_err_and c.from_residual-in_err-put_in-in-None.result c.from_residual-in_err-put_in-in-None.ensures.1 in
    (λ same. absurd (memory_not_long c.from_residual-in_err-put_in-in-None.result (p.1 ∙ ap Err p.2) same), λ long. absurd (omega (arith, c.if-at-gt-LIMIT.false, c.if-from-at.false, long)))

pub returns-in_err-put_in-in-None-clause-ok : goal.returns-in_err-put_in-in-None-clause-ok
returns-in_err-put_in-in-None-clause-ok c = IfOk-from_err c.from_residual-in_err-put_in-in-None.result _ c.from_residual-in_err-put_in-in-None.ensures.0

pub returns-in_ok-write_over-in-Some : goal.returns-in_ok-write_over-in-Some
returns-in_ok-write_over-in-Some c =
    let fits : c.args.at + length c.args.from.now ≤ 2 ^ 62 = omega (arith, c.if-at-gt-LIMIT.false, c.if-from-at.false) in
    record {
      fits = fits;
      too_long = (λ same. absurd (made_not_long _ refl same), λ long. absurd (omega (arith, fits, long)));
      ok = record { here = grind (arith, text_keys); others = λ other h. grind (arith, text_keys) };
      err = tt;
      grows = tt;
    }

pub returns-in_ok-put_in-in-None : goal.returns-in_ok-put_in-in-None
returns-in_ok-put_in-in-None c =
    let fits : c.args.at + length c.args.from.now ≤ 2 ^ 62 = omega (arith, c.if-at-gt-LIMIT.false, c.if-from-at.false) in
    record {
      fits = fits;
      too_long = (λ same. absurd (made_not_long _ refl same), λ long. absurd (omega (arith, fits, long)));
      ok = record { here = grind (arith, text_keys); others = λ other h. grind (arith, text_keys) };
      err = tt;
      grows = tt;
    }
