use Rattle.std.proofs.Common.{◌≡◌, Some, Err, ap, ◌∙◌, refl, inl, inr, arith}
use Rattle.std.proofs.lemmas.Map.Text.{text_keys}
use Rattle.std.proofs.lemmas.Result.{err_from_is_err_and, IfOk-from_err}
use Rattle.nsq_fakes.specs.MemFiles.{files_of}
use Rattle.nsq_fakes.proofs.Outcomes.{memory_not_long, made_not_long, of_good, of_bad}
use Rattle.nsq_fakes.proofs.files.cut.Goals as goal

pub returns-then-to-gt-LIMIT : goal.returns-then-to-gt-LIMIT
returns-then-to-gt-LIMIT c = record { fits = tt; too_long = (λ _. c.if-to-gt-LIMIT.true, λ _. refl); ok = tt; err = λ _. refl; grows = inl c.if-to-gt-LIMIT.true }

pub returns-in_err-fit-in-Some : goal.returns-in_err-fit-in-Some
returns-in_err-fit-in-Some c =
    let p = err_from_is_err_and c.from_residual.result c.from_residual.ensures.1 in
    let here : files_of c.args.files.now c.args.name.now ≡ Some c.in-Some.file.now.items = grind (arith, text_keys) in
    record {
      fits = of_good c.from_residual.result c.if-to-gt-LIMIT.false;
      too_long = (λ same. absurd (memory_not_long c.from_residual.result (p.1 ∙ ap Err p.2) same), λ long. absurd (omega (arith, c.if-to-gt-LIMIT.false, long)));
      ok = IfOk-from_err c.from_residual.result _ c.from_residual.ensures.0;
      err = grind (arith, text_keys);
      grows = of_bad c.from_residual.result (inr (rw here c.in_err-fit-in-Some.ensures.grows));
    }

pub returns-in_err-zeros-in-None-clause-fits : goal.returns-in_err-zeros-in-None-clause-fits
returns-in_err-zeros-in-None-clause-fits c = of_good c.from_residual-in_err-zeros-in-None.result c.if-to-gt-LIMIT.false

pub returns-in_err-zeros-in-None-clause-too_long : goal.returns-in_err-zeros-in-None-clause-too_long
returns-in_err-zeros-in-None-clause-too_long c =
    let p = err_from_is_err_and c.from_residual-in_err-zeros-in-None.result c.from_residual-in_err-zeros-in-None.ensures.1 in
    (λ same. absurd (memory_not_long c.from_residual-in_err-zeros-in-None.result (p.1 ∙ ap Err p.2) same), λ long. absurd (omega (arith, c.if-to-gt-LIMIT.false, long)))

pub returns-in_err-zeros-in-None-clause-ok : goal.returns-in_err-zeros-in-None-clause-ok
returns-in_err-zeros-in-None-clause-ok c = IfOk-from_err c.from_residual-in_err-zeros-in-None.result _ c.from_residual-in_err-zeros-in-None.ensures.0

pub returns-in_err-put_in-in-None-clause-fits : goal.returns-in_err-put_in-in-None-clause-fits
returns-in_err-put_in-in-None-clause-fits c = of_good c.from_residual-in_err-put_in-in-None.result c.if-to-gt-LIMIT.false

pub returns-in_err-put_in-in-None-clause-too_long : goal.returns-in_err-put_in-in-None-clause-too_long
returns-in_err-put_in-in-None-clause-too_long c =
    let p = err_from_is_err_and c.from_residual-in_err-put_in-in-None.result c.from_residual-in_err-put_in-in-None.ensures.1 in
    (λ same. absurd (memory_not_long c.from_residual-in_err-put_in-in-None.result (p.1 ∙ ap Err p.2) same), λ long. absurd (omega (arith, c.if-to-gt-LIMIT.false, long)))

pub returns-in_err-put_in-in-None-clause-ok : goal.returns-in_err-put_in-in-None-clause-ok
returns-in_err-put_in-in-None-clause-ok c = IfOk-from_err c.from_residual-in_err-put_in-in-None.result _ c.from_residual-in_err-put_in-in-None.ensures.0

pub returns-in_ok-fit-in-Some : goal.returns-in_ok-fit-in-Some
returns-in_ok-fit-in-Some c = record {
  fits = c.if-to-gt-LIMIT.false;
  too_long = (λ same. absurd (made_not_long _ refl same), λ long. absurd (omega (arith, c.if-to-gt-LIMIT.false, long)));
  ok = record { here = grind (arith, text_keys); others = λ other h. grind (arith, text_keys) };
  err = tt;
  grows = tt;
}

pub returns-in_ok-put_in-in-None : goal.returns-in_ok-put_in-in-None
returns-in_ok-put_in-in-None c = record {
  fits = c.if-to-gt-LIMIT.false;
  too_long = (λ same. absurd (made_not_long _ refl same), λ long. absurd (omega (arith, c.if-to-gt-LIMIT.false, long)));
  ok = record { here = grind (arith, text_keys); others = λ other h. grind (arith, text_keys) };
  err = tt;
  grows = tt;
}
