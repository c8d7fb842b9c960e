use Rattle.std.proofs.Common.{◌∙◌, ap, arith, length, sym}
use Rattle.std.proofs.lemmas.Result.{err_from_is_err_and}
use Rattle.names_file.proofs.NameTexts.{all_appended, parts_cut}
use Rattle.names_file.proofs.append.append_all.Goals as goal

pub returns-in_err-reserve : goal.returns-in_err-reserve
returns-in_err-reserve c =
    let p = err_from_is_err_and c.from_residual.result c.from_residual.ensures.1 in
    rw p.1 (record { ok = tt; err = c.reserve.ensures.items })

pub returns-then-is_err : goal.returns-then-is_err
returns-then-is_err c = record {
  ok = tt;
  err = c.truncate.ensures.items ∙ parts_cut _ c.args.parts.now c.parts.part-index c.args.out.now.items c.reserve.new.self.items c.parts.out.items c.reserve.ensures.items c.parts.invariant c.extend_from_slice.result _ _ c.len-length.result
      (omega (arith, c.len-length.ensures, c.reserve.new.self.ok.0, ap length c.reserve.ensures.items)) (sym c.is_err.ensures.value ∙ c.if-is_err.true) c.extend_from_slice.ensures.items;
}

pub returns : goal.returns
returns c = record {
  ok = all_appended _ c.args.parts.now c.parts.part-index c.args.out.now.items c.reserve.new.self.items c.parts.out.items c.reserve.ensures.items c.parts.invariant (omega (arith, c.parts-test.false));
  err = tt;
}
