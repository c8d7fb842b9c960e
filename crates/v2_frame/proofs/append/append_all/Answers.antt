use Rattle.std.proofs.Common.{ℕ, List, Bor, ◌∙◌, ap, arith, length, sym}
use Rattle.std.proofs.lemmas.Result.{err_from_is_err_and}
use Rattle.v2_frame.proofs.AppendLemmas.{no_part, part_added, parts_added, parts_cut}
use Rattle.v2_frame.proofs.append.append_all.Goals as goal

pub returns-in_err-reserve : goal.returns-in_err-reserve
returns-in_err-reserve c =
    let p = err_from_is_err_and c.from_residual.result c.from_residual.ensures.1 in
    rw p.1 (record { ok = tt; err = c.reserve.ensures.items })

pub parts-init : goal.parts-init
parts-init c = no_part c.reserve.new.self.items

pub parts-preserved : goal.parts-preserved
parts-preserved c =
    part_added (λ (part : Bor (List ℕ)). part.now) c.args.parts.now c.parts.part-index c.reserve.new.self.items c.reserve.new.self.items c.parts.out.items c.parts.invariant c.extend_from_slice.result c.extend_from_slice.new.self.items _ c.parts-test.true
    (sym c.is_err.ensures.value ∙ c.if-is_err.false) c.extend_from_slice.ensures.items

pub returns-then-is_err : goal.returns-then-is_err
returns-then-is_err c = record {
  ok = tt;
  err = c.truncate.ensures.items ∙ parts_cut (λ (part : Bor (List ℕ)). part.now) c.args.parts.now c.parts.part-index c.args.out.now.items c.reserve.new.self.items c.parts.out.items c.parts.invariant c.extend_from_slice.result _ _ c.len-length.result
      c.reserve.ensures.items (omega (arith, c.len-length.ensures, c.reserve.new.self.ok.0, ap length c.reserve.ensures.items)) (sym c.is_err.ensures.value ∙ c.if-is_err.true) c.extend_from_slice.ensures.items;
}

pub returns : goal.returns
returns c = record {
  ok = parts_added (λ (part : Bor (List ℕ)). part.now) c.args.parts.now c.parts.part-index c.args.out.now.items c.reserve.new.self.items c.parts.out.items c.parts.invariant c.reserve.ensures.items c.parts-test.false;
  err = tt;
}
