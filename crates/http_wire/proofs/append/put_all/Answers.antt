use Rattle.std.proofs.Common.{ℕ, List, Bor, ◌∙◌, arith}
use Rattle.http_wire.proofs.AppendLemmas.{front_stays, no_part, one_part, all_parts}
use Rattle.http_wire.proofs.append.put_all.Goals as goal

pub returns-in_err-extend_from_slice-clause-front : goal.returns-in_err-extend_from_slice-clause-front
returns-in_err-extend_from_slice-clause-front c = front_stays c.args.out.now.items _ _ (c.in_err-extend_from_slice.ensures.items ∙ c.parts.invariant)

pub returns-clause-front : goal.returns-clause-front
returns-clause-front c = front_stays c.args.out.now.items _ _ c.parts.invariant

pub returns-clause-ok : goal.returns-clause-ok
returns-clause-ok c = all_parts (λ (part : Bor (List ℕ)). part.now) c.args.out.now.items c.parts.out.items c.args.parts.now c.parts.part-index (omega arith) c.parts.invariant

pub parts-init : goal.parts-init
parts-init c = no_part c.args.out.now.items

pub parts-preserved : goal.parts-preserved
parts-preserved c =
    one_part (λ (part : Bor (List ℕ)). part.now) c.args.out.now.items c.parts.out.items c.extend_from_slice.new.self.items c.args.parts.now c.parts.part-index _ c.parts-test.true c.parts.invariant c.in_ok-extend_from_slice.ensures.items
