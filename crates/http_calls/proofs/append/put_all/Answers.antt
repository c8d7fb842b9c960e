use Rattle.std.proofs.Common.{ℕ, List, Bor, arith}
use Rattle.http_calls.proofs.AppendLemmas.{no_part, one_part, all_parts}
use Rattle.http_calls.proofs.append.put_all.Goals as goal

pub parts-init : goal.parts-init
parts-init c = no_part c.args.text.now.items

pub parts-preserved : goal.parts-preserved
parts-preserved c =
    one_part (λ (part : Bor (List ℕ)). part.now) c.args.text.now.items c.parts.text.items c.extend_from_slice.new.self.items c.args.parts.now c.parts.part-index _ c.parts-test.true c.parts.invariant c.in_ok-extend_from_slice.ensures.items

pub returns : goal.returns
returns c = all_parts (λ (part : Bor (List ℕ)). part.now) c.args.text.now.items c.parts.text.items c.args.parts.now c.parts.part-index (omega arith) c.parts.invariant
