use Rattle.std.proofs.Common.{arith}
use Rattle.v2_sizes.proofs.SizeLemmas.{size_here}
use Rattle.v2_sizes.proofs.size.size_of.Goals as goal

pub returns : goal.returns
returns c =
    let found = c.in-Some.ensures.cases in
    (size_here c.args.bytes.now c.in-Some.front.now c.in-Some.rest.now c.from_be_bytes.result (λ i. omega (arith, c.type_inv.bytes i)) found.0 found.1 found.2 c.from_be_bytes.ensures c.from_be_bytes.type_inv, found.1)
