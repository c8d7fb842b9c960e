use Rattle.std.proofs.Common.{arith, refl}
use Rattle.v2_frame.proofs.MessageLemmas.{take_whole}
use Rattle.v2_frame.proofs.message.Message.take.Goals as goal

pub returns : goal.returns
returns c =
    let first = c.in-Some.ensures.cases in
    let second = c.in-Some-split_first_chunk.ensures.cases in
    let parts = c.split_at.ensures in (
      take_whole c.args.bytes.now c.in-Some.stamp.now c.in-Some.rest.now c.in-Some-split_first_chunk.attempts.now c.in-Some-split_first_chunk.rest.now c.split_at.result.0.now c.split_at.result.1.now
          (record { stamp = c.from_be_bytes.result; attempts = c.from_be_bytes-2.result; id = c.in-Some-read.id; body = c.in-Ok.body; delay = 0 })
          (λ i. omega (arith, c.type_inv.bytes i)) first.0 first.1 first.2 second.0 second.1 second.2 parts.front parts.back c.from_be_bytes.ensures c.from_be_bytes-2.ensures c.in-Some-read.ensures.1 c.in-Ok.ensures,
      refl,
      omega (arith, first.2, second.2, c.if-rest-lt16.false),
    )
