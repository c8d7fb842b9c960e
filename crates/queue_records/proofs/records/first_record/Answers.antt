use Rattle.std.proofs.Common.{arith}
use Rattle.queue_records.proofs.Heads.{record_at_head}
use Rattle.queue_records.proofs.records.first_record.Goals as goal

pub returns-in-Some-get : goal.returns-in-Some-get
returns-in-Some-get c =
    let h = c.in-Some.ensures.cases in
    let k = c.in-Some-get.ensures.lookup in
    record_at_head c.args.least c.args.limit c.from_be_bytes-size.result c.args.bytes.now c.in-Some.size.now c.in-Some.rest.now c.in-Some-get.body.now h.0 h.1 h.2 c.from_be_bytes-size.ensures
    k.0.1 k.0.2 (λ i. omega (arith, c.type_inv.bytes i)) (c.if-size-least.false, c.if-size-limit.false)
