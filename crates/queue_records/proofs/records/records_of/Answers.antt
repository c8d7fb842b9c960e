use Rattle.std.proofs.Common.{length, arith}
use Rattle.queue_image.proofs.RowLemmas.{row_next}
use Rattle.queue_records.proofs.Rows.{row_begins, row_ends, some_left, less_left, damaged_here}
use Rattle.queue_records.proofs.records.records_of.Goals as goal

pub loop-place-preserved : goal.loop-place-preserved
loop-place-preserved c =
    let h = row_next c.args.least c.args.limit c.args.bytes.now c.loop-place.place c.loop-place.bodies c.push.new.self c.in-Record.body.now c.in_ok-copy-in-Record.field-0
    c.loop-place.invariant.inside c.loop-place.invariant.row c.in-Record.ensures c.in_ok-copy-in-Record.ensures c.in_ok-push-in-Record.ensures.ok in
    record { inside = h.0; row = h.1 }

pub loop-place-init : goal.loop-place-init
loop-place-init c = record {
  inside = omega arith;
  row = row_begins c.args.least c.args.limit c.args.bytes.now _ c.new-bodies.ensures;
}

pub first_record-requires : goal.first_record-requires
first_record-requires c = some_left c.args.bytes.now c.loop-place.place c.loop-place-test.true

pub loop-place-smaller : goal.loop-place-smaller
loop-place-smaller c = less_left c.args.bytes.now c.loop-place.place (length c.in-Record.body.now) c.loop-place-test.true

pub returns-in-Damage : goal.returns-in-Damage
returns-in-Damage c =
    damaged_here c.args.least c.args.limit c.args.bytes.now c.loop-place.place c.in-Damage.size c.loop-place.bodies c.loop-place.invariant.inside c.loop-place.invariant.row c.in-Damage.ensures

pub returns : goal.returns
returns c = row_ends c.args.least c.args.limit c.args.bytes.now c.loop-place.place c.loop-place.bodies c.loop-place-test.false c.loop-place.invariant.row
