use Rattle.queue_opening.proofs.Plans.{numbers_more, numbers_all}
use Rattle.queue_opening.proofs.plan.numbers_in.Goals as goal

pub loop-file-preserved : goal.loop-file-preserved
loop-file-preserved c =
    numbers_more c.args.files.now c.loop-file.file-index c.file-item.result c.args.name.now c.as_str.result.now c.loop-file.numbers.items c.add_number.new.numbers.items c.loop-file-test.true c.file-item.is
    c.as_str.ensures.value c.loop-file.invariant c.in_ok-add_number.ensures

pub returns : goal.returns
returns c = numbers_all c.args.files.now c.loop-file.file-index c.args.name.now c.loop-file.numbers.items c.loop-file-test.false c.loop-file.invariant
