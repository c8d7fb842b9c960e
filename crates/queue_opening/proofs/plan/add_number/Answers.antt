use Rattle.queue_opening.proofs.Plans.{adds_number}
use Rattle.queue_opening.proofs.plan.add_number.Goals as goal

pub returns-in_ok-push : goal.returns-in_ok-push
returns-in_ok-push c =
    adds_number c.args.name.now c.as_bytes.result.now c.args.file.now c.args.numbers.now.items c.push.new.self.items c.in-Some.number c.in_ok-number.field-0 c.in-Some.is c.in_ok-number.ensures c.as_bytes.ensures.value
    c.in_ok-push.ensures.items
