use Rattle.v2_frame.specs.Written.{message_bytes}
use Rattle.backlog.proofs.Putting.{front_is, bytes_long}
use Rattle.backlog.proofs.writing.write_record.Goals as goal

pub returns-clause-fits : goal.returns-clause-fits
returns-clause-fits c = record { stamp = c.numbers_fit.ensures.stamp; attempts = c.numbers_fit.ensures.attempts; id = rw (← c.bytes-id.ensures.value) c.bytes-id.ensures.len }

pub returns-clause-bytes : goal.returns-clause-bytes
returns-clause-bytes c =
    let long = bytes_long c.args.message.now (rw (← c.bytes-id.ensures.value) c.bytes-id.ensures.len) in
    front_is c.put.new.into (message_bytes c.args.message.now) _ c.put.result _ c.put.ensures.bytes c.put.ensures.size long
