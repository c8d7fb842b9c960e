use Rattle.std.proofs.Common.{arith, ◌∙◌, ap, length, ◌+◌, ◌-◌}
use Rattle.v2_frame.proofs.MessageLemmas.{put_whole}
use Rattle.v2_frame.proofs.message.Message.put.Goals as goal

pub returns-clause-bytes : goal.returns-clause-bytes
returns-clause-bytes c =
    let id = c.copy_from_slice-3.ensures.after in
    put_whole c.args.into.now c.copy_from_slice.new.self c.copy_from_slice-2.new.self c.copy_from_slice-3.new.self c.copy_from_slice-4.new.self (26 + length c.bytes-body.result.now - 26) c.args.self.now
    (c.copy_from_slice.ensures.after ∙ c.to_be_bytes.ensures) (c.copy_from_slice-2.ensures.after ∙ c.to_be_bytes-2.ensures) (id ∙ c.bytes.ensures.value) (ap length id ∙ c.bytes.ensures.len)
    (c.copy_from_slice-4.ensures.after ∙ c.bytes-body.ensures) (omega (arith, ap length c.bytes-body.ensures))
