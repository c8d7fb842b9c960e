use Rattle.v2_client.proofs.WritingLemmas.{can_write_spells}
use Rattle.v2_client.proofs.write.write_command.Goals as goal

pub returns-in-Sub-clause-spelled : goal.returns-in-Sub-clause-spelled
returns-in-Sub-clause-spelled c = can_write_spells _ _ c.in-Sub.is (rw c.bytes.ensures.value at c.bytes.ensures.is_name, rw c.bytes-in-Sub.ensures.value at c.bytes-in-Sub.ensures.is_name) tt c.requires

pub returns-in-Pub-clause-spelled : goal.returns-in-Pub-clause-spelled
returns-in-Pub-clause-spelled c = can_write_spells _ _ c.in-Pub.is c.write_pub.ensures.named tt c.requires

pub returns-in-Mpub-clause-spelled : goal.returns-in-Mpub-clause-spelled
returns-in-Mpub-clause-spelled c = can_write_spells _ _ c.in-Mpub.is c.write_batch.ensures.named tt c.requires

pub returns-in-Dpub-clause-spelled : goal.returns-in-Dpub-clause-spelled
returns-in-Dpub-clause-spelled c = can_write_spells _ _ c.in-Dpub.is c.write_dpub.ensures.named tt c.requires

pub returns-in-Rdy-clause-spelled : goal.returns-in-Rdy-clause-spelled
returns-in-Rdy-clause-spelled c = can_write_spells _ _ c.in-Rdy.is tt tt c.requires

pub returns-in-Fin-clause-spelled : goal.returns-in-Fin-clause-spelled
returns-in-Fin-clause-spelled c = can_write_spells _ _ c.in-Fin.is tt (rw c.bytes-in-Fin.ensures.value at c.bytes-in-Fin.ensures.len) c.requires

pub returns-in-Req-clause-spelled : goal.returns-in-Req-clause-spelled
returns-in-Req-clause-spelled c = can_write_spells _ _ c.in-Req.is tt c.write_req.ensures.long c.requires

pub returns-in-Touch-clause-spelled : goal.returns-in-Touch-clause-spelled
returns-in-Touch-clause-spelled c = can_write_spells _ _ c.in-Touch.is tt (rw c.bytes-in-Touch.ensures.value at c.bytes-in-Touch.ensures.len) c.requires

pub returns-in-Identify-clause-spelled : goal.returns-in-Identify-clause-spelled
returns-in-Identify-clause-spelled c = can_write_spells _ _ c.in-Identify.is tt tt c.requires

pub returns-in-Cls-clause-spelled : goal.returns-in-Cls-clause-spelled
returns-in-Cls-clause-spelled c = can_write_spells _ _ c.in-Cls.is tt tt c.requires

pub returns-in-Nop-clause-spelled : goal.returns-in-Nop-clause-spelled
returns-in-Nop-clause-spelled c = can_write_spells _ _ c.in-Nop.is tt tt c.requires
