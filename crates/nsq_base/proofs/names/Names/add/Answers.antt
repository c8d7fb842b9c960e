use Rattle.std.proofs.Common.{◌∙◌}
use Rattle.nsq_base.proofs.TopicsOf.{with_topic-belongs, with_topic-stands}
use Rattle.nsq_base.proofs.names.Names.add.Goals as goal

pub returns-in_ok-insert_at-clause-ok : goal.returns-in_ok-insert_at-clause-ok
returns-in_ok-insert_at-clause-ok c =
    c.in_ok-insert_at.ensures.ok ∙ with_topic-belongs c.args.self.now c.args.topic c.in-Err.i c.new-channels.result c.in-Err.ensures.place c.new-channels.ensures.value

pub returns-in_default-clause-ok : goal.returns-in_default-clause-ok
returns-in_default-clause-ok c = with_topic-stands _ _ _ c.in_default.ensures.place
