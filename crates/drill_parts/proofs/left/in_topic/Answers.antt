use Rattle.std.proofs.Common.{ap, sym, subst, ◌∙◌}
use Rattle.nsq_fakes.specs.MemFolders.{files_in}
use Rattle.path_image.specs.Data.{KeptTopic}
use Rattle.drill_parts.specs.Left.{CountsQueue}
use Rattle.drill_parts.proofs.Lefts.{channels_none, topic_counts, topic_none}
use Rattle.drill_parts.proofs.left.in_topic.Goals as goal

pub returns-in_default : goal.returns-in_default
returns-in_default c =
    topic_none (files_in c.args.folder.now) c.args.topic.now c.as_str.result.now (sym (c.as_str.ensures ∙ ap (λ (t : KeptTopic). t.name) c.topic.view_is)) (rw c.in_default.is at c.in_ok-own.ensures)

pub returns-in_default-2 : goal.returns-in_default-2
returns-in_default-2 c =
    channels_none (files_in c.args.folder.now) c.args.topic.now c.topic.inside.topic c.deref.result.now (sym (ap (λ (t : KeptTopic). t.name) c.topic.view_is))
    (sym (c.deref.ensures.value ∙ ap (λ (t : KeptTopic). t.channels) c.topic.view_is)) (rw c.in_default-2.is at c.in_ok-theirs.ensures)

pub returns : goal.returns
returns c =
    let files = files_in c.args.folder.now in
    topic_counts files c.args.topic.now c.topic.inside.topic c.deref.result.now c.in-Some.own c.in-Some-2.theirs c.in_ok-add.field-0 (sym (ap (λ (t : KeptTopic). t.name) c.topic.view_is))
    (sym (c.deref.ensures.value ∙ ap (λ (t : KeptTopic). t.channels) c.topic.view_is)) (subst (λ q. CountsQueue files q c.in-Some.own) c.as_str.ensures (rw c.in-Some.is at c.in_ok-own.ensures))
    (rw c.in-Some-2.is at c.in_ok-theirs.ensures) c.in_ok-add.ensures
