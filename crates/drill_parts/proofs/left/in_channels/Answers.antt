use Rattle.std.proofs.Common.{◌≡◌, length, ap, subst, ◌∙◌}
use Rattle.nsq_fakes.specs.MemFolders.{files_in}
use Rattle.queue_image.specs.FileNames.{channel_queue}
use Rattle.path_image.specs.Data.{KeptChannel}
use Rattle.path_image.specs.Found.{FindsChannel, FoundChannel}
use Rattle.drill_parts.specs.Left.{CountsQueue, HasNoList}
use Rattle.drill_parts.proofs.Lefts.{counts_next, none_at}
use Rattle.drill_parts.proofs.left.in_channels.Goals as goal

pub returns-in_default : goal.returns-in_default
returns-in_default c =
    let files = files_in c.args.folder.now in
    let queue : c.as_str-in-loop-channel-2.result.now ≡ channel_queue c.args.topic c.channel-item.result.name
    = c.as_str-in-loop-channel-2.ensures.value ∙ c.in_ok-name.ensures ∙ ap (λ t. channel_queue t c.as_str-in-loop-channel.result.now) c.as_str.ensures
    ∙ ap (channel_queue c.args.topic) (c.as_str-in-loop-channel.ensures ∙ ap (λ (k : KeptChannel). k.name) c.channel.view_is) in
    none_at (FindsChannel files c.args.topic) c.args.channels.now c.loop-channel.channel-index _ c.channel-item.result c.loop-channel-test.true c.channel-item.is
    (λ y r. subst (λ q. HasNoList files q) queue (rw c.in_default.is at c.in_ok-more.ensures) y.messages r.messages)

pub loop-channel-preserved : goal.loop-channel-preserved
loop-channel-preserved c =
    let files = files_in c.args.folder.now in
    let queue : c.as_str-in-loop-channel-2.result.now ≡ channel_queue c.args.topic c.channel-item.result.name
    = c.as_str-in-loop-channel-2.ensures.value ∙ c.in_ok-name.ensures ∙ ap (λ t. channel_queue t c.as_str-in-loop-channel.result.now) c.as_str.ensures
    ∙ ap (channel_queue c.args.topic) (c.as_str-in-loop-channel.ensures ∙ ap (λ (k : KeptChannel). k.name) c.channel.view_is) in
    counts_next (FindsChannel files c.args.topic) (λ (f : FoundChannel). length f.messages) c.args.channels.now c.loop-channel.channel-index _ c.channel-item.result c.loop-channel.sum c.in-Some.more c.in_ok-sum.sum
    c.loop-channel-test.true c.channel-item.is c.loop-channel.invariant
    (λ y r. subst (λ q. CountsQueue files q c.in-Some.more) queue (rw c.in-Some.is at c.in_ok-more.ensures) y.messages r.messages) c.in_ok-sum.ensures
