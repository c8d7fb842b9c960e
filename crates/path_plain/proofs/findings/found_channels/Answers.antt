use Rattle.path_plain.specs.Folders.{files_of}
use Rattle.path_image.specs.Found.{FindsChannel}
use Rattle.path_plain.proofs.FindingLemmas.{pairwise_next, pairwise_all, bad_channel_at}
use Rattle.path_plain.proofs.findings.found_channels.Goals as goal

pub loop-channel-preserved : goal.loop-channel-preserved
loop-channel-preserved c =
    pairwise_next (FindsChannel (files_of c.args.files.now) c.args.topic) c.args.kept.now c.loop-channel.channel-index _ c.channel-item.result c.loop-channel.channels.items c.push.new.self.items c.in-Some.found
    c.loop-channel-test.true c.channel-item.is c.loop-channel.invariant (rw c.in-Some.is at c.in_ok-found.ensures) c.in_ok-push.ensures.items

pub returns-in_default : goal.returns-in_default
returns-in_default c =
    bad_channel_at (files_of c.args.files.now) c.args.topic c.args.kept.now c.loop-channel.channel-index _ c.channel-item.result c.loop-channel-test.true c.channel-item.is (rw c.in_default.is at c.in_ok-found.ensures)

pub returns : goal.returns
returns c = pairwise_all (FindsChannel (files_of c.args.files.now) c.args.topic) c.args.kept.now c.loop-channel.channel-index c.loop-channel.channels.items c.loop-channel-test.false c.loop-channel.invariant
