use Rattle.std.proofs.Common.{take}
use Rattle.nsq_fakes.specs.MemFolders.{files_in}
use Rattle.drill_parts.specs.Left.{CountsChannels}
use Rattle.drill_parts.proofs.left.in_channels.Given as goal

abbrev pub invariant-loop-channel : goal.invariant-loop-channel
invariant-loop-channel l = CountsChannels (files_in l.folder) l.topic (take l.channel-index l.channels) l.sum
