use Rattle.std.proofs.Common.{take}
use Rattle.path_plain.specs.Folders.{files_of}
use Rattle.path_image.specs.Found.{Pairwise, FindsChannel}
use Rattle.path_plain.proofs.findings.found_channels.Given as goal

abbrev pub invariant-loop-channel : goal.invariant-loop-channel
invariant-loop-channel l = Pairwise (FindsChannel (files_of l.files) l.topic) (take l.channel-index l.kept) l.channels.items
