use Rattle.std.proofs.Common.{length}
use Rattle.broker_files.proofs.left.+are_left_channels.Given as goal

abbrev pub decreases-are_left_channels : goal.decreases-are_left_channels
decreases-are_left_channels l = length l.channels.now
