use Rattle.std.proofs.Common.{length}
use Rattle.broker_steps.proofs.stats.+tells_channels.Given as goal

abbrev pub decreases-tells_channels : goal.decreases-tells_channels
decreases-tells_channels l = length l.channels.now
