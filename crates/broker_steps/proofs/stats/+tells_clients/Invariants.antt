use Rattle.std.proofs.Common.{length}
use Rattle.broker_steps.proofs.stats.+tells_clients.Given as goal

abbrev pub decreases-tells_clients : goal.decreases-tells_clients
decreases-tells_clients l = length l.clients.now
