use Rattle.std.proofs.Common.{ap, refl}
use Rattle.nsqd_host.specs.SysHosts.{state_of}
use Rattle.nsqd_host.proofs.host.SysHostHostEntry.restore.Goals as goal

pub returns : goal.returns
returns g c = record { content = refl; state = ap (λ kit. record (state_of c.args.self.now) { kit = kit }) c.put.ensures; dials = refl; dial_faults = refl }
