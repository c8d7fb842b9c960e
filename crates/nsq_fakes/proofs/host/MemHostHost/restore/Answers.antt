use Rattle.std.proofs.Common.{ap, refl}
use Rattle.nsq_fakes.specs.MemHosts.{state_of}
use Rattle.nsq_fakes.proofs.host.MemHostHost.restore.Goals as goal

pub returns : goal.returns
returns g c = record {
  content = refl;
  state = ap (λ kit. record (state_of c.args.self.now) { kit = kit }) c.put_back.ensures;
  dials = refl;
  dial_faults = refl;
  callers = refl;
  to_link = refl;
  calls = record { accepts = refl; prints = refl; tells = refl };
}
