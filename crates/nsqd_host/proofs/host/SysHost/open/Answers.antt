use Rattle.std.proofs.Common.{ap, false, refl, ◌∙◌}
use Rattle.std.specs.Option.{option_map_or}
use Rattle.std.proofs.lemmas.Bool.{false≢true}
use Rattle.nsq_system.specs.Listeners.{has_http}
use Rattle.nsqd_host.specs.SysHosts.{state_of}
use Rattle.nsqd_host.proofs.host.SysHost.open.Goals as goal

pub returns-in_default : goal.returns-in_default
returns-in_default g c = record { http = λ is. absurd (false≢true is); state = refl; dial_faults = refl }

pub returns-then-not-move_folder : goal.returns-then-not-move_folder
returns-then-not-move_folder g c = record {
  http = λ is. absurd (false≢true is);
  state = ap (λ kit. record (state_of c.args.self.now) { kit = kit }) c.move_folder.ensures;
  dial_faults = refl;
}

pub returns : goal.returns
returns g c = record {
  http = λ is. ap (λ listeners. option_map_or has_http listeners false) c.put.ensures ∙ c.in-Some.ensures;
  state = ap (λ kit. record (state_of c.args.self.now) { kit = kit }) c.move_folder.ensures;
  dial_faults = refl;
}
