use Rattle.std.proofs.Common.{ap, arith, le_of_eq, refl, subst, sym}
use Rattle.std.proofs.lemmas.Bool.{false≢true}
use Rattle.nsq_outside.specs.Causes.{Rose}
use Rattle.nsq_outside.specs.Hosts.{HostState, OnlyAcceptFaults}
use Rattle.nsqd_host.specs.SysHosts.{state_of}
use Rattle.nsqd_host.proofs.host.SysHostHostEntry.start.Goals as goal

pub returns-then-open : goal.returns-then-open
returns-then-open g c = record {
  content = λ told. absurd (false≢true told);
  state = subst (λ (s : HostState _ _ _). OnlyAcceptFaults (state_of c.args.self.now) s) (sym c.open.ensures.state) (le_of_eq refl, refl);
  cause = tt;
  dials = refl;
  dial_faults = c.open.ensures.dial_faults;
}

pub returns : goal.returns
returns g c = record {
  content = λ told. absurd (false≢true told);
  state =
      let same = ap (λ (s : HostState _ _ _). s.accept_faults) c.open.ensures.state in
      (omega (arith, same, c.add.ensures.faults), ap (λ (s : HostState _ _ _). record s { accept_faults = c.add.new.self.count }) c.open.ensures.state);
  cause = subst (λ n. Rose n c.add.new.self.count) (ap (λ (s : HostState _ _ _). s.accept_faults) c.open.ensures.state) c.add.ensures.rose;
  dials = refl;
  dial_faults = c.open.ensures.dial_faults;
}
