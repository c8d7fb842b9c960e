use Rattle.std.proofs.Common.{refl}
use Rattle.std.proofs.Math.Nat.{le_of_eq}
use Rattle.nsq_system.proofs.tcp_dialer.TcpDialerDialer.dial.Goals as goal

pub returns-in-Ok : goal.returns-in-Ok
returns-in-Ok g c = record {
  fresh = c.in-Ok.ensures.fresh;
  unused = c.in-Ok.ensures.unused;
  speaks = c.in-Ok.ensures.kind;
  faults = le_of_eq refl;
  cause = tt;
  counted = refl;
}

pub returns : goal.returns
returns g c = record {
  fresh = tt;
  unused = tt;
  speaks = tt;
  faults = c.add.ensures.faults;
  cause = c.add.ensures.rose;
  counted = c.add.ensures.counted;
}
