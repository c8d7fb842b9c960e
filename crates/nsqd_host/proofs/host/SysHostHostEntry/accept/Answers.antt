use Rattle.std.proofs.Common.{◌≡◌, [], false, true, le_of_eq, refl, rules}
use Rattle.std.proofs.lemmas.Bool.{false≢true}
use Rattle.nsq_outside.specs.Hosts.{HostContent, Accepts}
use Rattle.nsq_outside.specs.declared.host.Accept.{Accept}
use Rattle.nsq_system.specs.TcpConns.{no_bytes}
use Rattle.nsq_system.specs.declared.tcp_conn.TcpConn.{TcpConn}
use Rattle.nsqd_host.proofs.host.SysHostHostEntry.accept.Goals as goal

-- what a host tells that tells nothing
abbrev nothing : HostContent TcpConn
nothing = record { starts = []; coming = []; given = []; halted = false; back = []; printed = []; lines = [] }

-- it isn't asked for it
untold : (said : Accept TcpConn) → false ≡ true → Accepts no_bytes nothing nothing said
untold said told = absurd (false≢true told)

pub returns-in_default : goal.returns-in_default
returns-in_default g c = record {
  goes_on = tt;
  speaks = tt;
  content = λ told. absurd (false≢true told);
  fresh = tt;
  state = (c.add.ensures.faults, refl);
  cause = c.add.ensures.rose;
  dials = refl;
  dial_faults = refl;
}

pub returns-in-Failed : goal.returns-in-Failed
returns-in-Failed g c =
    let did = c.accept-accepted.ensures in
    record {
      goes_on = did.goes_on;
      speaks = did.speaks;
      content = untold c.accept-accepted.result;
      fresh = did.fresh;
      state = (c.add-in-Failed.ensures.faults, refl);
      cause = rw c.in-Failed.is c.add-in-Failed.ensures.rose;
      dials = refl;
      dial_faults = refl;
    }

pub returns-in-Some : goal.returns-in-Some
returns-in-Some g c =
    let did = c.accept-accepted.ensures in
    record {
      goes_on = did.goes_on;
      speaks = did.speaks;
      content = untold c.accept-accepted.result;
      fresh = did.fresh;
      state = (le_of_eq refl, refl);
      cause = search rules;
      dials = refl;
      dial_faults = refl;
    }

pub returns-in-Some-2 : goal.returns-in-Some-2
returns-in-Some-2 g c =
    let did = c.accept-accepted.ensures in
    record {
      goes_on = did.goes_on;
      speaks = did.speaks;
      content = untold c.accept-accepted.result;
      fresh = did.fresh;
      state = (le_of_eq refl, refl);
      cause = search rules;
      dials = refl;
      dial_faults = refl;
    }

pub returns-in-Some-3 : goal.returns-in-Some-3
returns-in-Some-3 g c =
    let did = c.accept-accepted.ensures in
    record {
      goes_on = did.goes_on;
      speaks = did.speaks;
      content = untold c.accept-accepted.result;
      fresh = did.fresh;
      state = (le_of_eq refl, refl);
      cause = search rules;
      dials = refl;
      dial_faults = refl;
    }
