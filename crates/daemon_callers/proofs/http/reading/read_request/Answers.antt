use Rattle.std.proofs.Common.{refl, le_refl}
use Rattle.daemon_callers.proofs.ComingLemmas.{reads_none, reads_first}
use Rattle.daemon_callers.proofs.http.reading.read_request.Goals as goal

pub returns-in_default : goal.returns-in_default
returns-in_default g c = record {
  came = λ o same pieces tells none no_own. reads_none o c.args.number _ _ none no_own;
  cause = tt;
  otherwise = tt;
  stream = λ told. refl;
  written = refl;
  read_faults = le_refl _;
  write_faults = le_refl _;
  number = refl;
  wanted = refl;
  leads = g.met.D.Desk.stays _;
}

pub read_on-requires-clause-number : goal.read_on-requires-clause-number
read_on-requires-clause-number g c = λ κs lives. c.requires.number

pub returns : goal.returns
returns g c =
    let fresh = c.in-Ok.ensures in
    let did = c.read_on.ensures in
    record {
      came = λ o same pieces tells none no_own. did.came o pieces tells (reads_first o c.args.number c.args.limit _ _ _ _ same none no_own fresh.0 fresh.1);
      cause = did.cause;
      otherwise = did.otherwise;
      stream = did.stream;
      written = did.written;
      read_faults = did.read_faults;
      write_faults = did.write_faults;
      number = did.number;
      wanted = did.wanted;
      leads = did.leads;
    }
