use Rattle.std.proofs.Common.{◌∙◌, refl, sym, subst, le_trans}
use Rattle.std.proofs.Math.Nat.{le_of_eq}
use Rattle.http_wire.specs.Reading.{Fed}
use Rattle.daemon_callers.specs.Comings.{IsReading}
use Rattle.daemon_callers.proofs.ComingLemmas.{open_reading, comes_looked, looked_otherwise, looked_cause, cause_later}
use Rattle.daemon_callers.proofs.http.reading.read_on.Goals as goal

pub reads-preserved : goal.reads-preserved
reads-preserved g c =
    let before = c.reads.invariant in
    let did = c.fetch.ensures in
    record {
      reading = λ o told tells first.
          let r = before.reading o told tells first in
          let here = subst (λ (x : Fed). IsReading o c.args.number (g.K.Source.pieces c.reads.conn) (g.D.Desk.seen c.reads.desk) x c.reads.intake.begun) (sym c.look.ensures.same) r in
          c.in-None-fetch.ensures.came o told tells here (open_reading o c.args.number _ (g.K.Source.pieces c.reads.conn) _ _ _ r c.in-None-look.ensures.looks);
      stream = λ told. did.stream told ∙ before.stream told;
      written = did.written ∙ before.written;
      write_faults = le_trans before.write_faults did.write_faults;
      read_faults = le_trans before.read_faults did.read_faults;
      number = did.number ∙ before.number;
      wanted = did.wanted ∙ before.wanted;
      leads = g.met.D.Desk.goes_on _ _ _ before.leads did.leads;
    }

pub returns-in-Some-fetch : goal.returns-in-Some-fetch
returns-in-Some-fetch g c =
    let before = c.reads.invariant in
    let did = c.fetch.ensures in
    record {
      came = λ o told tells first.
          let r = before.reading o told tells first in
          let here = subst (λ (x : Fed). IsReading o c.args.number (g.K.Source.pieces c.reads.conn) (g.D.Desk.seen c.reads.desk) x c.reads.intake.begun) (sym c.look.ensures.same) r in
          c.in-Some-fetch.ensures.came o told tells here (open_reading o c.args.number _ (g.K.Source.pieces c.reads.conn) _ _ _ r c.in-None-look.ensures.looks);
      cause = cause_later c.in-Some-fetch.came _ _ _ _ _ _ _ before.read_faults before.write_faults c.in-Some-fetch.ensures.cause;
      otherwise = c.in-Some-fetch.ensures.otherwise;
      stream = λ told. did.stream told ∙ before.stream told;
      written = did.written ∙ before.written;
      read_faults = le_trans before.read_faults did.read_faults;
      write_faults = le_trans before.write_faults did.write_faults;
      number = did.number ∙ before.number;
      wanted = did.wanted ∙ before.wanted;
      leads = g.met.D.Desk.goes_on _ _ _ before.leads did.leads;
    }

pub returns-in-Some-look : goal.returns-in-Some-look
returns-in-Some-look g c =
    let before = c.reads.invariant in
    record {
      came = λ o told tells first. comes_looked o c.args.number _ (g.K.Source.pieces c.reads.conn) _ _ _ (before.reading o told tells first) c.in-Some-look.came c.in-Some-look.ensures.looks;
      cause = looked_cause _ _ c.in-Some-look.came _ _ _ _ _ c.in-Some-look.ensures.looks;
      otherwise = looked_otherwise _ _ c.in-Some-look.came c.in-Some-look.ensures.looks;
      stream = before.stream;
      written = before.written;
      read_faults = before.read_faults;
      write_faults = before.write_faults;
      number = before.number;
      wanted = before.wanted;
      leads = before.leads;
    }

pub reads-init : goal.reads-init
reads-init g c = record {
  reading = λ o told tells first. first;
  stream = λ told. refl;
  written = refl;
  write_faults = le_of_eq refl;
  read_faults = le_of_eq refl;
  number = refl;
  wanted = refl;
  leads = g.met.D.Desk.stays _;
}

pub fetch-requires-clause-number : goal.fetch-requires-clause-number
fetch-requires-clause-number g c = λ κs lives. c.requires.number ∙ sym c.reads.invariant.number

pub invariant_of-intake : goal.invariant_of-intake
invariant_of-intake g c = record { whole = c.reads.intake.whole }
