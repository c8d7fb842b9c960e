use Rattle.std.proofs.Common.{arith, refl, subst, sym}
use Rattle.std.specs.Prelude.{IsSome}
use Rattle.nsq_outside.specs.Hosts.{HostState}
use Rattle.daemon_main.specs.Doing.{CanDo}
use Rattle.daemon_main.proofs.WordAsking.{four_failed}
use Rattle.daemon_main.proofs.program.carry_out.Goals as goal

pub serve-requires-clause-options : goal.serve-requires-clause-options
serve-requires-clause-options g c κs within = subst CanDo c.in-Serve.is c.requires.can

pub print_drill-requires-clause-seed : goal.print_drill-requires-clause-seed
print_drill-requires-clause-seed g c κs within = let can = subst CanDo c.in-Drill.is c.requires.can in can.0

pub print_drill-requires-clause-count : goal.print_drill-requires-clause-count
print_drill-requires-clause-count g c κs within = let can = subst CanDo c.in-Drill.is c.requires.can in can.1

pub returns-in-Serve : goal.returns-in-Serve
returns-in-Serve g c = record {
  home = c.serve.ensures.home;
  does = rw c.in-Serve.is
      (record { ended = c.serve.result; is = refl; asked = c.serve.ensures.asked; lines = c.serve.ensures.lines; faults = c.serve.ensures.faults; cause = c.serve.ensures.cause; runs = c.serve.ensures.run });
  listeners = λ told is. c.serve.ensures.listeners told (four_failed c.serve.result is);
}

pub returns-in-Drill : goal.returns-in-Drill
returns-in-Drill g c = record {
  home = subst (λ (s : HostState _ _ _). IsSome s.kit) (sym c.print_drill.ensures.state.1) c.requires.home;
  does = rw c.in-Drill.is c.print_drill.ensures.drills;
  listeners = λ told is. absurd (c.print_drill.ensures.unserved is);
}

pub returns-in-Help-clause-home : goal.returns-in-Help-clause-home
returns-in-Help-clause-home g c = subst (λ (s : HostState _ _ _). IsSome s.kit) (sym c.print.ensures.prints.state.1) c.requires.home

pub returns-in-Help-clause-listeners : goal.returns-in-Help-clause-listeners
returns-in-Help-clause-listeners g c = λ told is. absurd (c.print.ensures.unserved is)

pub returns-in-Version-clause-home : goal.returns-in-Version-clause-home
returns-in-Version-clause-home g c = subst (λ (s : HostState _ _ _). IsSome s.kit) (sym c.print-in-Version.ensures.prints.state.1) c.requires.home

pub returns-in-Version-clause-listeners : goal.returns-in-Version-clause-listeners
returns-in-Version-clause-listeners g c = λ told is. absurd (c.print-in-Version.ensures.unserved is)

pub returns-in-Unknown : goal.returns-in-Unknown
returns-in-Unknown g c = record {
  home = c.requires.home;
  does = rw c.in-Unknown.is (refl, record { state = refl; content = refl });
  listeners = λ told is. absurd (omega (arith, is));
}
