use Rattle.std.proofs.Common.{rules}
use Rattle.nsq_system.proofs.Noted.{on_good, changes_to_none}
use Rattle.nsq_system.proofs.known_names.KnownNames.note_made.Goals as goal

pub returns-in-Ok : goal.returns-in-Ok
returns-in-Ok g c = record {
  here = on_good c.args.outcome.now c.add.ensures.here;
  absent = rw c.in-Ok.is tt;
  unknown = rw c.in-Ok.is tt;
  others = c.add.ensures.others;
}

pub returns-in-Err : goal.returns-in-Err
returns-in-Err g c = record {
  here = rw c.in-Err.is tt;
  absent = rw c.in-Err.is (λ _. c.remove.ensures.gone);
  unknown = rw c.in-Err.is (λ other. absurd (other (search rules)));
  others = c.remove.ensures.others;
}

pub returns-in-Err-2 : goal.returns-in-Err-2
returns-in-Err-2 g c = record {
  here = rw c.in-Err-2.is tt;
  absent = rw c.in-Err-2.is (search rules);
  unknown = rw c.in-Err-2.is (λ _. c.forget.ensures);
  others = changes_to_none c.args.self.now.names c.forget.new.self.names c.args.name.now c.forget.ensures;
}
