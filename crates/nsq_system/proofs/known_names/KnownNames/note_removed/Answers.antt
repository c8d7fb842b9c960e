use Rattle.std.proofs.Common.{rules}
use Rattle.nsq_system.proofs.Noted.{changes_to_none, none_known}
use Rattle.nsq_system.proofs.known_names.KnownNames.note_removed.Goals as goal

pub returns-in-Ok : goal.returns-in-Ok
returns-in-Ok c = record {
  gone = c.remove.ensures.gone;
  unknown = rw c.in-Ok.is tt;
  others = c.remove.ensures.others;
}

pub returns-in-Err : goal.returns-in-Err
returns-in-Err c = record {
  gone = c.remove-in-Err.ensures.gone;
  unknown = rw c.in-Err.is (λ other. absurd (other (search rules)));
  others = c.remove-in-Err.ensures.others;
}

pub returns-in-Err-2 : goal.returns-in-Err-2
returns-in-Err-2 c = record {
  gone = none_known c.forget.new.self.names c.args.name.now c.forget.ensures;
  unknown = rw c.in-Err-2.is (λ _. c.forget.ensures);
  others = changes_to_none c.args.self.now.names c.forget.new.self.names c.args.name.now c.forget.ensures;
}
