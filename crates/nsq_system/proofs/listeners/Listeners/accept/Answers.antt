use Rattle.std.proofs.Common.{refl}
use Rattle.std.proofs.Math.Nat.{le_of_eq}
use Rattle.nsq_system.proofs.Heard.{in_turn}
use Rattle.nsq_system.proofs.listeners.Listeners.accept.Goals as goal

pub returns-in-Ok : goal.returns-in-Ok
returns-in-Ok g c = record {
  fresh = c.in-Ok.ensures.fresh;
  unused = c.in-Ok.ensures.unused;
  speaks = c.in-Ok.ensures.kind;
  goes_on = tt;
  heard = c.in-Stream.ensures.heard;
  http = refl;
  faults = le_of_eq refl;
  cause = tt;
  counted = refl;
  turns = in_turn c.args.self.now.first c.next_caller.new.first c.in-Stream.kind c.in-Stream.stream c.in-Ok.conn c.in-Stream.ensures.turns;
}

pub returns-in-Err : goal.returns-in-Err
returns-in-Err g c = record { fresh = tt; unused = tt; speaks = tt; goes_on = tt; heard = tt; http = refl; faults = le_of_eq refl; cause = tt; counted = refl; turns = tt }

pub returns-in-Nobody : goal.returns-in-Nobody
returns-in-Nobody g c = record { fresh = tt; unused = tt; speaks = tt; goes_on = tt; heard = tt; http = refl; faults = le_of_eq refl; cause = tt; counted = refl; turns = tt }

pub returns-in-Shortage : goal.returns-in-Shortage
returns-in-Shortage g c = record { fresh = tt; unused = tt; speaks = tt; goes_on = tt; heard = tt; http = refl; faults = le_of_eq refl; cause = tt; counted = refl; turns = tt }

pub returns-in-Broken : goal.returns-in-Broken
returns-in-Broken g c = record {
  fresh = tt;
  unused = tt;
  speaks = tt;
  goes_on = tt;
  heard = tt;
  http = refl;
  faults = c.add.ensures.faults;
  cause = c.add.ensures.rose;
  counted = c.add.ensures.counted;
  turns = c.in-Broken.ensures.turns;
}
