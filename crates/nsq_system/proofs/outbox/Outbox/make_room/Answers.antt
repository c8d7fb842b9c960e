use Rattle.std.proofs.Common.{◌+◌, ◌≤◌, length, inl, inr, refl, ap, arith}
use Rattle.std.proofs.Math.Nat.{le_of_eq}
use Rattle.nsq_system.proofs.Outgoing.{done_not_failed}
use Rattle.nsq_system.proofs.outbox.Outbox.make_room.Goals as goal

pub returns-then-len : goal.returns-then-len
returns-then-len g c = record {
  delivered = λ taken d. d;
  room = λ _. omega (arith, c.if-len.true, c.len.ensures, c.args.self.now.gathered.ok.0, c.args.self.now.bound);
  gathered = inl refl;
  fits = λ _. refl;
  there = λ _. refl;
  faults = le_of_eq refl;
  cause = tt;
  counted = refl;
  stays = λ broken. (broken, refl);
  done = λ _. refl;
  broken = λ failed. absurd (done_not_failed failed);
}

pub returns : goal.returns
returns g c = record {
  delivered = c.flush.ensures.delivered;
  room = λ _. omega (arith, ap length c.flush.ensures.gathered, c.requires);
  gathered = inr c.flush.ensures.gathered;
  fits = λ fits. absurd (omega (arith, fits, c.if-len.false, c.len.ensures, c.args.self.now.gathered.ok.0));
  there = λ fits. absurd (omega (arith, fits, c.if-len.false, c.len.ensures, c.args.self.now.gathered.ok.0));
  faults = c.flush.ensures.faults;
  cause = c.flush.ensures.cause;
  counted = c.flush.ensures.counted;
  stays = c.flush.ensures.stays;
  done = c.flush.ensures.done;
  broken = c.flush.ensures.broken;
}
