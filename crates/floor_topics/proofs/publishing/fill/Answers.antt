use Rattle.std.proofs.Common.{refl}
use Rattle.floor_topics.proofs.publishing.fill.Goals as goal

pub returns-clause-room : goal.returns-clause-room
returns-clause-room g c = record {
  same = refl;
  settled = c.put_all.ensures.settled_now;
  queue = c.put_all.ensures.queue;
  seen = c.put_all.ensures.seen;
  row = c.put_all.ensures.row;
  stands = c.put_all.ensures.stands;
  others = c.put_all.ensures.others;
}
