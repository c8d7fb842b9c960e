use Rattle.std.proofs.Common.{refl}
use Rattle.floor_moves.proofs.Around.{chosen}
use Rattle.floor_moves.proofs.owed.first_owed.Goals as goal

pub returns : goal.returns
returns c = chosen c.args.room.now c.name.result c.index-owed-0.result c.in-Some.stall c.owed.result.now c.args.room.now.queue.head refl c.requires.head c.owed.ensures.some c.owed.ensures.value c.index-owed-0.is c.name.ensures c.in-Some.ensures
