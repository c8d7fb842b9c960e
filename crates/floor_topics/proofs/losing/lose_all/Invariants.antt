use Rattle.std.proofs.Common.{◌≡◌, take}
use Rattle.floor_topics.specs.Losing.{lost_among}
use Rattle.floor_topics.proofs.losing.lose_all.Given as goal

abbrev pub invariant-members : goal.invariant-members
invariant-members l = l.clients.items ≡ lost_among (take l.number-index l.members) l.topic l.channel l.fn.clients.items
