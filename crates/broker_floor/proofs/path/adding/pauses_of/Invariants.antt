use Rattle.std.proofs.Common.{◌≡◌, take}
use Rattle.broker_floor.specs.Adding.{pauses}
use Rattle.broker_floor.proofs.path.adding.pauses_of.Given as goal

abbrev pub invariant-channels : goal.invariant-channels
invariant-channels l = l.list.items ≡ pauses (take l.channel-index l.channels)
