use Rattle.std.proofs.Common.{◌≡◌, take, None}
use Rattle.std.specs.List.{find}
use Rattle.std.specs.Str.{bytes_eq}
use Rattle.broker_history.specs.State.{Channel}
use Rattle.broker_state.proofs.topic.find_channel.Given as goal

abbrev pub invariant-loop-channel : goal.invariant-loop-channel
invariant-loop-channel l = find (λ (c : Channel). bytes_eq l.name c.name) (take l.channel-index l.channels) ≡ None
