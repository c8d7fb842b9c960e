use Rattle.std.proofs.Common.{take}
use Rattle.std.specs.List.{filter}
use Rattle.path_image.specs.Found.{Pairwise}
use Rattle.broker_history.specs.Said.{is_wanted}
use Rattle.floor_rooms.specs.Rooms.{channel_name, topic_name}
use Rattle.floor_calls.specs.Stats.{IsToldOfStall}
use Rattle.floor_calls.proofs.told.channels_stats.Given as goal

abbrev pub invariant-stalls : goal.invariant-stalls
invariant-stalls l = Pairwise (IsToldOfStall l.hall (topic_name l.room)) (filter (λ x. is_wanted l.channel (channel_name x)) (take l.stall-index l.stall-items)) l.told
