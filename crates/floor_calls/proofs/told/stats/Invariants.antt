use Rattle.std.proofs.Common.{take}
use Rattle.std.specs.List.{filter}
use Rattle.path_image.specs.Found.{Pairwise}
use Rattle.broker_history.specs.Said.{is_wanted}
use Rattle.floor_rooms.specs.Rooms.{topic_name}
use Rattle.floor_calls.specs.Stats.{IsToldOfRoom}
use Rattle.floor_calls.proofs.told.stats.Given as goal

abbrev pub invariant-rooms : goal.invariant-rooms
invariant-rooms l = Pairwise (IsToldOfRoom l.hall l.channel) (filter (λ r. is_wanted l.topic (topic_name r)) (take l.room-index l.room-items)) l.topics
