use Rattle.std.proofs.Common.{ap, subst, sym, List, ◌∙◌}
use Rattle.std.specs.List.{All, filter}
use Rattle.std.proofs.lemmas.List.{take_all}
use Rattle.path_image.specs.Found.{Pairwise}
use Rattle.broker_history.specs.Said.{is_wanted}
use Rattle.floor_rooms.specs.declared.room.Room.{Room}
use Rattle.floor_rooms.specs.Rooms.{topic_name}
use Rattle.floor_rooms.specs.Sound.{AreMembers, IsRoomSound}
use Rattle.floor_calls.specs.Stats.{IsToldOfRoom}
use Rattle.floor_calls.proofs.Telling.{all_told, one_told, one_passed, read_of_all}
use Rattle.floor_calls.proofs.told.stats.Goals.{then-is_wanted_topic+in_ok-topic_stats+in_ok-push, else-is_wanted_topic}
use Rattle.floor_calls.proofs.told.stats.Goals as goal

pub rooms-preserved : goal.rooms-preserved
rooms-preserved c =
    elim c.if-is_wanted_topic.branch [
      | then-is_wanted_topic+in_ok-topic_stats+in_ok-push w ↦
          rw (w.topics-is, w.in_ok-push.ensures.ok)
          (one_told (IsToldOfRoom c.args.hall.now c.args.channel) (λ (r : Room). is_wanted c.args.topic (topic_name r)) c.deref-room-items.result.now c.rooms.room-index c.room-item.result c.rooms.topics w.in_ok-topic_stats.field-0
          c.room-item.is c.rooms-test.true (ap (is_wanted c.args.topic) (sym c.name.ensures.value) ∙ sym c.is_wanted_topic.ensures ∙ w.if-is_wanted_topic.true) w.in_ok-topic_stats.ensures c.rooms.invariant)
      | else-is_wanted_topic w ↦
          rw w.topics-is
          (one_passed (IsToldOfRoom c.args.hall.now c.args.channel) (λ (r : Room). is_wanted c.args.topic (topic_name r)) c.deref-room-items.result.now c.rooms.room-index c.room-item.result c.rooms.topics
          c.room-item.is c.rooms-test.true (ap (is_wanted c.args.topic) (sym c.name.ensures.value) ∙ sym c.is_wanted_topic.ensures ∙ w.if-is_wanted_topic.false) c.rooms.invariant)
    ]

pub returns : goal.returns
returns c =
    all_told c.args.hall.now c.args.topic c.args.channel c.rooms.topics
    (subst (λ (rs : List Room). Pairwise (IsToldOfRoom c.args.hall.now c.args.channel) (filter (λ (r : Room). is_wanted c.args.topic (topic_name r)) rs) c.rooms.topics) (take_all c.rooms.room-index c.deref-room-items.result.now c.rooms-test.false ∙ c.deref-room-items.ensures.value) c.rooms.invariant)

pub topic_stats-requires-clause-room : goal.topic_stats-requires-clause-room
topic_stats-requires-clause-room c = read_of_all (IsRoomSound c.args.hall.now) c.deref-room-items.result.now c.args.hall.now.rooms.items c.rooms.room-index c.room-item.result c.requires.rooms c.deref-room-items.ensures.value c.room-item.is c.rooms-test.true

pub topic_stats-requires-clause-members : goal.topic_stats-requires-clause-members
topic_stats-requires-clause-members c =
    read_of_all (λ (r : Room). All (AreMembers c.args.hall.now.clients.items (topic_name r)) r.stalls.items) c.deref-room-items.result.now c.args.hall.now.rooms.items c.rooms.room-index c.room-item.result c.requires.members c.deref-room-items.ensures.value c.room-item.is c.rooms-test.true
