use Rattle.std.proofs.Common.{ap, sym, not, map, List, ℕ, ◌∙◌}
use Rattle.std.proofs.lemmas.List.{take_all}
use Rattle.nsq_base.specs.Name.{is_ephemeral}
use Rattle.path_image.specs.Data.{durable}
use Rattle.floor_rooms.specs.declared.room.Room.{Room}
use Rattle.floor_rooms.specs.Rooms.{topic_name}
use Rattle.floor_rooms.specs.Kept.{room_kept}
use Rattle.floor_calls.proofs.KeptNames.{one_kept, none_kept, kept_alike}
use Rattle.floor_calls.proofs.durable.kept.Goals.{then-is_durable_topic+in_ok-kept_topic+in_ok-push, else-is_durable_topic}
use Rattle.floor_calls.proofs.durable.kept.Goals as goal

pub rooms-preserved : goal.rooms-preserved
rooms-preserved c =
    elim c.if-is_durable_topic.branch [
      | then-is_durable_topic+in_ok-kept_topic+in_ok-push w ↦
          rw (w.kept-is, w.in_ok-push.ensures.items)
          (one_kept room_kept (λ (r : Room). not (is_ephemeral (topic_name r))) c.deref-room-items.result.now c.rooms.room-index c.room-item.result c.rooms.kept.items w.in_ok-kept_topic.field-0 c.rooms.invariant w.in_ok-kept_topic.ensures
          c.room-item.is c.rooms-test.true (ap (λ (n : List ℕ). not (is_ephemeral n)) (sym c.name.ensures) ∙ sym c.is_durable_topic.ensures ∙ w.if-is_durable_topic.true))
      | else-is_durable_topic w ↦
          rw w.kept-is
          (none_kept room_kept (λ (r : Room). not (is_ephemeral (topic_name r))) c.deref-room-items.result.now c.rooms.room-index c.room-item.result c.rooms.kept.items c.rooms.invariant
          c.room-item.is c.rooms-test.true (ap (λ (n : List ℕ). not (is_ephemeral n)) (sym c.name.ensures) ∙ sym c.is_durable_topic.ensures ∙ w.if-is_durable_topic.false))
    ]

pub returns-clause-value : goal.returns-clause-value
returns-clause-value c = c.rooms.invariant ∙ ap (λ (rs : List Room). map room_kept (durable topic_name rs)) (take_all c.rooms.room-index c.deref-room-items.result.now c.rooms-test.false ∙ c.deref-room-items.ensures.value)

pub returns-clause-told : goal.returns-clause-told
returns-clause-told c files s holds =
    c.rooms.invariant ∙ ap (λ (rs : List Room). map room_kept (durable topic_name rs)) (take_all c.rooms.room-index c.deref-room-items.result.now c.rooms-test.false ∙ c.deref-room-items.ensures.value)
    ∙ kept_alike c.args.hall.now files s holds
