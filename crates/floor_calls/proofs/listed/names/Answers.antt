use Rattle.std.proofs.Common.{ap, map, ◌∙◌}
use Rattle.std.proofs.lemmas.List.{take_all}
use Rattle.floor_calls.proofs.Naming.{entry_of, names_alike, room_added, rooms_before}
use Rattle.floor_calls.proofs.listed.names.Goals as goal

pub add_room-requires-clause-last : goal.add_room-requires-clause-last
add_room-requires-clause-last c =
    rooms_before c.rooms.names c.args.hall.now.rooms.items c.deref-room-items.result.now c.rooms.room-index c.room-item.result c.rooms.invariant c.requires.room_order c.deref-room-items.ensures.value c.room-item.is c.rooms-test.true

pub rooms-preserved : goal.rooms-preserved
rooms-preserved c = room_added c.add_room.new.names c.rooms.names c.deref-room-items.result.now c.rooms.room-index c.room-item.result c.in_ok-add_room.ensures c.rooms.invariant c.room-item.is c.rooms-test.true

pub returns-clause-value : goal.returns-clause-value
returns-clause-value c = c.rooms.invariant ∙ ap (map entry_of) (take_all c.rooms.room-index c.deref-room-items.result.now c.rooms-test.false ∙ c.deref-room-items.ensures.value)

pub returns-clause-told : goal.returns-clause-told
returns-clause-told c files s holds =
    c.rooms.invariant ∙ ap (map entry_of) (take_all c.rooms.room-index c.deref-room-items.result.now c.rooms-test.false ∙ c.deref-room-items.ensures.value) ∙ names_alike c.args.hall.now files s holds
