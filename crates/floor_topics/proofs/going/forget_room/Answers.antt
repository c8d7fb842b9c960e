use Rattle.std.proofs.Common.{get_or, refl, sym, ◌∙◌}
use Rattle.std.proofs.lemmas.Bool.{false≢true}
use Rattle.std.proofs.lemmas.Option.{slice_get-get_or}
use Rattle.broker_history.specs.Changes.{without_topic}
use Rattle.floor_rooms.specs.Rooms.{topic_name}
use Rattle.floor_rooms.proofs.Dating.{since_without}
use Rattle.floor_rooms.proofs.Naming.{names_without}
use Rattle.floor_rooms.proofs.Forming.{some_at}
use Rattle.floor_rooms.proofs.Marked.{else_stays}
use Rattle.floor_topics.proofs.Goes.{keeps_rooms, left_rooms, left_sound, left_stands, none_there}
use Rattle.floor_topics.proofs.going.forget_room.Goals as goal

pub returns-clause-rooms : goal.returns-clause-rooms
returns-clause-rooms c = λ d.
    left_rooms c.args.hall.now (record (c.args.hall.now) { rooms = c.drop_at.new.items }) c.args.i (get_or c.args.hall.now.rooms.items c.args.i d) c.requires.sound (slice_get-get_or c.args.hall.now.rooms.items c.args.i d c.requires.room) (c.requires.none d) c.drop_at.ensures

pub returns-clause-sound : goal.returns-clause-sound
returns-clause-sound c =
    let room = some_at c.args.hall.now.rooms.items c.args.i c.requires.room in
    left_sound c.args.hall.now (record (c.args.hall.now) { rooms = c.drop_at.new.items }) c.args.i room.0 c.requires.sound room.1 (none_there c.args.hall.now.rooms.items c.args.i room.0 c.requires.none room.1) c.drop_at.ensures
    (keeps_rooms c.args.hall.now c.drop_at.new.items c.args.hall.now.unsaved_names c.requires.sound)

pub returns-clause-stands : goal.returns-clause-stands
returns-clause-stands c = λ d files s holds.
    let room = get_or c.args.hall.now.rooms.items c.args.i d in (
      without_topic s (topic_name room),
      refl,
      left_stands c.args.hall.now (record (c.args.hall.now) { rooms = c.drop_at.new.items }) c.args.i room c.requires.sound (slice_get-get_or c.args.hall.now.rooms.items c.args.i d c.requires.room) (c.requires.none d) c.drop_at.ensures files files s (else_stays c.args.hall.now (record (c.args.hall.now) { rooms = c.drop_at.new.items }) refl)
          (λ name apart file own. refl) (λ durable. absurd (false≢true (sym durable ∙ c.requires.ephemeral d))) holds,
    )

pub returns-clause-names : goal.returns-clause-names
returns-clause-names c =
    let room = some_at c.args.hall.now.rooms.items c.args.i c.requires.room in
    names_without c.args.hall.now (record (c.args.hall.now) { rooms = c.drop_at.new.items }) (topic_name (get_or c.args.hall.now.rooms.items c.args.i room.0)) (c.requires.ephemeral room.0) (returns-clause-rooms c room.0) refl

pub returns-clause-since : goal.returns-clause-since
returns-clause-since c =
    let room = some_at c.args.hall.now.rooms.items c.args.i c.requires.room in
    since_without c.args.hall.now.moment c.args.hall.now.rooms.items c.drop_at.new.items.items (topic_name (get_or c.args.hall.now.rooms.items c.args.i room.0)) (returns-clause-rooms c room.0)
