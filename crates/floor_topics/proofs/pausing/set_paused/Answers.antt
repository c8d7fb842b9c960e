use Rattle.std.proofs.Common.{◌∙◌, ◌||◌, not, sym, ap}
use Rattle.std.proofs.lemmas.Option.{get_or_from_slice_get}
use Rattle.nsq_base.specs.Name.{is_ephemeral}
use Rattle.topic_core.specs.Seen.{Seen}
use Rattle.floor_rooms.specs.Rooms.{topic_name}
use Rattle.floor_rooms.proofs.Marked.{at_room_read}
use Rattle.floor_rooms.proofs.Placing.{at_place}
use Rattle.floor_topics.specs.Pausing.{PausesRoom}
use Rattle.floor_topics.proofs.pausing.set_paused.Goals as goal

pub returns-clause-unsaved : goal.returns-clause-unsaved
returns-clause-unsaved c = λ d.
    let rooms = c.args.hall.now.rooms.items in
    let room = c.index.result.now in
    c.also_durable-hall.ensures ∙ ap (λ n. c.args.hall.now.unsaved_names || not (is_ephemeral n)) (c.name.ensures ∙ ap topic_name (sym (get_or_from_slice_get rooms c.args.i room d (at_place rooms c.args.i room c.requires.room c.index.ensures))))

pub returns-clause-room : goal.returns-clause-room
returns-clause-room c =
    let room = c.index_mut.result.now in
    at_room_read c.args.i (PausesRoom c.args.on) c.args.hall.now.rooms.items room _ c.requires.room c.index_mut.ensures.value (ap (λ (q : Seen). record room { queue = q }) c.pause.ensures.seen)
