use Rattle.std.proofs.Common.{refl, ap}
use Rattle.channel_core.specs.Seen.{Seen}
use Rattle.floor_rooms.specs.Changes.{InRoom}
use Rattle.floor_rooms.proofs.Marked.{at_room_read, in_room_read, range_of}
use Rattle.floor_topics.specs.Pausing.{PausesStall}
use Rattle.floor_topics.proofs.pausing.pause_stall.Goals as goal

pub returns-clause-stall : goal.returns-clause-stall
returns-clause-stall c =
    let room = c.index_mut.result.now in
    let stall = c.index_mut-2.result.now in
    at_room_read c.args.i (InRoom c.args.j (PausesStall c.args.on)) c.args.hall.now.rooms.items room _ c.requires.room c.index_mut.ensures.value
    (in_room_read c.args.j (PausesStall c.args.on) room _ stall _ (range_of c.args.j c.args.hall.now.rooms.items c.args.i room c.index_mut.ensures.value c.requires.stall) c.index_mut-2.ensures.value refl refl
    (ap (λ (v : Seen). record stall { channel = v }) c.pause.ensures))
