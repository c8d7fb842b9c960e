use Rattle.std.proofs.Common.{◌<◌, refl, subst, sym}
use Rattle.floor_rooms.specs.Changes.{InRoom}
use Rattle.floor_rooms.proofs.Marked.{at_room_read, in_room_read, range_of}
use Rattle.floor_acts.specs.Sending.{SendsStall}
use Rattle.floor_acts.proofs.sending.sent_at.Goals as goal

pub index_mut-requires : goal.index_mut-requires
index_mut-requires g c = subst (λ n. c.args.i < n) (sym c.args.hall.now.rooms.ok.0) c.requires.room

pub index_mut-requires-2 : goal.index_mut-requires-2
index_mut-requires-2 g c =
    let room = c.index_mut.result.now in
    subst (λ n. c.args.j < n) (sym room.stalls.ok.0) (range_of c.args.j c.args.hall.now.rooms.items c.args.i room c.index_mut.ensures.value c.requires.stall)

pub returns-clause-stall : goal.returns-clause-stall
returns-clause-stall g c =
    let room = c.index_mut.result.now in
    let stall = c.index_mut-2.result.now in
    let Sent = SendsStall g.F.Folder.tells_files c.args.number c.args.hall.now.moment c.args.message (g.F.Folder.files c.args.folder.now) (g.F.Folder.files c.sent.new.folder) (g.F.Folder.folder_faults c.args.folder.now) (g.F.Folder.folder_faults c.sent.new.folder) in
    at_room_read c.args.i (InRoom c.args.j Sent) c.args.hall.now.rooms.items room _ c.requires.room c.index_mut.ensures.value
    (in_room_read c.args.j Sent room _ stall _ (range_of c.args.j c.args.hall.now.rooms.items c.args.i room c.index_mut.ensures.value c.requires.stall) c.index_mut-2.ensures.value refl refl
    (record { nothing = c.sent.ensures.nothing_now; row = c.sent.ensures.row; rest = c.sent.ensures.rest; disk = c.sent.ensures.disk; same = refl }))
