use Rattle.std.proofs.Common.{◌<◌, refl, subst, sym}
use Rattle.floor_rooms.specs.Changes.{InRoom}
use Rattle.floor_rooms.proofs.Marked.{at_room_read, in_room_read, range_of}
use Rattle.floor_moves.specs.Moving.{MovesStall}
use Rattle.floor_moves.proofs.PuttingBack.{none_drawn}
use Rattle.floor_moves.proofs.moving.move_first.Goals as goal

pub returns-clause-stall : goal.returns-clause-stall
returns-clause-stall g c =
    let room = c.index_mut.result.now in
    let stall = c.index_mut-2.result.now in
    let Moved = MovesStall g.F.Folder.tells_files c.args.hall.now.moment c.move_due.result (g.F.Folder.files c.args.folder.now) (g.F.Folder.files c.move_due.new.folder) (g.F.Folder.folder_faults c.args.folder.now) (g.F.Folder.folder_faults c.move_due.new.folder) in
    at_room_read c.args.place.room (InRoom c.args.place.stall Moved) c.args.hall.now.rooms.items room _ c.requires.room c.index_mut.ensures.value
    (in_room_read c.args.place.stall Moved room _ stall _ (range_of c.args.place.stall c.args.hall.now.rooms.items c.args.place.room room c.index_mut.ensures.value c.requires.stall) c.index_mut-2.ensures.value refl refl
    (record {
      told = c.move_due.ensures.told;
      row = c.move_due.ensures.row;
      rest = c.move_due.ensures.rest;
      disk = c.move_due.ensures.disk;
      cause = c.move_due.ensures.cause;
      same = refl;
    }))

pub index_mut-requires : goal.index_mut-requires
index_mut-requires g c = subst (λ n. c.args.place.room < n) (sym c.args.hall.now.rooms.ok.0) c.requires.room

pub index_mut-requires-2 : goal.index_mut-requires-2
index_mut-requires-2 g c =
    let room = c.index_mut.result.now in
    subst (λ n. c.args.place.stall < n) (sym room.stalls.ok.0) (range_of c.args.place.stall c.args.hall.now.rooms.items c.args.place.room room c.index_mut.ensures.value c.requires.stall)

pub move_due-requires-clause-nothing : goal.move_due-requires-clause-nothing
move_due-requires-clause-nothing g c =
    let room = c.index_mut.result.now in
    none_drawn c.args.hall.now c.args.place.room c.args.place.stall room c.index_mut-2.result.now c.requires.sound c.requires.room c.index_mut.ensures.value
    (range_of c.args.place.stall c.args.hall.now.rooms.items c.args.place.room room c.index_mut.ensures.value c.requires.stall) c.index_mut-2.ensures.value

pub move_due-requires-clause-scratch : goal.move_due-requires-clause-scratch
move_due-requires-clause-scratch g c = c.requires.scratch
