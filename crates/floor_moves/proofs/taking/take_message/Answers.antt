use Rattle.std.proofs.Common.{◌<◌, refl, subst, sym}
use Rattle.std.specs.Vec.{with_item}
use Rattle.floor_rooms.specs.declared.hall.Hall.{Hall}
use Rattle.floor_moves.proofs.Owing.{room_now, take_files, take_keeps, take_sound, takes_now, took_first}
use Rattle.floor_moves.specs.Taking.{TakesNext}
use Rattle.floor_moves.proofs.Placed.{has_within, room_behind}
use Rattle.floor_moves.proofs.taking.take_message.Goals as goal

pub mark_room-requires-clause-sound : goal.mark_room-requires-clause-sound
mark_room-requires-clause-sound g c = c.requires.sound

pub mark_room-requires-clause-room : goal.mark_room-requires-clause-room
mark_room-requires-clause-room g c = has_within c.args.i TakesNext c.args.hall.now.rooms.items c.requires.takes

pub index_mut-requires : goal.index_mut-requires
index_mut-requires g c = subst (λ n. c.args.i < n) (sym c.mark_room.new.self.rooms.ok.0) (room_behind c.args.i _ c.args.hall.now.rooms.items c.mark_room.new.self.rooms.items c.mark_room.ensures.room)

pub take_in-requires-clause-takes : goal.take_in-requires-clause-takes
take_in-requires-clause-takes g c = takes_now c.args.hall.now c.mark_room.new.self c.args.i _ c.requires.takes c.mark_room.ensures.room c.mark_room.ensures.sound c.mark_room.ensures.rest c.index_mut.result.now c.index_mut.ensures.value

pub take_in-requires-clause-settled : goal.take_in-requires-clause-settled
take_in-requires-clause-settled g c =
    let is = room_now c.args.hall.now c.mark_room.new.self c.args.i _ c.requires.takes c.mark_room.ensures.room c.mark_room.ensures.sound c.mark_room.ensures.rest c.index_mut.result.now c.index_mut.ensures.value in
    is.settled

pub take_in-requires-clause-order : goal.take_in-requires-clause-order
take_in-requires-clause-order g c =
    let is = room_now c.args.hall.now c.mark_room.new.self c.args.i _ c.requires.takes c.mark_room.ensures.room c.mark_room.ensures.sound c.mark_room.ensures.rest c.index_mut.result.now c.index_mut.ensures.value in
    is.order

pub take_in-requires-clause-names : goal.take_in-requires-clause-names
take_in-requires-clause-names g c =
    let is = room_now c.args.hall.now c.mark_room.new.self c.args.i _ c.requires.takes c.mark_room.ensures.room c.mark_room.ensures.sound c.mark_room.ensures.rest c.index_mut.result.now c.index_mut.ensures.value in
    is.names

pub take_in-requires-clause-calm : goal.take_in-requires-clause-calm
take_in-requires-clause-calm g c = c.requires.calm

pub take_in-requires-clause-scratch : goal.take_in-requires-clause-scratch
take_in-requires-clause-scratch g c = c.requires.scratch

pub returns-clause-moves : goal.returns-clause-moves
returns-clause-moves g c =
    let h0 : Hall = c.args.hall.now in
    let h1 : Hall = c.mark_room.new.self in
    let h2 : Hall = record h1 { rooms = with_item h1.rooms c.args.i c.take_in.new.room } in
    took_first h0 h1 c.args.i _ c.requires.takes c.mark_room.ensures.room c.mark_room.ensures.sound c.mark_room.ensures.rest c.index_mut.result.now c.index_mut.ensures.value
    g.F.Folder.tells_files h2 c.take_in.new.room (g.F.Folder.files c.args.folder.now) (g.F.Folder.files c.take_in.new.folder) (g.F.Folder.folder_faults c.args.folder.now) (g.F.Folder.folder_faults c.take_in.new.folder) refl refl c.take_in.ensures.leaves
    g.J.Journal.tells_notes (g.J.Journal.notes c.args.journal.now) (g.J.Journal.notes c.take_in.new.journal) c.requires.sound c.requires.running (λ s holds. c.mark_room.ensures.stands (g.F.Folder.files c.args.folder.now) s holds) c.take_in.result c.take_in.ensures.takes

pub returns-clause-sound : goal.returns-clause-sound
returns-clause-sound g c =
    let h0 : Hall = c.args.hall.now in
    let h1 : Hall = c.mark_room.new.self in
    let h2 : Hall = record h1 { rooms = with_item h1.rooms c.args.i c.take_in.new.room } in
    take_sound h0 h1 c.args.i _ c.requires.takes c.mark_room.ensures.room c.mark_room.ensures.sound c.mark_room.ensures.rest c.index_mut.result.now c.index_mut.ensures.value
    g.F.Folder.tells_files h2 c.take_in.new.room (g.F.Folder.files c.args.folder.now) (g.F.Folder.files c.take_in.new.folder) (g.F.Folder.folder_faults c.args.folder.now) (g.F.Folder.folder_faults c.take_in.new.folder) refl refl c.take_in.ensures.leaves
    g.J.Journal.tells_notes (g.J.Journal.notes c.args.journal.now) (g.J.Journal.notes c.take_in.new.journal) c.take_in.result c.take_in.ensures.takes

pub returns-clause-keeps : goal.returns-clause-keeps
returns-clause-keeps g c =
    let h0 : Hall = c.args.hall.now in
    let h1 : Hall = c.mark_room.new.self in
    let h2 : Hall = record h1 { rooms = with_item h1.rooms c.args.i c.take_in.new.room } in
    take_keeps h0 h1 c.args.i _ c.requires.takes c.mark_room.ensures.room c.mark_room.ensures.sound c.mark_room.ensures.rest c.index_mut.result.now c.index_mut.ensures.value
    g.F.Folder.tells_files h2 c.take_in.new.room (g.F.Folder.files c.args.folder.now) (g.F.Folder.files c.take_in.new.folder) (g.F.Folder.folder_faults c.args.folder.now) (g.F.Folder.folder_faults c.take_in.new.folder) refl refl c.take_in.ensures.leaves

pub returns-clause-files : goal.returns-clause-files
returns-clause-files g c =
    let h0 : Hall = c.args.hall.now in
    let h1 : Hall = c.mark_room.new.self in
    let h2 : Hall = record h1 { rooms = with_item h1.rooms c.args.i c.take_in.new.room } in
    take_files h0 h1 c.args.i _ c.requires.takes c.mark_room.ensures.room c.mark_room.ensures.sound c.mark_room.ensures.rest c.index_mut.result.now c.index_mut.ensures.value
    g.F.Folder.tells_files h2 c.take_in.new.room (g.F.Folder.files c.args.folder.now) (g.F.Folder.files c.take_in.new.folder) (g.F.Folder.folder_faults c.args.folder.now) (g.F.Folder.folder_faults c.take_in.new.folder) refl refl c.take_in.ensures.leaves

pub returns-clause-calm : goal.returns-clause-calm
returns-clause-calm g c = c.take_in.ensures.calm
