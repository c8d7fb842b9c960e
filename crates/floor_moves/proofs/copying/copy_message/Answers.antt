use Rattle.std.proofs.Common.{◌≡◌, ◌<◌, Some, refl, sym, subst}
use Rattle.std.specs.Prelude.{slice_get}
use Rattle.nsq_outside.specs.Files.{Files}
use Rattle.floor_rooms.specs.declared.room.Room.{Room}
use Rattle.floor_rooms.specs.Changes.{AtRoom}
use Rattle.floor_rooms.specs.Rooms.{topic_name}
use Rattle.floor_moves.specs.declared.due.Place.{Place}
use Rattle.floor_moves.proofs.Keeping.{keeps_on, keeps_same}
use Rattle.floor_moves.specs.Copying.{IsNamedAt, KeepsQueue, Owes, OwesNext, PaysTopic}
use Rattle.floor_moves.specs.Taking.{HasRoomAt}
use Rattle.floor_moves.proofs.Copies.{copied_named, copy_done, copy_none, copy_stuck, copy_want, give_room, give_stall, in_hand, owes_now, pays_now}
use Rattle.floor_moves.proofs.Placed.{done_rose, has_within, read_has, read_sound, want_rose}
use Rattle.floor_moves.proofs.copying.copy_message.Goals as goal

pub index-room-requires : goal.index-room-requires
index-room-requires g c = subst (λ n. c.args.i < n) (sym c.args.hall.now.rooms.ok.0) (has_within c.args.i OwesNext c.args.hall.now.rooms.items c.requires.owes)

pub first_owed-owed-requires-clause-order : goal.first_owed-owed-requires-clause-order
first_owed-owed-requires-clause-order g c =
    let is = read_sound c.args.hall.now c.args.i OwesNext c.index-room.result.now c.requires.sound c.requires.owes c.index-room.ensures in
    is.order

pub first_owed-owed-requires-clause-owed : goal.first_owed-owed-requires-clause-owed
first_owed-owed-requires-clause-owed g c =
    let is = read_sound c.args.hall.now c.args.i OwesNext c.index-room.result.now c.requires.sound c.requires.owes c.index-room.ensures in
    is.owed

pub first_owed-owed-requires-clause-head : goal.first_owed-owed-requires-clause-head
first_owed-owed-requires-clause-head g c = read_has c.args.i OwesNext c.args.hall.now.rooms.items c.index-room.result.now c.requires.owes c.index-room.ensures

pub announce_copy-requires-clause-head : goal.announce_copy-requires-clause-head
announce_copy-requires-clause-head g c = read_has c.args.i OwesNext c.args.hall.now.rooms.items c.index-room.result.now c.requires.owes c.index-room.ensures

pub announce_copy-requires-clause-calm : goal.announce_copy-requires-clause-calm
announce_copy-requires-clause-calm g c = c.requires.calm

pub returns-in_default-clause-sound : goal.returns-in_default-clause-sound
returns-in_default-clause-sound g c = c.requires.sound

pub returns-in_default-clause-calm : goal.returns-in_default-clause-calm
returns-in_default-clause-calm g c = c.in_default.ensures.err

pub returns-in_default-clause-files : goal.returns-in_default-clause-files
returns-in_default-clause-files g c = λ told. λ file own. refl

pub returns-in_default-clause-fault : goal.returns-in_default-clause-fault
returns-in_default-clause-fault g c = want_rose (g.F.Folder.folder_faults c.args.folder.now) (g.F.Folder.folder_faults c.args.folder.now)

pub give-requires-clause-sound : goal.give-requires-clause-sound
give-requires-clause-sound g c = c.requires.sound

pub give-requires-clause-short : goal.give-requires-clause-short
give-requires-clause-short g c = c.in-Ok.ensures.short

pub give-requires-clause-scratch : goal.give-requires-clause-scratch
give-requires-clause-scratch g c = c.requires.scratch

pub note-requires : goal.note-requires
note-requires g c = c.in-Ok.ensures.aside

pub note-requires-in-Memory : goal.note-requires-in-Memory
note-requires-in-Memory g c = c.in-Ok.ensures.aside

pub returns-in-Stuck-clause-sound : goal.returns-in-Stuck-clause-sound
returns-in-Stuck-clause-sound g c = c.give.ensures.sound

pub returns-in-Stuck-clause-calm : goal.returns-in-Stuck-clause-calm
returns-in-Stuck-clause-calm g c = c.note.ensures.aside

pub returns-in-Stuck-clause-keeps : goal.returns-in-Stuck-clause-keeps
returns-in-Stuck-clause-keeps g c = c.give.ensures.keeps

pub returns-in-Stuck-clause-files : goal.returns-in-Stuck-clause-files
returns-in-Stuck-clause-files g c = c.give.ensures.files

pub returns-in-Stuck-clause-fault : goal.returns-in-Stuck-clause-fault
returns-in-Stuck-clause-fault g c = λ e. c.in-Stuck.ensures.cause

pub returns-in-Memory-clause-sound : goal.returns-in-Memory-clause-sound
returns-in-Memory-clause-sound g c = c.give.ensures.sound

pub returns-in-Memory-clause-calm : goal.returns-in-Memory-clause-calm
returns-in-Memory-clause-calm g c = c.note-in-Memory.ensures.aside

pub returns-in-Memory-clause-keeps : goal.returns-in-Memory-clause-keeps
returns-in-Memory-clause-keeps g c = c.give.ensures.keeps

pub returns-in-Memory-clause-files : goal.returns-in-Memory-clause-files
returns-in-Memory-clause-files g c = c.give.ensures.files

pub returns-in-Memory-clause-fault : goal.returns-in-Memory-clause-fault
returns-in-Memory-clause-fault g c = want_rose (g.F.Folder.folder_faults c.args.folder.now) (g.F.Folder.folder_faults c.give.new.folder)

pub pay-requires-clause-sound : goal.pay-requires-clause-sound
pay-requires-clause-sound g c = c.give.ensures.sound

pub note-requires-2 : goal.note-requires-2
note-requires-2 g c = c.in-Ok.ensures.aside

pub returns-clause-sound : goal.returns-clause-sound
returns-clause-sound g c = c.pay.ensures.sound

pub returns-clause-calm : goal.returns-clause-calm
returns-clause-calm g c = c.note-2.ensures.aside

pub returns-clause-files : goal.returns-clause-files
returns-clause-files g c = c.give.ensures.files

pub returns-clause-fault : goal.returns-clause-fault
returns-clause-fault g c = done_rose (g.F.Folder.folder_faults c.args.folder.now) (g.F.Folder.folder_faults c.give.new.folder)

pub returns-in_default-clause-moves : goal.returns-in_default-clause-moves
returns-in_default-clause-moves g c =
    copy_none c.args.hall.now c.args.i (g.F.Folder.files c.args.folder.now) c.index-room.result.now c.index-room.ensures c.requires.owes c.requires.sound c.first_owed-owed.result c.first_owed-owed.ensures
    g.J.Journal.tells_notes g.F.Folder.tells_files (g.F.Folder.folder_faults c.args.folder.now) (g.J.Journal.notes c.args.journal.now) (g.J.Journal.notes c.announce_copy.new.journal) c.announce_copy.ensures.notes

pub returns-in_default-clause-keeps : goal.returns-in_default-clause-keeps
returns-in_default-clause-keeps g c = keeps_same c.args.hall.now

pub give-requires-clause-room : goal.give-requires-clause-room
give-requires-clause-room g c = give_room c.args.hall.now.rooms.items c.args.i c.first_owed-owed.result c.place.result c.requires.owes c.place.ensures

pub give-requires-clause-stall : goal.give-requires-clause-stall
give-requires-clause-stall g c = give_stall c.args.hall.now.rooms.items c.args.i c.index-room.result.now c.first_owed-owed.result c.first_owed-owed.ensures c.place.result c.index-room.ensures c.requires.owes c.place.ensures

pub returns-in-Stuck-clause-moves : goal.returns-in-Stuck-clause-moves
returns-in-Stuck-clause-moves g c =
    copy_stuck c.args.hall.now c.args.i (g.F.Folder.files c.args.folder.now) c.index-room.result.now c.index-room.ensures c.requires.owes c.requires.sound c.first_owed-owed.result c.first_owed-owed.ensures
    c.in-Ok.message
    (in_hand c.in-Ok.message c.index-room.result.now c.first_owed-owed.result c.first_owed-owed.ensures c.in-Ok.ensures.same)
    g.J.Journal.tells_notes g.F.Folder.tells_files c.give.new.hall (g.F.Folder.files c.give.new.folder) (g.F.Folder.folder_faults c.args.folder.now) (g.F.Folder.folder_faults c.give.new.folder) (g.J.Journal.notes c.args.journal.now) (g.J.Journal.notes c.announce_copy.new.journal) (g.J.Journal.notes c.note.new.self) (g.J.Journal.kept c.announce_copy.new.journal) c.requires.running c.give.ensures.faults
    (c.in-Stuck.ensures.gives c.first_owed-owed.result.topic c.first_owed-owed.result.channel
    (subst (λ (p : Place). IsNamedAt c.args.hall.now.rooms.items p c.first_owed-owed.result.topic c.first_owed-owed.result.channel) (sym c.place.ensures) (copied_named c.args.hall.now c.args.i (g.F.Folder.files c.args.folder.now) c.index-room.result.now c.index-room.ensures c.requires.owes c.requires.sound c.first_owed-owed.result c.first_owed-owed.ensures))) c.give.ensures.keeps
    (c.in-Ok.ensures.kept, c.announce_copy.ensures.notes, c.note.ensures.notes) c.in-Stuck.ensures.cause

pub returns-in-Memory-clause-moves : goal.returns-in-Memory-clause-moves
returns-in-Memory-clause-moves g c =
    copy_want c.args.hall.now c.args.i (g.F.Folder.files c.args.folder.now) c.index-room.result.now c.index-room.ensures c.requires.owes c.requires.sound c.first_owed-owed.result c.first_owed-owed.ensures
    c.in-Ok.message
    (in_hand c.in-Ok.message c.index-room.result.now c.first_owed-owed.result c.first_owed-owed.ensures c.in-Ok.ensures.same)
    g.J.Journal.tells_notes g.F.Folder.tells_files c.give.new.hall (g.F.Folder.files c.give.new.folder) (g.F.Folder.folder_faults c.args.folder.now) (g.F.Folder.folder_faults c.give.new.folder) (g.J.Journal.notes c.args.journal.now) (g.J.Journal.notes c.announce_copy.new.journal) (g.J.Journal.notes c.note-in-Memory.new.self) (g.J.Journal.kept c.announce_copy.new.journal) c.requires.running c.give.ensures.faults
    (c.in-Memory.ensures.gives c.first_owed-owed.result.topic c.first_owed-owed.result.channel
    (subst (λ (p : Place). IsNamedAt c.args.hall.now.rooms.items p c.first_owed-owed.result.topic c.first_owed-owed.result.channel) (sym c.place.ensures) (copied_named c.args.hall.now c.args.i (g.F.Folder.files c.args.folder.now) c.index-room.result.now c.index-room.ensures c.requires.owes c.requires.sound c.first_owed-owed.result c.first_owed-owed.ensures)))
    (c.in-Ok.ensures.kept, c.announce_copy.ensures.notes, c.note-in-Memory.ensures.notes)

pub pay-requires-clause-owes : goal.pay-requires-clause-owes
pay-requires-clause-owes g c =
    let at = subst (λ (p : Place). AtRoom p.room KeepsQueue c.args.hall.now.rooms.items c.give.new.hall.rooms.items) c.place.ensures c.give.ensures.room in
    subst (λ n. HasRoomAt c.args.i (Owes n) c.give.new.hall.rooms.items) (sym c.channel.ensures) (owes_now c.args.hall.now c.args.i (g.F.Folder.files c.args.folder.now) c.index-room.result.now c.index-room.ensures c.requires.owes c.requires.sound c.first_owed-owed.result c.first_owed-owed.ensures c.give.new.hall at)

pub returns-clause-moves : goal.returns-clause-moves
returns-clause-moves g c =
    let at = subst (λ (p : Place). AtRoom p.room KeepsQueue c.args.hall.now.rooms.items c.give.new.hall.rooms.items) c.place.ensures c.give.ensures.room in
    copy_done c.args.hall.now c.args.i (g.F.Folder.files c.args.folder.now) c.index-room.result.now c.index-room.ensures c.requires.owes c.requires.sound c.first_owed-owed.result c.first_owed-owed.ensures
    c.in-Ok.message
    (in_hand c.in-Ok.message c.index-room.result.now c.first_owed-owed.result c.first_owed-owed.ensures c.in-Ok.ensures.same)
    g.J.Journal.tells_notes g.F.Folder.tells_files c.give.new.hall (g.F.Folder.files c.give.new.folder) (g.F.Folder.folder_faults c.args.folder.now) (g.F.Folder.folder_faults c.give.new.folder) (g.J.Journal.notes c.args.journal.now) (g.J.Journal.notes c.announce_copy.new.journal) (g.J.Journal.notes c.note-2.new.self) (g.J.Journal.kept c.announce_copy.new.journal) c.requires.running c.give.ensures.faults
    c.pay.new.hall (c.in-Done.ensures.gives c.first_owed-owed.result.topic c.first_owed-owed.result.channel
    (subst (λ (p : Place). IsNamedAt c.args.hall.now.rooms.items p c.first_owed-owed.result.topic c.first_owed-owed.result.channel) (sym c.place.ensures) (copied_named c.args.hall.now c.args.i (g.F.Folder.files c.args.folder.now) c.index-room.result.now c.index-room.ensures c.requires.owes c.requires.sound c.first_owed-owed.result c.first_owed-owed.ensures)))
    (pays_now c.args.hall.now c.args.i (g.F.Folder.files c.args.folder.now) c.index-room.result.now c.index-room.ensures c.requires.owes c.requires.sound c.first_owed-owed.result c.first_owed-owed.ensures c.give.new.hall c.pay.new.hall at
    (subst (λ n. (room : Room) → slice_get c.give.new.hall.rooms.items c.args.i ≡ Some room → (files : Files) → PaysTopic (topic_name room) n c.give.new.hall c.pay.new.hall files) c.channel.ensures c.pay.ensures.stands))
    (keeps_on c.args.hall.now c.give.new.hall c.pay.new.hall c.give.ensures.keeps c.pay.ensures.keeps)
    (c.in-Ok.ensures.kept, c.announce_copy.ensures.notes, c.note-2.ensures.notes)

pub returns-clause-keeps : goal.returns-clause-keeps
returns-clause-keeps g c = keeps_on c.args.hall.now c.give.new.hall c.pay.new.hall c.give.ensures.keeps c.pay.ensures.keeps
