use Rattle.floor_rooms.specs.declared.hall.Hall.{Hall}
use Rattle.floor_moves.specs.Holding.{HasHeld, SettlesHeld, UndoesHeld}
use Rattle.floor_moves.proofs.HoldingBack.{back_rests, back_touches, drawn_files, drawn_keeps, held_noted, settle_keeps, settled_files, settled_touches, undo_keeps}
use Rattle.floor_moves.proofs.Joining.{room_range, room_range_now, stall_holds, stall_range, stall_range_now}
use Rattle.floor_moves.proofs.Keeping.{keeps_on, keeps_quiet, keeps_stall}
use Rattle.floor_moves.proofs.held.hold_back.Goals as goal

pub returns-in_default-clause-rests : goal.returns-in_default-clause-rests
returns-in_default-clause-rests g c = λ before d.
    back_rests g.F.Folder.tells_files c.args.place c.args.id before c.args.hall.now (g.J.Journal.notes c.args.journal.now) (g.F.Folder.files c.args.folder.now) (g.F.Folder.folder_faults c.args.folder.now) d c.undo_held.new.hall c.settle_stall.new.self c.undo_held.ensures.rest
    c.undo_held.ensures.stall g.J.Journal.tells_notes (g.J.Journal.notes c.announce.new.journal) c.announce.ensures.notes (λ s holds. c.settle_stall.ensures.stands (g.F.Folder.files c.args.folder.now) s holds)

pub returns-in_default-clause-sound : goal.returns-in_default-clause-sound
returns-in_default-clause-sound g c = λ before d.
    c.settle_stall.ensures.sound before.hall
    (back_touches g.F.Folder.tells_files c.args.place c.args.id before c.args.hall.now (g.J.Journal.notes c.args.journal.now) (g.F.Folder.files c.args.folder.now) (g.F.Folder.folder_faults c.args.folder.now) d c.undo_held.new.hall c.settle_stall.new.self c.undo_held.ensures.rest c.undo_held.ensures.stall)

pub returns-in_default-clause-stays : goal.returns-in_default-clause-stays
returns-in_default-clause-stays g c =
    let h1 : Hall = c.args.hall.now in
    let h2 : Hall = c.undo_held.new.hall in
    let at = c.undo_held.ensures.stall in
    keeps_on h1 h2 c.settle_stall.new.self (keeps_stall h1 h2 c.args.place.room c.args.place.stall UndoesHeld c.undo_held.ensures.rest at (undo_keeps h1.moment at.does.stall at.does.after at.does.does)) (keeps_quiet h2 c.settle_stall.new.self _ c.settle_stall.ensures.rest)

pub returns-in_default-clause-keeps : goal.returns-in_default-clause-keeps
returns-in_default-clause-keeps g c = λ before d.
    keeps_on before.hall c.args.hall.now c.settle_stall.new.self
    (drawn_keeps g.F.Folder.tells_files c.args.place c.args.id before c.args.hall.now (g.J.Journal.notes c.args.journal.now) (g.F.Folder.files c.args.folder.now) (g.F.Folder.folder_faults c.args.folder.now) d)
    (returns-in_default-clause-stays g c)

pub returns-in_default-clause-files : goal.returns-in_default-clause-files
returns-in_default-clause-files g c = λ before d told.
    drawn_files g.F.Folder.tells_files c.args.place c.args.id before c.args.hall.now (g.J.Journal.notes c.args.journal.now) (g.F.Folder.files c.args.folder.now) (g.F.Folder.folder_faults c.args.folder.now) d told

pub settle_held-requires-clause-room : goal.settle_held-requires-clause-room
settle_held-requires-clause-room g c = room_range c.args.place.room c.args.place.stall (HasHeld c.args.id c.args.hall.now.moment) c.args.hall.now.rooms.items c.requires.held

pub settle_held-requires-clause-stall : goal.settle_held-requires-clause-stall
settle_held-requires-clause-stall g c = stall_range c.args.place.room c.args.place.stall (HasHeld c.args.id c.args.hall.now.moment) c.args.hall.now.rooms.items c.requires.held

pub settle_held-requires-clause-held : goal.settle_held-requires-clause-held
settle_held-requires-clause-held g c = λ d e.
    let x = stall_holds c.args.place.room c.args.place.stall (HasHeld c.args.id c.args.hall.now.moment) c.args.hall.now.rooms.items c.requires.held d e in
    record { held = x.held; is = x.is }

pub settle_stall-requires-2-clause-room : goal.settle_stall-requires-2-clause-room
settle_stall-requires-2-clause-room g c = room_range_now c.args.place.room c.args.place.stall _ c.args.hall.now.rooms.items c.settle_held.new.hall.rooms.items c.settle_held.ensures.stall

pub settle_stall-requires-2-clause-stall : goal.settle_stall-requires-2-clause-stall
settle_stall-requires-2-clause-stall g c = stall_range_now c.args.place.room c.args.place.stall _ c.args.hall.now.rooms.items c.settle_held.new.hall.rooms.items c.settle_held.ensures.stall

pub returns-clause-stays : goal.returns-clause-stays
returns-clause-stays g c =
    let h1 : Hall = c.args.hall.now in
    let h2 : Hall = c.settle_held.new.hall in
    let h3 : Hall = c.settle_stall-2.new.self in
    let at = c.settle_held.ensures.stall in
    let Settled = SettlesHeld g.F.Folder.tells_files h1.moment (g.F.Folder.files c.args.folder.now) (g.F.Folder.files c.settle_held.new.folder) (g.F.Folder.folder_faults c.args.folder.now) (g.F.Folder.folder_faults c.settle_held.new.folder) in
    keeps_on h1 h2 h3
    (keeps_stall h1 h2 c.args.place.room c.args.place.stall Settled c.settle_held.ensures.rest at
    (settle_keeps g.F.Folder.tells_files h1.moment (g.F.Folder.files c.args.folder.now) (g.F.Folder.files c.settle_held.new.folder) (g.F.Folder.folder_faults c.args.folder.now) (g.F.Folder.folder_faults c.settle_held.new.folder) at.does.stall at.does.after at.does.does))
    (keeps_quiet h2 h3 _ c.settle_stall-2.ensures.rest)

pub returns-clause-keeps : goal.returns-clause-keeps
returns-clause-keeps g c = λ before d.
    keeps_on before.hall c.args.hall.now c.settle_stall-2.new.self
    (drawn_keeps g.F.Folder.tells_files c.args.place c.args.id before c.args.hall.now (g.J.Journal.notes c.args.journal.now) (g.F.Folder.files c.args.folder.now) (g.F.Folder.folder_faults c.args.folder.now) d)
    (returns-clause-stays g c)

pub returns-clause-moves : goal.returns-clause-moves
returns-clause-moves g c = λ before d running.
    let h1 : Hall = c.args.hall.now in
    let h2 : Hall = c.settle_held.new.hall in
    let h3 : Hall = c.settle_stall-2.new.self in
    held_noted g.F.Folder.tells_files c.args.place c.args.id before h1 (g.J.Journal.notes c.args.journal.now) (g.F.Folder.files c.args.folder.now) (g.F.Folder.folder_faults c.args.folder.now) d h2 h3 c.settle_held.ensures.rest (g.F.Folder.files c.settle_held.new.folder)
    (g.F.Folder.folder_faults c.settle_held.new.folder) c.settle_held.ensures.stall g.J.Journal.tells_notes (g.J.Journal.notes c.announce.new.journal) (g.J.Journal.notes c.note.new.self) (g.J.Journal.kept c.announce.new.journal) c.held_act.result c.held_act.ensures running
    (returns-clause-stays g c) (λ s holds. c.settle_stall-2.ensures.stands (g.F.Folder.files c.settle_held.new.folder) s holds) (c.in-Ok.ensures.kept, c.announce.ensures.notes, c.note.ensures.notes)

pub returns-clause-sound : goal.returns-clause-sound
returns-clause-sound g c = λ before d.
    c.settle_stall-2.ensures.sound before.hall
    (settled_touches g.F.Folder.tells_files c.args.place c.args.id before c.args.hall.now (g.J.Journal.notes c.args.journal.now) (g.F.Folder.files c.args.folder.now) (g.F.Folder.folder_faults c.args.folder.now) d c.settle_held.new.hall c.settle_stall-2.new.self c.settle_held.ensures.rest
    (g.F.Folder.files c.settle_held.new.folder) (g.F.Folder.folder_faults c.settle_held.new.folder) c.settle_held.ensures.stall)

pub returns-clause-files : goal.returns-clause-files
returns-clause-files g c = λ before d told.
    settled_files g.F.Folder.tells_files c.args.place c.args.id before c.args.hall.now (g.J.Journal.notes c.args.journal.now) (g.F.Folder.files c.args.folder.now) (g.F.Folder.folder_faults c.args.folder.now) d c.settle_held.new.hall c.settle_stall-2.new.self c.settle_held.ensures.rest
    (g.F.Folder.files c.settle_held.new.folder) (g.F.Folder.folder_faults c.settle_held.new.folder) c.settle_held.ensures.stall told

pub held_act-requires : goal.held_act-requires
held_act-requires g c = c.requires.held

pub announce-requires : goal.announce-requires
announce-requires g c = c.requires.calm

pub undo_held-requires-clause-room : goal.undo_held-requires-clause-room
undo_held-requires-clause-room g c = room_range c.args.place.room c.args.place.stall (HasHeld c.args.id c.args.hall.now.moment) c.args.hall.now.rooms.items c.requires.held

pub undo_held-requires-clause-stall : goal.undo_held-requires-clause-stall
undo_held-requires-clause-stall g c = stall_range c.args.place.room c.args.place.stall (HasHeld c.args.id c.args.hall.now.moment) c.args.hall.now.rooms.items c.requires.held

pub undo_held-requires-clause-held : goal.undo_held-requires-clause-held
undo_held-requires-clause-held g c = λ d e.
    let x = stall_holds c.args.place.room c.args.place.stall (HasHeld c.args.id c.args.hall.now.moment) c.args.hall.now.rooms.items c.requires.held d e in
    record { held = x.held; is = x.is }

pub settle_stall-requires-clause-room : goal.settle_stall-requires-clause-room
settle_stall-requires-clause-room g c = room_range_now c.args.place.room c.args.place.stall _ c.args.hall.now.rooms.items c.undo_held.new.hall.rooms.items c.undo_held.ensures.stall

pub settle_stall-requires-clause-stall : goal.settle_stall-requires-clause-stall
settle_stall-requires-clause-stall g c = stall_range_now c.args.place.room c.args.place.stall _ c.args.hall.now.rooms.items c.undo_held.new.hall.rooms.items c.undo_held.ensures.stall

pub returns-in_default-clause-moves : goal.returns-in_default-clause-moves
returns-in_default-clause-moves g c = λ before d running. tt

pub settle_held-requires-clause-moment : goal.settle_held-requires-clause-moment
settle_held-requires-clause-moment g c = c.requires.moment

pub note-requires : goal.note-requires
note-requires g c = c.in-Ok.ensures.aside

pub returns-clause-rests : goal.returns-clause-rests
returns-clause-rests g c = λ before d. tt

pub returns-clause-calm : goal.returns-clause-calm
returns-clause-calm g c = c.note.ensures.aside
