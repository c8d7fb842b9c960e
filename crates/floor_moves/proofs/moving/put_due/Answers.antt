use Rattle.std.proofs.Common.{sym, subst}
use Rattle.floor_rooms.specs.declared.hall.Hall.{Hall}
use Rattle.floor_moves.specs.Due.{IsDueNow}
use Rattle.floor_moves.specs.Moving.{PutFails, PutsDue, act_of}
use Rattle.floor_moves.proofs.Joining.{room_range, room_range_now, stall_range, stall_range_now}
use Rattle.floor_moves.proofs.Keeping.{keeps_on, keeps_quiet, keeps_stall_mark}
use Rattle.floor_moves.proofs.PuttingBack.{due_marked, due_put, is_marked, moved_keeps, only_queues, put_fails, touches}
use Rattle.floor_moves.proofs.moving.put_due.Goals as goal

pub returns-clause-puts : goal.returns-clause-puts
returns-clause-puts g c = λ due is told.
    let h0 : Hall = c.args.hall.now in
    let h1 : Hall = c.mark_stall.new.self in
    let h2 : Hall = c.move_first-moved.new.hall in
    let h3 : Hall = c.settle_stall.new.self in
    let old = g.F.Folder.files c.args.folder.now in
    let new = g.F.Folder.files c.move_first-moved.new.folder in
    subst (PutsDue h0.moment (act_of due) h0 old h3 new) (sym c.is_done.ensures)
    (due_put g.F.Folder.tells_files h0 h1 h2 h3 old new (g.F.Folder.folder_faults c.args.folder.now) (g.F.Folder.folder_faults c.move_first-moved.new.folder) c.args.place due c.move_first-moved.result
    c.mark_stall.ensures.sound (keeps_stall_mark h0 h1 _ c.args.place.room c.args.place.stall c.mark_stall.ensures.rest c.mark_stall.ensures.stall)
    (moved_keeps g.F.Folder.tells_files h1 h2 old new (g.F.Folder.folder_faults c.args.folder.now) (g.F.Folder.folder_faults c.move_first-moved.new.folder) c.args.place c.move_first-moved.result c.mark_stall.ensures.sound c.move_first-moved.ensures.stall c.move_first-moved.ensures.rest)
    (due_marked h0 h1 c.args.place due c.mark_stall.ensures.stall (keeps_stall_mark h0 h1 _ c.args.place.room c.args.place.stall c.mark_stall.ensures.rest c.mark_stall.ensures.stall).moment is) c.move_first-moved.ensures.stall
    (λ s holds. c.mark_stall.ensures.stands old s holds) (λ s holds. c.settle_stall.ensures.stands new s holds) told)

pub returns-clause-sound : goal.returns-clause-sound
returns-clause-sound g c =
    let h1 : Hall = c.mark_stall.new.self in
    let h2 : Hall = c.move_first-moved.new.hall in
    let at = c.move_first-moved.ensures.stall in
    c.settle_stall.ensures.sound h1
    (touches g.F.Folder.tells_files h1 h2 (g.F.Folder.files c.args.folder.now) (g.F.Folder.files c.move_first-moved.new.folder) (g.F.Folder.folder_faults c.args.folder.now) (g.F.Folder.folder_faults c.move_first-moved.new.folder) c.args.place c.move_first-moved.result c.mark_stall.ensures.sound at
    c.move_first-moved.ensures.rest (is_marked c.args.hall.now h1 c.args.place.room c.args.place.stall c.mark_stall.ensures.stall at.room at.does.stall at.there at.does.there))

pub returns-clause-keeps : goal.returns-clause-keeps
returns-clause-keeps g c =
    let h0 : Hall = c.args.hall.now in
    let h1 : Hall = c.mark_stall.new.self in
    let h2 : Hall = c.move_first-moved.new.hall in
    let h3 : Hall = c.settle_stall.new.self in
    keeps_on h0 h1 h3 (keeps_stall_mark h0 h1 _ c.args.place.room c.args.place.stall c.mark_stall.ensures.rest c.mark_stall.ensures.stall)
    (keeps_on h1 h2 h3
    (moved_keeps g.F.Folder.tells_files h1 h2 (g.F.Folder.files c.args.folder.now) (g.F.Folder.files c.move_first-moved.new.folder) (g.F.Folder.folder_faults c.args.folder.now) (g.F.Folder.folder_faults c.move_first-moved.new.folder) c.args.place c.move_first-moved.result c.mark_stall.ensures.sound
    c.move_first-moved.ensures.stall c.move_first-moved.ensures.rest)
    (keeps_quiet h2 h3 _ c.settle_stall.ensures.rest))

pub returns-clause-files : goal.returns-clause-files
returns-clause-files g c =
    only_queues g.F.Folder.tells_files c.mark_stall.new.self c.move_first-moved.new.hall (g.F.Folder.files c.args.folder.now) (g.F.Folder.files c.move_first-moved.new.folder) (g.F.Folder.folder_faults c.args.folder.now) (g.F.Folder.folder_faults c.move_first-moved.new.folder) c.args.place
    c.move_first-moved.result c.mark_stall.ensures.sound c.move_first-moved.ensures.stall

pub mark_stall-requires-clause-sound : goal.mark_stall-requires-clause-sound
mark_stall-requires-clause-sound g c = c.requires.sound

pub mark_stall-requires-clause-room : goal.mark_stall-requires-clause-room
mark_stall-requires-clause-room g c = room_range c.args.place.room c.args.place.stall (IsDueNow c.args.hall.now.moment) c.args.hall.now.rooms.items c.requires.due

pub mark_stall-requires-clause-stall : goal.mark_stall-requires-clause-stall
mark_stall-requires-clause-stall g c = stall_range c.args.place.room c.args.place.stall (IsDueNow c.args.hall.now.moment) c.args.hall.now.rooms.items c.requires.due

pub move_first-moved-requires-clause-sound : goal.move_first-moved-requires-clause-sound
move_first-moved-requires-clause-sound g c = c.mark_stall.ensures.sound

pub move_first-moved-requires-clause-room : goal.move_first-moved-requires-clause-room
move_first-moved-requires-clause-room g c = room_range_now c.args.place.room c.args.place.stall _ c.args.hall.now.rooms.items c.mark_stall.new.self.rooms.items c.mark_stall.ensures.stall

pub move_first-moved-requires-clause-stall : goal.move_first-moved-requires-clause-stall
move_first-moved-requires-clause-stall g c = stall_range_now c.args.place.room c.args.place.stall _ c.args.hall.now.rooms.items c.mark_stall.new.self.rooms.items c.mark_stall.ensures.stall

pub move_first-moved-requires-clause-scratch : goal.move_first-moved-requires-clause-scratch
move_first-moved-requires-clause-scratch g c = c.requires.scratch

pub settle_stall-requires-clause-room : goal.settle_stall-requires-clause-room
settle_stall-requires-clause-room g c = room_range_now c.args.place.room c.args.place.stall _ c.mark_stall.new.self.rooms.items c.move_first-moved.new.hall.rooms.items c.move_first-moved.ensures.stall

pub settle_stall-requires-clause-stall : goal.settle_stall-requires-clause-stall
settle_stall-requires-clause-stall g c = stall_range_now c.args.place.room c.args.place.stall _ c.mark_stall.new.self.rooms.items c.move_first-moved.new.hall.rooms.items c.move_first-moved.ensures.stall

pub returns-clause-faults : goal.returns-clause-faults
returns-clause-faults g c = c.move_first-moved.ensures.stall.does.does.disk.faults

pub returns-clause-cause : goal.returns-clause-cause
returns-clause-cause g c =
    subst (PutFails (g.F.Folder.folder_faults c.args.folder.now) (g.F.Folder.folder_faults c.move_first-moved.new.folder)) (sym c.is_done.ensures)
    (put_fails (g.F.Folder.folder_faults c.args.folder.now) (g.F.Folder.folder_faults c.move_first-moved.new.folder) c.move_first-moved.result c.move_first-moved.ensures.stall.does.does.cause)
