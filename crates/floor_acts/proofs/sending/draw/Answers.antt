use Rattle.floor_rooms.proofs.Dating.{keeps_marks_stall}
use Rattle.floor_acts.specs.Sending.{HasDrawn}
use Rattle.floor_acts.proofs.Flying.{range_behind, stall_range_behind}
use Rattle.floor_acts.proofs.Drawing.{draw_faults, draw_files, draw_keeps, marked_behind, marked_client, undrawn_sound, undrawn_told}
use Rattle.floor_acts.proofs.sending.draw.Goals as goal

pub draw_at-requires-clause-room : goal.draw_at-requires-clause-room
draw_at-requires-clause-room g c = range_behind c.args.i c.args.j _ c.args.hall.now.rooms.items c.mark_stall.new.self.rooms.items c.mark_stall.ensures.stall

pub draw_at-requires-clause-stall : goal.draw_at-requires-clause-stall
draw_at-requires-clause-stall g c = stall_range_behind c.args.i c.args.j _ c.args.hall.now.rooms.items c.mark_stall.new.self.rooms.items c.mark_stall.ensures.stall

pub draw_at-requires-clause-client : goal.draw_at-requires-clause-client
draw_at-requires-clause-client g c = marked_client c.args.hall.now.moment c.args.i c.args.j c.args.number c.args.hall.now.rooms.items c.mark_stall.new.self.rooms.items c.mark_stall.ensures.stall c.requires.client

pub returns-clause-drawn : goal.returns-clause-drawn
returns-clause-drawn g c =
    let d : HasDrawn g.F.Folder.tells_files c.args.i c.args.j c.args.number c.draw_at.result (g.F.Folder.files c.args.folder.now) (g.F.Folder.files c.draw_at.new.folder) (g.F.Folder.folder_faults c.args.folder.now) (g.F.Folder.folder_faults c.draw_at.new.folder) c.args.hall.now c.draw_at.new.hall = record {
      marked = c.mark_stall.new.self;
      sound = c.mark_stall.ensures.sound;
      marks = c.mark_stall.ensures.rest;
      stands = λ files s holds. c.mark_stall.ensures.stands files s holds;
      keeps = keeps_marks_stall c.args.hall.now.moment c.args.i c.args.j c.args.hall.now.rooms.items c.mark_stall.new.self.rooms.items c.mark_stall.ensures.stall;
      rest = c.draw_at.ensures.rest;
      at = c.draw_at.ensures.stall;
      is_marked = marked_behind c.args.hall.now.moment c.args.i c.args.j _ c.args.hall.now.rooms.items c.mark_stall.new.self.rooms.items c.draw_at.new.hall.rooms.items c.mark_stall.ensures.stall c.draw_at.ensures.stall;
    } in
    d

pub returns-clause-sound : goal.returns-clause-sound
returns-clause-sound g c = λ undrawn.
    let d : HasDrawn g.F.Folder.tells_files c.args.i c.args.j c.args.number c.draw_at.result (g.F.Folder.files c.args.folder.now) (g.F.Folder.files c.draw_at.new.folder) (g.F.Folder.folder_faults c.args.folder.now) (g.F.Folder.folder_faults c.draw_at.new.folder) c.args.hall.now c.draw_at.new.hall = record {
      marked = c.mark_stall.new.self;
      sound = c.mark_stall.ensures.sound;
      marks = c.mark_stall.ensures.rest;
      stands = λ files s holds. c.mark_stall.ensures.stands files s holds;
      keeps = keeps_marks_stall c.args.hall.now.moment c.args.i c.args.j c.args.hall.now.rooms.items c.mark_stall.new.self.rooms.items c.mark_stall.ensures.stall;
      rest = c.draw_at.ensures.rest;
      at = c.draw_at.ensures.stall;
      is_marked = marked_behind c.args.hall.now.moment c.args.i c.args.j _ c.args.hall.now.rooms.items c.mark_stall.new.self.rooms.items c.draw_at.new.hall.rooms.items c.mark_stall.ensures.stall c.draw_at.ensures.stall;
    } in
    undrawn_sound g.F.Folder.tells_files c.args.i c.args.j c.args.number c.draw_at.result (g.F.Folder.files c.args.folder.now) (g.F.Folder.files c.draw_at.new.folder) (g.F.Folder.folder_faults c.args.folder.now) (g.F.Folder.folder_faults c.draw_at.new.folder) c.args.hall.now c.draw_at.new.hall d undrawn

pub returns-clause-told : goal.returns-clause-told
returns-clause-told g c = λ undrawn told.
    let d : HasDrawn g.F.Folder.tells_files c.args.i c.args.j c.args.number c.draw_at.result (g.F.Folder.files c.args.folder.now) (g.F.Folder.files c.draw_at.new.folder) (g.F.Folder.folder_faults c.args.folder.now) (g.F.Folder.folder_faults c.draw_at.new.folder) c.args.hall.now c.draw_at.new.hall = record {
      marked = c.mark_stall.new.self;
      sound = c.mark_stall.ensures.sound;
      marks = c.mark_stall.ensures.rest;
      stands = λ files s holds. c.mark_stall.ensures.stands files s holds;
      keeps = keeps_marks_stall c.args.hall.now.moment c.args.i c.args.j c.args.hall.now.rooms.items c.mark_stall.new.self.rooms.items c.mark_stall.ensures.stall;
      rest = c.draw_at.ensures.rest;
      at = c.draw_at.ensures.stall;
      is_marked = marked_behind c.args.hall.now.moment c.args.i c.args.j _ c.args.hall.now.rooms.items c.mark_stall.new.self.rooms.items c.draw_at.new.hall.rooms.items c.mark_stall.ensures.stall c.draw_at.ensures.stall;
    } in
    undrawn_told g.F.Folder.tells_files c.args.i c.args.j c.args.number c.draw_at.result (g.F.Folder.files c.args.folder.now) (g.F.Folder.files c.draw_at.new.folder) (g.F.Folder.folder_faults c.args.folder.now) (g.F.Folder.folder_faults c.draw_at.new.folder) c.args.hall.now c.draw_at.new.hall d undrawn told

pub returns-clause-keeps : goal.returns-clause-keeps
returns-clause-keeps g c =
    let d : HasDrawn g.F.Folder.tells_files c.args.i c.args.j c.args.number c.draw_at.result (g.F.Folder.files c.args.folder.now) (g.F.Folder.files c.draw_at.new.folder) (g.F.Folder.folder_faults c.args.folder.now) (g.F.Folder.folder_faults c.draw_at.new.folder) c.args.hall.now c.draw_at.new.hall = record {
      marked = c.mark_stall.new.self;
      sound = c.mark_stall.ensures.sound;
      marks = c.mark_stall.ensures.rest;
      stands = λ files s holds. c.mark_stall.ensures.stands files s holds;
      keeps = keeps_marks_stall c.args.hall.now.moment c.args.i c.args.j c.args.hall.now.rooms.items c.mark_stall.new.self.rooms.items c.mark_stall.ensures.stall;
      rest = c.draw_at.ensures.rest;
      at = c.draw_at.ensures.stall;
      is_marked = marked_behind c.args.hall.now.moment c.args.i c.args.j _ c.args.hall.now.rooms.items c.mark_stall.new.self.rooms.items c.draw_at.new.hall.rooms.items c.mark_stall.ensures.stall c.draw_at.ensures.stall;
    } in
    draw_keeps g.F.Folder.tells_files c.args.i c.args.j c.args.number c.draw_at.result (g.F.Folder.files c.args.folder.now) (g.F.Folder.files c.draw_at.new.folder) (g.F.Folder.folder_faults c.args.folder.now) (g.F.Folder.folder_faults c.draw_at.new.folder) c.args.hall.now c.draw_at.new.hall d

pub returns-clause-files : goal.returns-clause-files
returns-clause-files g c =
    let d : HasDrawn g.F.Folder.tells_files c.args.i c.args.j c.args.number c.draw_at.result (g.F.Folder.files c.args.folder.now) (g.F.Folder.files c.draw_at.new.folder) (g.F.Folder.folder_faults c.args.folder.now) (g.F.Folder.folder_faults c.draw_at.new.folder) c.args.hall.now c.draw_at.new.hall = record {
      marked = c.mark_stall.new.self;
      sound = c.mark_stall.ensures.sound;
      marks = c.mark_stall.ensures.rest;
      stands = λ files s holds. c.mark_stall.ensures.stands files s holds;
      keeps = keeps_marks_stall c.args.hall.now.moment c.args.i c.args.j c.args.hall.now.rooms.items c.mark_stall.new.self.rooms.items c.mark_stall.ensures.stall;
      rest = c.draw_at.ensures.rest;
      at = c.draw_at.ensures.stall;
      is_marked = marked_behind c.args.hall.now.moment c.args.i c.args.j _ c.args.hall.now.rooms.items c.mark_stall.new.self.rooms.items c.draw_at.new.hall.rooms.items c.mark_stall.ensures.stall c.draw_at.ensures.stall;
    } in
    draw_files g.F.Folder.tells_files c.args.i c.args.j c.args.number c.draw_at.result (g.F.Folder.files c.args.folder.now) (g.F.Folder.files c.draw_at.new.folder) (g.F.Folder.folder_faults c.args.folder.now) (g.F.Folder.folder_faults c.draw_at.new.folder) c.args.hall.now c.draw_at.new.hall d

pub returns-clause-faults : goal.returns-clause-faults
returns-clause-faults g c =
    let d : HasDrawn g.F.Folder.tells_files c.args.i c.args.j c.args.number c.draw_at.result (g.F.Folder.files c.args.folder.now) (g.F.Folder.files c.draw_at.new.folder) (g.F.Folder.folder_faults c.args.folder.now) (g.F.Folder.folder_faults c.draw_at.new.folder) c.args.hall.now c.draw_at.new.hall = record {
      marked = c.mark_stall.new.self;
      sound = c.mark_stall.ensures.sound;
      marks = c.mark_stall.ensures.rest;
      stands = λ files s holds. c.mark_stall.ensures.stands files s holds;
      keeps = keeps_marks_stall c.args.hall.now.moment c.args.i c.args.j c.args.hall.now.rooms.items c.mark_stall.new.self.rooms.items c.mark_stall.ensures.stall;
      rest = c.draw_at.ensures.rest;
      at = c.draw_at.ensures.stall;
      is_marked = marked_behind c.args.hall.now.moment c.args.i c.args.j _ c.args.hall.now.rooms.items c.mark_stall.new.self.rooms.items c.draw_at.new.hall.rooms.items c.mark_stall.ensures.stall c.draw_at.ensures.stall;
    } in
    draw_faults g.F.Folder.tells_files c.args.i c.args.j c.args.number c.draw_at.result (g.F.Folder.files c.args.folder.now) (g.F.Folder.files c.draw_at.new.folder) (g.F.Folder.folder_faults c.args.folder.now) (g.F.Folder.folder_faults c.draw_at.new.folder) c.args.hall.now c.draw_at.new.hall d

pub returns-clause-fault : goal.returns-clause-fault
returns-clause-fault g c = c.draw_at.ensures.stall.does.does.fault
