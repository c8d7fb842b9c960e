use Rattle.std.proofs.Common.{refl, sym, ◌∙◌}
use Rattle.floor_turns.proofs.Whole.{sound_marked}
use Rattle.floor_serving.proofs.Settling.{settles_marked, settles_saved, stuck_saved, timely_other, timely_saved}
use Rattle.floor_serving.proofs.serving.settle.Goals as goal

pub sync_all-requires : goal.sync_all-requires
sync_all-requires g c = sound_marked c.args.hall.now (record (c.args.hall.now) { stuck = c.is_stuck_stop-hall.result }) c.requires refl

pub returns-then-not-is_saving-clause-settles : goal.returns-then-not-is_saving-clause-settles
returns-then-not-is_saving-clause-settles g c =
    λ noted. settles_marked g.F.Folder.tells_files c.args.hall.now (record (c.args.hall.now) { stuck = c.is_stuck_stop-hall.result }) noted (g.F.Folder.files c.args.folder.now) (g.F.Folder.folder_faults c.args.folder.now) refl

pub returns-then-not-is_saving-clause-timely : goal.returns-then-not-is_saving-clause-timely
returns-then-not-is_saving-clause-timely g c = λ call ticks. timely_other call c.args.answer.now c.args.ticking (record (c.args.hall.now) { stuck = c.is_stuck_stop-hall.result }) (g.F.Folder.folder_faults c.args.folder.now) (g.F.Folder.folder_faults c.args.folder.now) ticks (sym c.is_saving.ensures ∙ c.if-not-is_saving.true)

pub returns-then-not-is_saving-clause-sound : goal.returns-then-not-is_saving-clause-sound
returns-then-not-is_saving-clause-sound g c = sound_marked c.args.hall.now (record (c.args.hall.now) { stuck = c.is_stuck_stop-hall.result }) c.requires refl

pub returns-clause-settles : goal.returns-clause-settles
returns-clause-settles g c =
    λ noted.
    settles_saved g.F.Folder.tells_files c.args.hall.now (record (c.args.hall.now) { stuck = c.is_stuck_stop-hall.result }) c.sync_all.new.hall noted (g.F.Folder.files c.args.folder.now) (g.F.Folder.files c.sync_all.new.folder) (g.F.Folder.folder_faults c.args.folder.now) (g.F.Folder.folder_faults c.sync_all.new.folder) refl
    c.sync_all.ensures.rest c.sync_all.ensures.marks c.sync_all.ensures.names c.sync_all.ensures.told c.sync_all.ensures.faults

pub returns-clause-stuck : goal.returns-clause-stuck
returns-clause-stuck g c = stuck_saved c.args.hall.now (record (c.args.hall.now) { stuck = c.is_stuck_stop-hall.result }) c.sync_all.new.hall _ c.sync_all.ensures.rest c.is_stuck_stop-hall.ensures

pub returns-clause-timely : goal.returns-clause-timely
returns-clause-timely g c = λ call ticks. timely_saved call c.args.answer.now c.sync_all.new.hall (g.F.Folder.folder_faults c.args.folder.now) (g.F.Folder.folder_faults c.sync_all.new.folder) c.sync_all.ensures.timely
