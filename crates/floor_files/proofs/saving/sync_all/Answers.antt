use Rattle.std.proofs.Common.{inl, refl, arith}
use Rattle.floor_files.proofs.Clearing.{clears_same}
use Rattle.floor_files.proofs.Raising.{early_timely, same_marks, same_names, some_timeout, timely_tried, walk_kept, walk_marks, walk_names, walk_rest, walk_soon, walk_sound, walk_timely, walk_told, walk_tried}
use Rattle.floor_files.proofs.saving.sync_all.Goals as goal

pub is_lately-requires : goal.is_lately-requires
is_lately-requires g c = some_timeout c.args.hall.now c.requires

pub returns-then-is_lately-clause-timely : goal.returns-then-is_lately-clause-timely
returns-then-is_lately-clause-timely g c = inl (early_timely c.args.hall.now c.requires (c.is_lately.ensures.lately c.if-is_lately.true))

pub returns-then-is_lately-clause-tried : goal.returns-then-is_lately-clause-tried
returns-then-is_lately-clause-tried g c = timely_tried c.args.hall.now (early_timely c.args.hall.now c.requires (c.is_lately.ensures.lately c.if-is_lately.true))

pub returns-then-is_lately-clause-soon : goal.returns-then-is_lately-clause-soon
returns-then-is_lately-clause-soon g c = inl (c.is_lately.ensures.lately c.if-is_lately.true)

pub returns-then-is_lately-clause-idle : goal.returns-then-is_lately-clause-idle
returns-then-is_lately-clause-idle g c = λ early. (refl, refl)

pub returns-then-is_lately-clause-told : goal.returns-then-is_lately-clause-told
returns-then-is_lately-clause-told g c = λ told s holds. (s, refl, holds)

pub returns-then-is_lately-clause-rest : goal.returns-then-is_lately-clause-rest
returns-then-is_lately-clause-rest g c = refl

pub returns-then-is_lately-clause-rooms : goal.returns-then-is_lately-clause-rooms
returns-then-is_lately-clause-rooms g c = clears_same c.args.hall.now.moment c.args.hall.now.options.sync_timeout c.args.hall.now.rooms.items

pub returns-then-is_lately-clause-marks : goal.returns-then-is_lately-clause-marks
returns-then-is_lately-clause-marks g c = same_marks c.args.hall.now

pub returns-then-is_lately-clause-names : goal.returns-then-is_lately-clause-names
returns-then-is_lately-clause-names g c = same_names c.args.hall.now

pub returns-clause-timely : goal.returns-clause-timely
returns-clause-timely g c = walk_timely g.F.Folder.tells_files c.args.hall.now c.sync_rooms-least.new.hall (g.F.Folder.files c.args.folder.now) (g.F.Folder.files c.sync_rooms-least.new.folder) (g.F.Folder.folder_faults c.args.folder.now) (g.F.Folder.folder_faults c.sync_rooms-least.new.folder) c.sync_rooms-least.result (record { sound = c.requires; synced = c.sync_rooms-least.ensures.synced; done = c.sync_rooms-least.ensures.done; soon = c.sync_rooms-least.ensures.soon })

pub returns-clause-tried : goal.returns-clause-tried
returns-clause-tried g c = walk_tried g.F.Folder.tells_files c.args.hall.now c.sync_rooms-least.new.hall (g.F.Folder.files c.args.folder.now) (g.F.Folder.files c.sync_rooms-least.new.folder) (g.F.Folder.folder_faults c.args.folder.now) (g.F.Folder.folder_faults c.sync_rooms-least.new.folder) c.sync_rooms-least.result (record { sound = c.requires; synced = c.sync_rooms-least.ensures.synced; done = c.sync_rooms-least.ensures.done; soon = c.sync_rooms-least.ensures.soon })

pub returns-clause-soon : goal.returns-clause-soon
returns-clause-soon g c = walk_soon g.F.Folder.tells_files c.args.hall.now c.sync_rooms-least.new.hall (g.F.Folder.files c.args.folder.now) (g.F.Folder.files c.sync_rooms-least.new.folder) (g.F.Folder.folder_faults c.args.folder.now) (g.F.Folder.folder_faults c.sync_rooms-least.new.folder) c.sync_rooms-least.result (record { sound = c.requires; synced = c.sync_rooms-least.ensures.synced; done = c.sync_rooms-least.ensures.done; soon = c.sync_rooms-least.ensures.soon })

pub returns-clause-told : goal.returns-clause-told
returns-clause-told g c = walk_told g.F.Folder.tells_files c.args.hall.now c.sync_rooms-least.new.hall (g.F.Folder.files c.args.folder.now) (g.F.Folder.files c.sync_rooms-least.new.folder) (g.F.Folder.folder_faults c.args.folder.now) (g.F.Folder.folder_faults c.sync_rooms-least.new.folder) c.sync_rooms-least.result (record { sound = c.requires; synced = c.sync_rooms-least.ensures.synced; done = c.sync_rooms-least.ensures.done; soon = c.sync_rooms-least.ensures.soon })

pub returns-clause-rest : goal.returns-clause-rest
returns-clause-rest g c = walk_rest g.F.Folder.tells_files c.args.hall.now c.sync_rooms-least.new.hall (g.F.Folder.files c.args.folder.now) (g.F.Folder.files c.sync_rooms-least.new.folder) (g.F.Folder.folder_faults c.args.folder.now) (g.F.Folder.folder_faults c.sync_rooms-least.new.folder) c.sync_rooms-least.result (record { sound = c.requires; synced = c.sync_rooms-least.ensures.synced; done = c.sync_rooms-least.ensures.done; soon = c.sync_rooms-least.ensures.soon })

pub returns-clause-marks : goal.returns-clause-marks
returns-clause-marks g c = walk_marks g.F.Folder.tells_files c.args.hall.now c.sync_rooms-least.new.hall (g.F.Folder.files c.args.folder.now) (g.F.Folder.files c.sync_rooms-least.new.folder) (g.F.Folder.folder_faults c.args.folder.now) (g.F.Folder.folder_faults c.sync_rooms-least.new.folder) c.sync_rooms-least.result (record { sound = c.requires; synced = c.sync_rooms-least.ensures.synced; done = c.sync_rooms-least.ensures.done; soon = c.sync_rooms-least.ensures.soon })

pub returns-clause-kept : goal.returns-clause-kept
returns-clause-kept g c = walk_kept g.F.Folder.tells_files c.args.hall.now c.sync_rooms-least.new.hall (g.F.Folder.files c.args.folder.now) (g.F.Folder.files c.sync_rooms-least.new.folder) (g.F.Folder.folder_faults c.args.folder.now) (g.F.Folder.folder_faults c.sync_rooms-least.new.folder) c.sync_rooms-least.result (record { sound = c.requires; synced = c.sync_rooms-least.ensures.synced; done = c.sync_rooms-least.ensures.done; soon = c.sync_rooms-least.ensures.soon })

pub returns-clause-names : goal.returns-clause-names
returns-clause-names g c = walk_names g.F.Folder.tells_files c.args.hall.now c.sync_rooms-least.new.hall (g.F.Folder.files c.args.folder.now) (g.F.Folder.files c.sync_rooms-least.new.folder) (g.F.Folder.folder_faults c.args.folder.now) (g.F.Folder.folder_faults c.sync_rooms-least.new.folder) c.sync_rooms-least.result (record { sound = c.requires; synced = c.sync_rooms-least.ensures.synced; done = c.sync_rooms-least.ensures.done; soon = c.sync_rooms-least.ensures.soon })

pub returns-clause-sound : goal.returns-clause-sound
returns-clause-sound g c = walk_sound g.F.Folder.tells_files c.args.hall.now c.sync_rooms-least.new.hall (g.F.Folder.files c.args.folder.now) (g.F.Folder.files c.sync_rooms-least.new.folder) (g.F.Folder.folder_faults c.args.folder.now) (g.F.Folder.folder_faults c.sync_rooms-least.new.folder) c.sync_rooms-least.result (record { sound = c.requires; synced = c.sync_rooms-least.ensures.synced; done = c.sync_rooms-least.ensures.done; soon = c.sync_rooms-least.ensures.soon })

pub returns-clause-idle : goal.returns-clause-idle
returns-clause-idle g c = λ early. let late = c.is_lately.ensures.past c.if-is_lately.false in absurd (let no : ⊥ = omega (arith, early, late) in no)

pub returns-clause-rooms : goal.returns-clause-rooms
returns-clause-rooms g c = c.sync_rooms-least.ensures.synced.rooms

pub returns-clause-files : goal.returns-clause-files
returns-clause-files g c = c.sync_rooms-least.ensures.synced.files

pub returns-clause-faults : goal.returns-clause-faults
returns-clause-faults g c = c.sync_rooms-least.ensures.synced.faults
