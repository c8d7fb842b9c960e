use Rattle.std.proofs.Common.{refl, arith}
use Rattle.floor_files.proofs.Beginning.{rooms_begin, rooms_end, rooms_go_on}
use Rattle.floor_files.proofs.saving.sync_rooms.Goals as goal

pub loop-i-init : goal.loop-i-init
loop-i-init g c = rooms_begin g.F.Folder.tells_files c.len-count.result c.args.hall.now (g.F.Folder.files c.args.folder.now) (g.F.Folder.folder_faults c.args.folder.now) _ c.requires refl (omega (arith, c.len-count.ensures, c.args.hall.now.rooms.ok.0))

pub sync_room-left-requires-clause-sound : goal.sync_room-left-requires-clause-sound
sync_room-left-requires-clause-sound g c = c.loop-i.invariant.synced.sound

pub sync_room-left-requires-clause-room : goal.sync_room-left-requires-clause-room
sync_room-left-requires-clause-room g c = let below = c.loop-i-test.true in let counted = c.loop-i.invariant.counted in omega (arith, below, counted)

pub loop-i-preserved : goal.loop-i-preserved
loop-i-preserved g c =
    let call = c.sync_room-left in
    rooms_go_on g.F.Folder.tells_files c.loop-i.i c.len-count.result c.args.hall.now c.loop-i.hall call.new.hall (g.F.Folder.files c.args.folder.now) (g.F.Folder.files c.loop-i.folder) (g.F.Folder.files call.new.folder) (g.F.Folder.folder_faults c.args.folder.now) (g.F.Folder.folder_faults c.loop-i.folder) (g.F.Folder.folder_faults call.new.folder) c.loop-i.least call.result c.min-least.result
    c.loop-i.invariant call.ensures.synced call.ensures.room call.ensures.soon c.min-least.ensures

pub returns-clause-synced : goal.returns-clause-synced
returns-clause-synced g c = c.loop-i.invariant.synced

pub returns-clause-done : goal.returns-clause-done
returns-clause-done g c =
    rooms_end g.F.Folder.tells_files c.loop-i.i c.len-count.result c.args.hall.now c.loop-i.hall (g.F.Folder.files c.args.folder.now) (g.F.Folder.files c.loop-i.folder) (g.F.Folder.folder_faults c.args.folder.now) (g.F.Folder.folder_faults c.loop-i.folder) c.loop-i.least c.loop-i-test.false c.loop-i.invariant

pub returns-clause-soon : goal.returns-clause-soon
returns-clause-soon g c = c.loop-i.invariant.soon
