use Rattle.std.proofs.Common.{◌≡◌, length, Some, refl, arith}
use Rattle.std.specs.List.{slice_get}
use Rattle.std.specs.Vec.{with_item}
use Rattle.floor_rooms.specs.declared.hall.Hall.{Hall}
use Rattle.floor_rooms.proofs.Placing.{at_place}
use Rattle.floor_files.proofs.Stopping.{kept_flushed, left_where, others_left, room_ready, rooms_begin, rooms_go_on, rooms_long}
use Rattle.floor_files.proofs.flushing.flush_all.Goals as goal

pub loop-i-init : goal.loop-i-init
loop-i-init g c = rooms_begin g.F.Folder.tells_files c.args.hall.now (g.F.Folder.files c.args.folder.now) (g.F.Folder.folder_faults c.args.folder.now)

pub index_mut-requires : goal.index_mut-requires
index_mut-requires g c =
    let below = c.loop-i-test.true in
    let counted : c.len-count.result ≡ length c.args.hall.now.rooms.items = omega (arith, c.len-count.ensures, c.args.hall.now.rooms.ok.0) in
    let long = rooms_long g.F.Folder.tells_files c.loop-i.i c.args.hall.now c.loop-i.hall c.loop-i.done (g.F.Folder.files c.args.folder.now) (g.F.Folder.files c.loop-i.folder) (g.F.Folder.folder_faults c.args.folder.now) (g.F.Folder.folder_faults c.loop-i.folder) c.loop-i.invariant in
    omega (arith, below, counted, long)

pub flush_room-room-requires-clause-ready : goal.flush_room-room-requires-clause-ready
flush_room-room-requires-clause-ready g c =
    let below = c.loop-i-test.true in
    let counted : c.len-count.result ≡ length c.args.hall.now.rooms.items = omega (arith, c.len-count.ensures, c.args.hall.now.rooms.ok.0) in
    let long = rooms_long g.F.Folder.tells_files c.loop-i.i c.args.hall.now c.loop-i.hall c.loop-i.done (g.F.Folder.files c.args.folder.now) (g.F.Folder.files c.loop-i.folder) (g.F.Folder.folder_faults c.args.folder.now) (g.F.Folder.folder_faults c.loop-i.folder) c.loop-i.invariant in
    let at : slice_get c.loop-i.hall.rooms.items c.loop-i.i ≡ Some c.index_mut.result.now = at_place c.loop-i.hall.rooms.items c.loop-i.i c.index_mut.result.now (omega (arith, below, counted, long)) c.index_mut.ensures.value in
    room_ready g.F.Folder.tells_files c.loop-i.i c.args.hall.now c.loop-i.hall c.index_mut.result.now c.loop-i.done (g.F.Folder.files c.args.folder.now) (g.F.Folder.files c.loop-i.folder) (g.F.Folder.folder_faults c.args.folder.now) (g.F.Folder.folder_faults c.loop-i.folder) c.requires.sound c.loop-i.invariant at

pub loop-i-preserved : goal.loop-i-preserved
loop-i-preserved g c =
    let below = c.loop-i-test.true in
    let counted : c.len-count.result ≡ length c.args.hall.now.rooms.items = omega (arith, c.len-count.ensures, c.args.hall.now.rooms.ok.0) in
    let f0 = g.F.Folder.files c.args.folder.now in
    let f1 = g.F.Folder.files c.loop-i.folder in
    let f2 = g.F.Folder.files c.flush_room-room.new.folder in
    let n0 = g.F.Folder.folder_faults c.args.folder.now in
    let n1 = g.F.Folder.folder_faults c.loop-i.folder in
    let n2 = g.F.Folder.folder_faults c.flush_room-room.new.folder in
    let room = c.index_mut.result.now in
    let flush = c.flush_room-room.ensures in
    let long = rooms_long g.F.Folder.tells_files c.loop-i.i c.args.hall.now c.loop-i.hall c.loop-i.done f0 f1 n0 n1 c.loop-i.invariant in
    let at : slice_get c.loop-i.hall.rooms.items c.loop-i.i ≡ Some room = at_place c.loop-i.hall.rooms.items c.loop-i.i room (omega (arith, below, counted, long)) c.index_mut.ensures.value in
    let after : Hall = record (c.loop-i.hall) { rooms = with_item c.loop-i.hall.rooms c.loop-i.i c.flush_room-room.new.room } in
    rooms_go_on g.F.Folder.tells_files c.loop-i.i c.args.hall.now c.loop-i.hall after room c.flush_room-room.new.room c.loop-i.done c.flush_room-room.result c.both_flushed-done.result f0 f1 f2 n0 n1 n2 c.both_flushed-done.ensures c.requires.sound c.loop-i.invariant at refl refl
    flush.flushes flush.keeps flush.files flush.faults flush.cause

pub returns-clause-left : goal.returns-clause-left
returns-clause-left g c = λ told s holds.
    let past = c.loop-i-test.false in
    let counted : c.len-count.result ≡ length c.args.hall.now.rooms.items = omega (arith, c.len-count.ensures, c.args.hall.now.rooms.ok.0) in
    left_where g.F.Folder.tells_files c.args.hall.now c.loop-i.hall c.loop-i.i c.loop-i.done (g.F.Folder.files c.args.folder.now) (g.F.Folder.files c.loop-i.folder) (g.F.Folder.folder_faults c.args.folder.now) (g.F.Folder.folder_faults c.loop-i.folder) (omega (arith, past, counted)) c.loop-i.invariant told s holds

pub returns-clause-others : goal.returns-clause-others
returns-clause-others g c = λ told.
    let past = c.loop-i-test.false in
    let counted : c.len-count.result ≡ length c.args.hall.now.rooms.items = omega (arith, c.len-count.ensures, c.args.hall.now.rooms.ok.0) in
    others_left g.F.Folder.tells_files c.args.hall.now c.loop-i.hall c.loop-i.i c.loop-i.done (g.F.Folder.files c.args.folder.now) (g.F.Folder.files c.loop-i.folder) (g.F.Folder.folder_faults c.args.folder.now) (g.F.Folder.folder_faults c.loop-i.folder) (omega (arith, past, counted)) c.loop-i.invariant told

pub returns-clause-kept : goal.returns-clause-kept
returns-clause-kept g c = kept_flushed c.args.hall.now c.loop-i.hall c.loop-i.invariant.keeps

pub returns-clause-rest : goal.returns-clause-rest
returns-clause-rest g c = c.loop-i.invariant.rest

pub returns-clause-files : goal.returns-clause-files
returns-clause-files g c = c.loop-i.invariant.files

pub returns-clause-faults : goal.returns-clause-faults
returns-clause-faults g c = c.loop-i.invariant.faults

pub returns-clause-cause : goal.returns-clause-cause
returns-clause-cause g c = c.loop-i.invariant.cause
