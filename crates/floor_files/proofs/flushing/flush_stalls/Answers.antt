use Rattle.std.proofs.Common.{◌≡◌, length, Some, refl, arith}
use Rattle.std.specs.List.{slice_get}
use Rattle.std.specs.Vec.{with_item}
use Rattle.floor_rooms.specs.declared.room.Room.{Room}
use Rattle.floor_rooms.proofs.Placing.{at_place}
use Rattle.floor_files.proofs.Leaving.{stalls_begin, stalls_go_on}
use Rattle.floor_files.proofs.Stopping.{stall_ready, stalls_end, stalls_long}
use Rattle.floor_files.proofs.flushing.flush_stalls.Goals as goal

pub loop-j-init : goal.loop-j-init
loop-j-init g c = stalls_begin g.F.Folder.tells_files c.args.room.now (g.F.Folder.files c.args.folder.now) (g.F.Folder.folder_faults c.args.folder.now)

pub index_mut-requires : goal.index_mut-requires
index_mut-requires g c =
    let below = c.loop-j-test.true in
    let counted : c.len-count.result ≡ length c.args.room.now.stalls.items = omega (arith, c.len-count.ensures, c.args.room.now.stalls.ok.0) in
    let long = stalls_long g.F.Folder.tells_files c.loop-j.j c.args.room.now c.loop-j.room c.loop-j.done (g.F.Folder.files c.args.folder.now) (g.F.Folder.files c.loop-j.folder) (g.F.Folder.folder_faults c.args.folder.now) (g.F.Folder.folder_faults c.loop-j.folder) c.loop-j.invariant in
    omega (arith, below, counted, long)

pub flush-stall-requires-clause-nothing : goal.flush-stall-requires-clause-nothing
flush-stall-requires-clause-nothing g c =
    let below = c.loop-j-test.true in
    let counted : c.len-count.result ≡ length c.args.room.now.stalls.items = omega (arith, c.len-count.ensures, c.args.room.now.stalls.ok.0) in
    let long = stalls_long g.F.Folder.tells_files c.loop-j.j c.args.room.now c.loop-j.room c.loop-j.done (g.F.Folder.files c.args.folder.now) (g.F.Folder.files c.loop-j.folder) (g.F.Folder.folder_faults c.args.folder.now) (g.F.Folder.folder_faults c.loop-j.folder) c.loop-j.invariant in
    let at : slice_get c.loop-j.room.stalls.items c.loop-j.j ≡ Some c.index_mut.result.now = at_place c.loop-j.room.stalls.items c.loop-j.j c.index_mut.result.now (omega (arith, below, counted, long)) c.index_mut.ensures.value in
    (stall_ready g.F.Folder.tells_files c.loop-j.j c.args.room.now c.loop-j.room c.index_mut.result.now c.loop-j.done (g.F.Folder.files c.args.folder.now) (g.F.Folder.files c.loop-j.folder) (g.F.Folder.folder_faults c.args.folder.now) (g.F.Folder.folder_faults c.loop-j.folder) c.requires.ready c.loop-j.invariant at).nothing

pub loop-j-preserved : goal.loop-j-preserved
loop-j-preserved g c =
    let below = c.loop-j-test.true in
    let counted : c.len-count.result ≡ length c.args.room.now.stalls.items = omega (arith, c.len-count.ensures, c.args.room.now.stalls.ok.0) in
    let f0 = g.F.Folder.files c.args.folder.now in
    let f1 = g.F.Folder.files c.loop-j.folder in
    let f2 = g.F.Folder.files c.flush-stall.new.folder in
    let n0 = g.F.Folder.folder_faults c.args.folder.now in
    let n1 = g.F.Folder.folder_faults c.loop-j.folder in
    let n2 = g.F.Folder.folder_faults c.flush-stall.new.folder in
    let stall = c.index_mut.result.now in
    let flush = c.flush-stall.ensures in
    let long = stalls_long g.F.Folder.tells_files c.loop-j.j c.args.room.now c.loop-j.room c.loop-j.done f0 f1 n0 n1 c.loop-j.invariant in
    let at : slice_get c.loop-j.room.stalls.items c.loop-j.j ≡ Some stall = at_place c.loop-j.room.stalls.items c.loop-j.j stall (omega (arith, below, counted, long)) c.index_mut.ensures.value in
    let after : Room = record (c.loop-j.room) { stalls = with_item c.loop-j.room.stalls c.loop-j.j (record stall { channel = c.flush-stall.new.self }) } in
    stalls_go_on g.F.Folder.tells_files c.loop-j.j c.args.room.now c.loop-j.room after stall c.flush-stall.new.self c.loop-j.done c.flush-stall.result c.both_flushed-done.result f0 f1 f2 n0 n1 n2 c.both_flushed-done.ensures c.requires.ready c.loop-j.invariant at refl refl
    flush.rest flush.found flush.stores flush.disk.others flush.disk.faults flush.cause

pub returns : goal.returns
returns g c =
    let past = c.loop-j-test.false in
    let counted : c.len-count.result ≡ length c.args.room.now.stalls.items = omega (arith, c.len-count.ensures, c.args.room.now.stalls.ok.0) in
    record { flushes = stalls_end g.F.Folder.tells_files c.loop-j.j c.args.room.now c.loop-j.room c.loop-j.done (g.F.Folder.files c.args.folder.now) (g.F.Folder.files c.loop-j.folder) (g.F.Folder.folder_faults c.args.folder.now) (g.F.Folder.folder_faults c.loop-j.folder) (omega (arith, past, counted)) c.loop-j.invariant }
