use Rattle.floor_files.proofs.Stopping.{fails_then, flushed_names, own_only, room_flushes, settled_still}
use Rattle.floor_files.proofs.flushing.flush_room.Goals as goal

pub flush-own-requires-clause-settled : goal.flush-own-requires-clause-settled
flush-own-requires-clause-settled g c = settled_still c.args.room.now c.flush_stalls-stalls.new.room c.flush_stalls-stalls.ensures.flushes.same c.requires.ready.settled

pub returns-clause-flushes : goal.returns-clause-flushes
returns-clause-flushes g c = λ told.
    let f0 = g.F.Folder.files c.args.folder.now in
    let f1 = g.F.Folder.files c.flush_stalls-stalls.new.folder in
    let f2 = g.F.Folder.files c.flush-own.new.folder in
    let n0 = g.F.Folder.folder_faults c.args.folder.now in
    let n1 = g.F.Folder.folder_faults c.flush_stalls-stalls.new.folder in
    let n2 = g.F.Folder.folder_faults c.flush-own.new.folder in
    let stalls = c.flush_stalls-stalls.ensures.flushes in
    let own = c.flush-own.ensures in
    room_flushes c.args.room.now c.flush_stalls-stalls.new.room c.flush_stalls-stalls.result c.flush-own.result c.both_flushed.result f0 f1 f2 n0 n1 n2 c.both_flushed.ensures c.requires.ready stalls.same (stalls.left told) (own.row told) (own.others told) stalls.faults own.faults own.cause

pub returns-clause-keeps : goal.returns-clause-keeps
returns-clause-keeps g c = flushed_names c.args.room.now c.flush_stalls-stalls.new.room c.flush-own.new.self c.flush-own.result c.flush_stalls-stalls.ensures.flushes.same c.flush_stalls-stalls.ensures.flushes.keeps c.flush-own.ensures.seen

pub returns-clause-files : goal.returns-clause-files
returns-clause-files g c = λ told.
    own_only c.args.room.now c.flush_stalls-stalls.new.room (g.F.Folder.files c.args.folder.now) (g.F.Folder.files c.flush_stalls-stalls.new.folder) (g.F.Folder.files c.flush-own.new.folder) c.requires.ready c.flush_stalls-stalls.ensures.flushes.same
    (c.flush_stalls-stalls.ensures.flushes.files told) (c.flush-own.ensures.others told)

pub returns-clause-cause : goal.returns-clause-cause
returns-clause-cause g c =
    let n0 = g.F.Folder.folder_faults c.args.folder.now in
    let n1 = g.F.Folder.folder_faults c.flush_stalls-stalls.new.folder in
    let n2 = g.F.Folder.folder_faults c.flush-own.new.folder in
    fails_then n0 n1 n2 c.flush_stalls-stalls.result c.flush-own.result c.both_flushed.result c.both_flushed.ensures c.flush_stalls-stalls.ensures.flushes.faults c.flush-own.ensures.faults c.flush_stalls-stalls.ensures.flushes.cause c.flush-own.ensures.cause
