use Rattle.std.proofs.Common.{◌≡◌, ◌+◌, suc, length, get_or, refl, subst, arith}
use Rattle.broker_history.specs.State.{State}
use Rattle.floor_topics.specs.declared.lost.Lost.TheVariants.{Done, Fault}
use Rattle.floor_rooms.specs.Rooms.{channel_name, topic_name}
use Rattle.floor_rooms.specs.Standing.{HoldsFor}
use Rattle.floor_rooms.proofs.Forming.{some_at}
use Rattle.floor_topics.proofs.Marks.{range_behind}
use Rattle.floor_topics.proofs.Numbers.{numbers_lost}
use Rattle.floor_topics.proofs.Steps.{all_lost, all_read, all_rooms, ended_at, first_left, loses_ended, loses_next, loses_none, more_left}
use Rattle.floor_topics.proofs.deleting.lose_all.Goals as goal

pub loop-count-init : goal.loop-count-init
loop-count-init g c =
    let room = c.index.result.now in
    let counted : c.len-all.result ≡ length room.stalls.items = omega (arith, c.len-all.ensures, room.stalls.ok.0) in
    record {
      on = loses_none g.F.Folder.tells_files c.args.i c.args.hall.now (g.F.Folder.files c.args.folder.now) (g.F.Folder.folder_faults c.args.folder.now) room c.requires.sound c.requires.room c.index.ensures;
      all = all_read c.args.hall.now.rooms.items c.args.i room c.len-all.result c.requires.room c.index.ensures counted;
    }

pub lose_stall-requires-clause-stall : goal.lose_stall-requires-clause-stall
lose_stall-requires-clause-stall g c = first_left g.F.Folder.tells_files c.args.i c.loop-count.count c.args.hall.now c.loop-count.hall (g.F.Folder.files c.args.folder.now) (g.F.Folder.files c.loop-count.folder) (g.F.Folder.folder_faults c.args.folder.now) (g.F.Folder.folder_faults c.loop-count.folder) c.loop-count.invariant.on c.len-all.result c.loop-count.invariant.all c.loop-count-test.true

pub loop-count-preserved : goal.loop-count-preserved
loop-count-preserved g c =
    let left = first_left g.F.Folder.tells_files c.args.i c.loop-count.count c.args.hall.now c.loop-count.hall (g.F.Folder.files c.args.folder.now) (g.F.Folder.files c.loop-count.folder) (g.F.Folder.folder_faults c.args.folder.now) (g.F.Folder.folder_faults c.loop-count.folder) c.loop-count.invariant.on c.len-all.result c.loop-count.invariant.all c.loop-count-test.true in
    let d = c.loop-count.invariant.on.rooms.after in
    let s0 = (some_at (get_or c.loop-count.hall.rooms.items c.args.i d).stalls.items 0 (left d)).0 in
    let one : c.loop-count.count + 1 ≡ suc c.loop-count.count = omega arith in
    record {
      on =
          loses_next g.F.Folder.tells_files c.args.i c.loop-count.count c.args.hall.now c.loop-count.hall c.lose_stall.new.hall (g.F.Folder.files c.args.folder.now) (g.F.Folder.files c.loop-count.folder) (g.F.Folder.files c.lose_stall.new.folder) (g.F.Folder.folder_faults c.args.folder.now) (g.F.Folder.folder_faults c.loop-count.folder) (g.F.Folder.folder_faults c.lose_stall.new.folder) c.loop-count.invariant.on c.lose_stall.ensures.rest c.lose_stall.ensures.sound c.lose_stall.ensures.names c.lose_stall.ensures.since c.lose_stall.ensures.files c.lose_stall.ensures.faults (numbers_lost Done (topic_name (get_or c.loop-count.hall.rooms.items c.args.i d)) (channel_name (get_or (get_or c.loop-count.hall.rooms.items c.args.i d).stalls.items 0 s0)) c.loop-count.hall.clients.items c.lose_stall.new.hall.clients.items (c.in-Done.ensures.clients d s0)) s0 (channel_name (get_or (get_or c.loop-count.hall.rooms.items c.args.i d).stalls.items 0 s0)) (more_left g.F.Folder.tells_files c.args.i c.loop-count.count c.args.hall.now c.loop-count.hall (g.F.Folder.files c.args.folder.now) (g.F.Folder.files c.loop-count.folder) (g.F.Folder.folder_faults c.args.folder.now) (g.F.Folder.folder_faults c.loop-count.folder) c.loop-count.invariant.on c.len-all.result c.loop-count.invariant.all c.loop-count-test.true) refl (c.in-Done.ensures.rooms d s0) (c.loop-count.count + 1) one
          (λ told s holds. c.in-Done.ensures.stands told d s0 s holds);
      all = c.loop-count.invariant.all;
    }

pub returns-in-Fault-clause-loses : goal.returns-in-Fault-clause-loses
returns-in-Fault-clause-loses g c =
    let left = first_left g.F.Folder.tells_files c.args.i c.loop-count.count c.args.hall.now c.loop-count.hall (g.F.Folder.files c.args.folder.now) (g.F.Folder.files c.loop-count.folder) (g.F.Folder.folder_faults c.args.folder.now) (g.F.Folder.folder_faults c.loop-count.folder) c.loop-count.invariant.on c.len-all.result c.loop-count.invariant.all c.loop-count-test.true in
    let d = c.loop-count.invariant.on.rooms.after in
    let s0 = (some_at (get_or c.loop-count.hall.rooms.items c.args.i d).stalls.items 0 (left d)).0 in
    ended_at g.F.Folder.tells_files c.args.i c.loop-count.count c.args.hall.now c.loop-count.hall c.lose_stall.new.hall (g.F.Folder.files c.args.folder.now) (g.F.Folder.files c.loop-count.folder) (g.F.Folder.files c.lose_stall.new.folder) (g.F.Folder.folder_faults c.args.folder.now) (g.F.Folder.folder_faults c.loop-count.folder) (g.F.Folder.folder_faults c.lose_stall.new.folder) c.loop-count.invariant.on
    (loses_ended g.F.Folder.tells_files c.args.i c.loop-count.count c.args.hall.now c.loop-count.hall c.lose_stall.new.hall (g.F.Folder.files c.args.folder.now) (g.F.Folder.files c.loop-count.folder) (g.F.Folder.files c.lose_stall.new.folder) (g.F.Folder.folder_faults c.args.folder.now) (g.F.Folder.folder_faults c.loop-count.folder) (g.F.Folder.folder_faults c.lose_stall.new.folder) c.loop-count.invariant.on c.lose_stall.ensures.rest c.lose_stall.ensures.sound c.lose_stall.ensures.names c.lose_stall.ensures.since c.lose_stall.ensures.files c.lose_stall.ensures.faults (numbers_lost Fault (topic_name (get_or c.loop-count.hall.rooms.items c.args.i d)) (channel_name (get_or (get_or c.loop-count.hall.rooms.items c.args.i d).stalls.items 0 s0)) c.loop-count.hall.clients.items c.lose_stall.new.hall.clients.items (c.in-Fault.ensures.clients d s0)) (c.in-Fault.ensures.rooms d s0) (λ told s holds. let r = c.in-Fault.ensures.stands told d s0 s holds in subst (λ (u : State). HoldsFor c.lose_stall.new.hall (g.F.Folder.files c.lose_stall.new.folder) u) r.1 r.2))

pub returns-clause-loses : goal.returns-clause-loses
returns-clause-loses g c = all_lost g.F.Folder.tells_files c.args.i c.loop-count.count c.args.hall.now c.loop-count.hall (g.F.Folder.files c.args.folder.now) (g.F.Folder.files c.loop-count.folder) (g.F.Folder.folder_faults c.args.folder.now) (g.F.Folder.folder_faults c.loop-count.folder) c.loop-count.invariant.on c.len-all.result c.loop-count.invariant.all c.loop-count.auto.count-end c.loop-count-test.false

pub returns-clause-rooms : goal.returns-clause-rooms
returns-clause-rooms g c = all_rooms g.F.Folder.tells_files c.args.i c.loop-count.count c.args.hall.now c.loop-count.hall (g.F.Folder.files c.args.folder.now) (g.F.Folder.files c.loop-count.folder) (g.F.Folder.folder_faults c.args.folder.now) (g.F.Folder.folder_faults c.loop-count.folder) c.loop-count.invariant.on c.len-all.result c.loop-count.invariant.all c.loop-count.auto.count-end c.loop-count-test.false

pub lose_stall-requires-clause-sound : goal.lose_stall-requires-clause-sound
lose_stall-requires-clause-sound g c = c.loop-count.invariant.on.loses.sound

pub lose_stall-requires-clause-room : goal.lose_stall-requires-clause-room
lose_stall-requires-clause-room g c = range_behind c.args.i _ c.args.hall.now.rooms.items c.loop-count.hall.rooms.items c.loop-count.invariant.on.rooms
