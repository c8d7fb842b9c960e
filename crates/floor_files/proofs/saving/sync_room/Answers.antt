use Rattle.std.proofs.Common.{◌≡◌, length, ap, ◌∙◌, arith}
use Rattle.floor_rooms.specs.declared.room.Room.{Room}
use Rattle.floor_files.specs.Saving.{SavesRoom}
use Rattle.floor_files.proofs.Beginning.{place_there, read_after, room_begins, room_ends, room_goes_on, room_there}
use Rattle.floor_files.proofs.saving.sync_room.Goals as goal

pub loop-j-init : goal.loop-j-init
loop-j-init g c =
    let h = c.args.hall.now in
    let h1 = c.sync_topic-least.new.hall in
    let f0 = g.F.Folder.files c.args.folder.now in
    let f1 = g.F.Folder.files c.sync_topic-least.new.folder in
    let n0 = g.F.Folder.folder_faults c.args.folder.now in
    let n1 = g.F.Folder.folder_faults c.sync_topic-least.new.folder in
    let x = c.sync_topic-least.ensures.room in
    let room = c.index.result.now in
    let counted : c.len-count.result ≡ length room.stalls.items = omega (arith, c.len-count.ensures, room.stalls.ok.0) in
    room_begins g.F.Folder.tells_files c.args.i c.len-count.result h h1 f0 f1 n0 n1 c.sync_topic-least.result c.requires.sound c.sync_topic-least.ensures.rest x
    (counted ∙ ap (λ (r : Room). length r.stalls.items) (c.index.ensures ∙ read_after c.args.i (SavesRoom g.F.Folder.tells_files h.moment h.options.sync_timeout c.sync_topic-least.result f0 f1 n0 n1) h.rooms.items h1.rooms.items x c.index.result.now))

pub sync_channel-left-requires-clause-sound : goal.sync_channel-left-requires-clause-sound
sync_channel-left-requires-clause-sound g c = c.loop-j.invariant.synced.sound

pub sync_channel-left-requires-clause-room : goal.sync_channel-left-requires-clause-room
sync_channel-left-requires-clause-room g c =
    room_there g.F.Folder.tells_files c.args.i c.loop-j.j c.len-count.result c.args.hall.now c.loop-j.hall (g.F.Folder.files c.args.folder.now) (g.F.Folder.files c.loop-j.folder) (g.F.Folder.folder_faults c.args.folder.now) (g.F.Folder.folder_faults c.loop-j.folder) c.loop-j.least c.loop-j.invariant

pub sync_channel-left-requires-clause-stall : goal.sync_channel-left-requires-clause-stall
sync_channel-left-requires-clause-stall g c =
    place_there g.F.Folder.tells_files c.args.i c.loop-j.j c.len-count.result c.args.hall.now c.loop-j.hall (g.F.Folder.files c.args.folder.now) (g.F.Folder.files c.loop-j.folder) (g.F.Folder.folder_faults c.args.folder.now) (g.F.Folder.folder_faults c.loop-j.folder) c.loop-j.least c.loop-j-test.true c.loop-j.invariant

pub loop-j-preserved : goal.loop-j-preserved
loop-j-preserved g c =
    let call = c.sync_channel-left in
    room_goes_on g.F.Folder.tells_files c.args.i c.loop-j.j c.len-count.result c.args.hall.now c.loop-j.hall call.new.hall (g.F.Folder.files c.args.folder.now) (g.F.Folder.files c.loop-j.folder) (g.F.Folder.files call.new.folder) (g.F.Folder.folder_faults c.args.folder.now) (g.F.Folder.folder_faults c.loop-j.folder) (g.F.Folder.folder_faults call.new.folder) c.loop-j.least call.result c.min-least.result
    c.requires.sound c.loop-j.invariant call.ensures.rest call.ensures.stall c.min-least.ensures

pub returns-clause-synced : goal.returns-clause-synced
returns-clause-synced g c = c.loop-j.invariant.synced

pub returns-clause-room : goal.returns-clause-room
returns-clause-room g c =
    room_ends g.F.Folder.tells_files c.args.i c.loop-j.j c.len-count.result c.args.hall.now c.loop-j.hall (g.F.Folder.files c.args.folder.now) (g.F.Folder.files c.loop-j.folder) (g.F.Folder.folder_faults c.args.folder.now) (g.F.Folder.folder_faults c.loop-j.folder) c.loop-j.least c.loop-j-test.false c.loop-j.invariant

pub returns-clause-soon : goal.returns-clause-soon
returns-clause-soon g c = c.loop-j.invariant.soon
