use Rattle.std.proofs.Common.{◌<◌, refl, subst, sym}
use Rattle.floor_rooms.specs.Changes.{InRoom}
use Rattle.floor_rooms.proofs.Marked.{at_room_read, in_room_read, range_of}
use Rattle.channel_core.specs.Drawing.{IsHeld}
use Rattle.floor_rooms.specs.declared.stall.Stall.{Stall}
use Rattle.floor_moves.specs.Holding.{SettlesHeld}
use Rattle.floor_moves.proofs.Joining.{stall_read}
use Rattle.floor_moves.proofs.held.settle_held.Goals as goal

pub returns-clause-stall : goal.returns-clause-stall
returns-clause-stall g c =
    let room = c.index_mut.result.now in
    let stall = c.index_mut-2.result.now in
    let Settled = SettlesHeld g.F.Folder.tells_files c.args.hall.now.moment (g.F.Folder.files c.args.folder.now) (g.F.Folder.files c.settle_held.new.folder) (g.F.Folder.folder_faults c.args.folder.now) (g.F.Folder.folder_faults c.settle_held.new.folder) in
    at_room_read c.args.place.room (InRoom c.args.place.stall Settled) c.args.hall.now.rooms.items room _ c.requires.room c.index_mut.ensures.value
    (in_room_read c.args.place.stall Settled room _ stall _ (range_of c.args.place.stall c.args.hall.now.rooms.items c.args.place.room room c.index_mut.ensures.value c.requires.stall) c.index_mut-2.ensures.value refl refl
    (record {
      nothing = c.settle_held.ensures.nothing_now;
      row = c.settle_held.ensures.row;
      rest = c.settle_held.ensures.rest;
      disk = c.settle_held.ensures.disk;
      same = refl;
    }))

pub index_mut-requires : goal.index_mut-requires
index_mut-requires g c = subst (λ n. c.args.place.room < n) (sym c.args.hall.now.rooms.ok.0) c.requires.room

pub index_mut-requires-2 : goal.index_mut-requires-2
index_mut-requires-2 g c =
    let room = c.index_mut.result.now in
    subst (λ n. c.args.place.stall < n) (sym room.stalls.ok.0) (range_of c.args.place.stall c.args.hall.now.rooms.items c.args.place.room room c.index_mut.ensures.value c.requires.stall)

pub settle_held-requires-clause-drawn : goal.settle_held-requires-clause-drawn
settle_held-requires-clause-drawn g c =
    stall_read c.args.place.room c.args.place.stall (λ (s : Stall). IsHeld c.args.hall.now.moment s.channel.drawn) c.args.hall.now.rooms.items c.index_mut.result.now c.index_mut-2.result.now c.index_mut.ensures.value c.index_mut-2.ensures.value c.requires.held

pub settle_held-requires-clause-now : goal.settle_held-requires-clause-now
settle_held-requires-clause-now g c = c.requires.moment
