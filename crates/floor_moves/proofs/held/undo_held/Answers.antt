use Rattle.std.proofs.Common.{◌<◌, refl, subst, sym}
use Rattle.floor_rooms.specs.Changes.{InRoom}
use Rattle.floor_rooms.proofs.Marked.{at_room_read, in_room_read, range_of}
use Rattle.channel_core.specs.Drawing.{IsHeld}
use Rattle.floor_rooms.specs.declared.stall.Stall.{Stall}
use Rattle.floor_moves.specs.Holding.{UndoesHeld}
use Rattle.floor_moves.proofs.Joining.{stall_read}
use Rattle.floor_moves.proofs.held.undo_held.Goals as goal

pub returns-clause-stall : goal.returns-clause-stall
returns-clause-stall c =
    let room = c.index_mut.result.now in
    let stall = c.index_mut-2.result.now in
    at_room_read c.args.place.room (InRoom c.args.place.stall UndoesHeld) c.args.hall.now.rooms.items room _ c.requires.room c.index_mut.ensures.value
    (in_room_read c.args.place.stall UndoesHeld room _ stall _ (range_of c.args.place.stall c.args.hall.now.rooms.items c.args.place.room room c.index_mut.ensures.value c.requires.stall) c.index_mut-2.ensures.value refl refl
    (record {
      nothing = c.undo_held.ensures.nothing_now;
      back = c.undo_held.ensures.back;
      queue = c.undo_held.ensures.queue;
      rest = c.undo_held.ensures.rest;
      same = refl;
    }))

pub index_mut-requires : goal.index_mut-requires
index_mut-requires c = subst (λ n. c.args.place.room < n) (sym c.args.hall.now.rooms.ok.0) c.requires.room

pub index_mut-requires-2 : goal.index_mut-requires-2
index_mut-requires-2 c =
    let room = c.index_mut.result.now in
    subst (λ n. c.args.place.stall < n) (sym room.stalls.ok.0) (range_of c.args.place.stall c.args.hall.now.rooms.items c.args.place.room room c.index_mut.ensures.value c.requires.stall)

pub undo_held-requires : goal.undo_held-requires
undo_held-requires c = record {
  drawn = (
    c.args.hall.now.moment,
    stall_read c.args.place.room c.args.place.stall (λ (s : Stall). IsHeld c.args.hall.now.moment s.channel.drawn) c.args.hall.now.rooms.items c.index_mut.result.now c.index_mut-2.result.now c.index_mut.ensures.value c.index_mut-2.ensures.value c.requires.held,
  );
}
