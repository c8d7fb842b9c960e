use Rattle.std.proofs.Common.{◌<◌, get_or, refl, subst, sym}
use Rattle.floor_rooms.specs.declared.room.Room.{Room}
use Rattle.floor_rooms.specs.declared.stall.Stall.{Stall}
use Rattle.floor_rooms.specs.Changes.{InRoom}
use Rattle.floor_rooms.proofs.Marked.{at_room_read, in_room_read, range_of}
use Rattle.floor_acts.specs.Sending.{IsDrawnForSome, UnsendsStall}
use Rattle.floor_acts.proofs.sending.unsend_at.Goals as goal

pub index_mut-requires : goal.index_mut-requires
index_mut-requires c = subst (λ n. c.args.i < n) (sym c.args.hall.now.rooms.ok.0) c.requires.room

pub index_mut-requires-2 : goal.index_mut-requires-2
index_mut-requires-2 c =
    let room = c.index_mut.result.now in
    subst (λ n. c.args.j < n) (sym room.stalls.ok.0) (range_of c.args.j c.args.hall.now.rooms.items c.args.i room c.index_mut.ensures.value c.requires.stall)

pub unsend-requires-clause-drawn : goal.unsend-requires-clause-drawn
unsend-requires-clause-drawn c =
    let room = c.index_mut.result.now in
    let stall = c.index_mut-2.result.now in
    subst (λ (s : Stall). IsDrawnForSome c.args.message s.channel.drawn) (sym c.index_mut-2.ensures.value)
    (subst (λ (r : Room). IsDrawnForSome c.args.message (get_or r.stalls.items c.args.j stall).channel.drawn) (sym c.index_mut.ensures.value) (c.requires.drawn room stall))

pub returns-clause-stall : goal.returns-clause-stall
returns-clause-stall c =
    let room = c.index_mut.result.now in
    let stall = c.index_mut-2.result.now in
    let Unsent = UnsendsStall c.args.message in
    at_room_read c.args.i (InRoom c.args.j Unsent) c.args.hall.now.rooms.items room _ c.requires.room c.index_mut.ensures.value
    (in_room_read c.args.j Unsent room _ stall _ (range_of c.args.j c.args.hall.now.rooms.items c.args.i room c.index_mut.ensures.value c.requires.stall) c.index_mut-2.ensures.value refl refl
    (record { nothing = c.unsend.ensures.nothing_now; back = c.unsend.ensures.back; queue = c.unsend.ensures.queue; rest = c.unsend.ensures.rest; same = refl }))
