use Rattle.std.proofs.Common.{◌<◌, refl, subst, sym}
use Rattle.floor_rooms.specs.Changes.{InRoom}
use Rattle.floor_rooms.proofs.Marked.{at_room_read, in_room_read, range_of}
use Rattle.floor_moves.specs.Copying.{OffersStall, bounded}
use Rattle.floor_moves.proofs.Offering.{offers_stall}
use Rattle.floor_moves.proofs.giving.offer.Goals as goal

pub index_mut-requires : goal.index_mut-requires
index_mut-requires g c = subst (λ n. c.args.place.room < n) (sym c.args.hall.now.rooms.ok.0) c.requires.room

pub index_mut-requires-2 : goal.index_mut-requires-2
index_mut-requires-2 g c =
    let room = c.index_mut.result.now in
    subst (λ n. c.args.place.stall < n) (sym room.stalls.ok.0) (range_of c.args.place.stall c.args.hall.now.rooms.items c.args.place.room room c.index_mut.ensures.value c.requires.stall)

pub offer-offered-requires-clause-scratch : goal.offer-offered-requires-clause-scratch
offer-offered-requires-clause-scratch g c = c.requires.scratch

pub returns-clause-rest : goal.returns-clause-rest
returns-clause-rest g c = refl

pub returns-clause-stall : goal.returns-clause-stall
returns-clause-stall g c =
    let room = c.index_mut.result.now in
    let stall = c.index_mut-2.result.now in
    let old = g.F.Folder.files c.args.folder.now in
    let new = g.F.Folder.files c.offer-offered.new.folder in
    let before = g.F.Folder.folder_faults c.args.folder.now in
    let after = g.F.Folder.folder_faults c.offer-offered.new.folder in
    let Given = OffersStall g.F.Folder.tells_files c.args.hall.now.moment (bounded c.args.message) c.made_of.result old new before after in
    at_room_read c.args.place.room (InRoom c.args.place.stall Given) c.args.hall.now.rooms.items room _ c.requires.room c.index_mut.ensures.value
    (in_room_read c.args.place.stall Given room _ stall _ (range_of c.args.place.stall c.args.hall.now.rooms.items c.args.place.room room c.index_mut.ensures.value c.requires.stall) c.index_mut-2.ensures.value refl refl
    (offers_stall g.F.Folder.tells_files c.args.hall.now.moment c.args.message c.bound-message.result c.offer-offered.result c.made_of.result old new before after stall _ c.bound-message.ensures c.made_of.ensures
    c.offer-offered.ensures.row c.offer-offered.ensures.rest c.offer-offered.ensures.disk c.offer-offered.ensures.cause refl))
