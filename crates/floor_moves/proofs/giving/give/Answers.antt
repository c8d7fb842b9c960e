use Rattle.floor_rooms.specs.declared.hall.Hall.{Hall}
use Rattle.floor_moves.specs.Copying.{bounded}
use Rattle.floor_moves.proofs.Offering.{offer_cause, offer_faults, offer_files, offer_gives, offer_keeps_all, offer_room, offer_touches}
use Rattle.floor_moves.proofs.Placed.{range_behind, stall_range_behind}
use Rattle.floor_moves.proofs.giving.give.Goals as goal

pub mark_stall-requires-clause-sound : goal.mark_stall-requires-clause-sound
mark_stall-requires-clause-sound g c = c.requires.sound

pub mark_stall-requires-clause-room : goal.mark_stall-requires-clause-room
mark_stall-requires-clause-room g c = c.requires.room

pub mark_stall-requires-clause-stall : goal.mark_stall-requires-clause-stall
mark_stall-requires-clause-stall g c = c.requires.stall

pub offer-made-requires-clause-sound : goal.offer-made-requires-clause-sound
offer-made-requires-clause-sound g c = c.mark_stall.ensures.sound

pub offer-made-requires-clause-room : goal.offer-made-requires-clause-room
offer-made-requires-clause-room g c = range_behind c.args.place.room c.args.place.stall _ c.args.hall.now.rooms.items c.mark_stall.new.self.rooms.items c.mark_stall.ensures.stall

pub offer-made-requires-clause-stall : goal.offer-made-requires-clause-stall
offer-made-requires-clause-stall g c = stall_range_behind c.args.place.room c.args.place.stall _ c.args.hall.now.rooms.items c.mark_stall.new.self.rooms.items c.mark_stall.ensures.stall

pub offer-made-requires-clause-short : goal.offer-made-requires-clause-short
offer-made-requires-clause-short g c = c.requires.short

pub offer-made-requires-clause-scratch : goal.offer-made-requires-clause-scratch
offer-made-requires-clause-scratch g c = c.requires.scratch

pub settle_stall-requires-clause-room : goal.settle_stall-requires-clause-room
settle_stall-requires-clause-room g c = range_behind c.args.place.room c.args.place.stall _ c.mark_stall.new.self.rooms.items c.offer-made.new.hall.rooms.items c.offer-made.ensures.stall

pub settle_stall-requires-clause-stall : goal.settle_stall-requires-clause-stall
settle_stall-requires-clause-stall g c = stall_range_behind c.args.place.room c.args.place.stall _ c.mark_stall.new.self.rooms.items c.offer-made.new.hall.rooms.items c.offer-made.ensures.stall

pub returns-clause-gives : goal.returns-clause-gives
returns-clause-gives g c = λ topic channel named told.
    let h0 : Hall = c.args.hall.now in
    let h1 : Hall = c.mark_stall.new.self in
    let h2 : Hall = c.offer-made.new.hall in
    let h3 : Hall = c.settle_stall.new.self in
    offer_gives g.F.Folder.tells_files h0 h1 h2 h3 _ _ (g.F.Folder.files c.args.folder.now) (g.F.Folder.files c.offer-made.new.folder) (g.F.Folder.folder_faults c.args.folder.now) (g.F.Folder.folder_faults c.offer-made.new.folder) c.args.place (bounded c.args.message) c.offer-made.result c.mark_stall.ensures.rest c.mark_stall.ensures.stall c.mark_stall.ensures.sound
    c.offer-made.ensures.rest c.offer-made.ensures.stall c.settle_stall.ensures.rest
    told (λ s holds. c.mark_stall.ensures.stands (g.F.Folder.files c.args.folder.now) s holds) (λ s holds. c.settle_stall.ensures.stands (g.F.Folder.files c.offer-made.new.folder) s holds) topic channel named

pub returns-clause-sound : goal.returns-clause-sound
returns-clause-sound g c =
    let h0 : Hall = c.args.hall.now in
    let h1 : Hall = c.mark_stall.new.self in
    let h2 : Hall = c.offer-made.new.hall in
    let h3 : Hall = c.settle_stall.new.self in
    c.settle_stall.ensures.sound h1
    (offer_touches g.F.Folder.tells_files h0 h1 h2 h3 _ _ (g.F.Folder.files c.args.folder.now) (g.F.Folder.files c.offer-made.new.folder) (g.F.Folder.folder_faults c.args.folder.now) (g.F.Folder.folder_faults c.offer-made.new.folder) c.args.place (bounded c.args.message) c.offer-made.result c.mark_stall.ensures.rest c.mark_stall.ensures.stall c.mark_stall.ensures.sound
    c.offer-made.ensures.rest c.offer-made.ensures.stall c.settle_stall.ensures.rest)

pub returns-clause-keeps : goal.returns-clause-keeps
returns-clause-keeps g c =
    let h0 : Hall = c.args.hall.now in
    let h1 : Hall = c.mark_stall.new.self in
    let h2 : Hall = c.offer-made.new.hall in
    let h3 : Hall = c.settle_stall.new.self in
    offer_keeps_all g.F.Folder.tells_files h0 h1 h2 h3 _ _ (g.F.Folder.files c.args.folder.now) (g.F.Folder.files c.offer-made.new.folder) (g.F.Folder.folder_faults c.args.folder.now) (g.F.Folder.folder_faults c.offer-made.new.folder) c.args.place (bounded c.args.message) c.offer-made.result c.mark_stall.ensures.rest c.mark_stall.ensures.stall c.mark_stall.ensures.sound
    c.offer-made.ensures.rest c.offer-made.ensures.stall c.settle_stall.ensures.rest

pub returns-clause-files : goal.returns-clause-files
returns-clause-files g c =
    let h0 : Hall = c.args.hall.now in
    let h1 : Hall = c.mark_stall.new.self in
    let h2 : Hall = c.offer-made.new.hall in
    let h3 : Hall = c.settle_stall.new.self in
    offer_files g.F.Folder.tells_files h0 h1 h2 h3 _ _ (g.F.Folder.files c.args.folder.now) (g.F.Folder.files c.offer-made.new.folder) (g.F.Folder.folder_faults c.args.folder.now) (g.F.Folder.folder_faults c.offer-made.new.folder) c.args.place (bounded c.args.message) c.offer-made.result c.mark_stall.ensures.rest c.mark_stall.ensures.stall c.mark_stall.ensures.sound
    c.offer-made.ensures.rest c.offer-made.ensures.stall c.settle_stall.ensures.rest

pub returns-clause-room : goal.returns-clause-room
returns-clause-room g c =
    let h0 : Hall = c.args.hall.now in
    let h1 : Hall = c.mark_stall.new.self in
    let h2 : Hall = c.offer-made.new.hall in
    let h3 : Hall = c.settle_stall.new.self in
    offer_room g.F.Folder.tells_files h0 h1 h2 h3 _ _ (g.F.Folder.files c.args.folder.now) (g.F.Folder.files c.offer-made.new.folder) (g.F.Folder.folder_faults c.args.folder.now) (g.F.Folder.folder_faults c.offer-made.new.folder) c.args.place (bounded c.args.message) c.offer-made.result c.mark_stall.ensures.rest c.mark_stall.ensures.stall c.mark_stall.ensures.sound
    c.offer-made.ensures.rest c.offer-made.ensures.stall c.settle_stall.ensures.rest

pub returns-clause-faults : goal.returns-clause-faults
returns-clause-faults g c =
    let h0 : Hall = c.args.hall.now in
    let h1 : Hall = c.mark_stall.new.self in
    let h2 : Hall = c.offer-made.new.hall in
    let h3 : Hall = c.settle_stall.new.self in
    offer_faults g.F.Folder.tells_files h0 h1 h2 h3 _ _ (g.F.Folder.files c.args.folder.now) (g.F.Folder.files c.offer-made.new.folder) (g.F.Folder.folder_faults c.args.folder.now) (g.F.Folder.folder_faults c.offer-made.new.folder) c.args.place (bounded c.args.message) c.offer-made.result c.mark_stall.ensures.rest c.mark_stall.ensures.stall c.mark_stall.ensures.sound
    c.offer-made.ensures.rest c.offer-made.ensures.stall c.settle_stall.ensures.rest

pub returns-clause-cause : goal.returns-clause-cause
returns-clause-cause g c =
    let h0 : Hall = c.args.hall.now in
    let h1 : Hall = c.mark_stall.new.self in
    let h2 : Hall = c.offer-made.new.hall in
    let h3 : Hall = c.settle_stall.new.self in
    offer_cause g.F.Folder.tells_files h0 h1 h2 h3 _ _ (g.F.Folder.files c.args.folder.now) (g.F.Folder.files c.offer-made.new.folder) (g.F.Folder.folder_faults c.args.folder.now) (g.F.Folder.folder_faults c.offer-made.new.folder) c.args.place (bounded c.args.message) c.offer-made.result c.mark_stall.ensures.rest c.mark_stall.ensures.stall c.mark_stall.ensures.sound
    c.offer-made.ensures.rest c.offer-made.ensures.stall c.settle_stall.ensures.rest
