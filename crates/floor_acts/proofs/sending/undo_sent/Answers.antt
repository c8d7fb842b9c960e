use Rattle.std.proofs.Common.{refl, true}
use Rattle.floor_acts.proofs.Flying.{range_behind, stall_range_behind}
use Rattle.floor_acts.proofs.Undoing.{back_keeps, back_rest, back_told, back_touches}
use Rattle.floor_acts.proofs.sending.undo_sent.Goals as goal

pub settle_stall-requires-clause-room : goal.settle_stall-requires-clause-room
settle_stall-requires-clause-room c = range_behind c.args.i c.args.j _ c.args.hall.now.rooms.items c.unsend_at.new.hall.rooms.items c.unsend_at.ensures.stall

pub settle_stall-requires-clause-stall : goal.settle_stall-requires-clause-stall
settle_stall-requires-clause-stall c = stall_range_behind c.args.i c.args.j _ c.args.hall.now.rooms.items c.unsend_at.new.hall.rooms.items c.unsend_at.ensures.stall

pub returns-clause-rest : goal.returns-clause-rest
returns-clause-rest c = back_rest c.args.hall.now c.unsend_at.new.hall c.settle_stall.new.self c.unsend_at.ensures.rest c.settle_stall.ensures.rest

pub returns-clause-sound : goal.returns-clause-sound
returns-clause-sound c = λ tells number old now before after first d. c.settle_stall.ensures.sound d.marked (back_touches tells c.args.i c.args.j number c.args.message old now before after first c.args.hall.now c.unsend_at.new.hall c.settle_stall.new.self d c.unsend_at.ensures.rest c.unsend_at.ensures.stall c.settle_stall.ensures.rest)

pub returns-clause-told : goal.returns-clause-told
returns-clause-told c = λ number old now before after first d. back_told true c.args.i c.args.j number c.args.message old now before after first c.args.hall.now c.unsend_at.new.hall c.settle_stall.new.self d c.unsend_at.ensures.rest c.unsend_at.ensures.stall c.settle_stall.ensures.rest refl (λ s holds. c.settle_stall.ensures.stands now s holds)

pub returns-clause-keeps : goal.returns-clause-keeps
returns-clause-keeps c = λ tells number old now before after first d. back_keeps tells c.args.i c.args.j number c.args.message old now before after first c.args.hall.now c.unsend_at.new.hall c.settle_stall.new.self d c.unsend_at.ensures.rest c.unsend_at.ensures.stall c.settle_stall.ensures.rest
