use Rattle.std.proofs.Common.{ap, sym, ◌∙◌}
use Rattle.floor_rooms.specs.declared.hall.Hall.{Hall}
use Rattle.floor_moves.proofs.Unlisting.{busy_found, first_unlisted, unlists_keep, unlists_more, unlists_on, unlists_same}
use Rattle.floor_moves.proofs.pending.find_pending.Goals as goal

pub loop-name-init : goal.loop-name-init
loop-name-init c = unlists_same c.args.hall.now c.requires

pub returns-then-is_some-clause-unlists : goal.returns-then-is_some-clause-unlists
returns-then-is_some-clause-unlists c =
    unlists_more c.args.hall.now c.loop-name.hall c.unlist-found.new.hall c.loop-name.invariant c.unlist-found.ensures.rest c.unlist-found.ensures.rooms c.unlist-found.ensures.sound (λ files s holds. c.unlist-found.ensures.stands files s holds)

pub returns-then-is_some-clause-keeps : goal.returns-then-is_some-clause-keeps
returns-then-is_some-clause-keeps c = unlists_keep c.args.hall.now c.unlist-found.new.hall (returns-then-is_some-clause-unlists c)

pub returns-clause-keeps : goal.returns-clause-keeps
returns-clause-keeps c = unlists_keep c.args.hall.now c.loop-name.hall c.loop-name.invariant

pub loop-name-preserved : goal.loop-name-preserved
loop-name-preserved c =
    let first = c.in-Some.ensures in
    unlists_on c.args.hall.now c.loop-name.hall c.unlist-found.new.hall c.drop_first.new.hall c.loop-name.invariant c.unlist-found.ensures.rest c.unlist-found.ensures.rooms c.drop_first.ensures.rest
    (c.drop_first.ensures.sound c.in-Some.name first.more (ap (λ (h : Hall). h.pending.items) c.unlist-found.ensures.rest ∙ first.is))
    (λ files s holds. c.drop_first.ensures.stands files s (c.unlist-found.ensures.stands files s holds))

pub unlist-found-requires : goal.unlist-found-requires
unlist-found-requires c = c.loop-name.invariant.sound

pub drop_first-requires-clause-sound : goal.drop_first-requires-clause-sound
drop_first-requires-clause-sound c = c.unlist-found.ensures.sound

pub returns-clause-unlists : goal.returns-clause-unlists
returns-clause-unlists c = c.loop-name.invariant

pub returns-then-is_some-clause-found : goal.returns-then-is_some-clause-found
returns-then-is_some-clause-found c = busy_found c.unlist-found.new.hall c.unlist-found.result (sym c.is_some.ensures ∙ c.if-is_some.true) c.unlist-found.ensures.busy

pub drop_first-requires-clause-unlisted : goal.drop_first-requires-clause-unlisted
drop_first-requires-clause-unlisted c =
    first_unlisted c.loop-name.hall c.unlist-found.new.hall c.unlist-found.result c.in-Some.name c.in-Some.ensures c.unlist-found.ensures.rest (sym c.is_some.ensures ∙ c.if-is_some.false) c.unlist-found.ensures.none
