use Rattle.std.proofs.Common.{◌<◌, length, refl, sym, ap, subst, ◌∙◌, arith}
use Rattle.std.proofs.lemmas.Option.{slice_get_read}
use Rattle.floor_rooms.specs.declared.room.Room.{Room}
use Rattle.floor_moves.specs.Due.{HasStall, IsDueNow}
use Rattle.floor_moves.proofs.Searching.{rooms_step}
use Rattle.floor_moves.proofs.due.search_rooms.Goals as goal

pub returns-in-Ok : goal.returns-in-Ok
returns-in-Ok c =
    let below = c.loop-i-test.true in
    let high = c.requires.high in
    let inside : c.loop-i.i < length c.args.rooms.now = omega (arith, below, high) in
    record {
      room = c.index-rooms-i.result;
      there = slice_get_read c.args.rooms.now (length c.args.rooms.now) c.loop-i.i c.index-rooms-i.result refl inside c.index-rooms-i.is;
      has = subst (HasStall c.in-Ok.stall (IsDueNow c.args.now)) (c.deref.ensures.value ∙ ap (λ (r : Room). r.stalls.items) (sym c.index-rooms-i.is)) c.in-Ok.ensures;
    }

pub loop-i-preserved : goal.loop-i-preserved
loop-i-preserved c =
    let below = c.loop-i-test.true in
    let high = c.requires.high in
    let inside : c.loop-i.i < length c.args.rooms.now = omega (arith, below, high) in
    rooms_step c.args.now c.loop-i.soonest c.in-Err.due c.min-soonest.result c.args.rooms.now c.args.low c.loop-i.i c.index-rooms-i.result c.deref.result.now c.min-soonest.ensures
    (slice_get_read c.args.rooms.now (length c.args.rooms.now) c.loop-i.i c.index-rooms-i.result refl inside c.index-rooms-i.is) (c.deref.ensures.value ∙ ap (λ (r : Room). r.stalls.items) (sym c.index-rooms-i.is)) c.loop-i.invariant.0 c.loop-i.invariant.1 c.in-Err.ensures

pub returns : goal.returns
returns c = let past = c.loop-i-test.false in (c.loop-i.invariant.0, λ k d from within. c.loop-i.invariant.1 k d from (omega (arith, past, within)))
