use Rattle.std.proofs.Common.{◌≡◌, length, sym, ap, subst, ◌∙◌, arith}
use Rattle.floor_rooms.specs.declared.hall.Hall.{Hall}
use Rattle.floor_rooms.specs.Sound.{IsSound}
use Rattle.floor_moves.specs.Due.{HasStallAt, IsDueNow, RoomsAreQuiet}
use Rattle.floor_moves.proofs.Searching.{both_quiet, sound_quiet}
use Rattle.floor_moves.proofs.due.find_due.Goals as goal

pub returns-clause-sound : goal.returns-clause-sound
returns-clause-sound c =
    let h : Hall = c.args.hall.now in
    subst (λ q. IsSound (record h { quiet_until = q })) (sym c.min-hall.ensures)
    (sound_quiet h _ c.requires
    (both_quiet c.in-Err.soonest c.in-Err-search_rooms.soonest h.rooms.items c.min-from.result c.len-count.result (c.len-count.ensures ∙ sym c.deref.ensures.len ∙ ap length c.deref.ensures.value)
    (subst (λ rooms. RoomsAreQuiet c.in-Err.soonest rooms c.min-from.result c.len-count.result) c.deref.ensures.value c.in-Err.ensures.1)
    (subst (λ rooms. RoomsAreQuiet c.in-Err-search_rooms.soonest rooms 0 c.min-from.result) c.deref-2.ensures.value c.in-Err-search_rooms.ensures.1)))

pub search_rooms-requires-clause-now : goal.search_rooms-requires-clause-now
search_rooms-requires-clause-now c = c.requires.moment

pub search_rooms-requires-clause-low : goal.search_rooms-requires-clause-low
search_rooms-requires-clause-low c = let is = c.min-from.ensures in omega (arith, is)

pub search_rooms-requires-clause-high : goal.search_rooms-requires-clause-high
search_rooms-requires-clause-high c = let is : c.len-count.result ≡ length c.deref.result.now = c.len-count.ensures ∙ sym c.deref.ensures.len in omega (arith, is)

pub returns-in-Ok-clause-found : goal.returns-in-Ok-clause-found
returns-in-Ok-clause-found c = subst (HasStallAt c.in-Ok.place.room c.in-Ok.place.stall (IsDueNow c.args.hall.now.moment)) c.deref.ensures.value c.in-Ok.ensures

pub returns-in-Ok-clause-sound : goal.returns-in-Ok-clause-sound
returns-in-Ok-clause-sound c = c.requires

pub returns-in-Ok-clause-stands : goal.returns-in-Ok-clause-stands
returns-in-Ok-clause-stands c = λ files s holds. holds

pub search_rooms-requires-2-clause-now : goal.search_rooms-requires-2-clause-now
search_rooms-requires-2-clause-now c = c.requires.moment

pub search_rooms-requires-2-clause-low : goal.search_rooms-requires-2-clause-low
search_rooms-requires-2-clause-low c = omega arith

pub search_rooms-requires-2-clause-high : goal.search_rooms-requires-2-clause-high
search_rooms-requires-2-clause-high c =
    let is = c.min-from.ensures in
    let whole : c.len-count.result ≡ length c.deref-2.result.now = c.len-count.ensures ∙ sym c.deref-2.ensures.len in
    omega (arith, is, whole)

pub returns-in-Ok-search_rooms-clause-found : goal.returns-in-Ok-search_rooms-clause-found
returns-in-Ok-search_rooms-clause-found c = subst (HasStallAt c.in-Ok-search_rooms.place.room c.in-Ok-search_rooms.place.stall (IsDueNow c.args.hall.now.moment)) c.deref-2.ensures.value c.in-Ok-search_rooms.ensures

pub returns-in-Ok-search_rooms-clause-sound : goal.returns-in-Ok-search_rooms-clause-sound
returns-in-Ok-search_rooms-clause-sound c = c.requires

pub returns-in-Ok-search_rooms-clause-stands : goal.returns-in-Ok-search_rooms-clause-stands
returns-in-Ok-search_rooms-clause-stands c = λ files s holds. holds

pub returns-clause-found : goal.returns-clause-found
returns-clause-found c =
    let late = c.in-Err.ensures.0 in
    let early = c.in-Err-search_rooms.ensures.0 in
    let is = c.min-hall.ensures in
    omega (arith, late, early, is)
