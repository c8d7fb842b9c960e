use Rattle.std.proofs.Common.{◌<◌, false, length, refl, sym, ap, subst, ◌∙◌}
use Rattle.std.specs.Vec.{with_item}
use Rattle.std.proofs.lemmas.Option.{slice_get_read}
use Rattle.floor_rooms.specs.declared.hall.Hall.{Hall}
use Rattle.floor_rooms.specs.Rooms.{topic_name}
use Rattle.floor_moves.proofs.Remaining.{relisted_same}
use Rattle.floor_moves.proofs.Unlisting.{rested_alone, rested_at, unlisted_is, unlisted_sound, unlisted_stands}
use Rattle.floor_moves.proofs.pending.unlist.Goals as goal

pub returns-then-not-rests-clause-busy : goal.returns-then-not-rests-clause-busy
returns-then-not-rests-clause-busy c = record {
  room = c.index.result.now;
  there = slice_get_read c.args.hall.now.rooms.items (length c.args.hall.now.rooms.items) c.in-Some.i c.index.result.now refl c.in-Some.ensures.stands.in_range c.index.ensures;
  busy = sym c.if-not-rests.ensures;
}

pub returns-clause-sound : goal.returns-clause-sound
returns-clause-sound c =
    let h : Hall = c.args.hall.now in
    let at = rested_at h.rooms.items c.in-Some.i c.index.result.now c.index_mut.result.now c.in-Some.ensures.stands.in_range c.index.ensures c.index_mut.ensures.value (sym c.if-not-rests.ensures) in
    unlisted_sound h _ c.in-Some.i c.requires refl at

pub returns-clause-stands : goal.returns-clause-stands
returns-clause-stands c =
    let h : Hall = c.args.hall.now in
    let at = rested_at h.rooms.items c.in-Some.i c.index.result.now c.index_mut.result.now c.in-Some.ensures.stands.in_range c.index.ensures c.index_mut.ensures.value (sym c.if-not-rests.ensures) in
    unlisted_stands h _ c.in-Some.i c.requires refl at

pub returns-in_default-clause-rooms : goal.returns-in_default-clause-rooms
returns-in_default-clause-rooms c = relisted_same c.args.hall.now.rooms.items

pub returns-then-not-rests-clause-rooms : goal.returns-then-not-rests-clause-rooms
returns-then-not-rests-clause-rooms c = relisted_same c.args.hall.now.rooms.items

pub returns-clause-rooms : goal.returns-clause-rooms
returns-clause-rooms c =
    let h : Hall = c.args.hall.now in
    rested_alone h.rooms.items _ c.in-Some.i (rested_at h.rooms.items c.in-Some.i c.index.result.now c.index_mut.result.now c.in-Some.ensures.stands.in_range c.index.ensures c.index_mut.ensures.value (sym c.if-not-rests.ensures))

pub returns-clause-none : goal.returns-clause-none
returns-clause-none c = λ none.
    let h : Hall = c.args.hall.now in
    let at = rested_at h.rooms.items c.in-Some.i c.index.result.now c.index_mut.result.now c.in-Some.ensures.stands.in_range c.index.ensures c.index_mut.ensures.value (sym c.if-not-rests.ensures) in
    unlisted_is h (record h { rooms = with_item h.rooms c.in-Some.i (record (c.index_mut.result.now) { listed = false }) }) c.in-Some.i c.requires refl at c.args.name (sym (c.in-Some.ensures.stands.is_key c.index_mut.result.now) ∙ ap topic_name (sym c.index_mut.ensures.value))

pub room_place-requires : goal.room_place-requires
room_place-requires c = c.requires

pub returns-in_default-clause-sound : goal.returns-in_default-clause-sound
returns-in_default-clause-sound c = c.requires

pub returns-in_default-clause-stands : goal.returns-in_default-clause-stands
returns-in_default-clause-stands c = λ files s holds. holds

pub index-requires : goal.index-requires
index-requires c = subst (λ n. c.in-Some.i < n) (sym c.args.hall.now.rooms.ok.0) c.in-Some.ensures.stands.in_range

pub returns-then-not-rests-clause-sound : goal.returns-then-not-rests-clause-sound
returns-then-not-rests-clause-sound c = c.requires

pub returns-then-not-rests-clause-stands : goal.returns-then-not-rests-clause-stands
returns-then-not-rests-clause-stands c = λ files s holds. holds

pub index_mut-requires : goal.index_mut-requires
index_mut-requires c = subst (λ n. c.in-Some.i < n) (sym c.args.hall.now.rooms.ok.0) c.in-Some.ensures.stands.in_range
