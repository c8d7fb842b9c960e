-- What holds of a topic that is read at its place, what still stands there behind a call, and when a move that isn't stuck has a cause.
use Rattle.std.proofs.Common.{◌≡◌, ◌<◌, ℕ, Bool, true, false, List, length, get_or, Some, sym, ap, subst, ◌∙◌}
use Rattle.std.specs.Prelude.{slice_get}
use Rattle.std.specs.List.{HoldsAt}
use Rattle.std.proofs.lemmas.Bool.{false≢true}
use Rattle.std.proofs.lemmas.Option.{get_or_from_slice_get, slice_get_within}
use Rattle.nsq_outside.specs.Causes.{Rose}
use Rattle.floor_rooms.specs.declared.stall.Stall.{Stall}
use Rattle.floor_rooms.specs.declared.room.Room.{Room}
use Rattle.floor_rooms.specs.declared.hall.Hall.{Hall}
use Rattle.floor_rooms.specs.Changes.{AtRoom, AtStall}
use Rattle.floor_rooms.specs.Sound.{IsRoomSound, IsSound}
use Rattle.floor_rooms.proofs.Placing.{at_place}
use Rattle.floor_rooms.proofs.Sounding.{at_all}
use Rattle.floor_moves.specs.declared.made.Made.{Made}
use Rattle.floor_moves.specs.declared.made.Made.TheVariants as made
use Rattle.floor_moves.proofs.PuttingBack.{some_same, stands_now}
use Rattle.floor_moves.specs.Taking.{HasRoomAt}

pub has_within : (i : ℕ) (P : Room → Type 0) (rooms : List Room) → HasRoomAt i P rooms → i < length rooms
has_within i P rooms has = slice_get_within rooms i has.room has.there

read_there : (i : ℕ) (P : Room → Type 0) (rooms : List Room) (r : Room) → HasRoomAt i P rooms → r ≡ get_or rooms i r → slice_get rooms i ≡ Some r
read_there i P rooms r has read = at_place rooms i r (has_within i P rooms has) read

pub read_has : (i : ℕ) (P : Room → Type 0) (rooms : List Room) (r : Room) → HasRoomAt i P rooms → r ≡ get_or rooms i r → P r
read_has i P rooms r has read = subst P (some_same has.room r (sym has.there ∙ read_there i P rooms r has read)) has.is

pub read_sound : (h : Hall) (i : ℕ) (P : Room → Type 0) (r : Room) → IsSound h → HasRoomAt i P h.rooms.items → r ≡ get_or h.rooms.items i r → IsRoomSound h r
read_sound h i P r sound has read = at_all (IsRoomSound h) h.rooms.items i r sound.rooms (read_there i P h.rooms.items r has read)

-- behind a call that touched one topic, or one channel
pub room_behind : (i : ℕ) (Does : Room → Room → Type 0) (r0 r1 : List Room) → AtRoom i Does r0 r1 → i < length r1
room_behind i Does r0 r1 x = slice_get_within r1 i x.after (ap (λ xs. slice_get xs i) x.is ∙ stands_now r0 i x.room x.after x.there)

pub range_behind : (i j : ℕ) (Does : Stall → Stall → Type 0) (r0 r1 : List Room) → AtStall i j Does r0 r1 → i < length r1
range_behind i j Does r0 r1 x = slice_get_within r1 i x.after (ap (λ xs. slice_get xs i) x.is ∙ stands_now r0 i x.room x.after x.there)

pub stall_range_behind : (i j : ℕ) (Does : Stall → Stall → Type 0) (r0 r1 : List Room) → AtStall i j Does r0 r1 → HoldsAt (λ (r : Room). j < length r.stalls.items) r1 i
stall_range_behind i j Does r0 r1 x d =
    subst (λ (r : Room). j < length r.stalls.items) (sym (get_or_from_slice_get r1 i x.after d (ap (λ xs. slice_get xs i) x.is ∙ stands_now r0 i x.room x.after x.there)))
    (slice_get_within x.after.stalls.items j x.does.after (ap (λ xs. slice_get xs j) x.does.stalls ∙ stands_now x.room.stalls.items j x.does.stall x.does.after x.does.there))

-- what isn't stuck needs no cause
abbrev is_stuck : Made → Bool
is_stuck made.Done = false
is_stuck made.Stuck = true
is_stuck made.Memory = false

pub done_rose : (before after : ℕ) → made.Done ≡ made.Stuck → Rose before after
done_rose before after e = absurd (false≢true (ap is_stuck e))

pub want_rose : (before after : ℕ) → made.Memory ≡ made.Stuck → Rose before after
want_rose before after e = absurd (false≢true (ap is_stuck e))
