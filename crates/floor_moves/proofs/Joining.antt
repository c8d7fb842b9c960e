-- Two changes of one channel, one after the other, are one change.
use Rattle.std.proofs.Common.{◌≡◌, ◌<◌, ℕ, List, set, get_or, length, Option, Some, None, sym, ap, subst, ◌∙◌, set-set}
use Rattle.std.specs.Prelude.{IfSome, slice_get}
use Rattle.std.specs.List.{HoldsAt}
use Rattle.std.proofs.lemmas.Option.{get_or_from_slice_get, slice_get_within}
use Rattle.nsq_outside.specs.Files.{Files}
use Rattle.disk_queue.specs.Seen.{Seen as Queue}
use Rattle.backlog.specs.Seen.{SameQueue}
use Rattle.floor_rooms.specs.declared.stall.Stall.{Stall}
use Rattle.floor_rooms.specs.declared.room.Room.{Room}
use Rattle.floor_rooms.specs.Changes.{OthersStay, AtStall}
use Rattle.floor_moves.specs.Due.{HasStallAt}
use Rattle.floor_moves.proofs.PuttingBack.{some_same, stands_now}

-- one change and then another
pub record Both (First Second : Stall → Stall → Type 0) (a c : Stall) : Type 0 where
  pub middle : Stall
  pub first : First a middle
  pub second : Second middle c

module _ (i j : ℕ) (First Second : Stall → Stall → Type 0) (r0 r1 r2 : List Room) (x : AtStall i j First r0 r1) (y : AtStall i j Second r1 r2) where
  pub same_room : y.room ≡ x.after
  same_room = some_same y.room x.after (sym y.there ∙ ap (λ xs. slice_get xs i) x.is ∙ stands_now r0 i x.room x.after x.there)

  pub same_stall : y.does.stall ≡ x.does.after
  same_stall =
      some_same y.does.stall x.does.after
      (sym y.does.there ∙ ap (λ (r : Room). slice_get r.stalls.items j) same_room ∙ ap (λ xs. slice_get xs j) x.does.stalls ∙ stands_now x.room.stalls.items j x.does.stall x.does.after x.does.there)

  abbrev pub join : AtStall i j (Both First Second) r0 r2
  join = record {
    room = x.room;
    after = y.after;
    there = x.there;
    is = y.is ∙ ap (λ xs. set xs i y.after) x.is ∙ set-set r0 i x.after y.after;
    does = record {
      stall = x.does.stall;
      after = y.does.after;
      there = x.does.there;
      is = y.does.is ∙ ap (λ (r : Room). record r { stalls = y.after.stalls }) (same_room ∙ x.does.is);
      stalls = y.does.stalls ∙ ap (λ xs. set xs j y.does.after) (ap (λ (r : Room). r.stalls.items) same_room ∙ x.does.stalls) ∙ set-set x.room.stalls.items j x.does.after y.does.after;
      does = record { middle = x.does.after; first = x.does.does; second = subst (λ s. Second s y.does.after) same_stall y.does.does };
    };
  }

-- files that two changes leave alone
pub others_on : (name : List ℕ) (f0 f1 f2 : Files) → OthersStay name f0 f1 → OthersStay name f1 f2 → OthersStay name f0 f2
others_on name f0 f1 f2 a b = λ n apart file own. b n apart file own ∙ a n apart file own

-- a queue of the same name
pub named_on : (q r : Option Queue) (name : List ℕ) → SameQueue q r → IfSome q (λ x. x.name ≡ name) → IfSome r (λ x. x.name ≡ name)
named_on None None name same is = tt
named_on None (Some r) name same is = absurd same
named_on (Some q) None name same is = absurd same
named_on (Some q) (Some r) name same is = same.name ∙ is

-- where a channel stands at a place, the place is one
pub room_range : (i j : ℕ) (P : Stall → Type 0) (rooms : List Room) → HasStallAt i j P rooms → i < length rooms
room_range i j P rooms has = slice_get_within rooms i has.room has.there

pub stall_range : (i j : ℕ) (P : Stall → Type 0) (rooms : List Room) → HasStallAt i j P rooms → HoldsAt (λ (r : Room). j < length r.stalls.items) rooms i
stall_range i j P rooms has d = subst (λ (r : Room). j < length r.stalls.items) (sym (get_or_from_slice_get rooms i has.room d has.there)) (slice_get_within has.room.stalls.items j has.has.stall has.has.there)

pub stall_holds : (i j : ℕ) (P : Stall → Type 0) (rooms : List Room) → HasStallAt i j P rooms → HoldsAt (λ (r : Room). HoldsAt P r.stalls.items j) rooms i
stall_holds i j P rooms has d =
    subst (λ (r : Room). HoldsAt P r.stalls.items j) (sym (get_or_from_slice_get rooms i has.room d has.there)) (λ e. subst P (sym (get_or_from_slice_get has.room.stalls.items j has.has.stall e has.has.there)) has.has.is)

-- so it is of the place where a channel changed
pub room_range_now : (i j : ℕ) (Does : Stall → Stall → Type 0) (r0 r1 : List Room) → AtStall i j Does r0 r1 → i < length r1
room_range_now i j Does r0 r1 x = slice_get_within r1 i x.after (ap (λ xs. slice_get xs i) x.is ∙ stands_now r0 i x.room x.after x.there)

pub stall_range_now : (i j : ℕ) (Does : Stall → Stall → Type 0) (r0 r1 : List Room) → AtStall i j Does r0 r1 → HoldsAt (λ (r : Room). j < length r.stalls.items) r1 i
stall_range_now i j Does r0 r1 x d =
    subst (λ (r : Room). j < length r.stalls.items) (sym (get_or_from_slice_get r1 i x.after d (ap (λ xs. slice_get xs i) x.is ∙ stands_now r0 i x.room x.after x.there)))
    (slice_get_within x.after.stalls.items j x.does.after (ap (λ xs. slice_get xs j) x.does.stalls ∙ stands_now x.room.stalls.items j x.does.stall x.does.after x.does.there))

-- what holds of the channel at a place holds of the one that was read there
pub stall_read : (i j : ℕ) (P : Stall → Type 0) (rooms : List Room) (room : Room) (stall : Stall) → room ≡ get_or rooms i room → stall ≡ get_or room.stalls.items j stall → HoldsAt (λ (r : Room). HoldsAt P r.stalls.items j) rooms i → P stall
stall_read i j P rooms room stall r s all = subst P (sym s) (subst (λ (x : Room). HoldsAt P x.stalls.items j) (sym r) (all room) stall)
