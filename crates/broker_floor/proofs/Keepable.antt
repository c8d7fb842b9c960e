-- The file of names can keep the durable topics of a sound hall.
use Rattle.std.proofs.Common.{◌≡◌, ◌≢◌, ℕ, ◌<◌, ◌+◌, Bool, true, false, not, cond, List, [], ◌∷◌, ◌++◌, length, map, get_or, refl, ap, sym, subst, ◌∙◌, arith, append_assoc, length-append}
use Rattle.std.specs.Prelude.{IfOk, IsTrue, Result, Ok, Err}
use Rattle.std.specs.List.{All, AllByRecursion, AllPairs, filter, fold}
use Rattle.std.proofs.lemmas.Bool.{false≢true}
use Rattle.std.proofs.lemmas.List.{length-map, get_or-map, append-nil, get_or_append_left}
use Rattle.std.proofs.Math.Seq.{get_or-append_seam}
use Rattle.std.proofs.lemmas.List.Elements.{All-head, All-tail, All-weaker}
use Rattle.std.proofs.lemmas.List.Kept.{AllPairs-filter}
use Rattle.nsq_base.specs.Name.{is_ephemeral}
use Rattle.nsq_base.specs.Names.{is_before, put_by, IsAscendingBy}
use Rattle.nsq_base.specs.declared.options.Options.{Options}
use Rattle.nsq_base.proofs.PutBy.{filter_all, filter_none}
use Rattle.path_image.specs.Data.{KeptTopic, KeptChannel, CanKeepChannel, CanKeepTopic, IsKept, durable, in_order}
use Rattle.path_image.proofs.NameLists.{before_once}
use Rattle.names_file.specs.Kept.{CanKeepAll}
use Rattle.floor_rooms.specs.declared.stall.Stall.{Stall}
use Rattle.floor_rooms.specs.declared.room.Room.{Room}
use Rattle.floor_rooms.specs.declared.hall.Hall.{Hall}
use Rattle.floor_rooms.specs.Rooms.{channel_name, topic_name}
use Rattle.floor_rooms.specs.Kept.{hall_kept, room_kept, stall_kept}
use Rattle.floor_rooms.specs.Sound.{IsRoomSound, IsSound, IsStallSound}

-- of two names where one comes before the other, neither is the other
apart : (a b : List ℕ) → is_before a b ≡ true → a ≢ b
apart a b before same = absurd (false≢true (sym (before_once a b before) ∙ subst (λ n. is_before n a ≡ true) same (subst (λ n. is_before a n ≡ true) (sym same) before)))

module _ {X : Type 0} (key : X → List ℕ) where
  -- an item behind all others is put at the end
  put_last : (front : List X) (x : X) → All (λ y. is_before (key y) (key x) ≡ true) front → put_by key front x ≡ front ++ x ∷ []
  put_last front x before =
      let none : All (λ y. is_before (key x) (key y) ≡ false) front = All-weaker (λ y. is_before (key y) (key x) ≡ true) (λ y. is_before (key x) (key y) ≡ false) (λ y b. before_once (key y) (key x) b) front before in
      rw (filter_all (λ y. is_before (key y) (key x)) front before, filter_none (λ y. is_before (key x) (key y)) front none) refl

  -- of a list in order, those before an item
  before_all : (front : List X) (x : X) (xs : List X) → IsAscendingBy key (front ++ x ∷ xs) → All (λ y. is_before (key y) (key x) ≡ true) front
  before_all front x xs up k d low =
      let whole = front ++ x ∷ xs in
      subst (λ y. is_before (key y) (key x) ≡ true) (get_or_append_left front (x ∷ xs) d k low)
      (subst (λ y. is_before (key (get_or whole k d)) (key y) ≡ true) (get_or-append_seam front x xs d) (up k (length front) d low (omega (arith, length-append front (x ∷ xs)))))

  -- items in order, put one after another, are these items
  ordered_from : (front xs : List X) → IsAscendingBy key (front ++ xs) → fold (put_by key) front xs ≡ front ++ xs
  ordered_from front [] up = sym (append-nil front)
  ordered_from front (x ∷ xs) up =
      ap (λ (ys : List X). fold (put_by key) ys xs) (put_last front x (before_all front x xs up))
      ∙ ordered_from (front ++ x ∷ []) xs (subst (IsAscendingBy key) (sym (append_assoc front (x ∷ []) xs)) up)
      ∙ append_assoc front (x ∷ []) xs

  -- items in order, none of which has an ephemeral name, are kept as they are
  pub ordered_kept : (xs : List X) → IsAscendingBy key xs → durable key xs ≡ xs → IsKept key xs xs
  ordered_kept xs up all = record {
    once = subst (AllPairs (λ a b. key a ≢ key b)) (sym all) (λ i j d low high. apart (key (get_or xs i d)) (key (get_or xs j d)) (up i j d low high));
    order = sym (ap (in_order key) all ∙ ordered_from [] xs up);
  }

-- items with names, and what is kept of them under the same names
module _ {X Y : Type 0} (of : X → List ℕ) (key : Y → List ℕ) (f : X → Y) (named : (x : X) → key (f x) ≡ of x) where
  durable_choice : (b : Bool) (x : X) (rest : List X) → not (is_ephemeral (of x)) ≡ b → durable key (map f rest) ≡ map f rest → durable key (map f (cond b (x ∷ rest) rest)) ≡ map f (cond b (x ∷ rest) rest)
  durable_choice true x rest is same = rw (ap (λ n. not (is_ephemeral n)) (named x) ∙ is) (ap (λ ys. f x ∷ ys) same)
  durable_choice false x rest is same = same

  all_durable : (xs : List X) → durable key (map f (durable of xs)) ≡ map f (durable of xs)
  all_durable [] = refl
  all_durable (x ∷ xs) = durable_choice (not (is_ephemeral (of x))) x (durable of xs) refl (all_durable xs)

  order_from : (xs : List X) → IsAscendingBy of xs → IsAscendingBy key (map f xs)
  order_from [] up i j d low high = absurd (omega (arith, high))
  order_from (x ∷ xs) up i j d low high =
      let whole = x ∷ xs in
      let below : j < length whole = omega (arith, length-map whole f, high) in
      rw (get_or-map f whole i x d (omega (arith, low, below)), get_or-map f whole j x d below, named (get_or whole i x), named (get_or whole j x)) (up i j x low below)

  pub items_kept : (xs : List X) → IsAscendingBy of xs → IsKept key (map f (durable of xs)) (map f (durable of xs))
  items_kept xs up =
      ordered_kept key (map f (durable of xs)) (order_from (durable of xs) (AllPairs-filter (λ a b. IsTrue (is_before (of a) (of b))) (λ x. not (is_ephemeral (of x))) xs up)) (all_durable xs)

-- a choice between an item and none
module _ {X Y : Type 0} (f : X → Y) (P : Y → Type 0) where
  choice_can : (b : Bool) (x : X) (rest : List X) → P (f x) → AllByRecursion P (map f rest) → AllByRecursion P (map f (cond b (x ∷ rest) rest))
  choice_can true x rest p ps = (p, ps)
  choice_can false x rest p ps = ps

module _ (options : Options) (topic : List ℕ) (quiet unsaved : ℕ) where
  stalls_can : (stalls : List Stall) → All (IsStallSound options topic quiet unsaved) stalls → AllByRecursion CanKeepChannel (map stall_kept (durable channel_name stalls))
  stalls_can [] all = tt
  stalls_can (s ∷ stalls) all =
      choice_can stall_kept CanKeepChannel (not (is_ephemeral (channel_name s))) s (durable channel_name stalls)
      (record { named = (All-head (IsStallSound options topic quiet unsaved) s stalls all).named })
      (stalls_can stalls (All-tail (IsStallSound options topic quiet unsaved) s stalls all))

module _ (h : Hall) where
  room_can : (r : Room) → IsRoomSound h r → CanKeepTopic (room_kept r)
  room_can r sound = record {
    named = sound.named;
    channels = stalls_can h.options (topic_name r) h.quiet_until h.unsaved_from r.stalls.items sound.stalls;
    keeps = items_kept channel_name (λ (c : KeptChannel). c.name) stall_kept (λ s. refl) r.stalls.items sound.order;
  }

  rooms_can : (rooms : List Room) → All (IsRoomSound h) rooms → AllByRecursion CanKeepTopic (map room_kept (durable topic_name rooms))
  rooms_can [] all = tt
  rooms_can (r ∷ rooms) all =
      choice_can room_kept CanKeepTopic (not (is_ephemeral (topic_name r))) r (durable topic_name rooms)
      (room_can r (All-head (IsRoomSound h) r rooms all)) (rooms_can rooms (All-tail (IsRoomSound h) r rooms all))

  pub hall_can : IsSound h → CanKeepAll (hall_kept h)
  hall_can sound = record {
    topics = rooms_can h.rooms.items sound.rooms;
    keeps = items_kept topic_name (λ (t : KeptTopic). t.name) room_kept (λ r. refl) h.rooms.items sound.room_order;
  }

-- so it can keep what is told of them
pub kept_can : {T E : Type 0} (h : Hall) (result : Result T E) (items : T → List KeptTopic) → CanKeepAll (hall_kept h) → IfOk result (λ kept. items kept ≡ hall_kept h) → IfOk result (λ kept. CanKeepAll (items kept))
kept_can h (Ok kept) items can is = subst CanKeepAll (sym is) can
kept_can h (Err e) items can is = is
