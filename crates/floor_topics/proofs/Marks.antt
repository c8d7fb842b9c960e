-- A topic that comes into a hall with a mark, and what stands at a place that changed.
use Rattle.std.proofs.Common.{◌≡◌, ◌<◌, ℕ, suc, zero, set, Bool, true, false, if◌then◌else◌, List, [], ◌∷◌, length, Option, Some, None, refl, sym, ap, subst, ◌∙◌}
use Rattle.std.specs.Prelude.{HoldsAt, IfSome, IsSome, option_and_then}
use Rattle.std.specs.List.{slice_get}
use Rattle.std.specs.Str.{bytes_eq}
use Rattle.std.proofs.lemmas.Option.{get_or_from_slice_get, slice_get_within}
use Rattle.broker_history.proofs.Lists.{exact_bytes, find_put}
use Rattle.floor_rooms.specs.declared.stall.Stall.{Stall}
use Rattle.floor_rooms.specs.declared.room.Room.{Room}
use Rattle.floor_rooms.specs.Rooms.{topic_name, put_room, room_in, stall_in}
use Rattle.floor_rooms.specs.Changes.{AtRoom, AtStall, KeepsSince, SinceStays, marked, room_since, stall_since}
use Rattle.floor_rooms.proofs.Dating.{since_same}
use Rattle.floor_rooms.proofs.Marked.{ListsRoom, MarksRoom}

pub some_same : {X : Type 0} (x y : X) → Some x ≡ Some y → x ≡ y
some_same x y e = cc

-- what was put at a place stands there
pub stands_now : {X : Type 0} (xs : List X) (i : ℕ) (x y : X) → slice_get xs i ≡ Some x → slice_get (set xs i y) i ≡ Some y
stands_now [] i x y at = absurd (let no : ⊥ = cc in no)
stands_now (z ∷ xs) zero x y at = refl
stands_now (z ∷ xs) (suc i) x y at = stands_now xs i x y at

pub after_at : (i : ℕ) (Does : Room → Room → Type 0) (xs ys : List Room) (a : AtRoom i Does xs ys) (r : Room) → slice_get ys i ≡ Some r → r ≡ a.after
after_at i Does xs ys a r at = some_same r a.after (sym at ∙ ap (λ rs. slice_get rs i) a.is ∙ stands_now xs i a.room a.after a.there)

-- places stand that something changed at
pub range_behind : (i : ℕ) (Does : Room → Room → Type 0) (xs ys : List Room) → AtRoom i Does xs ys → i < length ys
range_behind i Does xs ys x = slice_get_within ys i x.after (ap (λ rs. slice_get rs i) x.is ∙ stands_now xs i x.room x.after x.there)

pub stall_range_behind : (i j : ℕ) (Does : Stall → Stall → Type 0) (xs ys : List Room) → AtStall i j Does xs ys → HoldsAt (λ (r : Room). j < length r.stalls.items) ys i
stall_range_behind i j Does xs ys x d =
    subst (λ (r : Room). j < length r.stalls.items) (sym (get_or_from_slice_get ys i x.after d (ap (λ rs. slice_get rs i) x.is ∙ stands_now xs i x.room x.after x.there)))
    (slice_get_within x.after.stalls.items j x.does.after (ap (λ ss. slice_get ss j) x.does.stalls ∙ stands_now x.room.stalls.items j x.does.stall x.does.after x.does.there))

pub marked_some : (since : Option ℕ) (at : ℕ) → IsSome (marked since at)
marked_some None at = refl
marked_some (Some m) at = refl

-- a topic that was marked, and then listed
module _ (i at : ℕ) (pending pending' : List (List ℕ)) (xs ys zs : List Room) (mark : AtRoom i (MarksRoom at) xs ys) (list : AtRoom i (ListsRoom pending pending') ys zs) (r : Room) (there : slice_get zs i ≡ Some r) where
  listed_was : r ≡ record (mark.after) { listed = true }
  listed_was = after_at i (ListsRoom pending pending') ys zs list r there ∙ list.does.0 ∙ ap (λ (x : Room). record x { listed = true }) (after_at i (MarksRoom at) xs ys mark list.room list.there)

  pub is_listed : r.listed ≡ true
  is_listed = ap (λ (x : Room). x.listed) listed_was

  pub is_marked : IsSome r.since
  is_marked = subst IsSome (sym (ap (λ (x : Room). x.since) listed_was ∙ ap (λ (x : Room). x.since) mark.does)) (marked_some mark.room.since at)

  pub is_named : topic_name r ≡ topic_name mark.room
  is_named = ap topic_name listed_was ∙ ap topic_name mark.does

-- a topic that comes with a mark of this moment, or without one, and with no channel
since_one : (at : ℕ) (a : Room) (o : Option Room) (b : Bool) → (b ≡ true → SinceStays at (option_and_then (λ (r : Room). r.since) o) a.since) → IfSome (if b then Some a else o) (λ r. SinceStays at (option_and_then (λ (r : Room). r.since) o) r.since)
since_one at a o true f = f refl
since_one at a None false f = tt
since_one at a (Some r) false f = since_same at r.since

since_of : (at : ℕ) (o : Option Stall) → IfSome o (λ s. SinceStays at (option_and_then (λ (x : Stall). x.since) o) s.since)
since_of at None = tt
since_of at (Some s) = since_same at s.since

since_within : (at : ℕ) (within : Room → Option Stall) (a : Room) (o : Option Room) (b : Bool) → (b ≡ true → within a ≡ None) → IfSome (option_and_then within (if b then Some a else o)) (λ s. SinceStays at (option_and_then (λ (x : Stall). x.since) (option_and_then within o)) s.since)
since_within at within a o true f = subst (λ u. IfSome u (λ s. SinceStays at (option_and_then (λ (x : Stall). x.since) (option_and_then within o)) s.since)) (sym (f refl)) tt
since_within at within a None false f = tt
since_within at within a (Some r) false f = since_of at (within r)

pub since_comes : (at : ℕ) (xs ys : List Room) (a : Room) → ys ≡ put_room xs a → room_in xs (topic_name a) ≡ None → a.since ≡ Some at → a.stalls.items ≡ [] → KeepsSince at xs ys
since_comes at xs ys a put none since stalls =
    let found : (topic : List ℕ) → room_in ys topic ≡ (if bytes_eq topic (topic_name a) then Some a else room_in xs topic) = λ topic. ap (λ rs. room_in rs topic) put ∙ find_put topic_name xs a topic in
    let room : SinceStays at (room_since xs (topic_name a)) a.since =
    subst (λ (o : Option Room). SinceStays at (option_and_then (λ (r : Room). r.since) o) a.since) (sym none) (subst (SinceStays at None) (sym since) refl) in
    record {
      topics = λ topic.
          subst (λ (o : Option Room). IfSome o (λ r. SinceStays at (room_since xs topic) r.since)) (sym (found topic))
          (since_one at a (room_in xs topic) (bytes_eq topic (topic_name a)) (λ e. subst (λ n. SinceStays at (room_since xs n) a.since) (sym (exact_bytes topic (topic_name a) e)) room));
      channels = λ topic channel.
          let within : Room → Option Stall = λ r. stall_in r.stalls.items channel in
          subst (λ (o : Option Room). IfSome (option_and_then within o) (λ s. SinceStays at (stall_since xs topic channel) s.since)) (sym (found topic))
          (since_within at within a (room_in xs topic) (bytes_eq topic (topic_name a)) (λ e. ap (λ ss. stall_in ss channel) stalls));
    }
