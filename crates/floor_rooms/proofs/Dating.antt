-- Since when queues may be unsaved, as topics and channels change, come and go: no mark begins anew.
use Rattle.std.proofs.Common.{◌≡◌, ℕ, suc, zero, set, Bool, true, false, if◌then◌else◌, List, [], ◌∷◌, Option, Some, None, refl, sym, ap, subst, ◌∙◌}
use Rattle.std.specs.Prelude.{IfSome, IsSome, option_and_then}
use Rattle.std.specs.List.{All, find, slice_get}
use Rattle.std.specs.Str.{bytes_eq}
use Rattle.std.proofs.lemmas.Bool.{false≢true}
use Rattle.std.proofs.lemmas.List.Elements.{All-head, All-tail}
use Rattle.path_image.specs.Found.{Pairwise}
use Rattle.broker_history.proofs.Lists.{exact_bytes, find_gone, find_put}
use Rattle.channel_core.specs.declared.about.About.{About}
use Rattle.floor_laws.proofs.Pairs.{IfBoth, pairs_found}
use Rattle.floor_rooms.specs.declared.stall.Stall.{Stall}
use Rattle.floor_rooms.specs.declared.room.Room.{Room}
use Rattle.floor_rooms.specs.Rooms.{channel_name, topic_name, room_in, stall_in, stall_at, put_room, put_stall, without_room, without_stall}
use Rattle.floor_rooms.specs.Changes.{AtRoom, AtStall, InRoom, KeepsRoom, KeepsRooms, KeepsSince, KeepsStall, SinceStays, TouchesRoom, TouchesStall, marked, room_since, stall_since}
use Rattle.floor_rooms.specs.Made.{SameStalls}
use Rattle.floor_rooms.proofs.Marked.{ListsRoom, MarksRoom, MarksStall}

-- marks
pub since_same : (at : ℕ) (o : Option ℕ) → SinceStays at o o
since_same at None = tt
since_same at (Some m) = refl

pub since_equal : (at : ℕ) (o u : Option ℕ) → u ≡ o → SinceStays at o u
since_equal at o u e = subst (SinceStays at o) (sym e) (since_same at o)

pub since_marked : (at : ℕ) (o : Option ℕ) → SinceStays at o (marked o at)
since_marked at None = refl
since_marked at (Some m) = refl

-- one that stays, and then stays, stays
pub since_then : (at : ℕ) (o u v : Option ℕ) → SinceStays at o u → SinceStays at u v → SinceStays at o v
since_then at None None v e f = f
since_then at None (Some n) v e f = subst (λ w. IfSome w (λ m. m ≡ at)) (sym f) e
since_then at (Some m) u v e f = subst (λ w. SinceStays at w v) e f

-- pairs of one list with itself
module _ {X : Type 0} (R : X → X → Type 0) where
  pub pairs_same : ((x : X) → R x x) → (xs : List X) → Pairwise R xs xs
  pairs_same f [] = tt
  pairs_same f (x ∷ xs) = (f x, pairs_same f xs)

  pub pairs_then : ((x y z : X) → R x y → R y z → R x z) → (xs ys zs : List X) → Pairwise R xs ys → Pairwise R ys zs → Pairwise R xs zs
  pairs_then f [] [] [] p q = tt
  pairs_then f [] [] (z ∷ zs) p q = absurd q
  pairs_then f [] (y ∷ ys) zs p q = absurd p
  pairs_then f (x ∷ xs) [] zs p q = absurd p
  pairs_then f (x ∷ xs) (y ∷ ys) [] p q = absurd q
  pairs_then f (x ∷ xs) (y ∷ ys) (z ∷ zs) p q = (f x y z p.0 q.0, pairs_then f xs ys zs p.1 q.1)

  -- and with another in the place of one
  pub pairs_one : ((x : X) → R x x) → (xs : List X) (i : ℕ) (x x' : X) → slice_get xs i ≡ Some x → R x x' → Pairwise R xs (set xs i x')
  pairs_one f [] i x x' at r = absurd cc
  pairs_one f (z ∷ xs) zero x x' at r = let it : z ≡ x = cc in (subst (λ a. R a x') (sym it) r, pairs_same f xs)
  pairs_one f (z ∷ xs) (suc i) x x' at r = (f z, pairs_one f xs i x x' at r)

pub pairs_weaker : {X Y : Type 0} (R S : X → Y → Type 0) → ((x : X) (y : Y) → R x y → S x y) → (xs : List X) (ys : List Y) → Pairwise R xs ys → Pairwise S xs ys
pairs_weaker R S f [] [] p = tt
pairs_weaker R S f [] (y ∷ ys) p = absurd p
pairs_weaker R S f (x ∷ xs) [] p = absurd p
pairs_weaker R S f (x ∷ xs) (y ∷ ys) p = (f x y p.0, pairs_weaker R S f xs ys p.1)

-- what is found of a list of which all are so is so
found_is : {X : Type 0} (P : X → Type 0) (x : X) (o : Option X) (b : Bool) → P x → IfSome o P → IfSome (if b then Some x else o) P
found_is P x o true h g = h
found_is P x o false h g = g

pub if_found : {X : Type 0} (P : X → Type 0) (p : X → Bool) (xs : List X) → All P xs → IfSome (find p xs) P
if_found P p [] all = tt
if_found P p (x ∷ xs) all = found_is P x (find p xs) (p x) (All-head P x xs all) (if_found P p xs (All-tail P x xs all))

-- what changes leave of a channel
pub keeps_stall_same : (at : ℕ) (s : Stall) → KeepsStall at s s
keeps_stall_same at s = record { about = refl; paused = refl; members = refl; since = since_same at s.since }

pub keeps_stall_then : (at : ℕ) (a b c : Stall) → KeepsStall at a b → KeepsStall at b c → KeepsStall at a c
keeps_stall_then at a b c x y = record { about = y.about ∙ x.about; paused = y.paused ∙ x.paused; members = y.members ∙ x.members; since = since_then at a.since b.since c.since x.since y.since }

pub keeps_stall_touched : (at : ℕ) (a b : Stall) → TouchesStall a b → b.channel.paused ≡ a.channel.paused → KeepsStall at a b
keeps_stall_touched at a b t paused = record { about = t.about; paused = paused; members = t.members; since = since_equal at a.since b.since t.since }

-- and of a topic
pub keeps_room_same : (at : ℕ) (r : Room) → KeepsRoom at r r
keeps_room_same at r = record { name = refl; paused = refl; since = since_same at r.since; stalls = pairs_same (KeepsStall at) (keeps_stall_same at) r.stalls.items }

pub keeps_room_then : (at : ℕ) (a b c : Room) → KeepsRoom at a b → KeepsRoom at b c → KeepsRoom at a c
keeps_room_then at a b c x y = record {
  name = y.name ∙ x.name;
  paused = y.paused ∙ x.paused;
  since = since_then at a.since b.since c.since x.since y.since;
  stalls = pairs_then (KeepsStall at) (keeps_stall_then at) a.stalls.items b.stalls.items c.stalls.items x.stalls y.stalls;
}

pub keeps_room_alike : (at : ℕ) (a b : Room) → topic_name b ≡ topic_name a → b.queue.paused ≡ a.queue.paused → SinceStays at a.since b.since → b.stalls.items ≡ a.stalls.items → KeepsRoom at a b
keeps_room_alike at a b name paused since stalls = record {
  name = name;
  paused = paused;
  since = since;
  stalls = subst (Pairwise (KeepsStall at) a.stalls.items) (sym stalls) (pairs_same (KeepsStall at) (keeps_stall_same at) a.stalls.items);
}

pub keeps_room_touched : (at : ℕ) (a b : Room) → TouchesRoom a b → b.queue.paused ≡ a.queue.paused → KeepsRoom at a b
keeps_room_touched at a b t paused = keeps_room_alike at a b t.name paused (since_equal at a.since b.since t.since) t.stalls

-- and of all topics
pub keeps_same : (at : ℕ) (rooms : List Room) → KeepsRooms at rooms rooms
keeps_same at rooms = pairs_same (KeepsRoom at) (keeps_room_same at) rooms

pub keeps_equal : (at : ℕ) (old new : List Room) → new ≡ old → KeepsRooms at old new
keeps_equal at old new e = subst (KeepsRooms at old) (sym e) (keeps_same at old)

pub keeps_then : (at : ℕ) (a b c : List Room) → KeepsRooms at a b → KeepsRooms at b c → KeepsRooms at a c
keeps_then at a b c x y = pairs_then (KeepsRoom at) (keeps_room_then at) a b c x y

-- where one topic changed, or one of its channels
pub keeps_at_room : (at i : ℕ) (Does : Room → Room → Type 0) (old new : List Room) → (a : AtRoom i Does old new) → KeepsRoom at a.room a.after → KeepsRooms at old new
keeps_at_room at i Does old new a k = subst (KeepsRooms at old) (sym a.is) (pairs_one (KeepsRoom at) (keeps_room_same at) old i a.room a.after a.there k)

pub keeps_at_stall : (at i j : ℕ) (Does : Stall → Stall → Type 0) (old new : List Room) → (a : AtStall i j Does old new) → KeepsStall at a.does.stall a.does.after → KeepsRooms at old new
keeps_at_stall at i j Does old new a k =
    keeps_at_room at i (InRoom j Does) old new a (record {
      name = ap topic_name a.does.is;
      paused = ap (λ (r : Room). r.queue.paused) a.does.is;
      since = since_equal at a.room.since a.after.since (ap (λ (r : Room). r.since) a.does.is);
      stalls = subst (Pairwise (KeepsStall at) a.room.stalls.items) (sym a.does.stalls) (pairs_one (KeepsStall at) (keeps_stall_same at) a.room.stalls.items j a.does.stall a.does.after a.does.there k);
    })

-- a mark, a topic that is listed, and room for one more channel leave them
pub keeps_marks_room : (at i : ℕ) (old new : List Room) → AtRoom i (MarksRoom at) old new → KeepsRooms at old new
keeps_marks_room at i old new a =
    keeps_at_room at i (MarksRoom at) old new a
    (keeps_room_alike at a.room a.after (ap topic_name a.does) (ap (λ (r : Room). r.queue.paused) a.does) (subst (SinceStays at a.room.since) (sym (ap (λ (r : Room). r.since) a.does)) (since_marked at a.room.since)) (ap (λ (r : Room). r.stalls.items) a.does))

pub keeps_marks_stall : (at i j : ℕ) (old new : List Room) → AtStall i j (MarksStall at) old new → KeepsRooms at old new
keeps_marks_stall at i j old new a =
    let s : Stall = a.does.stall in
    let t : Stall = a.does.after in
    keeps_at_stall at i j (MarksStall at) old new a (record {
      about = ap (λ (x : Stall). x.channel.about) a.does.does;
      paused = ap (λ (x : Stall). x.channel.paused) a.does.does;
      members = ap (λ (x : Stall). x.members.items) a.does.does;
      since = subst (SinceStays at s.since) (sym (ap (λ (x : Stall). x.since) a.does.does)) (since_marked at s.since);
    })

pub keeps_lists : (at i : ℕ) (pending pending' : List (List ℕ)) (old new : List Room) → AtRoom i (ListsRoom pending pending') old new → KeepsRooms at old new
keeps_lists at i pending pending' old new a =
    keeps_at_room at i (ListsRoom pending pending') old new a
    (keeps_room_alike at a.room a.after (ap topic_name a.does.0) (ap (λ (r : Room). r.queue.paused) a.does.0) (since_equal at a.room.since a.after.since (ap (λ (r : Room). r.since) a.does.0)) (ap (λ (r : Room). r.stalls.items) a.does.0))

pub keeps_reserved : (at i : ℕ) (old new : List Room) → AtRoom i SameStalls old new → KeepsRooms at old new
keeps_reserved at i old new a =
    keeps_at_room at i SameStalls old new a
    (keeps_room_alike at a.room a.after (ap topic_name a.does.is) (ap (λ (r : Room). r.queue.paused) a.does.is) (since_equal at a.room.since a.after.since (ap (λ (r : Room). r.since) a.does.is)) a.does.stalls)

-- what is left of a topic's marks, whatever its channels become
pub record LeavesMarks (at : ℕ) (old new : Room) : Type 0 where
  pub name : topic_name new ≡ topic_name old
  pub since : SinceStays at old.since new.since
  pub channels : (channel : List ℕ) → IfSome (stall_in new.stalls.items channel) (λ s. SinceStays at (option_and_then (λ (x : Stall). x.since) (stall_in old.stalls.items channel)) s.since)

both_since : (at : ℕ) (o u : Option Stall) → IfBoth (KeepsStall at) o u → IfSome u (λ s. SinceStays at (option_and_then (λ (x : Stall). x.since) o) s.since)
both_since at None None h = tt
both_since at None (Some y) h = absurd h
both_since at (Some x) None h = tt
both_since at (Some x) (Some y) h = h.since

stall_both : (at : ℕ) (xs ys : List Stall) (channel : List ℕ) → Pairwise (KeepsStall at) xs ys → IfBoth (KeepsStall at) (stall_in xs channel) (stall_in ys channel)
stall_both at xs ys channel h =
    pairs_found (KeepsStall at) (λ x. bytes_eq channel (channel_name x)) (λ x. bytes_eq channel (channel_name x)) xs ys (λ a b k. ap (λ (o : About). bytes_eq channel o.name) (sym k.about)) h

room_both : (at : ℕ) (old new : List Room) (topic : List ℕ) → KeepsRooms at old new → IfBoth (KeepsRoom at) (room_in old topic) (room_in new topic)
room_both at old new topic h = pairs_found (KeepsRoom at) (λ r. bytes_eq topic (topic_name r)) (λ r. bytes_eq topic (topic_name r)) old new (λ a b k. ap (bytes_eq topic) (sym k.name)) h

pub leaves_kept : (at : ℕ) (a b : Room) → KeepsRoom at a b → LeavesMarks at a b
leaves_kept at a b k = record {
  name = k.name;
  since = k.since;
  channels = λ channel. both_since at (stall_in a.stalls.items channel) (stall_in b.stalls.items channel) (stall_both at a.stalls.items b.stalls.items channel k.stalls);
}

same_since : (at : ℕ) (o : Option Stall) → IfSome o (λ s. SinceStays at (option_and_then (λ (x : Stall). x.since) o) s.since)
same_since at None = tt
same_since at (Some s) = since_same at s.since

-- a channel that is put in without a mark, where there was none of its name
put_since : (at : ℕ) (s : Stall) (o : Option Stall) (b : Bool) → s.since ≡ None → (b ≡ true → o ≡ None) → IfSome (if b then Some s else o) (λ x. SinceStays at (option_and_then (λ (x : Stall). x.since) o) x.since)
put_since at s o true unmarked none =
    subst (λ (u : Option Stall). SinceStays at (option_and_then (λ (x : Stall). x.since) u) s.since) (sym (none refl)) (subst (SinceStays at None) (sym unmarked) tt)
put_since at s o false unmarked none = same_since at o

-- one that goes
gone_since : (at : ℕ) (o : Option Stall) (b : Bool) → IfSome (if b then None else o) (λ x. SinceStays at (option_and_then (λ (x : Stall). x.since) o) x.since)
gone_since at o true = tt
gone_since at o false = same_since at o

pub leaves_put_stall : (at : ℕ) (a b : Room) (s : Stall) → topic_name b ≡ topic_name a → b.since ≡ a.since → b.stalls.items ≡ put_stall a.stalls.items s → s.since ≡ None → stall_in a.stalls.items (channel_name s) ≡ None → LeavesMarks at a b
leaves_put_stall at a b s name since stalls unmarked none = record {
  name = name;
  since = since_equal at a.since b.since since;
  channels = λ channel.
      subst (λ (o : Option Stall). IfSome o (λ x. SinceStays at (option_and_then (λ (x : Stall). x.since) (stall_in a.stalls.items channel)) x.since)) (sym (ap (λ xs. stall_in xs channel) stalls ∙ find_put channel_name a.stalls.items s channel))
      (put_since at s (stall_in a.stalls.items channel) (bytes_eq channel (channel_name s)) unmarked (λ e. ap (stall_in a.stalls.items) (exact_bytes channel (channel_name s) e) ∙ none));
}

pub leaves_without_stall : (at : ℕ) (a b : Room) (name : List ℕ) → topic_name b ≡ topic_name a → SinceStays at a.since b.since → b.stalls.items ≡ without_stall a.stalls.items name → LeavesMarks at a b
leaves_without_stall at a b name called since stalls = record {
  name = called;
  since = since;
  channels = λ channel.
      subst (λ (o : Option Stall). IfSome o (λ x. SinceStays at (option_and_then (λ (x : Stall). x.since) (stall_in a.stalls.items channel)) x.since)) (sym (ap (λ xs. stall_in xs channel) stalls ∙ find_gone channel_name a.stalls.items name channel))
      (gone_since at (stall_in a.stalls.items channel) (bytes_eq name channel));
}

-- so no mark begins anew where each topic leaves its own
marks_room : (at : ℕ) (o u : Option Room) → IfBoth (LeavesMarks at) o u → IfSome u (λ r. SinceStays at (option_and_then (λ (x : Room). x.since) o) r.since)
marks_room at None None h = tt
marks_room at None (Some y) h = absurd h
marks_room at (Some x) None h = tt
marks_room at (Some x) (Some y) h = h.since

marks_stall : (at : ℕ) (channel : List ℕ) (o u : Option Room) → IfBoth (LeavesMarks at) o u
    → IfSome (option_and_then (λ (r : Room). stall_in r.stalls.items channel) u) (λ s. SinceStays at (option_and_then (λ (x : Stall). x.since) (option_and_then (λ (r : Room). stall_in r.stalls.items channel) o)) s.since)
marks_stall at channel None None h = tt
marks_stall at channel None (Some y) h = absurd h
marks_stall at channel (Some x) None h = tt
marks_stall at channel (Some x) (Some y) h = h.channels channel

leaves_both : (at : ℕ) (old new : List Room) (topic : List ℕ) → Pairwise (LeavesMarks at) old new → IfBoth (LeavesMarks at) (room_in old topic) (room_in new topic)
leaves_both at old new topic h = pairs_found (LeavesMarks at) (λ r. bytes_eq topic (topic_name r)) (λ r. bytes_eq topic (topic_name r)) old new (λ a b k. ap (bytes_eq topic) (sym k.name)) h

pub since_left : (at : ℕ) (old new : List Room) → Pairwise (LeavesMarks at) old new → KeepsSince at old new
since_left at old new h = record {
  topics = λ topic. marks_room at (room_in old topic) (room_in new topic) (leaves_both at old new topic h);
  channels = λ topic channel. marks_stall at channel (room_in old topic) (room_in new topic) (leaves_both at old new topic h);
}

pub since_kept : (at : ℕ) (old new : List Room) → KeepsRooms at old new → KeepsSince at old new
since_kept at old new h = since_left at old new (pairs_weaker (KeepsRoom at) (LeavesMarks at) (leaves_kept at) old new h)

pub since_at_room : (at i : ℕ) (Does : Room → Room → Type 0) (old new : List Room) → (a : AtRoom i Does old new) → LeavesMarks at a.room a.after → KeepsSince at old new
since_at_room at i Does old new a k =
    since_left at old new (subst (Pairwise (LeavesMarks at) old) (sym a.is) (pairs_one (LeavesMarks at) (λ r. leaves_kept at r r (keeps_room_same at r)) old i a.room a.after a.there k))

-- a topic that is put in without a mark, where there was none of its name, and one that goes
put_room_since : (at : ℕ) (r : Room) (o : Option Room) (b : Bool) → r.since ≡ None → (b ≡ true → o ≡ None) → IfSome (if b then Some r else o) (λ x. SinceStays at (option_and_then (λ (x : Room). x.since) o) x.since)
put_room_since at r o true unmarked none = subst (λ (u : Option Room). SinceStays at (option_and_then (λ (x : Room). x.since) u) r.since) (sym (none refl)) (subst (SinceStays at None) (sym unmarked) tt)
put_room_since at r None false unmarked none = tt
put_room_since at r (Some x) false unmarked none = since_same at x.since

unmarked_one : (at : ℕ) (o : Option Stall) → IfSome o (λ s. s.since ≡ None) → IfSome o (λ s. SinceStays at None s.since)
unmarked_one at None h = tt
unmarked_one at (Some s) h = subst (SinceStays at None) (sym h) tt

put_stall_since : (at : ℕ) (channel : List ℕ) (r : Room) (o : Option Room) (b : Bool) → IfSome (stall_in r.stalls.items channel) (λ s. s.since ≡ None) → (b ≡ true → o ≡ None)
    → IfSome (option_and_then (λ (x : Room). stall_in x.stalls.items channel) (if b then Some r else o)) (λ s. SinceStays at (option_and_then (λ (x : Stall). x.since) (option_and_then (λ (x : Room). stall_in x.stalls.items channel) o)) s.since)
put_stall_since at channel r o true unmarked none =
    subst (λ (u : Option Room). IfSome (stall_in r.stalls.items channel) (λ s. SinceStays at (option_and_then (λ (x : Stall). x.since) (option_and_then (λ (x : Room). stall_in x.stalls.items channel) u)) s.since)) (sym (none refl))
    (unmarked_one at (stall_in r.stalls.items channel) unmarked)
put_stall_since at channel r None false unmarked none = tt
put_stall_since at channel r (Some x) false unmarked none = same_since at (stall_in x.stalls.items channel)

pub since_put : (at : ℕ) (old new : List Room) (r : Room) → new ≡ put_room old r → room_in old (topic_name r) ≡ None → r.since ≡ None → ((channel : List ℕ) → IfSome (stall_in r.stalls.items channel) (λ s. s.since ≡ None)) → KeepsSince at old new
since_put at old new r is none unmarked stalls =
    let found : (topic : List ℕ) → room_in new topic ≡ (if bytes_eq topic (topic_name r) then Some r else room_in old topic) = λ topic. ap (λ xs. room_in xs topic) is ∙ find_put topic_name old r topic in
    let absent : (topic : List ℕ) → bytes_eq topic (topic_name r) ≡ true → room_in old topic ≡ None = λ topic e. ap (room_in old) (exact_bytes topic (topic_name r) e) ∙ none in
    record {
      topics = λ topic. subst (λ (o : Option Room). IfSome o (λ x. SinceStays at (room_since old topic) x.since)) (sym (found topic)) (put_room_since at r (room_in old topic) (bytes_eq topic (topic_name r)) unmarked (absent topic));
      channels = λ topic channel.
          subst (λ (o : Option Room). IfSome (option_and_then (λ (x : Room). stall_in x.stalls.items channel) o) (λ s. SinceStays at (stall_since old topic channel) s.since)) (sym (found topic))
          (put_stall_since at channel r (room_in old topic) (bytes_eq topic (topic_name r)) (stalls channel) (absent topic));
    }

room_gone_since : (at : ℕ) (o : Option Room) (b : Bool) → IfSome (if b then None else o) (λ x. SinceStays at (option_and_then (λ (x : Room). x.since) o) x.since)
room_gone_since at o true = tt
room_gone_since at None false = tt
room_gone_since at (Some x) false = since_same at x.since

stall_gone_since : (at : ℕ) (channel : List ℕ) (o : Option Room) (b : Bool)
    → IfSome (option_and_then (λ (x : Room). stall_in x.stalls.items channel) (if b then None else o)) (λ s. SinceStays at (option_and_then (λ (x : Stall). x.since) (option_and_then (λ (x : Room). stall_in x.stalls.items channel) o)) s.since)
stall_gone_since at channel o true = tt
stall_gone_since at channel None false = tt
stall_gone_since at channel (Some x) false = same_since at (stall_in x.stalls.items channel)

pub since_without : (at : ℕ) (old new : List Room) (name : List ℕ) → new ≡ without_room old name → KeepsSince at old new
since_without at old new name is =
    let found : (topic : List ℕ) → room_in new topic ≡ (if bytes_eq name topic then None else room_in old topic) = λ topic. ap (λ xs. room_in xs topic) is ∙ find_gone topic_name old name topic in
    record {
      topics = λ topic. subst (λ (o : Option Room). IfSome o (λ x. SinceStays at (room_since old topic) x.since)) (sym (found topic)) (room_gone_since at (room_in old topic) (bytes_eq name topic));
      channels = λ topic channel.
          subst (λ (o : Option Room). IfSome (option_and_then (λ (x : Room). stall_in x.stalls.items channel) o) (λ s. SinceStays at (stall_since old topic channel) s.since)) (sym (found topic))
          (stall_gone_since at channel (room_in old topic) (bytes_eq name topic));
    }

-- each topic and each channel of the one hall is in the other
pub record AreAmong (some all : List Room) : Type 0 where
  pub topics : (topic : List ℕ) → IsSome (room_in some topic) → IsSome (room_in all topic)
  pub channels : (topic channel : List ℕ) → IsSome (stall_at some topic channel) → IsSome (stall_at all topic channel)

-- two changes behind one another: of the second's topics and channels none that went in the first, or came to it, may come again
join_made : {X : Type 0} (since : X → Option ℕ) (at : ℕ) (o u v : Option X) → (IsSome o → IsSome u) → IfSome u (λ y. SinceStays at (option_and_then since o) (since y)) → IfSome v (λ z. SinceStays at (option_and_then since u) (since z))
    → IfSome v (λ z. SinceStays at (option_and_then since o) (since z))
join_made since at o u None among f g = tt
join_made since at None None (Some z) among f g = g
join_made since at (Some x) None (Some z) among f g = absurd (false≢true (among refl))
join_made since at o (Some y) (Some z) among f g = since_then at (option_and_then since o) (since y) (since z) f g

join_gone : {X : Type 0} (since : X → Option ℕ) (at : ℕ) (o u v : Option X) → (IsSome v → IsSome u) → IfSome u (λ y. SinceStays at (option_and_then since o) (since y)) → IfSome v (λ z. SinceStays at (option_and_then since u) (since z))
    → IfSome v (λ z. SinceStays at (option_and_then since o) (since z))
join_gone since at o u None among f g = tt
join_gone since at o None (Some z) among f g = absurd (false≢true (among refl))
join_gone since at o (Some y) (Some z) among f g = since_then at (option_and_then since o) (since y) (since z) f g

-- the first makes some, and none goes in it
pub since_grown : (at : ℕ) (a b c : List Room) → AreAmong a b → KeepsSince at a b → KeepsSince at b c → KeepsSince at a c
since_grown at a b c among x y = record {
  topics = λ topic. join_made (λ (r : Room). r.since) at (room_in a topic) (room_in b topic) (room_in c topic) (among.topics topic) (x.topics topic) (y.topics topic);
  channels = λ topic channel. join_made (λ (s : Stall). s.since) at (stall_at a topic channel) (stall_at b topic channel) (stall_at c topic channel) (among.channels topic channel) (x.channels topic channel) (y.channels topic channel);
}

-- in the second some go, and none comes
pub since_shrunk : (at : ℕ) (a b c : List Room) → AreAmong c b → KeepsSince at a b → KeepsSince at b c → KeepsSince at a c
since_shrunk at a b c among x y = record {
  topics = λ topic. join_gone (λ (r : Room). r.since) at (room_in a topic) (room_in b topic) (room_in c topic) (among.topics topic) (x.topics topic) (y.topics topic);
  channels = λ topic channel. join_gone (λ (s : Stall). s.since) at (stall_at a topic channel) (stall_at b topic channel) (stall_at c topic channel) (among.channels topic channel) (x.channels topic channel) (y.channels topic channel);
}

-- where all topics stay at their places, those of the one are in the other
some_both : {X : Type 0} (R : X → X → Type 0) (o u : Option X) → IfBoth R o u → (IsSome o → IsSome u) × (IsSome u → IsSome o)
some_both R None None h = (λ e. e, λ e. e)
some_both R None (Some y) h = absurd h
some_both R (Some x) None h = absurd h
some_both R (Some x) (Some y) h = (λ e. refl, λ e. refl)

some_stall : (at : ℕ) (channel : List ℕ) (o u : Option Room) → IfBoth (KeepsRoom at) o u
    → (IsSome (option_and_then (λ (r : Room). stall_in r.stalls.items channel) o) → IsSome (option_and_then (λ (r : Room). stall_in r.stalls.items channel) u))
    × (IsSome (option_and_then (λ (r : Room). stall_in r.stalls.items channel) u) → IsSome (option_and_then (λ (r : Room). stall_in r.stalls.items channel) o))
some_stall at channel None None h = (λ e. e, λ e. e)
some_stall at channel None (Some y) h = absurd h
some_stall at channel (Some x) None h = absurd h
some_stall at channel (Some x) (Some y) h = some_both (KeepsStall at) (stall_in x.stalls.items channel) (stall_in y.stalls.items channel) (stall_both at x.stalls.items y.stalls.items channel h.stalls)

pub among_kept : (at : ℕ) (old new : List Room) → KeepsRooms at old new → AreAmong old new
among_kept at old new h = record {
  topics = λ topic. (some_both (KeepsRoom at) (room_in old topic) (room_in new topic) (room_both at old new topic h)).0;
  channels = λ topic channel. (some_stall at channel (room_in old topic) (room_in new topic) (room_both at old new topic h)).0;
}

pub among_before : (at : ℕ) (old new : List Room) → KeepsRooms at old new → AreAmong new old
among_before at old new h = record {
  topics = λ topic. (some_both (KeepsRoom at) (room_in old topic) (room_in new topic) (room_both at old new topic h)).1;
  channels = λ topic channel. (some_stall at channel (room_in old topic) (room_in new topic) (room_both at old new topic h)).1;
}

-- so what comes before such a change, or behind it, joins it
pub since_then_kept : (at : ℕ) (a b c : List Room) → KeepsSince at a b → KeepsRooms at b c → KeepsSince at a c
since_then_kept at a b c x y = since_shrunk at a b c (among_before at b c y) x (since_kept at b c y)

pub since_kept_then : (at : ℕ) (a b c : List Room) → KeepsRooms at a b → KeepsSince at b c → KeepsSince at a c
since_kept_then at a b c x y = since_grown at a b c (among_kept at a b x) (since_kept at a b x) y

-- one that went isn't among them any more
some_not_gone : {X Y : Type 0} (f : X → Option Y) (o : Option X) (b : Bool) → IsSome (option_and_then f (if b then None else o)) → IsSome (option_and_then f o)
some_not_gone f o true h = absurd (false≢true h)
some_not_gone f o false h = h

one_not_gone : {X : Type 0} (o : Option X) (b : Bool) → IsSome (if b then None else o) → IsSome o
one_not_gone o true h = absurd (false≢true h)
one_not_gone o false h = h

pub among_without : (old new : List Room) (name : List ℕ) → new ≡ without_room old name → AreAmong new old
among_without old new name is =
    let found : (topic : List ℕ) → room_in new topic ≡ (if bytes_eq name topic then None else room_in old topic) = λ topic. ap (λ xs. room_in xs topic) is ∙ find_gone topic_name old name topic in
    record {
      topics = λ topic has. one_not_gone (room_in old topic) (bytes_eq name topic) (subst IsSome (found topic) has);
      channels = λ topic channel has.
          some_not_gone (λ (x : Room). stall_in x.stalls.items channel) (room_in old topic) (bytes_eq name topic) (subst (λ (o : Option Room). IsSome (option_and_then (λ (x : Room). stall_in x.stalls.items channel) o)) (found topic) has);
    }
