-- A channel that is deleted from the hall, and an ephemeral topic that goes with it.
use Rattle.std.proofs.Common.{◌≡◌, inl, inr, ◌<◌, ℕ, Bool, true, false, ◌&&◌, if◌then◌else◌, List, [], ◌∷◌, map, length, get_or, Option, Some, None, refl, sym, ap, subst, ◌∙◌}
use Rattle.std.specs.Prelude.{HoldsAt, is_some}
use Rattle.std.specs.List.{slice_get}
use Rattle.std.specs.Str.{bytes_eq}
use Rattle.std.proofs.lemmas.Bool.{false≢true}
use Rattle.std.proofs.lemmas.Option.{get_or_from_slice_get, slice_get_within}
use Rattle.nsq_base.specs.Name.{is_ephemeral}
use Rattle.nsq_outside.specs.Files.{Files}
use Rattle.path_image.specs.Found.{Pairwise}
use Rattle.broker_history.specs.State.{Channel, State, Topic, channel_of, is_empty, topic_of}
use Rattle.broker_history.specs.Changes.{deleted, deleted_in, lost, with_fewer, without_channel, without_topic}
use Rattle.floor_laws.proofs.Pairs.{IfBoth, pairs_found}
use Rattle.floor_rooms.specs.declared.stall.Stall.{Stall}
use Rattle.floor_rooms.specs.declared.room.Room.{Room}
use Rattle.floor_rooms.specs.declared.hall.Hall.{Hall}
use Rattle.floor_rooms.specs.Rooms.{channel_name, room_in, stall_in, topic_name}
use Rattle.floor_rooms.specs.Sound.{IsSound}
use Rattle.floor_rooms.specs.Standing.{HoldsFor, IsStallOf}
use Rattle.floor_rooms.specs.Changes.{AtRoom, KeepsSince}
use Rattle.floor_rooms.proofs.Placing.{at_place, found_at}
use Rattle.floor_rooms.proofs.Staying.{stall_named}
use Rattle.floor_rooms.proofs.Forming.{both_none, no_topic, topic_there}
use Rattle.floor_rooms.proofs.Orders.{topics_order}
use Rattle.floor_rooms.proofs.Dating.{AreAmong, among_before, among_without, keeps_equal, since_shrunk}
use Rattle.floor_topics.specs.Losing.{LosesChannel, LosesStall}
use Rattle.floor_topics.specs.Deleting.{GoesEmpty, without_empty}
use Rattle.floor_topics.proofs.Fewer.{fewer_is, fewer_there}
use Rattle.floor_topics.proofs.Marks.{some_same, stands_now}

-- parts of a test
first_part : (a b : Bool) → (a && b) ≡ true → a ≡ true
first_part true b e = refl
first_part false b e = absurd (false≢true e)

second_part : (a b : Bool) → (a && b) ≡ true → b ≡ true
second_part true b e = e
second_part false b e = absurd (false≢true e)

none_in : {X : Type 0} (xs : List X) → is_empty xs ≡ true → xs ≡ []
none_in [] e = refl
none_in (x ∷ xs) e = absurd (false≢true e)

-- a topic that was read at a place, and is left empty or isn't
module _ (rooms : List Room) (i : ℕ) (room : Room) (within : i < length rooms) (value : room ≡ get_or rooms i room) where
  read : (d : Room) → get_or rooms i d ≡ room
  read d = get_or_from_slice_get rooms i room d (at_place rooms i room within value)

  pub left_none : (is_ephemeral (topic_name room) && is_empty room.stalls.items) ≡ true → HoldsAt (λ (r : Room). r.stalls.items ≡ []) rooms i
  left_none e = λ d. ap (λ (r : Room). r.stalls.items) (read d) ∙ none_in room.stalls.items (second_part (is_ephemeral (topic_name room)) (is_empty room.stalls.items) e)

  pub left_ephemeral : (is_ephemeral (topic_name room) && is_empty room.stalls.items) ≡ true → HoldsAt (λ (r : Room). is_ephemeral (topic_name r) ≡ true) rooms i
  left_ephemeral e = λ d. ap (λ (r : Room). is_ephemeral (topic_name r)) (read d) ∙ first_part (is_ephemeral (topic_name room)) (is_empty room.stalls.items) e

  test_at : (b : Bool) → (is_ephemeral (topic_name room) && is_empty room.stalls.items) ≡ b → (d : Room) (s : State) → without_empty (get_or rooms i d) s ≡ (if b then without_topic s (topic_name (get_or rooms i d)) else s)
  test_at b e d s = ap (λ c. if c then without_topic s (topic_name (get_or rooms i d)) else s) (ap (λ (r : Room). is_ephemeral (topic_name r) && is_empty r.stalls.items) (read d) ∙ e)

  pub left_stays : (is_ephemeral (topic_name room) && is_empty room.stalls.items) ≡ false → (h : Hall) (files : Files) (d : Room) (s : State) → HoldsFor h files s → (t : State) × (t ≡ without_empty (get_or rooms i d) s) × HoldsFor h files t
  left_stays e h files d s holds = (s, sym (test_at false e d s), holds)

  pub left_goes : (is_ephemeral (topic_name room) && is_empty room.stalls.items) ≡ true → (h : Hall) (files : Files) (d : Room) (s t : State) → t ≡ without_topic s (topic_name (get_or rooms i d)) → HoldsFor h files t
      → (t : State) × (t ≡ without_empty (get_or rooms i d) s) × HoldsFor h files t
  left_goes e h files d s t is holds = (t, is ∙ sym (test_at true e d s), holds)

-- the topic went, or all stay: none comes
pub among_empty : (r : Room) (at : ℕ) (old new : List Room) → GoesEmpty r old new → AreAmong new old
among_empty r at old new (inl gone) = among_without old new (topic_name r) gone
among_empty r at old new (inr same) = among_before at old new (keeps_equal at old new same)

pub lost_since : (at at' : ℕ) (r : Room) (a b c : List Room) → at' ≡ at → GoesEmpty r b c → KeepsSince at a b → KeepsSince at' b c → KeepsSince at a c
lost_since at at' r a b c same goes x y = since_shrunk at a b c (among_empty r at b c goes) x (subst (λ n. KeepsSince n b c) same y)

-- a topic of the hall has a channel where that of a state has one
no_pair : {X Y : Type 0} (R : X → Y → Type 0) (xs : List X) (ys : List Y) → Pairwise R xs ys → is_empty xs ≡ is_empty ys
no_pair R [] [] h = refl
no_pair R [] (y ∷ ys) h = absurd h
no_pair R (x ∷ xs) [] h = absurd h
no_pair R (x ∷ xs) (y ∷ ys) h = refl

empty_alike : (h : Hall) (files : Files) (s : State) (topic : List ℕ) (r : Room) (t : Topic) → HoldsFor h files s → room_in h.rooms.items topic ≡ Some r → topic_of s topic ≡ Some t → is_empty r.stalls.items ≡ is_empty t.channels
empty_alike h files s topic r t holds there is =
    let u = topic_there h files s topic r holds there in
    no_pair (IsStallOf files) r.stalls.items u.0.channels u.2.channels ∙ ap (λ (v : Topic). is_empty v.channels) (some_same u.0 t (sym u.1 ∙ is))

-- a channel went, and then its topic where that is left empty
module _ (h0 h1 h2 : Hall) (old new : Files) (i j : ℕ) (channel : List ℕ) (sound : IsSound h0) (sound1 : IsSound h1) (at : AtRoom i (LosesStall j channel) h0.rooms.items h1.rooms.items) where
  lost_there : slice_get h1.rooms.items i ≡ Some at.after
  lost_there = ap (λ rs. slice_get rs i) at.is ∙ stands_now h0.rooms.items i at.room at.after at.there

  lost_read : get_or h1.rooms.items i at.after ≡ at.after
  lost_read = get_or_from_slice_get h1.rooms.items i at.after at.after lost_there

  pub lost_within : i < length h1.rooms.items
  lost_within = slice_get_within h1.rooms.items i at.after lost_there

  pub lost_told : (topic : List ℕ) → topic ≡ topic_name at.room → (s t u : State) → HoldsFor h0 old s → LosesChannel topic channel s t → HoldsFor h1 new t → u ≡ without_empty (get_or h1.rooms.items i at.after) t → u ≡ deleted s topic (Some channel)
  lost_told topic same s t u holds loses held is =
      let named : topic_name at.after ≡ topic = ap topic_name at.does.is ∙ sym same in
      let there : room_in h1.rooms.items topic ≡ Some at.after = ap (room_in h1.rooms.items) (sym named) ∙ found_at topic_name h1.rooms.items i at.after sound1.room_order lost_there in
      let empty : is_empty at.after.stalls.items ≡ is_empty (without_channel loses.of channel).channels = empty_alike h1 new t topic at.after (without_channel loses.of channel) held there (fewer_there s t topic channel loses) in
      is ∙ ap (λ (r : Room). without_empty r t) lost_read ∙ ap (λ n. if is_ephemeral n && is_empty at.after.stalls.items then without_topic t n else t) named
      ∙ ap (λ b. if is_ephemeral topic && b then without_topic t topic else t) empty ∙ fewer_is s t topic channel loses (topics_order h0 old s sound holds)

  pub lost_room : (d : Room) → topic_name (get_or h0.rooms.items i d) ≡ topic_name at.room
  lost_room d = ap topic_name (get_or_from_slice_get h0.rooms.items i at.room d at.there)

-- what isn't there isn't deleted
pub no_topic_deleted : (h : Hall) (files : Files) (s : State) (topic channel : List ℕ) → HoldsFor h files s → room_in h.rooms.items topic ≡ None → s ≡ deleted s topic (Some channel)
no_topic_deleted h files s topic channel holds none = sym (ap (deleted_in s channel) (no_topic h files s topic holds none))

pub no_channel_deleted : (h : Hall) (files : Files) (s : State) (topic channel : List ℕ) (r : Room) → HoldsFor h files s → room_in h.rooms.items topic ≡ Some r → stall_in r.stalls.items channel ≡ None → s ≡ deleted s topic (Some channel)
no_channel_deleted h files s topic channel r holds there none =
    let t = topic_there h files s topic r holds there in
    let absent : channel_of t.0 channel ≡ None =
    both_none (IsStallOf files) (channel_of t.0 channel)
    (subst (λ (o : Option Stall). IfBoth (IsStallOf files) o (channel_of t.0 channel)) none
    (pairs_found (IsStallOf files) (λ x. bytes_eq channel (channel_name x)) (λ (k : Channel). bytes_eq channel k.name) r.stalls.items t.0.channels (λ a b x. ap (bytes_eq channel) (sym (stall_named files a b x))) t.2.channels)) in
    sym (ap (deleted_in s channel) t.1 ∙ ap (λ (o : Option Channel). if is_some o then with_fewer (record s { clients = map (lost t.0.name channel) s.clients }) (without_channel t.0 channel) else s) absent)
