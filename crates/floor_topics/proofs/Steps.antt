-- The channels of a topic that go one after another, in the hall.
use Rattle.std.proofs.Common.{◌≡◌, ◌≤◌, ◌<◌, ◌+◌, ◌-◌, ℕ, suc, zero, set, Bool, List, [], ◌∷◌, ◌++◌, take, drop, length, get_or, Some, is_some, refl, sym, ap, subst, ◌∙◌, arith}
use Rattle.std.specs.Prelude.{IsTrue, HoldsAt}
use Rattle.std.specs.List.{slice_get}
use Rattle.std.proofs.Math.ListN.{get_or-map}
use Rattle.std.proofs.Math.Seq.{take-suc}
use Rattle.std.proofs.lemmas.List.{get_or-drop, length-drop, length-map, set-get_or, set-set}
use Rattle.std.proofs.lemmas.List.Sums.{fold-append}
use Rattle.std.proofs.lemmas.Option.{get_or_from_slice_get}
use Rattle.nsq_outside.specs.Files.{Files}
use Rattle.broker_history.specs.State.{State}
use Rattle.floor_rooms.specs.declared.stall.Stall.{Stall}
use Rattle.floor_rooms.specs.declared.room.Room.{Room}
use Rattle.floor_rooms.specs.declared.hall.Hall.{Hall}
use Rattle.floor_rooms.specs.Rooms.{channel_name, client_in, stall_names, topic_name}
use Rattle.floor_rooms.specs.Sound.{IsSound}
use Rattle.floor_rooms.specs.Standing.{HoldsFor}
use Rattle.floor_rooms.specs.Changes.{AtRoom, KeepsRooms, KeepsSince, OnlyQueueFiles}
use Rattle.floor_rooms.specs.Kept.{NamesTold}
use Rattle.floor_rooms.proofs.Placing.{at_place}
use Rattle.floor_rooms.proofs.Dating.{AreAmong, among_before, keeps_same, since_kept, since_shrunk}
use Rattle.floor_rooms.proofs.Filing.{only_then}
use Rattle.floor_rooms.proofs.Naming.{names_then}
use Rattle.floor_topics.specs.Losing.{LosesChannel, LosesStall}
use Rattle.floor_topics.proofs.LostPlaces.{among_lost}
use Rattle.floor_topics.specs.Deleting.{LosesFirst, LosesOn, LosesSoFar, kept_without, kept_without_all}
use Rattle.floor_topics.proofs.Marks.{some_same, stands_now}
use Rattle.floor_topics.proofs.Whole.{kept_is}

drop_one : {X : Type 0} (n : ℕ) (xs : List X) → drop 1 (drop n xs) ≡ drop (suc n) xs
drop_one zero xs = refl
drop_one (suc n) [] = refl
drop_one (suc n) (x ∷ xs) = drop_one n xs

-- none went yet
pub loses_none : (tells : Bool) (i : ℕ) (h : Hall) (files : Files) (faults : ℕ) (room : Room) → IsSound h → i < length h.rooms.items → room ≡ get_or h.rooms.items i room → LosesOn tells i 0 h h files files faults faults
loses_none tells i h files faults room sound within value = record {
  rooms = record { room = room; after = room; there = at_place h.rooms.items i room within value; is = sym (ap (set h.rooms.items i) value ∙ set-get_or h.rooms.items i room); does = record { name = refl; left = refl } };
  loses = record {
    sound = sound;
    rest = refl;
    told = λ told s holds. holds;
    names_told = record { before = λ e. e; same = λ e. refl };
    since = since_kept h.moment h.rooms.items h.rooms.items (keeps_same h.moment h.rooms.items);
    files = λ told file other. refl;
    faults = omega arith;
    numbers = λ m. refl;
  };
}

-- what a further call makes of what was done before
module _ (tells : Bool) (i count : ℕ) (h0 h1 h2 : Hall) (f0 f1 f2 : Files) (n0 n1 n2 : ℕ) (x : LosesOn tells i count h0 h1 f0 f1 n0 n1) (e : h2 ≡ record h1 { rooms = h2.rooms; clients = h2.clients; unsaved_names = h2.unsaved_names; unsaved_from = h2.unsaved_from }) (sound : IsSound h2)
    (names : NamesTold h1 h2) (since : KeepsSince h1.moment h1.rooms.items h2.rooms.items) (files : IsTrue tells → OnlyQueueFiles f1 f2) (faults : n1 ≤ n2) (numbers : (m : ℕ) → is_some (client_in h2.clients.items m) ≡ is_some (client_in h1.clients.items m)) where
  so_rest : h2 ≡ record h0 { clients = h2.clients; rooms = h2.rooms; unsaved_names = h2.unsaved_names; unsaved_from = h2.unsaved_from }
  so_rest =
      let f : Hall → Hall = λ y. record y { clients = h2.clients; rooms = h2.rooms; unsaved_names = h2.unsaved_names; unsaved_from = h2.unsaved_from } in
      ap f e ∙ ap f x.loses.rest

  so_since : AreAmong h2.rooms.items h1.rooms.items → KeepsSince h0.moment h0.rooms.items h2.rooms.items
  so_since among = since_shrunk h0.moment h0.rooms.items h1.rooms.items h2.rooms.items among x.loses.since (subst (λ m. KeepsSince m h1.rooms.items h2.rooms.items) (ap (λ (y : Hall). y.moment) x.loses.rest) since)

  so_far : AreAmong h2.rooms.items h1.rooms.items → (more : ℕ) → (IsTrue tells → (s : State) → HoldsFor h0 f0 s → HoldsFor h2 f2 (kept_without_all s (topic_name x.rooms.room) (take more (stall_names x.rooms.room))))
      → LosesSoFar tells (topic_name x.rooms.room) (stall_names x.rooms.room) more h0 h2 f0 f2 n0 n2
  so_far among more told = record {
    sound = sound;
    rest = so_rest;
    told = told;
    names_told = names_then h0 h1 h2 x.loses.names_told names;
    since = so_since among;
    files = λ it_tells. only_then f0 f1 f2 (x.loses.files it_tells) (files it_tells);
    faults = let before = x.loses.faults in omega (arith, before, faults);
    numbers = λ m. numbers m ∙ x.loses.numbers m;
  }

  now_there : slice_get h1.rooms.items i ≡ Some x.rooms.after
  now_there = ap (λ rs. slice_get rs i) x.rooms.is ∙ stands_now h0.rooms.items i x.rooms.room x.rooms.after x.rooms.there

  pub now_read : (d : Room) → get_or h1.rooms.items i d ≡ x.rooms.after
  now_read d = get_or_from_slice_get h1.rooms.items i x.rooms.after d now_there

  -- a fault left all as it was
  pub loses_ended : KeepsRooms h1.moment h1.rooms.items h2.rooms.items → (IsTrue tells → (s : State) → HoldsFor h1 f1 s → HoldsFor h2 f2 s) → LosesSoFar tells (topic_name x.rooms.room) (stall_names x.rooms.room) count h0 h2 f0 f2 n0 n2
  loses_ended keeps same = so_far (among_before h1.moment h1.rooms.items h2.rooms.items keeps) count (λ told s holds. same told (kept_without_all s (topic_name x.rooms.room) (take count (stall_names x.rooms.room))) (x.loses.told told s holds))

  -- or the next channel went
  module _ (s0 : Stall) (channel : List ℕ) (within : count < length x.rooms.room.stalls.items) (named : channel ≡ channel_name (get_or (get_or h1.rooms.items i x.rooms.after).stalls.items 0 s0)) (at : AtRoom i (LosesStall 0 channel) h1.rooms.items h2.rooms.items) where
    next_room : at.room ≡ x.rooms.after
    next_room = some_same at.room x.rooms.after (sym at.there ∙ now_there)

    next_channel : channel ≡ channel_name (get_or x.rooms.room.stalls.items count s0)
    next_channel =
        let plain : count + 0 ≡ count = omega arith in
        named ∙ ap (λ (r : Room). channel_name (get_or r.stalls.items 0 s0)) (now_read x.rooms.after) ∙ ap (λ ss. channel_name (get_or ss 0 s0)) x.rooms.does.left ∙ ap channel_name (get_or-drop count x.rooms.room.stalls.items 0 s0)
        ∙ ap (λ n. channel_name (get_or x.rooms.room.stalls.items n s0)) plain

    next_names : take (suc count) (stall_names x.rooms.room) ≡ take count (stall_names x.rooms.room) ++ channel ∷ []
    next_names =
        let long : length (stall_names x.rooms.room) ≡ length x.rooms.room.stalls.items = length-map x.rooms.room.stalls.items channel_name in
        take-suc (stall_names x.rooms.room) count (channel_name s0) (omega (arith, long, within)) ∙ ap (λ n. take count (stall_names x.rooms.room) ++ n ∷ []) (get_or-map channel_name x.rooms.room.stalls.items count s0 ∙ sym next_channel)

    next_kept : (s : State) → kept_without_all s (topic_name x.rooms.room) (take (suc count) (stall_names x.rooms.room)) ≡ kept_without (kept_without_all s (topic_name x.rooms.room) (take count (stall_names x.rooms.room))) (topic_name x.rooms.room) channel
    next_kept s =
        ap (kept_without_all s (topic_name x.rooms.room)) next_names ∙ fold-append (λ u c. kept_without u (topic_name x.rooms.room) c) s (take count (stall_names x.rooms.room)) (channel ∷ [])

    pub loses_next : (more : ℕ) → more ≡ suc count → (IsTrue tells → (s : State) → HoldsFor h1 f1 s → (t : State) × LosesChannel (topic_name (get_or h1.rooms.items i x.rooms.after)) channel s t × HoldsFor h2 f2 t) → LosesOn tells i more h0 h2 f0 f2 n0 n2
    loses_next more is step = record {
      rooms = record {
        room = x.rooms.room;
        after = at.after;
        there = x.rooms.there;
        is = at.is ∙ ap (λ rs. set rs i at.after) x.rooms.is ∙ set-set h0.rooms.items i x.rooms.after at.after;
        does = record {
          name = ap topic_name at.does.is ∙ ap topic_name next_room ∙ x.rooms.does.name;
          left = at.does.left ∙ ap (λ (r : Room). drop 1 r.stalls.items) next_room ∙ ap (drop 1) x.rooms.does.left ∙ drop_one count x.rooms.room.stalls.items ∙ ap (λ n. drop n x.rooms.room.stalls.items) (sym is);
        };
      };
      loses = so_far (among_lost i 0 channel h1.rooms.items h2.rooms.items at) more
          (λ told s holds.
          let u : State = kept_without_all s (topic_name x.rooms.room) (take count (stall_names x.rooms.room)) in
          let r = step told u (x.loses.told told s holds) in
          let topic : topic_name (get_or h1.rooms.items i x.rooms.after) ≡ topic_name x.rooms.room = ap topic_name (now_read x.rooms.after) ∙ x.rooms.does.name in
          let to : r.0 ≡ kept_without_all s (topic_name x.rooms.room) (take more (stall_names x.rooms.room)) =
          kept_is u r.0 (topic_name (get_or h1.rooms.items i x.rooms.after)) channel r.1 ∙ ap (λ n. kept_without u n channel) topic ∙ sym (next_kept s) ∙ ap (λ n. kept_without_all s (topic_name x.rooms.room) (take n (stall_names x.rooms.room))) (sym is) in
          subst (HoldsFor h2 f2) to r.2);
    }

-- how many channels there are, as they were counted at a place
pub all_read : (rooms : List Room) (i : ℕ) (room : Room) (all : ℕ) → i < length rooms → room ≡ get_or rooms i room → all ≡ length room.stalls.items → HoldsAt (λ (r : Room). all ≡ length r.stalls.items) rooms i
all_read rooms i room all within value e = λ d. e ∙ ap (λ (r : Room). length r.stalls.items) (sym (get_or_from_slice_get rooms i room d (at_place rooms i room within value)))

module _ (tells : Bool) (i count : ℕ) (h0 h1 : Hall) (f0 f1 : Files) (n0 n1 : ℕ) (x : LosesOn tells i count h0 h1 f0 f1 n0 n1) (all : ℕ) (counted : HoldsAt (λ (r : Room). all ≡ length r.stalls.items) h0.rooms.items i) where
  at_first : (P : Room → Type 0) → P x.rooms.room → HoldsAt P h0.rooms.items i
  at_first P p = λ d. subst P (sym (get_or_from_slice_get h0.rooms.items i x.rooms.room d x.rooms.there)) p

  all_of : all ≡ length x.rooms.room.stalls.items
  all_of = counted x.rooms.room ∙ ap (λ (r : Room). length r.stalls.items) (get_or_from_slice_get h0.rooms.items i x.rooms.room x.rooms.room x.rooms.there)

  pub more_left : count < all → count < length x.rooms.room.stalls.items
  more_left less = let e = all_of in omega (arith, less, e)

  pub first_left : count < all → HoldsAt (λ (r : Room). 0 < length r.stalls.items) h1.rooms.items i
  first_left less =
      λ d.
      let now : get_or h1.rooms.items i d ≡ x.rooms.after = get_or_from_slice_get h1.rooms.items i x.rooms.after d (ap (λ rs. slice_get rs i) x.rooms.is ∙ stands_now h0.rooms.items i x.rooms.room x.rooms.after x.rooms.there) in
      let long : length x.rooms.after.stalls.items ≡ length x.rooms.room.stalls.items - count = ap length x.rooms.does.left ∙ length-drop count x.rooms.room.stalls.items in
      let more : count < length x.rooms.room.stalls.items = more_left less in
      subst (λ (r : Room). 0 < length r.stalls.items) (sym now) (omega (arith, long, more))

  pub so_lost : HoldsAt (λ (r : Room). LosesSoFar tells (topic_name r) (stall_names r) count h0 h1 f0 f1 n0 n1) h0.rooms.items i
  so_lost = at_first (λ r. LosesSoFar tells (topic_name r) (stall_names r) count h0 h1 f0 f1 n0 n1) x.loses

  pub all_lost : count ≤ all → all ≤ count → HoldsAt (λ (r : Room). LosesSoFar tells (topic_name r) (stall_names r) (length r.stalls.items) h0 h1 f0 f1 n0 n1) h0.rooms.items i
  all_lost l m =
      let e = all_of in
      let same : count ≡ length x.rooms.room.stalls.items = omega (arith, l, m, e) in
      at_first (λ r. LosesSoFar tells (topic_name r) (stall_names r) (length r.stalls.items) h0 h1 f0 f1 n0 n1)
      (subst (λ n. LosesSoFar tells (topic_name x.rooms.room) (stall_names x.rooms.room) n h0 h1 f0 f1 n0 n1) same x.loses)

  pub all_rooms : count ≤ all → all ≤ count → HoldsAt (λ (r : Room). AtRoom i (LosesFirst (length r.stalls.items)) h0.rooms.items h1.rooms.items) h0.rooms.items i
  all_rooms l m = λ d.
      let e = counted d in
      let same : count ≡ length (get_or h0.rooms.items i d).stalls.items = omega (arith, l, m, e) in
      subst (λ n. AtRoom i (LosesFirst n) h0.rooms.items h1.rooms.items) same x.rooms

pub ended_at : (tells : Bool) (i count : ℕ) (h0 h1 h2 : Hall) (f0 f1 f2 : Files) (n0 n1 n2 : ℕ) (x : LosesOn tells i count h0 h1 f0 f1 n0 n1) → LosesSoFar tells (topic_name x.rooms.room) (stall_names x.rooms.room) count h0 h2 f0 f2 n0 n2
    → HoldsAt (λ (r : Room). LosesSoFar tells (topic_name r) (stall_names r) count h0 h2 f0 f2 n0 n2) h0.rooms.items i
ended_at tells i count h0 h1 h2 f0 f1 f2 n0 n1 n2 x loses =
    λ d. subst (λ (r : Room). LosesSoFar tells (topic_name r) (stall_names r) count h0 h2 f0 f2 n0 n2) (sym (get_or_from_slice_get h0.rooms.items i x.rooms.room d x.rooms.there)) loses
