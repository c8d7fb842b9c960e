-- A topic that is deleted with its channels.
use Rattle.std.proofs.Common.{◌≡◌, ◌⊎◌, inl, inr, ◌≤◌, ◌<◌, ℕ, Bool, true, false, not, if◌then◌else◌, List, [], ◌∷◌, map, take, drop, length, get_or, Some, None, refl, sym, ap, subst, ◌∙◌, arith}
use Rattle.std.specs.Prelude.{HoldsAt}
use Rattle.std.specs.List.{filter, find, slice_get}
use Rattle.std.specs.Str.{bytes_eq}
use Rattle.std.proofs.Math.Seq.{drop-length, take-length}
use Rattle.std.proofs.lemmas.List.{length-map}
use Rattle.std.proofs.lemmas.Option.{get_or_from_slice_get, slice_get_within}
use Rattle.nsq_base.specs.Name.{is_ephemeral}
use Rattle.nsq_base.specs.Names.{IsAscendingBy}
use Rattle.nsq_outside.specs.Files.{Files}
use Rattle.broker_history.specs.State.{Channel, State, Topic, topic_of}
use Rattle.broker_history.specs.Changes.{channels_in, deleted, deleted_channels, without_topic}
use Rattle.floor_laws.proofs.Pairs.{pairs_told}
use Rattle.floor_rooms.specs.declared.room.Room.{Room}
use Rattle.floor_rooms.specs.declared.hall.Hall.{Hall}
use Rattle.floor_rooms.specs.Rooms.{channel_name, room_in, stall_names, topic_name}
use Rattle.floor_rooms.specs.Sound.{IsSound}
use Rattle.floor_rooms.specs.Standing.{HoldsFor, IsStallOf}
use Rattle.floor_rooms.specs.Changes.{AtRoom, KeepsSince}
use Rattle.floor_rooms.proofs.Staying.{stall_named}
use Rattle.floor_rooms.proofs.Changing.{all_found}
use Rattle.floor_rooms.proofs.Forming.{no_topic, topic_there}
use Rattle.floor_rooms.proofs.Orders.{channels_order, topics_order}
use Rattle.floor_rooms.proofs.Dating.{AreAmong, among_before, among_without, since_shrunk}
use Rattle.floor_topics.specs.declared.lost.Lost.{Lost}
use Rattle.floor_topics.specs.declared.lost.Lost.TheVariants as losing
use Rattle.floor_topics.specs.Going.{DropsRoom}
use Rattle.floor_topics.specs.Deleting.{DeletesFirst, LosesFirst, kept_without_all}
use Rattle.floor_topics.proofs.Marks.{stands_now}
use Rattle.floor_topics.proofs.Steps.{all_read}
use Rattle.floor_topics.proofs.Whole.{Has, all_kept, first_kept}

-- what isn't there doesn't go
none_gone : {X : Type 0} (p : X → Bool) (x : X) (xs : List X) (b : Bool) → p x ≡ b → (if b then Some x else find p xs) ≡ None → (find p xs ≡ None → filter (λ y. not (p y)) xs ≡ xs) → (if not b then x ∷ filter (λ y. not (p y)) xs else filter (λ y. not (p y)) xs) ≡ x ∷ xs
none_gone p x xs true e none f = absurd (let no : ⊥ = cc in no)
none_gone p x xs false e none f = ap (λ ys. x ∷ ys) (f none)

without_none : {X : Type 0} (p : X → Bool) (xs : List X) → find p xs ≡ None → filter (λ y. not (p y)) xs ≡ xs
without_none p [] none = refl
without_none p (x ∷ xs) none = none_gone p x xs (p x) refl none (without_none p xs)

pub absent_deleted : (h : Hall) (files : Files) (s : State) (topic : List ℕ) → HoldsFor h files s → room_in h.rooms.items topic ≡ None → s ≡ deleted s topic None
absent_deleted h files s topic holds none =
    let absent : topic_of s topic ≡ None = no_topic h files s topic holds none in
    let same : without_topic s topic ≡ s = ap (λ ts. record s { topics = ts }) (without_none (λ (t : Topic). bytes_eq topic t.name) s.topics absent) in
    sym (ap (λ o. without_topic (deleted_channels s topic (channels_in o)) topic) absent ∙ same)

-- a topic of the hall, and of a state
module _ (h : Hall) (files : Files) (s : State) (topic : List ℕ) (r : Room) (sound : IsSound h) (holds : HoldsFor h files s) (there : room_in h.rooms.items topic ≡ Some r) where
  abbrev its : Topic
  its = (topic_there h files s topic r holds there).0

  its_there : topic_of s topic ≡ Some its
  its_there = (topic_there h files s topic r holds there).1

  names_alike : stall_names r ≡ map (λ (c : Channel). c.name) its.channels
  names_alike = pairs_told (IsStallOf files) channel_name (λ (c : Channel). c.name) r.stalls.items its.channels (λ a k x. sym (stall_named files a k x)) (topic_there h files s topic r holds there).2.channels

  its_channels : Has s topic its.channels
  its_channels = record {
    of = its;
    there = its_there;
    channels = refl;
    up = all_found (λ (u : Topic). IsAscendingBy (λ (k : Channel). k.name) u.channels) (λ (u : Topic). bytes_eq topic u.name) s.topics its (channels_order h files s sound holds) its_there;
    order = topics_order h files s sound holds;
  }

  as_many : length r.stalls.items ≡ length its.channels
  as_many = sym (length-map r.stalls.items channel_name) ∙ ap length names_alike ∙ length-map its.channels (λ (c : Channel). c.name)

  -- the first channels went
  pub first_deleted : (count : ℕ) → count ≤ length r.stalls.items → (count < length r.stalls.items) ⊎ (is_ephemeral topic ≡ false) → DeletesFirst topic count s (kept_without_all s topic (take count (stall_names r)))
  first_deleted count within which = record {
    within = subst (λ n. count ≤ n) (as_many ∙ sym (length-map its.channels (λ (c : Channel). c.name)) ∙ sym (ap (λ o. length (channels_in o)) its_there)) within;
    is = ap (λ ns. kept_without_all s topic (take count ns)) names_alike ∙ sym (first_kept topic its.channels count s its_channels (narrow which)) ∙ sym (ap (λ o. deleted_channels s topic (take count (channels_in o))) its_there);
  }
    where
      narrow : (count < length r.stalls.items) ⊎ (is_ephemeral topic ≡ false) → (count < length its.channels) ⊎ (is_ephemeral topic ≡ false)
      narrow (inl l) = inl (subst (λ n. count < n) as_many l)
      narrow (inr e) = inr e

  -- all of them went, and the topic
  pub whole_deleted : without_topic (kept_without_all s topic (take (length r.stalls.items) (stall_names r))) topic ≡ deleted s topic None
  whole_deleted =
      let whole : take (length r.stalls.items) (stall_names r) ≡ stall_names r = ap (λ n. take n (stall_names r)) (sym (length-map r.stalls.items channel_name)) ∙ take-length (stall_names r) in
      ap (λ ns. without_topic (kept_without_all s topic ns) topic) (whole ∙ names_alike) ∙ sym (all_kept topic its.channels s its_channels) ∙ sym (ap (λ o. without_topic (deleted_channels s topic (channels_in o)) topic) its_there)

-- the room at a place whose channels are gone
module _ (i n : ℕ) (xs ys : List Room) (at : AtRoom i (LosesFirst n) xs ys) where
  dropped_read : (d : Room) → get_or ys i d ≡ at.after
  dropped_read d = get_or_from_slice_get ys i at.after d (ap (λ rs. slice_get rs i) at.is ∙ stands_now xs i at.room at.after at.there)

  pub dropped_within : i < length ys
  dropped_within = slice_get_within ys i at.after (ap (λ rs. slice_get rs i) at.is ∙ stands_now xs i at.room at.after at.there)

  pub dropped_none : (d : Room) → n ≡ length (get_or xs i d).stalls.items → HoldsAt (λ (r : Room). r.stalls.items ≡ []) ys i
  dropped_none d e = λ k.
      let room : get_or xs i d ≡ at.room = get_or_from_slice_get xs i at.room d at.there in
      ap (λ (r : Room). r.stalls.items) (dropped_read k) ∙ at.does.left ∙ ap (λ m. drop m at.room.stalls.items) (e ∙ ap (λ (r : Room). length r.stalls.items) room) ∙ drop-length at.room.stalls.items

  pub dropped_name : (k d : Room) → topic_name (get_or ys i k) ≡ topic_name (get_or xs i d)
  dropped_name k d = ap topic_name (dropped_read k) ∙ at.does.name ∙ ap topic_name (sym (get_or_from_slice_get xs i at.room d at.there))

-- the topic went, or all stay: none comes
among_dropped : (answer : Lost) (at : ℕ) (topic : List ℕ) (old new : List Room) → DropsRoom answer at topic old new → AreAmong new old
among_dropped losing.Done at topic old new gone = among_without old new topic gone
among_dropped losing.Fault at topic old new kept = among_before at old new kept

pub dropped_since : (answer : Lost) (at at' : ℕ) (topic : List ℕ) (a b c : List Room) → at' ≡ at → DropsRoom answer at' topic b c → KeepsSince at a b → KeepsSince at' b c → KeepsSince at a c
dropped_since answer at at' topic a b c same drops x y = since_shrunk at a b c (among_dropped answer at' topic b c drops) x (subst (λ n. KeepsSince n b c) same y)

-- where the answer is a fault the topic is a durable one
pub durable_fault : (b : Bool) → (b ≡ true → losing.Fault ≡ losing.Done) → b ≡ false
durable_fault true f = absurd (let e = f refl in let no : ⊥ = cc in no)
durable_fault false f = refl

module _ (h : Hall) (files : Files) (s : State) (topic : List ℕ) (r : Room) (sound : IsSound h) (holds : HoldsFor h files s) (there : room_in h.rooms.items topic ≡ Some r) (called : topic_name r ≡ topic) where
  pub went_first : (count : ℕ) (h' : Hall) (new : Files) → count < length r.stalls.items → HoldsFor h' new (kept_without_all s (topic_name r) (take count (stall_names r))) → (t : State) × DeletesFirst topic count s t × HoldsFor h' new t
  went_first count h' new within now = (
    kept_without_all s topic (take count (stall_names r)),
    first_deleted h files s topic r sound holds there count (omega (arith, within)) (inl within),
    subst (λ n. HoldsFor h' new (kept_without_all s n (take count (stall_names r)))) called now,
  )

  pub went_whole : (v : State) (name : List ℕ) → name ≡ topic_name r → v ≡ without_topic (kept_without_all s (topic_name r) (take (length r.stalls.items) (stall_names r))) name → v ≡ deleted s topic None
  went_whole v name same is =
      is ∙ ap (without_topic (kept_without_all s (topic_name r) (take (length r.stalls.items) (stall_names r)))) (same ∙ called) ∙ ap (λ n. without_topic (kept_without_all s n (take (length r.stalls.items) (stall_names r))) topic) called
      ∙ whole_deleted h files s topic r sound holds there

  pub went_not : (v : State) (all : ℕ) → all ≡ length r.stalls.items → is_ephemeral (topic_name r) ≡ false → v ≡ kept_without_all s (topic_name r) (take (length r.stalls.items) (stall_names r)) → DeletesFirst topic all s v
  went_not v all counted durable is =
      subst (λ n. DeletesFirst topic n s v) (sym counted)
      (subst (DeletesFirst topic (length r.stalls.items) s) (sym (is ∙ ap (λ n. kept_without_all s n (take (length r.stalls.items) (stall_names r))) called))
      (first_deleted h files s topic r sound holds there (length r.stalls.items) (omega arith) (inr (ap is_ephemeral (sym called) ∙ durable))))

-- how many channels were counted at a place
pub counted_at : (rooms : List Room) (i : ℕ) (room : Room) (all : ℕ) → i < length rooms → room ≡ get_or rooms i room → all ≡ length room.stalls.items → (d : Room) → all ≡ length (get_or rooms i d).stalls.items
counted_at rooms i room all within value e d = all_read rooms i room all within value e d

pub dropped_rest : (h0 h1 h2 : Hall) → h1 ≡ record h0 { clients = h1.clients; rooms = h1.rooms; unsaved_names = h1.unsaved_names; unsaved_from = h1.unsaved_from } → h2 ≡ record h1 { rooms = h2.rooms; unsaved_names = h2.unsaved_names; unsaved_from = h2.unsaved_from }
    → h2 ≡ record h0 { clients = h2.clients; rooms = h2.rooms; unsaved_names = h2.unsaved_names; unsaved_from = h2.unsaved_from }
dropped_rest h0 h1 h2 e1 e2 =
    let f : Hall → Hall = λ y. record y { clients = h2.clients; rooms = h2.rooms; unsaved_names = h2.unsaved_names; unsaved_from = h2.unsaved_from } in
    ap f e2 ∙ ap f e1
