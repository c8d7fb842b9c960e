-- What the file of names keeps of a hall, as its topics and channels change and come.
use Rattle.std.proofs.Common.{◌≡◌, ℕ, set, Bool, true, false, not, ◌||◌, if◌then◌else◌, List, [], ◌∷◌, ◌++◌, map, take, drop, get_or, refl, sym, ap, subst, ◌∙◌}
use Rattle.std.specs.Prelude.{HoldsAt}
use Rattle.std.specs.List.{filter, insert}
use Rattle.std.specs.Str.{bytes_eq}
use Rattle.std.proofs.lemmas.Bool.{false≢true}
use Rattle.std.proofs.lemmas.List.{take-append-drop}
use Rattle.std.proofs.lemmas.List.Elements.{filter-append}
use Rattle.std.proofs.lemmas.Option.{get_or_from_slice_get}
use Rattle.nsq_base.specs.Name.{is_ephemeral}
use Rattle.nsq_base.specs.Names.{put_by}
use Rattle.nsq_base.specs.Places.{BelongsAt}
use Rattle.nsq_base.proofs.PutBy.{put_by-belongs}
use Rattle.path_image.specs.Data.{durable}
use Rattle.path_image.specs.Found.{Pairwise}
use Rattle.broker_history.specs.State.{is_ephemeral_channel}
use Rattle.broker_history.proofs.Lists.{exact_bytes}
use Rattle.channel_core.specs.declared.about.About.{About}
use Rattle.floor_rooms.specs.declared.stall.Stall.{Stall}
use Rattle.floor_rooms.specs.declared.room.Room.{Room}
use Rattle.floor_rooms.specs.declared.hall.Hall.{Hall}
use Rattle.floor_rooms.specs.Rooms.{channel_name, topic_name, put_room, without_room}
use Rattle.floor_rooms.specs.Changes.{AtRoom, KeepsRoom, KeepsRooms, KeepsStall}
use Rattle.floor_rooms.specs.Kept.{NamesTold, room_kept, stall_kept}
use Rattle.floor_rooms.specs.Made.{AddsStall}
use Rattle.floor_rooms.proofs.Dating.{pairs_one, pairs_weaker}

-- two lists that are alike pair by pair in what is kept of those that are kept
module _ {X Z : Type 0} (name : X → List ℕ) (f : X → Z) where
  abbrev pub KeptAlike : X → X → Type 0
  KeptAlike old new = (name new ≡ name old) × (is_ephemeral (name old) ≡ false → f new ≡ f old)

  kept_one : (x y : X) (xs ys : List X) (b c : Bool) → c ≡ b → (b ≡ false → f y ≡ f x) → map f ys ≡ map f xs → map f (if not c then y ∷ ys else ys) ≡ map f (if not b then x ∷ xs else xs)
  kept_one x y xs ys true true e g h = h
  kept_one x y xs ys true false e g h = absurd (false≢true e)
  kept_one x y xs ys false true e g h = absurd (false≢true (sym e))
  kept_one x y xs ys false false e g h = ap (λ z. z ∷ map f ys) (g refl) ∙ ap (λ zs. f x ∷ zs) h

  pub kept_pairs : (xs ys : List X) → Pairwise KeptAlike xs ys → map f (durable name ys) ≡ map f (durable name xs)
  kept_pairs [] [] h = refl
  kept_pairs [] (y ∷ ys) h = absurd h
  kept_pairs (x ∷ xs) [] h = absurd h
  kept_pairs (x ∷ xs) (y ∷ ys) h = kept_one x y (durable name xs) (durable name ys) (is_ephemeral (name x)) (is_ephemeral (name y)) (ap is_ephemeral h.0.0) h.0.1 (kept_pairs xs ys h.1)

-- one that isn't kept is put in where it belongs
durable_insert : {X : Type 0} (p : X → Bool) (xs : List X) (i : ℕ) (x : X) → p x ≡ false → filter p (insert xs i x) ≡ filter p xs
durable_insert p xs i x e =
    filter-append p (take i xs) (x ∷ drop i xs) ∙ ap (λ (b : Bool). filter p (take i xs) ++ (if b then x ∷ filter p (drop i xs) else filter p (drop i xs))) e ∙ sym (filter-append p (take i xs) (drop i xs))
    ∙ ap (filter p) (take-append-drop i xs)

pub durable_put : {X : Type 0} (name : X → List ℕ) (xs : List X) (x : X) (i : ℕ) → BelongsAt name xs (name x) i → is_ephemeral (name x) ≡ true → durable name (put_by name xs x) ≡ durable name xs
durable_put name xs x i place e = ap (durable name) (put_by-belongs name xs x i place) ∙ durable_insert (λ y. not (is_ephemeral (name y))) xs i x (ap not e)

-- those that aren't kept go
without_one : {X : Type 0} (p : X → Bool) (x : X) (xs us : List X) (b : Bool) → (b ≡ false → p x ≡ false) → filter p us ≡ filter p xs → filter p (if b then x ∷ us else us) ≡ filter p (x ∷ xs)
without_one p x xs us true f h = ap (λ zs. if p x then x ∷ zs else zs) h
without_one p x xs us false f h = h ∙ sym (ap (λ (b : Bool). if b then x ∷ filter p xs else filter p xs) (f refl))

filter_both : {X : Type 0} (p q : X → Bool) (xs : List X) → ((x : X) → q x ≡ false → p x ≡ false) → filter p (filter q xs) ≡ filter p xs
filter_both p q [] f = refl
filter_both p q (x ∷ xs) f = without_one p x xs (filter q xs) (q x) (f x) (filter_both p q xs f)

turned : (b : Bool) → not b ≡ false → b ≡ true
turned true e = refl
turned false e = absurd (false≢true (sym e))

pub durable_without : {X : Type 0} (name : X → List ℕ) (xs : List X) (k : List ℕ) → is_ephemeral k ≡ true → durable name (filter (λ x. not (bytes_eq k (name x))) xs) ≡ durable name xs
durable_without name xs k e =
    filter_both (λ x. not (is_ephemeral (name x))) (λ x. not (bytes_eq k (name x))) xs
    (λ x same. ap not (ap is_ephemeral (sym (exact_bytes k (name x) (turned (bytes_eq k (name x)) same))) ∙ e))

-- what is kept of a channel, of a topic and of all topics where they stay
kept_stall : (at : ℕ) (x y : Stall) → KeepsStall at x y → stall_kept y ≡ stall_kept x
kept_stall at x y s = ap (λ n. record { name = n; paused = y.channel.paused }) (ap (λ (o : About). o.name) s.about) ∙ ap (λ p. record { name = channel_name x; paused = p }) s.paused

kept_stalls : (at : ℕ) (xs ys : List Stall) → Pairwise (KeepsStall at) xs ys → map stall_kept (durable channel_name ys) ≡ map stall_kept (durable channel_name xs)
kept_stalls at xs ys h =
    kept_pairs channel_name stall_kept xs ys (pairs_weaker (KeepsStall at) (KeptAlike channel_name stall_kept) (λ x y s. (ap (λ (o : About). o.name) s.about, λ e. kept_stall at x y s)) xs ys h)

kept_room : (at : ℕ) (a b : Room) → KeepsRoom at a b → room_kept b ≡ room_kept a
kept_room at a b k =
    ap (λ n. record { name = n; paused = b.queue.paused; channels = map stall_kept (durable channel_name b.stalls.items) }) k.name
    ∙ ap (λ p. record { name = topic_name a; paused = p; channels = map stall_kept (durable channel_name b.stalls.items) }) k.paused
    ∙ ap (λ cs. record { name = topic_name a; paused = a.queue.paused; channels = cs }) (kept_stalls at a.stalls.items b.stalls.items k.stalls)

pub kept_rooms : (at : ℕ) (xs ys : List Room) → KeepsRooms at xs ys → map room_kept (durable topic_name ys) ≡ map room_kept (durable topic_name xs)
kept_rooms at xs ys h = kept_pairs topic_name room_kept xs ys (pairs_weaker (KeepsRoom at) (KeptAlike topic_name room_kept) (λ a b k. (k.name, λ e. kept_room at a b k)) xs ys h)

-- a change that leaves all topics and whether names are unsaved
pub names_kept : (at : ℕ) (h h' : Hall) → h'.unsaved_names ≡ h.unsaved_names → KeepsRooms at h.rooms.items h'.rooms.items → NamesTold h h'
names_kept at h h' unsaved keeps = record { before = λ e. sym unsaved ∙ e; same = λ e. kept_rooms at h.rooms.items h'.rooms.items keeps }

-- one after which names are unsaved
pub names_unsaved : (h h' : Hall) → h'.unsaved_names ≡ true → NamesTold h h'
names_unsaved h h' unsaved = record { before = λ e. absurd (false≢true (sym e ∙ unsaved)); same = λ e. absurd (false≢true (sym e ∙ unsaved)) }

-- and two changes behind one another
pub names_then : (a b c : Hall) → NamesTold a b → NamesTold b c → NamesTold a c
names_then a b c x y = record { before = λ e. x.before (y.before e); same = λ e. y.same e ∙ x.same (y.before e) }

left_false : (b c : Bool) → b || c ≡ false → b ≡ false
left_false true c e = absurd (false≢true (sym e))
left_false false c e = refl

right_false : (b c : Bool) → b || c ≡ false → c ≡ false
right_false true c e = absurd (false≢true (sym e))
right_false false c e = e

right_true : (b c : Bool) → b || c ≡ true → b ≡ false → c ≡ true
right_true true c e f = absurd (false≢true (sym f))
right_true false c e f = e

-- a topic that is put in where it belongs, and one that goes and wasn't kept
pub names_put_room : (h h' : Hall) (r : Room) (i : ℕ) → BelongsAt topic_name h.rooms.items (topic_name r) i → h'.rooms.items ≡ put_room h.rooms.items r → h'.unsaved_names ≡ (h.unsaved_names || not (is_ephemeral (topic_name r))) → NamesTold h h'
names_put_room h h' r i place rooms unsaved = record {
  before = λ e. left_false h.unsaved_names (not (is_ephemeral (topic_name r))) (sym unsaved ∙ e);
  same = λ e.
      ap (λ xs. map room_kept (durable topic_name xs)) rooms
      ∙ ap (map room_kept) (durable_put topic_name h.rooms.items r i place (turned (is_ephemeral (topic_name r)) (right_false h.unsaved_names (not (is_ephemeral (topic_name r))) (sym unsaved ∙ e))));
}

pub names_without : (h h' : Hall) (name : List ℕ) → is_ephemeral name ≡ true → h'.rooms.items ≡ without_room h.rooms.items name → h'.unsaved_names ≡ h.unsaved_names → NamesTold h h'
names_without h h' name ephemeral rooms unsaved = record {
  before = λ e. sym unsaved ∙ e;
  same = λ e. ap (λ xs. map room_kept (durable topic_name xs)) rooms ∙ ap (map room_kept) (durable_without topic_name h.rooms.items name ephemeral);
}

-- a topic of which only what isn't kept changed
pub names_at_room : (h h' : Hall) (i : ℕ) (Does : Room → Room → Type 0) → (a : AtRoom i Does h.rooms.items h'.rooms.items) → topic_name a.after ≡ topic_name a.room → (h'.unsaved_names ≡ false → h.unsaved_names ≡ false)
    → (h'.unsaved_names ≡ false → is_ephemeral (topic_name a.room) ≡ false → room_kept a.after ≡ room_kept a.room) → NamesTold h h'
names_at_room h h' i Does a name unsaved kept = record {
  before = unsaved;
  same = λ e.
      subst (λ xs. map room_kept (durable topic_name xs) ≡ map room_kept (durable topic_name h.rooms.items)) (sym a.is)
      (kept_pairs topic_name room_kept h.rooms.items (set h.rooms.items i a.after) (pairs_one (KeptAlike topic_name room_kept) (λ r. (refl, λ d. refl)) h.rooms.items i a.room a.after a.there (name, kept e)));
}

-- what is kept of a topic whose channels alone changed
pub kept_channels : (a b : Room) → topic_name b ≡ topic_name a → b.queue.paused ≡ a.queue.paused → durable channel_name b.stalls.items ≡ durable channel_name a.stalls.items → room_kept b ≡ room_kept a
kept_channels a b name paused same =
    ap (λ n. record { name = n; paused = b.queue.paused; channels = map stall_kept (durable channel_name b.stalls.items) }) name
    ∙ ap (λ p. record { name = topic_name a; paused = p; channels = map stall_kept (durable channel_name b.stalls.items) }) paused
    ∙ ap (λ xs. record { name = topic_name a; paused = a.queue.paused; channels = map stall_kept xs }) same

-- a channel that is put in where it belongs
pub names_adds : (h h' : Hall) (i j : ℕ) (s : Stall) (before after : List (List ℕ)) → AtRoom i (AddsStall s before after) h.rooms.items h'.rooms.items → HoldsAt (λ (r : Room). BelongsAt channel_name r.stalls.items (channel_name s) j) h.rooms.items i
    → HoldsAt (λ (r : Room). h'.unsaved_names ≡ (h.unsaved_names || not (is_ephemeral_channel (topic_name r) (channel_name s)))) h.rooms.items i → NamesTold h h'
names_adds h h' i j s before after a place unsaved =
    let room : get_or h.rooms.items i a.room ≡ a.room = get_or_from_slice_get h.rooms.items i a.room a.room a.there in
    let here : BelongsAt channel_name a.room.stalls.items (channel_name s) j = subst (λ (r : Room). BelongsAt channel_name r.stalls.items (channel_name s) j) room (place a.room) in
    let is : h'.unsaved_names ≡ (h.unsaved_names || not (is_ephemeral_channel (topic_name a.room) (channel_name s))) =
    subst (λ (r : Room). h'.unsaved_names ≡ (h.unsaved_names || not (is_ephemeral_channel (topic_name r) (channel_name s)))) room (unsaved a.room) in
    let e : Bool = is_ephemeral_channel (topic_name a.room) (channel_name s) in
    names_at_room h h' i (AddsStall s before after) a (ap topic_name a.does.is) (λ f. left_false h.unsaved_names (not e) (sym is ∙ f))
    (λ f durable_topic.
    kept_channels a.room a.after (ap topic_name a.does.is) (ap (λ (r : Room). r.queue.paused) a.does.is)
    (ap (durable channel_name) a.does.stalls
    ∙ durable_put channel_name a.room.stalls.items s j here (right_true (is_ephemeral (topic_name a.room)) (is_ephemeral (channel_name s)) (turned e (right_false h.unsaved_names (not e) (sym is ∙ f))) durable_topic)))
