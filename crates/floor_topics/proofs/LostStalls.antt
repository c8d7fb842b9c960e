-- A channel goes from a hall with its clients' part in it, and from the states that the hall stands for.
use Rattle.std.proofs.Common.{◌≡◌, ◌≢◌, ◌⊎◌, inl, inr, ◌≤◌, ◌<◌, ◌^◌, ℕ, suc, Bool, true, false, not, ◌&&◌, ◌||◌, if◌then◌else◌, List, [], ◌∷◌, ◌++◌, map, get_or, Option, Some, None, option_map, refl, sym, ap, subst, ◌∙◌, arith}
use Rattle.std.specs.Prelude.{IfSome, IsSome, is_none, is_some, option_and_then}
use Rattle.std.specs.List.{All, Contains, filter, slice_get}
use Rattle.std.specs.Str.{bytes_eq}
use Rattle.std.proofs.lemmas.Bool.{false≢true}
use Rattle.std.proofs.lemmas.List.Elements.{All-cons, All-filter, All-weaker, filter_passes}
use Rattle.std.proofs.lemmas.List.Kept.{AllPairs-filter}
use Rattle.nsq_base.specs.Name.{IsName, is_ephemeral}
use Rattle.nsq_base.specs.Names.{IsAscendingBy, byte_order, is_before, put_by}
use Rattle.nsq_base.specs.Options.{IsInRange}
use Rattle.nsq_base.specs.Places.{StandsAt}
use Rattle.nsq_base.proofs.PutBy.{All-put_by, IsAscendingBy-put_by, Less-from_before, byte_order-flip, other_from_order}
use Rattle.nsq_outside.specs.Files.{Files}
use Rattle.queue_image.specs.FileNames.{meta_file}
use Rattle.queue_image.specs.Metas.{IsIdle}
use Rattle.v2_frame.specs.declared.message.Message.{Message}
use Rattle.path_image.specs.Data.{durable}
use Rattle.path_image.specs.Found.{Pairwise}
use Rattle.broker_history.specs.State.{Channel, Client, Closing, Fresh, Lost, Phase, Route, State, Subscribed, Taken, Topic, channel_of, has_channel, is_empty, is_ephemeral_channel, is_lost, is_on, topic_of, with_topic}
use Rattle.broker_history.specs.Changes.{lost, without_channel}
use Rattle.broker_history.specs.Topics.{owed_no_more, still_owed, without_name}
use Rattle.broker_history.proofs.Lists.{exact_bytes, find_gone, find_put, same_bytes}
use Rattle.topic_core.specs.Seen.{Seen as TopicSeen, owed_of}
use Rattle.topic_core.specs.Laws.{DiskStays}
use Rattle.topic_core.specs.Rows.{IsTopicOf}
use Rattle.topic_core.proofs.Heads.{head_changed}
use Rattle.topic_core.proofs.Keeping.{save_stays, topic_stays}
use Rattle.channel_core.specs.Seen.{queue_name}
use Rattle.floor_rooms.specs.Seen.{held_channel}
use Rattle.floor_rooms.specs.ClientPlaces.{AreInOrder}
use Rattle.floor_rooms.proofs.Putting.{found_map}
use Rattle.floor_laws.proofs.Pairs.{IfBoth, pairs_become, pairs_found, pairs_gone, pairs_put}
use Rattle.floor_rooms.specs.declared.stall.Stall.{Stall}
use Rattle.floor_rooms.specs.declared.room.Room.{Room}
use Rattle.floor_rooms.specs.declared.hall.Hall.{Hall}
use Rattle.floor_rooms.specs.Rooms.{channel_name, topic_name, client_in, room_in, stall_in, stall_at, put_room, without_stall}
use Rattle.floor_rooms.specs.Sound.{AreMembers, AsksForNone, HasItsChannel, IsPast, IsRoomSound, IsSound, IsStallSound, has_none_waiting, member_of}
use Rattle.floor_rooms.specs.Standing.{HoldsFor, IsDurableChannel, IsDurableTopic, IsRoomOf, IsStallOf, longest_delay}
use Rattle.floor_rooms.specs.Changes.{AtRoom, KeepsSince, OthersStay}
use Rattle.floor_rooms.specs.Kept.{NamesTold}
use Rattle.floor_rooms.proofs.Placing.{found_at, put_at, standing_at}
use Rattle.floor_rooms.proofs.Staying.{IsElsewhere, idle_stays, other_channel, other_channels, other_topic, queue_disk, room_named, room_stays, stall_named, stall_stays, topic_is_no_channel}
use Rattle.floor_rooms.proofs.Changing.{IsNamedRoom, apart_names, both_some, named_room, none_one}
use Rattle.floor_rooms.proofs.Sounding.{Lowers, all_past, at_all, room_lowered}
use Rattle.floor_rooms.proofs.Forming.{topic_there}
use Rattle.floor_rooms.proofs.Dating.{leaves_without_stall, since_at_room, since_equal}
use Rattle.floor_rooms.proofs.Naming.{durable_without, kept_channels, names_at_room}
use Rattle.floor_topics.specs.Losing.{LosesChannel, LosesStall}
use Rattle.floor_topics.proofs.Goes.{gone_one, gone_standing}
use Rattle.floor_topics.proofs.LostClients.{all_map, lost_fresh, lost_number, lost_order}

-- tests
left_true : (a b : Bool) → a && b ≡ true → a ≡ true
left_true true b e = refl
left_true false b e = absurd (false≢true e)

pub right_true : (a b : Bool) → a && b ≡ true → b ≡ true
right_true true b e = e
right_true false b e = absurd (false≢true e)

pub right_of : (a b : Bool) → a && b ≡ false → a ≡ true → b ≡ false
right_of true b e f = e
right_of false b e f = absurd (false≢true f)

pub and_false : (a b : Bool) → a ≡ false → a && b ≡ false
and_false true b e = absurd (false≢true (sym e))
and_false false b e = refl

pub neither : (a b : Bool) → (a ≡ true → b ≡ true → ⊥) → a && b ≡ false
neither true true f = absurd (f refl refl)
neither true false f = refl
neither false b f = refl

or_right : (a b : Bool) → a || b ≡ true → a ≡ false → b ≡ true
or_right true b e f = absurd (false≢true (sym f))
or_right false b e f = e

turned : (b : Bool) → not b ≡ true → b ≡ false
turned true e = absurd (false≢true e)
turned false e = refl

untrue : (b : Bool) → (b ≡ true → ⊥) → b ≡ false
untrue true f = absurd (f refl)
untrue false f = refl

bytes_turned : (a b : List ℕ) → bytes_eq a b ≡ false → bytes_eq b a ≡ false
bytes_turned a b e = untrue (bytes_eq b a) (λ same. false≢true (sym e ∙ ap (λ n. bytes_eq n b) (sym (exact_bytes b a same)) ∙ same_bytes b))

-- of two channels a client has one
pub on_one : (o : Option Route) (topic channel t k : List ℕ) → is_on o topic channel ≡ true → bytes_eq topic t && bytes_eq channel k ≡ false → is_on o t k ≡ false
on_one None topic channel t k on apart = refl
on_one (Some r) topic channel t k on apart =
    let one : topic ≡ r.topic = exact_bytes topic r.topic (left_true (bytes_eq topic r.topic) (bytes_eq channel r.channel) on) in
    let two : channel ≡ r.channel = exact_bytes channel r.channel (right_true (bytes_eq topic r.topic) (bytes_eq channel r.channel) on) in
    neither (bytes_eq t r.topic) (bytes_eq k r.channel)
    (λ e f.
    let t_is : topic ≡ t = one ∙ sym (exact_bytes t r.topic e) in
    let k_is : channel ≡ k = two ∙ sym (exact_bytes k r.channel f) in
    let both : bytes_eq topic t && bytes_eq channel k ≡ true = ap (λ b. b && bytes_eq channel k) (ap (bytes_eq topic) (sym t_is) ∙ same_bytes topic) ∙ ap (bytes_eq channel) (sym k_is) ∙ same_bytes channel in
    false≢true (sym apart ∙ both))

pub and_both : (a b : Bool) → b ≡ false → a && b ≡ false
and_both true b e = e
and_both false b e = refl

-- what another channel knows of a client that lost this one
member_where : (t k : List ℕ) (c : Client) (a b : Bool) → has_channel t k c ≡ b → (a ≡ true → b ≡ false) → member_of t k (Some (if a then record c { phase = Lost } else c)) ≡ member_of t k (Some c)
member_where t k c true true e f = absurd (false≢true (sym (f refl)))
member_where t k c true false e f = sym (ap (λ b. if b then Some (record { timeout = c.timeout; ready = c.ready }) else None) e)
member_where t k c false b e f = refl

member_same : (topic channel t k : List ℕ) (o : Option Client) → bytes_eq topic t && bytes_eq channel k ≡ false → member_of t k (option_map (lost topic channel) o) ≡ member_of t k o
member_same topic channel t k None apart = refl
member_same topic channel t k (Some c) apart =
    member_where t k c (has_channel topic channel c) (has_channel t k c) refl
    (λ has. and_both (not (is_lost c.phase)) (is_on c.route t k) (on_one c.route topic channel t k (right_true (not (is_lost c.phase)) (is_on c.route topic channel) has) apart))

-- the channel of a client that doesn't lose it is another one
held_apart : (phase : Phase) (o : Option Route) (topic channel : List ℕ) → not (is_lost phase) && is_on o topic channel ≡ false → IfSome (held_channel phase o) (λ (r : Route). bytes_eq topic r.topic && bytes_eq channel r.channel ≡ false)
held_apart Fresh None topic channel e = tt
held_apart Fresh (Some r) topic channel e = e
held_apart Subscribed None topic channel e = tt
held_apart Subscribed (Some r) topic channel e = e
held_apart Closing None topic channel e = tt
held_apart Closing (Some r) topic channel e = e
held_apart Lost o topic channel e = tt

some_with : {X : Type 0} (P Q R : X → Type 0) (o : Option X) → ((x : X) → P x → Q x → R x) → IfSome o P → IfSome o Q → IfSome o R
some_with P Q R None f p q = tt
some_with P Q R (Some x) f p q = f x p q

-- what is owed to others, and what of a taken message is left
still_all : (m : Message) (names : List (List ℕ)) → owed_of (still_owed m names) ≡ names
still_all m [] = refl
still_all m (n ∷ ns) = refl

owed_left : (o : Option Taken) (channel : List ℕ) → owed_of (owed_no_more o channel) ≡ without_name (owed_of o) channel
owed_left None channel = refl
owed_left (Some taken) channel = still_all taken.message (without_name taken.owed channel)

still_short : (m : Message) (names : List (List ℕ)) → m.delay ≤ longest_delay → IfSome (still_owed m names) (λ x. x.message.delay ≤ longest_delay)
still_short m [] h = tt
still_short m (n ∷ ns) h = h

taken_left : (o : Option Taken) (channel : List ℕ) → IfSome o (λ x. x.message.delay ≤ longest_delay) → IfSome (owed_no_more o channel) (λ x. x.message.delay ≤ longest_delay)
taken_left None channel h = tt
taken_left (Some taken) channel h = still_short taken.message (without_name taken.owed channel) h

none_left : (o : Option Taken) (channel : List ℕ) → is_none o ≡ true → is_none (owed_no_more o channel) ≡ true
none_left None channel e = refl
none_left (Some taken) channel e = absurd (false≢true e)

-- a topic that has a channel isn't empty
not_empty : {X : Type 0} (xs : List X) (j : ℕ) (x : X) → slice_get xs j ≡ Some x → is_empty xs ≡ false
not_empty [] j x at = absurd (let no : ⊥ = cc in no)
not_empty (y ∷ ys) j x at = refl

rests_left : (n n' p e e' w : Bool) → (n ≡ true → n' ≡ true) → e ≡ false → n && (p || (e || w)) ≡ true → n' && (p || (e' || w)) ≡ true
rests_left true n' p e e' w f g h = ap (λ b. b && (p || (e' || w))) (f refl) ∙ more p e e' w g h
  where
    more : (p e e' w : Bool) → e ≡ false → p || (e || w) ≡ true → p || (e' || w) ≡ true
    more true e e' w g h = refl
    more false true e' w g h = absurd (false≢true (sym g))
    more false false true w g h = refl
    more false false false w g h = h
rests_left false n' p e e' w f g h = absurd (false≢true h)

-- those that pass a test, and are so for that
filter_with : {X : Type 0} (p : X → Bool) (P Q : X → Type 0) (xs : List X) → ((x : X) → p x ≡ true → P x → Q x) → All P xs → All Q (filter p xs)
filter_with p P Q xs f all = λ i d l. f (get_or (filter p xs) i d) (filter_passes p xs i d l) (All-filter p P xs all i d l)

All-append : {X : Type 0} (P : X → Type 0) (xs ys : List X) → All P xs → All P ys → All P (xs ++ ys)
All-append P [] ys a b = b
All-append P (x ∷ xs) ys a b = All-cons P x (xs ++ ys) (a 0 x (omega arith)) (All-append P xs ys (λ i d l. a (suc i) d (omega (arith, l))) b)

-- an item is put in, and those of other names are so for that
pub All-put_apart : {X : Type 0} (key : X → List ℕ) (P Q : X → Type 0) (xs : List X) (x : X) → ((y : X) → bytes_eq (key x) (key y) ≡ false → P y → Q y) → All P xs → Q x → All Q (put_by key xs x)
All-put_apart key P Q xs x f all it =
    let before : (y : List ℕ) → is_before y (key x) ≡ true → bytes_eq (key x) y ≡ false = λ y h. other_from_order (key x) y _ (byte_order-flip y (key x) _ (Less-from_before (byte_order y (key x)) h)) refl in
    let after : (y : List ℕ) → is_before (key x) y ≡ true → bytes_eq (key x) y ≡ false = λ y h. other_from_order (key x) y _ (Less-from_before (byte_order (key x) y) h) refl in
    All-append Q (filter (λ y. is_before (key y) (key x)) xs) (x ∷ filter (λ y. is_before (key x) (key y)) xs) (filter_with (λ y. is_before (key y) (key x)) P Q xs (λ y h p. f y (before (key y) h) p) all)
    (All-cons Q x (filter (λ y. is_before (key x) (key y)) xs) it (filter_with (λ y. is_before (key x) (key y)) P Q xs (λ y h p. f y (after (key y) h) p) all))

-- what is found where it isn't the one that went
found_left : {X : Type 0} (o : Option X) (b : Bool) → b ≡ false → IsSome o → IsSome (if b then None else o)
found_left o true e h = absurd (false≢true (sym e))
found_left o false e h = h

in_where : (channel : List ℕ) (r : Room) (o : Option Room) (b : Bool) → (b ≡ true → IsSome (stall_in r.stalls.items channel)) → IsSome (option_and_then (λ (x : Room). stall_in x.stalls.items channel) o)
    → IsSome (option_and_then (λ (x : Room). stall_in x.stalls.items channel) (if b then Some r else o))
in_where channel r o true f h = f refl
in_where channel r o false f h = h

in_one : (channel : List ℕ) (r : Room) (o : Option Room) (b : Bool) → option_and_then (λ (r : Room). stall_in r.stalls.items channel) (if b then Some r else o) ≡ None
    → ((b ≡ true) × (stall_in r.stalls.items channel ≡ None)) ⊎ ((b ≡ false) × (option_and_then (λ (r : Room). stall_in r.stalls.items channel) o ≡ None))
in_one channel r o true e = inl (refl, e)
in_one channel r o false e = inr (refl, e)

abbrev pub OnlyLoses : Hall → Hall → Type 0
OnlyLoses h h' = h' ≡ record h { rooms = h'.rooms; clients = h'.clients; unsaved_names = h'.unsaved_names }

module _ (h h' : Hall) (i j : ℕ) (channel : List ℕ) (sound : IsSound h) (rest : OnlyLoses h h') (at : AtRoom i (LosesStall j channel) h.rooms.items h'.rooms.items) (clients : h'.clients.items ≡ map (lost (topic_name at.room) channel) h.clients.items) where
  abbrev topic : List ℕ
  topic = topic_name at.room

  abbrev xs : List Stall
  xs = at.room.stalls.items

  room_is : IsRoomSound h at.room
  room_is = at_all (IsRoomSound h) h.rooms.items i at.room sound.rooms at.there

  pub name_after : topic_name at.after ≡ topic
  name_after = ap topic_name at.does.is

  pub stalls_after : at.after.stalls.items ≡ without_stall xs channel
  stalls_after =
      at.does.left
      ∙ gone_standing channel_name xs channel j at.does.stall (subst (λ n. StandsAt channel_name xs n j) at.does.named (standing_at channel_name xs j at.does.stall room_is.order at.does.there))

  found : room_in h.rooms.items topic ≡ Some at.room
  found = found_at topic_name h.rooms.items i at.room sound.room_order at.there

  has_stall : stall_in xs channel ≡ Some at.does.stall
  has_stall = ap (stall_in xs) (sym at.does.named) ∙ found_at channel_name xs j at.does.stall room_is.order at.does.there

  rooms_after : h'.rooms.items ≡ put_room h.rooms.items at.after
  rooms_after = at.is ∙ put_at topic_name h.rooms.items i at.room at.after sound.room_order at.there name_after

  found_now : (name : List ℕ) → room_in h'.rooms.items name ≡ (if bytes_eq name (topic_name at.after) then Some at.after else room_in h.rooms.items name)
  found_now name = ap (λ rs. room_in rs name) rooms_after ∙ find_put topic_name h.rooms.items at.after name

  stall_now : (name : List ℕ) → stall_in at.after.stalls.items name ≡ (if bytes_eq channel name then None else stall_in xs name)
  stall_now name = ap (λ ys. stall_in ys name) stalls_after ∙ find_gone channel_name xs channel name

  lowers : Lowers h h'
  lowers =
      let quiet : h'.quiet_until ≡ h.quiet_until = ap (λ (x : Hall). x.quiet_until) rest in
      let from : h'.unsaved_from ≡ h.unsaved_from = ap (λ (x : Hall). x.unsaved_from) rest in
      record {
        options = ap (λ (x : Hall). x.options) rest;
        quiet = omega (arith, quiet);
        unsaved = omega (arith, from);
        pending = λ name has. subst (λ (names : List (List ℕ)). Contains names name) (sym (ap (λ (x : Hall). x.pending.items) rest)) has;
      }

  same_moment : h'.moment ≡ h.moment
  same_moment = ap (λ (x : Hall). x.moment) rest

  later : h.moment ≤ h'.moment
  later = omega (arith, same_moment)

  -- other channels have the clients that they had
  known_now : (t k : List ℕ) (n : ℕ) → bytes_eq topic t && bytes_eq channel k ≡ false → member_of t k (client_in h'.clients.items n) ≡ member_of t k (client_in h.clients.items n)
  known_now t k n apart =
      ap (λ cs. member_of t k (client_in cs n)) clients ∙ ap (member_of t k) (found_map (lost topic channel) h.clients.items n (lost_number topic channel)) ∙ member_same topic channel t k (client_in h.clients.items n) apart

  members_of : (t : List ℕ) (s : Stall) → bytes_eq topic t && bytes_eq channel (channel_name s) ≡ false → AreMembers h.clients.items t s → AreMembers h'.clients.items t s
  members_of t s apart a = record {
    known = λ n. a.known n ∙ sym (known_now t (channel_name s) n apart);
    listed = λ n. a.listed n ∙ ap is_some (sym (known_now t (channel_name s) n apart));
  }

  abbrev Mine : List Client → Room → Type 0
  Mine cs r = All (AreMembers cs (topic_name r)) r.stalls.items

  members_others : (r : Room) → bytes_eq (topic_name at.after) (topic_name r) ≡ false → Mine h.clients.items r → Mine h'.clients.items r
  members_others r apart m =
      All-weaker (AreMembers h.clients.items (topic_name r)) (AreMembers h'.clients.items (topic_name r))
      (λ s a. members_of (topic_name r) s (and_false (bytes_eq topic (topic_name r)) (bytes_eq channel (channel_name s)) (ap (λ n. bytes_eq n (topic_name r)) (sym name_after) ∙ apart)) a) r.stalls.items m

  members_own : Mine h'.clients.items at.after
  members_own =
      subst (λ n. All (AreMembers h'.clients.items n) at.after.stalls.items) (sym name_after)
      (subst (All (AreMembers h'.clients.items topic)) (sym stalls_after)
      (filter_with (λ (s : Stall). not (bytes_eq channel (channel_name s))) (AreMembers h.clients.items topic) (AreMembers h'.clients.items topic) xs
      (λ s other a. members_of topic s (and_both (bytes_eq topic topic) (bytes_eq channel (channel_name s)) (turned (bytes_eq channel (channel_name s)) other)) a)
      (at_all (Mine h.clients.items) h.rooms.items i at.room sound.members at.there)))

  -- each channel but that one is still there
  stall_left : (name : List ℕ) → bytes_eq channel name ≡ false → IsSome (stall_in xs name) → IsSome (stall_in at.after.stalls.items name)
  stall_left name apart has = subst IsSome (sym (stall_now name)) (found_left (stall_in xs name) (bytes_eq channel name) apart has)

  stall_still : (t k : List ℕ) → bytes_eq topic t && bytes_eq channel k ≡ false → IsSome (stall_at h.rooms.items t k) → IsSome (stall_at h'.rooms.items t k)
  stall_still t k apart has =
      subst (λ (o : Option Room). IsSome (option_and_then (λ (x : Room). stall_in x.stalls.items k) o)) (sym (found_now t))
      (in_where k at.after (room_in h.rooms.items t) (bytes_eq t (topic_name at.after))
      (λ e.
      let is : t ≡ topic = exact_bytes t (topic_name at.after) e ∙ name_after in
      stall_left k (right_of (bytes_eq topic t) (bytes_eq channel k) apart (ap (bytes_eq topic) is ∙ same_bytes topic))
      (subst (λ (o : Option Room). IsSome (option_and_then (λ (x : Room). stall_in x.stalls.items k) o)) (ap (room_in h.rooms.items) is ∙ found) has)) has)

  channel_where : (c : Client) (b : Bool) → has_channel topic channel c ≡ b → HasItsChannel h c → HasItsChannel h' (if b then record c { phase = Lost } else c)
  channel_where c true e has = tt
  channel_where c false e has =
      some_with (λ (r : Route). bytes_eq topic r.topic && bytes_eq channel r.channel ≡ false) (λ (r : Route). IsSome (stall_at h.rooms.items r.topic r.channel)) (λ (r : Route). IsSome (stall_at h'.rooms.items r.topic r.channel)) (held_channel c.phase c.route)
      (λ r apart there. stall_still r.topic r.channel apart there) (held_apart c.phase c.route topic channel e) has

  room_after : IsRoomSound h' at.after
  room_after =
      let x : IsRoomSound h' at.room = room_lowered h h' at.room lowers room_is in
      let P : Stall → Type 0 = IsStallSound h'.options topic h'.quiet_until h'.unsaved_from in
      let p : Stall → Bool = λ s. not (bytes_eq channel (channel_name s)) in
      subst (IsRoomSound h') (sym at.does.is) (record {
        named = x.named;
        settled = x.settled;
        backlog = x.backlog;
        capacity = x.capacity;
        limits = x.limits;
        names = tt;
        order = subst (IsAscendingBy channel_name) (sym stalls_after) (AllPairs-filter (λ (a b : Stall). is_before (channel_name a) (channel_name b) ≡ true) p xs x.order);
        stalls = subst (All P) (sym stalls_after) (All-filter p P xs x.stalls);
        owed = subst (All (λ name. IsSome (stall_in at.after.stalls.items name))) (sym (owed_left at.room.queue.head channel))
            (filter_with (λ n. not (bytes_eq n channel)) (λ name. IsSome (stall_in xs name)) (λ name. IsSome (stall_in at.after.stalls.items name)) (owed_of at.room.queue.head)
            (λ n other has. stall_left n (bytes_turned n channel (turned (bytes_eq n channel) other)) has) x.owed);
        marked = x.marked;
        listed = x.listed;
        rests = λ l.
            rests_left (is_none at.room.queue.head) (is_none (owed_no_more at.room.queue.head channel)) at.room.queue.paused (is_empty xs) (is_empty at.after.stalls.items) (has_none_waiting at.room) (none_left at.room.queue.head channel) (not_empty xs j at.does.stall at.does.there) (x.rests l);
      })

  past_after : IsPast h'.moment at.after
  past_after =
      let x : IsPast h'.moment at.room = at_all (IsPast h'.moment) h.rooms.items i at.room (all_past h h' later sound) at.there in
      let Old : Stall → Type 0 = λ (s : Stall). IfSome s.since (λ m. m ≤ h'.moment) in
      record {
        room = subst (λ o. IfSome o (λ m. m ≤ h'.moment)) (sym (ap (λ (r : Room). r.since) at.does.is)) x.room;
        stalls = subst (All Old) (sym stalls_after) (All-filter (λ (s : Stall). not (bytes_eq channel (channel_name s))) Old xs x.stalls);
      }

  pub lost_sound : IsSound h'
  lost_sound =
      let early = sound.moment in
      record {
        options = subst IsInRange (sym (ap (λ (x : Hall). x.options) rest)) sound.options;
        epoch = subst (λ e. e < 2 ^ 24) (sym (ap (λ (x : Hall). x.epoch) rest)) sound.epoch;
        ids_used = subst (λ n. n ≤ 2 ^ 40) (sym (ap (λ (x : Hall). x.ids_used) rest)) sound.ids_used;
        moment = omega (arith, same_moment, early);
        client_order = subst AreInOrder (sym clients) (lost_order topic channel h.clients.items sound.client_order);
        room_order = subst (IsAscendingBy topic_name) (sym rooms_after) (IsAscendingBy-put_by topic_name h.rooms.items at.after sound.room_order);
        rooms = subst (All (IsRoomSound h')) (sym rooms_after)
            (All-put_by topic_name (IsRoomSound h') h.rooms.items at.after (All-weaker (IsRoomSound h) (IsRoomSound h') (λ x s. room_lowered h h' x lowers s) h.rooms.items sound.rooms) room_after);
        members = subst (All (Mine h'.clients.items)) (sym rooms_after) (All-put_apart topic_name (Mine h.clients.items) (Mine h'.clients.items) h.rooms.items at.after members_others sound.members members_own);
        channels = subst (All (HasItsChannel h')) (sym clients) (all_map (lost topic channel) (HasItsChannel h) (HasItsChannel h') h.clients.items (λ c has. channel_where c (has_channel topic channel c) refl has) sound.channels);
        ready = subst (All AsksForNone) (sym clients) (lost_fresh topic channel h.clients.items sound.ready);
        past = subst (All (IsPast h'.moment)) (sym rooms_after) (All-put_by topic_name (IsPast h'.moment) h.rooms.items at.after (all_past h h' later sound) past_after);
      }

  pub lost_since : KeepsSince h.moment h.rooms.items h'.rooms.items
  lost_since =
      since_at_room h.moment i (LosesStall j channel) h.rooms.items h'.rooms.items at
      (leaves_without_stall h.moment at.room at.after channel name_after (since_equal h.moment at.room.since at.after.since (ap (λ (r : Room). r.since) at.does.is)) stalls_after)

  -- of an ephemeral channel nothing is kept
  pub lost_names : is_ephemeral_channel topic channel ≡ true → h'.unsaved_names ≡ h.unsaved_names → NamesTold h h'
  lost_names ephemeral unsaved =
      names_at_room h h' i (LosesStall j channel) at name_after (λ e. sym unsaved ∙ e)
      (λ e durable_topic.
      kept_channels at.room at.after name_after (ap (λ (r : Room). r.queue.paused) at.does.is)
      (ap (durable channel_name) stalls_after ∙ durable_without channel_name xs channel (or_right (is_ephemeral topic) (is_ephemeral channel) ephemeral durable_topic)))

  module _ (old new : Files) (s : State) (others : OthersStay (queue_name topic channel) old new) (idle : is_ephemeral_channel topic channel ≡ false → IsIdle (new (meta_file (queue_name topic channel)))) (holds : HoldsFor h old s) where
    own : (t : Topic) × (topic_of s topic ≡ Some t) × IsRoomOf old at.room t
    own = topic_there h old s topic at.room holds found

    own_channel : (k : Channel) × (channel_of own.0 channel ≡ Some k) × IsStallOf old at.does.stall k
    own_channel =
        both_some (IsStallOf old) at.does.stall (channel_of own.0 channel)
        (subst (λ o. IfBoth (IsStallOf old) o (channel_of own.0 channel)) has_stall
        (pairs_found (IsStallOf old) (λ x. bytes_eq channel (channel_name x)) (λ (k : Channel). bytes_eq channel k.name) xs own.0.channels (λ a b r. ap (bytes_eq channel) (sym (stall_named old a b r))) own.2.channels))

    abbrev to : Topic
    to = without_channel own.0 channel

    named : IsNamedRoom at.room
    named = named_room h at.room room_is

    named_topic : IsName topic
    named_topic = named.named

    abbrev IsQueue : Stall → Type 0
    IsQueue a = IfSome a.channel.backlog.queue (λ q. q.name ≡ queue_name topic (channel_name a))

    abbrev Both : Stall → Channel → Type 0
    Both a k = IsQueue a × IsStallOf old a k

    other_stall : (a : Stall) (k : Channel) → bytes_eq channel (channel_name a) ≡ false → Both a k → IsStallOf new a k
    other_stall a k apart x =
        stall_stays old new topic a k x.0 (others (queue_name topic (channel_name a)) (other_channel topic (channel_name a) topic channel named_topic named_topic (apart_names channel (channel_name a) apart))) x.1

    stalls_now : Pairwise (IsStallOf new) at.after.stalls.items to.channels
    stalls_now =
        subst (λ ys. Pairwise (IsStallOf new) ys to.channels) (sym stalls_after)
        (pairs_gone channel_name (λ (k : Channel). k.name) Both (IsStallOf new) channel xs own.0.channels (λ a k x. stall_named old a k x.1) other_stall
        (pairs_become (IsStallOf old) Both IsQueue xs own.0.channels (λ a k q r. (q, r)) named.stalls own.2.channels))

    room_now : IsRoomOf new at.after to
    room_now =
        let q : TopicSeen = record (at.room.queue) { head = owed_no_more at.room.queue.head channel } in
        let r : Room = record (at.room) { queue = q; names = None; stalls = at.after.stalls } in
        let disk : DiskStays at.room.queue.backlog.queue old new = queue_disk old new (queue_name topic channel) at.room others named.queue (topic_is_no_channel topic topic channel named_topic) in
        let paid : Topic = record (own.0) { taken = owed_no_more own.0.taken channel } in
        let queue : IsTopicOf q new paid =
        head_changed at.room.queue q (λ o. owed_no_more o channel) room_is.settled refl new own.0 (topic_stays at.room.queue old new own.0 disk own.2.queue) in
        subst (λ x. IsRoomOf new x to) (sym at.does.is) (record {
          queue = other_channels new r paid to.channels queue;
          stands = save_stays at.room.queue.backlog.queue old new disk own.2.stands;
          channels = stalls_now;
          delays = own.2.delays;
          taken = taken_left own.0.taken channel own.2.taken;
        })

    other_room : (a : Room) (b : Topic) → bytes_eq (topic_name at.after) (topic_name a) ≡ false → IsNamedRoom a × IsRoomOf old a b → IsRoomOf new a b
    other_room a b apart x =
        let other : topic_name a ≢ topic = subst (λ n. topic_name a ≢ n) name_after (apart_names (topic_name at.after) (topic_name a) apart) in
        room_stays old new (queue_name topic channel) a b others x.0.queue (topic_is_no_channel (topic_name a) topic channel x.0.named)
        (All-weaker (λ s. IfSome s.channel.backlog.queue (λ q. q.name ≡ queue_name (topic_name a) (channel_name s))) (IsElsewhere (topic_name a) (queue_name topic channel))
        (λ s q. (q, other_topic (topic_name a) (channel_name s) topic channel x.0.named named_topic other)) a.stalls.items x.0.stalls) x.1

    rooms_now : Pairwise (IsRoomOf new) h'.rooms.items (put_by (λ (t : Topic). t.name) s.topics to)
    rooms_now =
        let Pair : Room → Topic → Type 0 = λ a b. IsNamedRoom a × IsRoomOf old a b in
        let all : Pairwise Pair h.rooms.items s.topics =
        pairs_become (IsRoomOf old) Pair IsNamedRoom h.rooms.items s.topics (λ a b n r. (n, r)) (All-weaker (IsRoomSound h) IsNamedRoom (named_room h) h.rooms.items sound.rooms) holds.stands.topics in
        subst (λ rs. Pairwise (IsRoomOf new) rs (put_by (λ (t : Topic). t.name) s.topics to)) (sym rooms_after)
        (pairs_put topic_name (λ (t : Topic). t.name) Pair (IsRoomOf new) at.after to h.rooms.items s.topics (λ a b x. room_named old a b x.1) other_room (room_named new at.after to room_now) room_now all)

    idle_now : (name : List ℕ) → IsDurableTopic name → room_in h'.rooms.items name ≡ None → IsIdle (new (meta_file name))
    idle_now name durable none =
        idle_stays old new (queue_name topic channel) name others (topic_is_no_channel name topic channel durable.0)
        (holds.idle.topics name durable (none_one at.after (room_in h.rooms.items name) (bytes_eq name (topic_name at.after)) (sym (found_now name) ∙ none)).1)

    idle_channels_now : (t k : List ℕ) → IsName t → IsDurableChannel t k → stall_at h'.rooms.items t k ≡ None → IsIdle (new (meta_file (queue_name t k)))
    idle_channels_now t k nt nk none =
        elim (in_one k at.after (room_in h.rooms.items t) (bytes_eq t (topic_name at.after)) (ap (option_and_then (λ (r : Room). stall_in r.stalls.items k)) (sym (found_now t)) ∙ none)) [
          | inl here ↦
              let same : t ≡ topic = exact_bytes t (topic_name at.after) here.0 ∙ name_after in
              elim (gone_one (λ (o : Option Stall). o ≡ None) (stall_in xs k) (bytes_eq channel k) (sym (stall_now k) ∙ here.1)) [
                | inl it ↦
                    let is : channel ≡ k = exact_bytes channel k it in
                    subst (λ n. IsIdle (new (meta_file (queue_name n k)))) (sym same)
                    (subst (λ n. IsIdle (new (meta_file (queue_name topic n)))) is (idle (ap (is_ephemeral_channel topic) is ∙ ap (λ n. is_ephemeral_channel n k) (sym same) ∙ nk.1)))
                | inr other ↦
                    let before : stall_at h.rooms.items t k ≡ None = ap (λ n. stall_at h.rooms.items n k) same ∙ ap (option_and_then (λ (r : Room). stall_in r.stalls.items k)) found ∙ other.1 in
                    idle_stays old new (queue_name topic channel) (queue_name t k) others (other_channel t k topic channel nt named_topic (apart_names channel k other.0)) (holds.idle.channels t k nt nk before)
              ]
          | inr there ↦
              let other : t ≢ topic = λ e. false≢true (sym there.0 ∙ ap (bytes_eq t) (name_after ∙ sym e) ∙ same_bytes t) in
              idle_stays old new (queue_name topic channel) (queue_name t k) others (other_topic t k topic channel nt named_topic other) (holds.idle.channels t k nt nk there.1)
        ]

    abbrev without : State
    without = with_topic (record s { clients = map (lost topic channel) s.clients }) to

    holds_now : HoldsFor h' new without
    holds_now =
        let earlier = holds.stands.moment in
        record {
          stands = record {
            options = holds.stands.options ∙ sym (ap (λ (x : Hall). x.options) rest);
            epoch = holds.stands.epoch ∙ sym (ap (λ (x : Hall). x.epoch) rest);
            ids_used = holds.stands.ids_used ∙ sym (ap (λ (x : Hall). x.ids_used) rest);
            moment = omega (arith, earlier, later);
            stopped = holds.stands.stopped ∙ sym (ap (λ (x : Hall). x.stopped) rest);
            clients = ap (map (lost topic channel)) holds.stands.clients ∙ sym clients;
            topics = rooms_now;
          };
          idle = record { topics = idle_now; channels = idle_channels_now };
        }

    pub lost_stands : (t : State) × LosesChannel topic channel s t × HoldsFor h' new t
    lost_stands = (without, record { of = own.0; there = own.1; has = subst IsSome (sym own_channel.1) refl; is = refl }, holds_now)
