-- A hall stays sound as one of its channels and the clients change together, where the channel's clients are those of the hall still.
use Rattle.std.proofs.Common.{◌≡◌, ◌≤◌, ◌<◌, ◌^◌, ℕ, suc, zero, set, Bool, true, false, ◌&&◌, ◌||◌, if◌then◌else◌, List, [], ◌∷◌, map, Option, Some, None, is_none, is_some, refl, sym, ap, subst, ◌∙◌, arith}
use Rattle.std.specs.Prelude.{IfSome, IsSome, option_and_then}
use Rattle.std.specs.List.{All, Contains, filter}
use Rattle.std.specs.Str.{bytes_eq}
use Rattle.std.proofs.Math.Seq.{map-set_same}
use Rattle.std.proofs.lemmas.List.Elements.{All-append, All-cons, All-filter, All-set, All-weaker, filter_passes}
use Rattle.std.proofs.lemmas.Option.{get_or_from_slice_get}
use Rattle.nsq_base.specs.Options.{IsInRange}
use Rattle.nsq_base.specs.Names.{IsAscendingBy, byte_order, is_before, put_by}
use Rattle.nsq_base.proofs.PutBy.{IsAscendingBy-put_by, Less-from_before, byte_order-flip, other_from_order}
use Rattle.broker_history.specs.State.{Client, Route, is_empty}
use Rattle.broker_history.proofs.Lists.{exact_bytes, find_put}
use Rattle.topic_core.specs.Seen.{owed_of}
use Rattle.channel_core.specs.declared.about.About.{About}
use Rattle.floor_rooms.specs.ClientPlaces.{AreInOrder}
use Rattle.floor_rooms.specs.Seen.{held_channel}
use Rattle.floor_rooms.specs.declared.stall.Stall.{Stall}
use Rattle.floor_rooms.specs.declared.room.Room.{Room}
use Rattle.floor_rooms.specs.declared.hall.Hall.{Hall}
use Rattle.floor_rooms.specs.Rooms.{channel_name, topic_name, client_in, room_in, stall_in, stall_at, put_room, put_stall}
use Rattle.floor_rooms.specs.Sound.{AreMembers, AsksForNone, HasItsChannel, IsPast, IsRoomSound, IsSound, IsStallSound, has_none_waiting, member_of}
use Rattle.floor_rooms.specs.Changes.{AtStall}
use Rattle.floor_rooms.proofs.Placing.{found_at, put_at}
use Rattle.floor_rooms.proofs.Sounding.{Lowers, at_all, room_lowered}

-- a name that comes before another, or behind it, is another one
before_apart : (a b : List ℕ) → is_before a b ≡ true → bytes_eq b a ≡ false
before_apart a b h = other_from_order b a _ (byte_order-flip a b _ (Less-from_before (byte_order a b) h)) refl

after_apart : (a b : List ℕ) → is_before b a ≡ true → bytes_eq b a ≡ false
after_apart a b h = other_from_order b a _ (Less-from_before (byte_order b a) h) refl

-- what holds of the one that is put in, and of the others because they have other names
all_put : {X : Type 0} (key : X → List ℕ) (P Q : X → Type 0) (xs : List X) (x : X) → ((y : X) → bytes_eq (key x) (key y) ≡ false → Q y → P y) → All Q xs → P x → All P (put_by key xs x)
all_put key P Q xs x other all p =
    let front : All (λ y. is_before (key y) (key x) ≡ true) (filter (λ y. is_before (key y) (key x)) xs) = filter_passes (λ y. is_before (key y) (key x)) xs in
    let back : All (λ y. is_before (key x) (key y) ≡ true) (filter (λ y. is_before (key x) (key y)) xs) = filter_passes (λ y. is_before (key x) (key y)) xs in
    let front_all : All Q (filter (λ y. is_before (key y) (key x)) xs) = All-filter (λ y. is_before (key y) (key x)) Q xs all in
    let back_all : All Q (filter (λ y. is_before (key x) (key y)) xs) = All-filter (λ y. is_before (key x) (key y)) Q xs all in
    All-append P _ _ (λ k d l. other _ (before_apart _ (key x) (front k d l)) (front_all k d l)) (All-cons P x _ p (λ k d l. other _ (after_apart _ (key x) (back k d l)) (back_all k d l)))

if_some : {X : Type 0} (P Q : X → Type 0) (o : Option X) → ((x : X) → P x → Q x) → IfSome o P → IfSome o Q
if_some P Q None f h = h
if_some P Q (Some x) f h = f x h

some_put : {X : Type 0} (x : X) (o : Option X) (b : Bool) → IsSome o → IsSome (if b then Some x else o)
some_put x o true h = refl
some_put x o false h = h

empty_set : {X : Type 0} (xs : List X) (i : ℕ) (x : X) → is_empty (set xs i x) ≡ is_empty xs
empty_set [] i x = refl
empty_set (y ∷ xs) zero x = refl
empty_set (y ∷ xs) (suc i) x = refl

pub and_false : (a b : Bool) → b ≡ false → (a && b) ≡ false
and_false true b e = e
and_false false b e = refl

-- what a change of one channel asks for
pub record Regroups (h h' : Hall) (i j : ℕ) (Does : Stall → Stall → Type 0) : Type 0 where
  pub sound : IsSound h
  pub rest : h' ≡ record h { clients = h'.clients; rooms = h'.rooms }
  pub at : AtStall i j Does h.rooms.items h'.rooms.items
  pub about : at.does.after.channel.about ≡ at.does.stall.channel.about
  pub since : at.does.after.since ≡ at.does.stall.since
  pub stall : IsStallSound h.options (topic_name at.room) h.quiet_until h.unsaved_from at.does.after
  pub order : AreInOrder h'.clients.items
  pub mine : AreMembers h'.clients.items (topic_name at.room) at.does.after
  pub others : (topic channel : List ℕ) → (bytes_eq (topic_name at.room) topic && bytes_eq (channel_name at.does.stall) channel) ≡ false → (n : ℕ) → member_of topic channel (client_in h'.clients.items n) ≡ member_of topic channel (client_in h.clients.items n)
  pub channels : All (HasItsChannel h) h'.clients.items
  pub ready : All AsksForNone h'.clients.items

module _ (h h' : Hall) (i j : ℕ) (Does : Stall → Stall → Type 0) (p : Regroups h h' i j Does) where
  low : Lowers h h'
  low =
      let quiet : h'.quiet_until ≡ h.quiet_until = ap (λ (x : Hall). x.quiet_until) p.rest in
      let unsaved : h'.unsaved_from ≡ h.unsaved_from = ap (λ (x : Hall). x.unsaved_from) p.rest in
      record {
        options = ap (λ (x : Hall). x.options) p.rest;
        quiet = omega (arith, quiet);
        unsaved = omega (arith, unsaved);
        pending = λ name has. subst (λ (names : List (List ℕ)). Contains names name) (sym (ap (λ (x : Hall). x.pending.items) p.rest)) has;
      }

  named : channel_name p.at.does.after ≡ channel_name p.at.does.stall
  named = ap (λ (a : About). a.name) p.about

  titled : topic_name p.at.after ≡ topic_name p.at.room
  titled = ap topic_name p.at.does.is

  before : IsRoomSound h p.at.room
  before = at_all (IsRoomSound h) h.rooms.items i p.at.room p.sound.rooms p.at.there

  past_before : IsPast h.moment p.at.room
  past_before = at_all (IsPast h.moment) h.rooms.items i p.at.room p.sound.past p.at.there

  stalls_put : p.at.after.stalls.items ≡ put_stall p.at.room.stalls.items p.at.does.after
  stalls_put = p.at.does.stalls ∙ put_at channel_name p.at.room.stalls.items j p.at.does.stall p.at.does.after before.order p.at.does.there named

  rooms_put : h'.rooms.items ≡ put_room h.rooms.items p.at.after
  rooms_put = p.at.is ∙ put_at topic_name h.rooms.items i p.at.room p.at.after p.sound.room_order p.at.there titled

  still_in : (name : List ℕ) → IsSome (stall_in p.at.room.stalls.items name) → IsSome (stall_in p.at.after.stalls.items name)
  still_in name has =
      subst IsSome (sym (ap (λ xs. stall_in xs name) stalls_put ∙ find_put channel_name p.at.room.stalls.items p.at.does.after name)) (some_put p.at.does.after (stall_in p.at.room.stalls.items name) (bytes_eq name (channel_name p.at.does.after)) has)

  room_now : IsRoomSound h' p.at.after
  room_now =
      let x : IsRoomSound h' p.at.room = room_lowered h h' p.at.room low before in
      let names : map channel_name p.at.after.stalls.items ≡ map channel_name p.at.room.stalls.items =
      ap (map channel_name) p.at.does.stalls
      ∙ map-set_same channel_name p.at.room.stalls.items j p.at.does.after p.at.does.stall (named ∙ ap channel_name (sym (get_or_from_slice_get p.at.room.stalls.items j p.at.does.stall p.at.does.stall p.at.does.there))) in
      let stall : IsStallSound h'.options (topic_name p.at.room) h'.quiet_until h'.unsaved_from p.at.does.after =
      subst (λ o. IsStallSound o (topic_name p.at.room) h'.quiet_until h'.unsaved_from p.at.does.after) (sym (ap (λ (y : Hall). y.options) p.rest))
      (subst (λ q. IsStallSound h.options (topic_name p.at.room) q h'.unsaved_from p.at.does.after) (sym (ap (λ (y : Hall). y.quiet_until) p.rest))
      (subst (λ u. IsStallSound h.options (topic_name p.at.room) h.quiet_until u p.at.does.after) (sym (ap (λ (y : Hall). y.unsaved_from) p.rest)) p.stall)) in
      subst (IsRoomSound h') (sym p.at.does.is) (record {
        named = x.named;
        settled = x.settled;
        backlog = x.backlog;
        capacity = x.capacity;
        limits = x.limits;
        names = subst (λ ns. IfSome p.at.room.names (λ names. names ≡ (topic_name p.at.room, ns) ∷ [])) (sym names) x.names;
        order = subst (IsAscendingBy channel_name) (sym stalls_put) (IsAscendingBy-put_by channel_name p.at.room.stalls.items p.at.does.after x.order);
        stalls = subst (All (IsStallSound h'.options (topic_name p.at.room) h'.quiet_until h'.unsaved_from)) (sym p.at.does.stalls)
            (All-set (IsStallSound h'.options (topic_name p.at.room) h'.quiet_until h'.unsaved_from) p.at.room.stalls.items j p.at.does.after stall x.stalls);
        owed = All-weaker (λ name. IsSome (stall_in p.at.room.stalls.items name)) (λ name. IsSome (stall_in p.at.after.stalls.items name)) (λ name has. still_in name has) (owed_of p.at.room.queue.head) x.owed;
        marked = x.marked;
        listed = x.listed;
        rests = λ l. ap (λ b. is_none p.at.room.queue.head && (p.at.room.queue.paused || (b || has_none_waiting p.at.room))) (ap is_empty p.at.does.stalls ∙ empty_set p.at.room.stalls.items j p.at.does.after) ∙ x.rests l;
      })

  past_now : IsPast h.moment p.at.after
  past_now =
      let stall : IfSome p.at.does.stall.since (λ m. m ≤ h.moment) = at_all (λ (s : Stall). IfSome s.since (λ m. m ≤ h.moment)) p.at.room.stalls.items j p.at.does.stall past_before.stalls p.at.does.there in
      record {
        room = subst (λ o. IfSome o (λ m. m ≤ h.moment)) (sym (ap (λ (r : Room). r.since) p.at.does.is)) past_before.room;
        stalls = subst (All (λ (s : Stall). IfSome s.since (λ m. m ≤ h.moment))) (sym p.at.does.stalls)
            (All-set (λ (s : Stall). IfSome s.since (λ m. m ≤ h.moment)) p.at.room.stalls.items j p.at.does.after (subst (λ o. IfSome o (λ m. m ≤ h.moment)) (sym p.since) stall) past_before.stalls);
      }

  members_other : (topic : List ℕ) (s : Stall) → (bytes_eq (topic_name p.at.room) topic && bytes_eq (channel_name p.at.does.stall) (channel_name s)) ≡ false → AreMembers h.clients.items topic s → AreMembers h'.clients.items topic s
  members_other topic s apart a = record {
    known = λ n. a.known n ∙ sym (p.others topic (channel_name s) apart n);
    listed = λ n. a.listed n ∙ ap is_some (sym (p.others topic (channel_name s) apart n));
  }

  members_now : All (AreMembers h'.clients.items (topic_name p.at.after)) p.at.after.stalls.items
  members_now =
      let topic : List ℕ = topic_name p.at.room in
      let all : All (AreMembers h.clients.items topic) p.at.room.stalls.items = at_all (λ (r : Room). All (AreMembers h.clients.items (topic_name r)) r.stalls.items) h.rooms.items i p.at.room p.sound.members p.at.there in
      subst (λ n. All (AreMembers h'.clients.items n) p.at.after.stalls.items) (sym titled)
      (subst (All (AreMembers h'.clients.items topic)) (sym stalls_put)
      (all_put channel_name (AreMembers h'.clients.items topic) (AreMembers h.clients.items topic) p.at.room.stalls.items p.at.does.after
      (λ s apart a. members_other topic s (and_false (bytes_eq topic topic) (bytes_eq (channel_name p.at.does.stall) (channel_name s)) (subst (λ n. bytes_eq n (channel_name s) ≡ false) named apart)) a) all p.mine))

  channels_now : (c : Client) → HasItsChannel h c → HasItsChannel h' c
  channels_now c has =
      if_some (λ (route : Route). IsSome (stall_at h.rooms.items route.topic route.channel)) (λ (route : Route). IsSome (stall_at h'.rooms.items route.topic route.channel)) (held_channel c.phase c.route)
      (λ route there. still_there route.topic route.channel there) has
    where
      one : (topic channel : List ℕ) (b : Bool) → bytes_eq topic (topic_name p.at.after) ≡ b → IsSome (stall_at h.rooms.items topic channel)
          → IsSome (option_and_then (λ (r : Room). stall_in r.stalls.items channel) (if b then Some p.at.after else room_in h.rooms.items topic))
      one topic channel true e there =
          let same : topic ≡ topic_name p.at.room = exact_bytes topic (topic_name p.at.after) e ∙ titled in
          still_in channel
          (subst (λ o. IsSome (option_and_then (λ (r : Room). stall_in r.stalls.items channel) o)) (ap (room_in h.rooms.items) same ∙ found_at topic_name h.rooms.items i p.at.room p.sound.room_order p.at.there) there)
      one topic channel false e there = there

      still_there : (topic channel : List ℕ) → IsSome (stall_at h.rooms.items topic channel) → IsSome (stall_at h'.rooms.items topic channel)
      still_there topic channel there =
          subst (λ o. IsSome (option_and_then (λ (r : Room). stall_in r.stalls.items channel) o)) (sym (ap (λ rs. room_in rs topic) rooms_put ∙ find_put topic_name h.rooms.items p.at.after topic)) (one topic channel (bytes_eq topic (topic_name p.at.after)) refl there)

  pub sound_regrouped : IsSound h'
  sound_regrouped = record {
    options = subst IsInRange (sym low.options) p.sound.options;
    epoch = subst (λ e. e < 2 ^ 24) (sym (ap (λ (x : Hall). x.epoch) p.rest)) p.sound.epoch;
    ids_used = subst (λ n. n ≤ 2 ^ 40) (sym (ap (λ (x : Hall). x.ids_used) p.rest)) p.sound.ids_used;
    moment = subst (λ n. n ≤ 2 ^ 62) (sym (ap (λ (x : Hall). x.moment) p.rest)) p.sound.moment;
    client_order = p.order;
    room_order = subst (IsAscendingBy topic_name) (sym rooms_put) (IsAscendingBy-put_by topic_name h.rooms.items p.at.after p.sound.room_order);
    rooms = subst (All (IsRoomSound h')) (sym p.at.is) (All-set (IsRoomSound h') h.rooms.items i p.at.after room_now (All-weaker (IsRoomSound h) (IsRoomSound h') (λ r x. room_lowered h h' r low x) h.rooms.items p.sound.rooms));
    members = subst (All (λ (r : Room). All (AreMembers h'.clients.items (topic_name r)) r.stalls.items)) (sym rooms_put)
        (all_put topic_name (λ (r : Room). All (AreMembers h'.clients.items (topic_name r)) r.stalls.items) (λ (r : Room). All (AreMembers h.clients.items (topic_name r)) r.stalls.items) h.rooms.items p.at.after
        (λ r apart all. All-weaker (AreMembers h.clients.items (topic_name r)) (AreMembers h'.clients.items (topic_name r))
        (λ s a. members_other (topic_name r) s (ap (λ b. b && bytes_eq (channel_name p.at.does.stall) (channel_name s)) (subst (λ n. bytes_eq n (topic_name r) ≡ false) titled apart)) a) r.stalls.items all) p.sound.members members_now);
    channels = All-weaker (HasItsChannel h) (HasItsChannel h') channels_now h'.clients.items p.channels;
    ready = p.ready;
    past = subst (λ n. All (IsPast n) h'.rooms.items) (sym (ap (λ (x : Hall). x.moment) p.rest)) (subst (All (IsPast h.moment)) (sym p.at.is) (All-set (IsPast h.moment) h.rooms.items i p.at.after past_now p.sound.past));
  }
