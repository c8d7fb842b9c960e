-- A client comes to a channel or goes from it: a hall stays sound, and stands for the states with that client as it is then.
use Rattle.std.proofs.Common.{◌≡◌, ◌≤◌, ◌<◌, ◌^◌, ℕ, suc, zero, set, Bool, true, false, ◌&&◌, ◌||◌, nat_eq, if◌then◌else◌, List, [], ◌∷◌, map, Option, Some, None, refl, sym, ap, subst, ◌∙◌, arith}
use Rattle.std.specs.Prelude.{IfSome, IsSome, is_none, is_some, option_and_then}
use Rattle.std.specs.List.{All, Contains, list_any}
use Rattle.std.specs.Str.{bytes_eq}
use Rattle.std.proofs.Math.Seq.{map-set_same}
use Rattle.std.proofs.lemmas.Bool.{eqb-true}
use Rattle.std.proofs.lemmas.List.Elements.{All-set, All-weaker}
use Rattle.std.proofs.lemmas.Option.{get_or_from_slice_get}
use Rattle.nsq_base.specs.Names.{IsAscendingBy}
use Rattle.nsq_base.specs.Options.{IsInRange}
use Rattle.nsq_base.proofs.PutBy.{All-put_by, IsAscendingBy-put_by}
use Rattle.nsq_outside.specs.Files.{Files}
use Rattle.path_image.specs.Data.{durable}
use Rattle.path_image.specs.Found.{Pairwise}
use Rattle.broker_history.specs.State.{Client, Route, State, is_empty}
use Rattle.broker_history.specs.Channels.{IsKept}
use Rattle.broker_history.proofs.Lists.{exact_bytes, find_put}
use Rattle.backlog.specs.Lists.{OnDisk, Stands}
use Rattle.topic_core.specs.Seen.{owed_of}
use Rattle.channel_copies.specs.Clients.{client_of}
use Rattle.channel_copies.specs.declared.clients.Client.{Client as Known}
use Rattle.channel_core.specs.Seen.{Seen as ChannelSeen, seen_channel}
use Rattle.floor_rooms.specs.ClientPlaces.{AreInOrder}
use Rattle.floor_rooms.specs.Seen.{held_channel}
use Rattle.floor_laws.proofs.Pairs.{IfBoth, pairs_found}
use Rattle.floor_rooms.specs.declared.stall.Stall.{Stall}
use Rattle.floor_rooms.specs.declared.room.Room.{Room}
use Rattle.floor_rooms.specs.declared.hall.Hall.{Hall}
use Rattle.floor_rooms.specs.Rooms.{channel_name, topic_name, client_in, room_in, stall_in, stall_at, put_room, put_stall}
use Rattle.floor_rooms.specs.Sound.{AreMembers, AsksForNone, HasItsChannel, IsPast, IsRoomSound, IsSound, IsStallSound, has_none_waiting, member_of}
use Rattle.floor_rooms.specs.Standing.{HoldsFor}
use Rattle.floor_rooms.specs.Changes.{AtStall, InRoom, KeepsSince, SinceStays}
use Rattle.floor_rooms.specs.Kept.{NamesTold, room_kept, stall_kept}
use Rattle.floor_rooms.proofs.Placing.{found_at, put_at}
use Rattle.floor_rooms.proofs.Sounding.{Lowers, all_past, at_all, room_lowered}
use Rattle.floor_rooms.proofs.Holding.{StaysElse, holds_at_stall}
use Rattle.floor_rooms.proofs.Dating.{pairs_one, since_at_room, since_equal, since_same}
use Rattle.floor_rooms.proofs.Naming.{KeptAlike, kept_pairs, names_at_room}
use Rattle.floor_topics.specs.Seating.{Seats}
use Rattle.floor_topics.proofs.LostStalls.{All-put_apart, and_both, and_false}

-- what is known of the clients of both halls: only that of a number differs, and to other channels it is nobody's
pub record SeatFacts (h h' : Hall) (number : ℕ) (topic channel : List ℕ) (seat : Option Known) (before : Client) (now : Option Client) : Type 0 where
  pub was : client_in h.clients.items number ≡ Some before
  pub found : (n : ℕ) → client_in h'.clients.items n ≡ (if nat_eq number n then now else client_in h.clients.items n)
  pub order : AreInOrder h'.clients.items
  pub ready : All AsksForNone h'.clients.items
  pub own : member_of topic channel now ≡ seat
  pub others : (t k : List ℕ) → bytes_eq topic t && bytes_eq channel k ≡ false → member_of t k now ≡ member_of t k (Some before)
  pub channels : ((c : Client) → HasItsChannel h c → HasItsChannel h' c) → IsSome (stall_at h'.rooms.items topic channel) → All (HasItsChannel h') h'.clients.items

abbrev pub OnlySeats : Hall → Hall → Type 0
OnlySeats h h' = h' ≡ record h { rooms = h'.rooms; clients = h'.clients; pending = h'.pending }

pub known_where : (t k : List ℕ) (number n : ℕ) (b : Bool) (o : Option Client) (now : Option Client) (before : Client) → nat_eq number n ≡ b → (b ≡ true → o ≡ Some before) → member_of t k now ≡ member_of t k (Some before)
    → member_of t k (if b then now else o) ≡ member_of t k o
known_where t k number n true o now before e is same = same ∙ ap (member_of t k) (sym (is refl))
known_where t k number n false o now before e is same = refl

own_where : (t k : List ℕ) (b : Bool) (o now : Option Client) (seat u : Option Known) → member_of t k now ≡ seat → u ≡ member_of t k o → (if b then seat else u) ≡ member_of t k (if b then now else o)
own_where t k true o now seat u own known = sym own
own_where t k false o now seat u own known = known

own_listed : (t k : List ℕ) (b : Bool) (o now : Option Client) (seat : Option Known) (u : Bool) → member_of t k now ≡ seat → u ≡ is_some (member_of t k o) → (if b then is_some seat else u) ≡ is_some (member_of t k (if b then now else o))
own_listed t k true o now seat u own known = ap is_some (sym own)
own_listed t k false o now seat u own known = known

empty_set : {X : Type 0} (xs : List X) (i : ℕ) (x : X) → is_empty (set xs i x) ≡ is_empty xs
empty_set [] i x = refl
empty_set (y ∷ xs) zero x = refl
empty_set (y ∷ xs) (suc i) x = refl

here_or : {X : Type 0} (x : X) (o : Option X) (b : Bool) → IsSome o → IsSome (if b then Some x else o)
here_or x o true h = refl
here_or x o false h = h

here : {X : Type 0} (x : X) (o : Option X) (b : Bool) → b ≡ true → (if b then Some x else o) ≡ Some x
here x o b e = ap (λ c. if c then Some x else o) e

in_where : (channel : List ℕ) (r : Room) (o : Option Room) (b : Bool) → (b ≡ true → IsSome (stall_in r.stalls.items channel)) → IsSome (option_and_then (λ (x : Room). stall_in x.stalls.items channel) o)
    → IsSome (option_and_then (λ (x : Room). stall_in x.stalls.items channel) (if b then Some r else o))
in_where channel r o true f h = f refl
in_where channel r o false f h = h

some_weaker : {X : Type 0} (P Q : X → Type 0) (o : Option X) → ((x : X) → P x → Q x) → IfSome o P → IfSome o Q
some_weaker P Q None f h = h
some_weaker P Q (Some x) f h = f x h

abbrev SameMark : (at : ℕ) → Stall → Stall → Type 0
SameMark at x y = (channel_name y ≡ channel_name x) × SinceStays at x.since y.since

mark_both : (at : ℕ) (o u : Option Stall) → IfBoth (SameMark at) o u → IfSome u (λ s. SinceStays at (option_and_then (λ (x : Stall). x.since) o) s.since)
mark_both at None None h = tt
mark_both at None (Some y) h = absurd h
mark_both at (Some x) None h = tt
mark_both at (Some x) (Some y) h = h.1

module _ (h h' : Hall) (i j number : ℕ) (seat : Option Known) (before : Client) (now : Option Client) (sound : IsSound h) (rest : OnlySeats h h') (pending : (name : List ℕ) → Contains h.pending.items name → Contains h'.pending.items name)
    (at : AtStall i j (Seats number seat) h.rooms.items h'.rooms.items) (f : SeatFacts h h' number (topic_name at.room) (channel_name at.does.stall) seat before now) where
  abbrev topic : List ℕ
  topic = topic_name at.room

  abbrev x : Stall
  x = at.does.stall

  abbrev y : Stall
  y = at.does.after

  abbrev channel : List ℕ
  channel = channel_name x

  abbrev xs : List Stall
  xs = at.room.stalls.items

  room_is : IsRoomSound h at.room
  room_is = at_all (IsRoomSound h) h.rooms.items i at.room sound.rooms at.there

  stall_is : IsStallSound h.options topic h.quiet_until h.unsaved_from x
  stall_is = at_all (IsStallSound h.options topic h.quiet_until h.unsaved_from) xs j x room_is.stalls at.does.there

  mine : AreMembers h.clients.items topic x
  mine = at_all (AreMembers h.clients.items topic) xs j x (at_all (λ (r : Room). All (AreMembers h.clients.items (topic_name r)) r.stalls.items) h.rooms.items i at.room sound.members at.there) at.does.there

  name_after : topic_name at.after ≡ topic
  name_after = ap topic_name at.does.is

  seen : y.channel ≡ record (x.channel) { clients = y.channel.clients }
  seen = ap (λ (s : Stall). s.channel) at.does.does.is

  same_name : channel_name y ≡ channel
  same_name = ap (λ (v : ChannelSeen). v.about.name) seen

  stalls_after : at.after.stalls.items ≡ put_stall xs y
  stalls_after = at.does.stalls ∙ put_at channel_name xs j x y room_is.order at.does.there same_name

  rooms_after : h'.rooms.items ≡ put_room h.rooms.items at.after
  rooms_after = at.is ∙ put_at topic_name h.rooms.items i at.room at.after sound.room_order at.there name_after

  found_room : room_in h.rooms.items topic ≡ Some at.room
  found_room = found_at topic_name h.rooms.items i at.room sound.room_order at.there

  found_now : (t : List ℕ) → room_in h'.rooms.items t ≡ (if bytes_eq t (topic_name at.after) then Some at.after else room_in h.rooms.items t)
  found_now t = ap (λ rs. room_in rs t) rooms_after ∙ find_put topic_name h.rooms.items at.after t

  stall_now : (k : List ℕ) → stall_in at.after.stalls.items k ≡ (if bytes_eq k (channel_name y) then Some y else stall_in xs k)
  stall_now k = ap (λ ys. stall_in ys k) stalls_after ∙ find_put channel_name xs y k

  lowers : Lowers h h'
  lowers =
      let quiet : h'.quiet_until ≡ h.quiet_until = ap (λ (z : Hall). z.quiet_until) rest in
      let from : h'.unsaved_from ≡ h.unsaved_from = ap (λ (z : Hall). z.unsaved_from) rest in
      record { options = ap (λ (z : Hall). z.options) rest; quiet = omega (arith, quiet); unsaved = omega (arith, from); pending = pending }

  same_moment : h'.moment ≡ h.moment
  same_moment = ap (λ (z : Hall). z.moment) rest

  later : h.moment ≤ h'.moment
  later = omega (arith, same_moment)

  -- what other channels know is as it was
  known_now : (t k : List ℕ) (n : ℕ) → bytes_eq topic t && bytes_eq channel k ≡ false → member_of t k (client_in h'.clients.items n) ≡ member_of t k (client_in h.clients.items n)
  known_now t k n apart =
      ap (member_of t k) (f.found n)
      ∙ known_where t k number n (nat_eq number n) (client_in h.clients.items n) now before refl (λ e. ap (client_in h.clients.items) (sym (eqb-true number n e)) ∙ f.was) (f.others t k apart)

  members_of : (t : List ℕ) (s : Stall) → bytes_eq topic t && bytes_eq channel (channel_name s) ≡ false → AreMembers h.clients.items t s → AreMembers h'.clients.items t s
  members_of t s apart a = record {
    known = λ n. a.known n ∙ sym (known_now t (channel_name s) n apart);
    listed = λ n. a.listed n ∙ ap is_some (sym (known_now t (channel_name s) n apart));
  }

  members_mine : AreMembers h'.clients.items topic y
  members_mine = record {
    known = λ n.
        at.does.does.clients n ∙ own_where topic channel (nat_eq number n) (client_in h.clients.items n) now seat (client_of x.channel.clients n) f.own (mine.known n) ∙ ap (member_of topic channel) (sym (f.found n))
        ∙ ap (λ k. member_of topic k (client_in h'.clients.items n)) (sym same_name);
    listed = λ n.
        at.does.does.listed n ∙ own_listed topic channel (nat_eq number n) (client_in h.clients.items n) now seat (list_any (nat_eq n) x.members.items) f.own (mine.listed n) ∙ ap (λ o. is_some (member_of topic channel o)) (sym (f.found n))
        ∙ ap (λ k. is_some (member_of topic k (client_in h'.clients.items n))) (sym same_name);
  }

  abbrev Mine : List Client → Room → Type 0
  Mine cs r = All (AreMembers cs (topic_name r)) r.stalls.items

  members_others : (r : Room) → bytes_eq (topic_name at.after) (topic_name r) ≡ false → Mine h.clients.items r → Mine h'.clients.items r
  members_others r apart m =
      All-weaker (AreMembers h.clients.items (topic_name r)) (AreMembers h'.clients.items (topic_name r))
      (λ s a. members_of (topic_name r) s (and_false (bytes_eq topic (topic_name r)) (bytes_eq channel (channel_name s)) (ap (λ n. bytes_eq n (topic_name r)) (sym name_after) ∙ apart)) a) r.stalls.items m

  members_own : Mine h'.clients.items at.after
  members_own =
      subst (λ n. All (AreMembers h'.clients.items n) at.after.stalls.items) (sym name_after)
      (subst (All (AreMembers h'.clients.items topic)) (sym stalls_after)
      (All-put_apart channel_name (AreMembers h.clients.items topic) (AreMembers h'.clients.items topic) xs y
      (λ s apart a. members_of topic s (and_both (bytes_eq topic topic) (bytes_eq channel (channel_name s)) (ap (λ n. bytes_eq n (channel_name s)) (sym same_name) ∙ apart)) a)
      (at_all (Mine h.clients.items) h.rooms.items i at.room sound.members at.there) members_mine))

  -- each channel is still there
  stall_left : (k : List ℕ) → IsSome (stall_in xs k) → IsSome (stall_in at.after.stalls.items k)
  stall_left k has = subst IsSome (sym (stall_now k)) (here_or y (stall_in xs k) (bytes_eq k (channel_name y)) has)

  stall_still : (t k : List ℕ) → IsSome (stall_at h.rooms.items t k) → IsSome (stall_at h'.rooms.items t k)
  stall_still t k has =
      subst (λ (o : Option Room). IsSome (option_and_then (λ (r : Room). stall_in r.stalls.items k) o)) (sym (found_now t))
      (in_where k at.after (room_in h.rooms.items t) (bytes_eq t (topic_name at.after))
      (λ e.
      let is : t ≡ topic = exact_bytes t (topic_name at.after) e ∙ name_after in
      stall_left k (subst (λ (o : Option Room). IsSome (option_and_then (λ (r : Room). stall_in r.stalls.items k) o)) (ap (room_in h.rooms.items) is ∙ found_room) has)) has)

  pub seat_there : IsSome (stall_at h'.rooms.items topic channel)
  seat_there =
      let has : stall_in xs channel ≡ Some x = found_at channel_name xs j x room_is.order at.does.there in
      stall_still topic channel (subst IsSome (sym (ap (option_and_then (λ (r : Room). stall_in r.stalls.items channel)) found_room ∙ has)) refl)

  same_names : map channel_name at.after.stalls.items ≡ map channel_name xs
  same_names = ap (map channel_name) at.does.stalls ∙ map-set_same channel_name xs j y x (same_name ∙ ap channel_name (sym (get_or_from_slice_get xs j x x at.does.there)))

  same_empty : is_empty at.after.stalls.items ≡ is_empty xs
  same_empty = ap is_empty at.does.stalls ∙ empty_set xs j y

  stall_after : IsStallSound h'.options topic h'.quiet_until h'.unsaved_from y
  stall_after =
      let low = lowers.quiet in
      let early = lowers.unsaved in
      let o : h'.options ≡ h.options = lowers.options in
      let since : y.since ≡ x.since = ap (λ (s : Stall). s.since) at.does.does.is in
      let quiet : h'.quiet_until ≡ h.quiet_until = ap (λ (z : Hall). z.quiet_until) rest in
      let from : h'.unsaved_from ≡ h.unsaved_from = ap (λ (z : Hall). z.unsaved_from) rest in
      let sure : IsStallSound h.options topic h.quiet_until h.unsaved_from (record x { channel = record (x.channel) { clients = y.channel.clients }; members = y.members }) = record {
        about = stall_is.about;
        named = stall_is.named;
        settled = stall_is.settled;
        durable = stall_is.durable;
        queue = stall_is.queue;
        limits = stall_is.limits;
        calm = stall_is.calm;
        marked = stall_is.marked;
        members = at.does.does.order;
      } in
      subst (λ p. IsStallSound p topic h'.quiet_until h'.unsaved_from y) (sym o)
      (subst (λ q. IsStallSound h.options topic q h'.unsaved_from y) (sym quiet) (subst (λ u. IsStallSound h.options topic h.quiet_until u y) (sym from) (subst (IsStallSound h.options topic h.quiet_until h.unsaved_from) (sym at.does.does.is) sure)))

  room_after : IsRoomSound h' at.after
  room_after =
      let r : IsRoomSound h' at.room = room_lowered h h' at.room lowers room_is in
      subst (IsRoomSound h') (sym at.does.is) (record {
        named = r.named;
        settled = r.settled;
        backlog = r.backlog;
        capacity = r.capacity;
        limits = r.limits;
        names = subst (λ ns. IfSome at.room.names (λ names. names ≡ (topic_name at.room, ns) ∷ [])) (sym same_names) r.names;
        order = subst (IsAscendingBy channel_name) (sym stalls_after) (IsAscendingBy-put_by channel_name xs y r.order);
        stalls = subst (All (IsStallSound h'.options topic h'.quiet_until h'.unsaved_from)) (sym at.does.stalls) (All-set (IsStallSound h'.options topic h'.quiet_until h'.unsaved_from) xs j y stall_after r.stalls);
        owed = All-weaker (λ name. IsSome (stall_in xs name)) (λ name. IsSome (stall_in at.after.stalls.items name)) (λ name has. stall_left name has) (owed_of at.room.queue.head) r.owed;
        marked = r.marked;
        listed = r.listed;
        rests = λ l. ap (λ b. is_none at.room.queue.head && (at.room.queue.paused || (b || has_none_waiting at.room))) same_empty ∙ r.rests l;
      })

  past_after : IsPast h'.moment at.after
  past_after =
      let r : IsPast h'.moment at.room = at_all (IsPast h'.moment) h.rooms.items i at.room (all_past h h' later sound) at.there in
      let Old : Stall → Type 0 = λ (s : Stall). IfSome s.since (λ m. m ≤ h'.moment) in
      record {
        room = subst (λ o. IfSome o (λ m. m ≤ h'.moment)) (sym (ap (λ (z : Room). z.since) at.does.is)) r.room;
        stalls = subst (All Old) (sym at.does.stalls) (All-set Old xs j y (subst (λ o. IfSome o (λ m. m ≤ h'.moment)) (sym (ap (λ (s : Stall). s.since) at.does.does.is)) (at_all Old xs j x r.stalls at.does.there)) r.stalls);
      }

  pub seat_sound : IsSound h'
  seat_sound =
      let early = sound.moment in
      record {
        options = subst IsInRange (sym (ap (λ (z : Hall). z.options) rest)) sound.options;
        epoch = subst (λ e. e < 2 ^ 24) (sym (ap (λ (z : Hall). z.epoch) rest)) sound.epoch;
        ids_used = subst (λ n. n ≤ 2 ^ 40) (sym (ap (λ (z : Hall). z.ids_used) rest)) sound.ids_used;
        moment = omega (arith, same_moment, early);
        client_order = f.order;
        room_order = subst (IsAscendingBy topic_name) (sym rooms_after) (IsAscendingBy-put_by topic_name h.rooms.items at.after sound.room_order);
        rooms = subst (All (IsRoomSound h')) (sym rooms_after)
            (All-put_by topic_name (IsRoomSound h') h.rooms.items at.after (All-weaker (IsRoomSound h) (IsRoomSound h') (λ r s. room_lowered h h' r lowers s) h.rooms.items sound.rooms) room_after);
        members = subst (All (Mine h'.clients.items)) (sym rooms_after) (All-put_apart topic_name (Mine h.clients.items) (Mine h'.clients.items) h.rooms.items at.after members_others sound.members members_own);
        channels = f.channels
            (λ c has.
            some_weaker (λ (r : Route). IsSome (stall_at h.rooms.items r.topic r.channel)) (λ (r : Route). IsSome (stall_at h'.rooms.items r.topic r.channel)) (held_channel c.phase c.route) (λ r there. stall_still r.topic r.channel there) has)
            seat_there;
        ready = f.ready;
        past = subst (All (IsPast h'.moment)) (sym rooms_after) (All-put_by topic_name (IsPast h'.moment) h.rooms.items at.after (all_past h h' later sound) past_after);
      }

  pub seat_since : KeepsSince h.moment h.rooms.items h'.rooms.items
  seat_since =
      since_at_room h.moment i (InRoom j (Seats number seat)) h.rooms.items h'.rooms.items at (record {
        name = name_after;
        since = since_equal h.moment at.room.since at.after.since (ap (λ (r : Room). r.since) at.does.is);
        channels = λ k.
            mark_both h.moment (stall_in xs k) (stall_in at.after.stalls.items k)
            (pairs_found (SameMark h.moment) (λ s. bytes_eq k (channel_name s)) (λ s. bytes_eq k (channel_name s)) xs at.after.stalls.items (λ a b m. ap (bytes_eq k) (sym m.0))
            (subst (Pairwise (SameMark h.moment) xs) (sym at.does.stalls)
            (pairs_one (SameMark h.moment) (λ s. (refl, since_same h.moment s.since)) xs j x y at.does.there (same_name, since_equal h.moment x.since y.since (ap (λ (s : Stall). s.since) at.does.does.is)))));
      })

  pub seat_names : NamesTold h h'
  seat_names =
      names_at_room h h' i (InRoom j (Seats number seat)) at name_after (λ e. sym (ap (λ (z : Hall). z.unsaved_names) rest) ∙ e)
      (λ e d.
      ap (λ (r : Room). room_kept r) at.does.is
      ∙ ap (λ cs. record { name = topic; paused = at.room.queue.paused; channels = cs })
      (ap (λ ys. map stall_kept (durable channel_name ys)) at.does.stalls
      ∙ kept_pairs channel_name stall_kept xs (set xs j y) (pairs_one (KeptAlike channel_name stall_kept) (λ s. (refl, λ g. refl)) xs j x y at.does.there (same_name, λ g. ap stall_kept at.does.does.is))))

  -- the states in which the clients are those of the hall
  pub seat_stands : (files : Files) (s : State) (clients : List Client) → HoldsFor h files s → clients ≡ h'.clients.items → HoldsFor h' files (record s { clients = clients })
  seat_stands files s clients holds is =
      let hv : Hall = record h' { clients = h.clients } in
      let else_of : h'.moment ≡ h.moment = same_moment in
      let stays : StaysElse h hv = record {
        options = ap (λ (z : Hall). z.options) rest;
        epoch = ap (λ (z : Hall). z.epoch) rest;
        ids_used = ap (λ (z : Hall). z.ids_used) rest;
        moment = later;
        stopped = ap (λ (z : Hall). z.stopped) rest;
        clients = refl;
      } in
      let v : HoldsFor hv files s =
      holds_at_stall h hv files s i j (Seats number seat) stays at same_name
      (λ k of.
      record {
        disk = of.disk;
        on_disk = subst (λ (w : ChannelSeen). OnDisk w.backlog.queue files of.disk) (sym seen) of.on_disk;
        is_kept = subst (λ (w : ChannelSeen). IsKept (seen_channel w of.disk) k) (sym seen) of.is_kept;
        stands = subst (λ (w : ChannelSeen). Stands w.backlog.queue files) (sym seen) of.stands;
      })
      holds in
      record {
        stands = record {
          options = v.stands.options;
          epoch = v.stands.epoch;
          ids_used = v.stands.ids_used;
          moment = v.stands.moment;
          stopped = v.stands.stopped;
          clients = is;
          topics = v.stands.topics;
        };
        idle = record { topics = v.idle.topics; channels = v.idle.channels };
      }
