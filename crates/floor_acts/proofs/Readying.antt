-- RDY: a client that gets messages asks for so many in flight, and its channel knows it.
use Rattle.std.proofs.Common.{◌≡◌, ◌<◌, ◌==◌, ℕ, ℤ, set, Bool, true, false, not, ◌&&◌, if◌then◌else◌, List, length, get_or, Option, Some, None, HoldsAt, is_some, nat_eq, refl, sym, ap, subst, ◌∙◌}
use Rattle.std.specs.Prelude.{slice_set}
use Rattle.std.specs.List.{All, list_any}
use Rattle.std.specs.Str.{bytes_eq}
use Rattle.std.proofs.lemmas.Bool.{eqb-true, false≢true}
use Rattle.std.proofs.lemmas.List.Elements.{All-set}
use Rattle.nsq_outside.specs.Files.{Files}
use Rattle.backlog.specs.Lists.{OnDisk, Stands}
use Rattle.v2_frame.specs.declared.command.Command.TheVariants.{Rdy}
use Rattle.broker_history.specs.State.{Channel, Client, Phase, Fresh, Subscribed, Closing, Lost, Route, has_channel, is_fresh, is_lost, is_on, is_subscribed, put_client, with_client}
use Rattle.broker_history.specs.Channels.{IsKept}
use Rattle.broker_history.specs.Reply.{count_of}
use Rattle.broker_history.specs.Step.{ready_for, spoke}
use Rattle.broker_history.proofs.Lists.{exact_bytes, same_bytes}
use Rattle.channel_copies.specs.Clients.{client_of, now_ready}
use Rattle.channel_copies.specs.declared.clients.Client as copies
use Rattle.channel_core.specs.Seen.{Seen as ChannelSeen, seen_channel}
use Rattle.floor_rooms.specs.ClientPlaces.{AreInOrder}
use Rattle.floor_rooms.specs.Seen.{held_channel}
use Rattle.floor_rooms.proofs.Putting.{found_put, order_put}
use Rattle.floor_rooms.specs.declared.stall.Stall.{Stall}
use Rattle.floor_rooms.specs.declared.room.Room.{Room}
use Rattle.floor_rooms.specs.declared.hall.Hall.{Hall}
use Rattle.floor_rooms.specs.Rooms.{channel_name, topic_name, client_in}
use Rattle.floor_rooms.specs.Sound.{AreMembers, AsksForNone, HasItsChannel, IsRoomSound, IsSound, IsStallSound, member_of}
use Rattle.floor_rooms.specs.Standing.{Carries, HoldsFor, IsStallOf}
use Rattle.floor_rooms.specs.Changes.{AtStall, KeepsRooms}
use Rattle.floor_rooms.proofs.Dating.{keeps_at_stall, since_equal}
use Rattle.floor_rooms.proofs.Holding.{holds_at_stall}
use Rattle.floor_rooms.proofs.Sounding.{at_all}
use Rattle.floor_acts.specs.declared.spots.Spot.{Spot}
use Rattle.floor_acts.specs.Acts.{DoesAt}
use Rattle.floor_acts.specs.Flights.{ReadiesStall}
use Rattle.floor_acts.specs.Spots.{GetsOf, IsSpotFor}
use Rattle.floor_acts.proofs.Putting.{SameMember, carries_ordered, clients_rest, found_at_place, holds_read, put_at_place, read_at, read_holds}
use Rattle.floor_acts.proofs.Spotting.{member_here, on_its}
use Rattle.floor_acts.proofs.Flying.{same_stall, stays_rooms, topic_there, channel_there}
use Rattle.floor_acts.proofs.Belonging.{Regroups, and_false, sound_regrouped}

-- what differs of a hall whose channel and then whose client changed
pub both_rest : (h0 h1 h2 : Hall) → h1 ≡ record h0 { rooms = h1.rooms } → h2 ≡ record h1 { clients = h2.clients } → h2 ≡ record h0 { clients = h2.clients; rooms = h2.rooms }
both_rest h0 h1 h2 e1 e2 = e2 ∙ ap (λ (h : Hall). record h { clients = h2.clients }) e1 ∙ ap (λ rooms. record h0 { clients = h2.clients; rooms = rooms }) (sym (ap (λ (h : Hall). h.rooms) e2))

-- or whose client changed alone
pub alone_rest : (h0 h1 h2 : Hall) → h1 ≡ record h0 { clients = h1.clients } → h2 ≡ record h1 { clients = h2.clients } → h2 ≡ record h0 { clients = h2.clients; rooms = h2.rooms }
alone_rest h0 h1 h2 e1 e2 =
    let e : h2 ≡ record h0 { clients = h2.clients } = clients_rest h0 h1 h2 e1 e2 in
    e ∙ ap (λ rooms. record h0 { clients = h2.clients; rooms = rooms }) (sym (ap (λ (h : Hall). h.rooms) e))

-- a client that a channel has, or hasn't
abbrev some_if : Bool → (timeout ready : ℕ) → Option copies.Client
some_if b timeout ready = if b then Some (record { timeout = timeout; ready = ready }) else None

-- one that gets no messages asks in vain
in_vain : (p : Phase) (b : Bool) (timeout count ready : ℕ) → (is_subscribed p ≡ true → b ≡ false) → some_if b timeout (ready_for p count ready) ≡ some_if b timeout ready
in_vain Fresh b timeout count ready h = refl
in_vain Subscribed b timeout count ready h = ap (λ c. some_if c timeout count) (h refl) ∙ sym (ap (λ c. some_if c timeout ready) (h refl))
in_vain Closing b timeout count ready h = refl
in_vain Lost b timeout count ready h = refl

fresh_asks : (p : Phase) (count ready : ℕ) → (is_fresh p ≡ true → ready ≡ 0) → is_fresh p ≡ true → ready_for p count ready ≡ 0
fresh_asks Fresh count ready asks e = asks e
fresh_asks Subscribed count ready asks e = absurd (false≢true e)
fresh_asks Closing count ready asks e = absurd (false≢true e)
fresh_asks Lost count ready asks e = absurd (false≢true e)

pub readied : (rooms : List Room) (count : ℕ) (c d : Client) → d ≡ record c { ready = ready_for c.phase count c.ready } → IsSpotFor rooms c None → SameMember c d
readied rooms count c d is none =
    subst (SameMember c) (sym is) (record {
      number = refl;
      held = refl;
      member = λ topic channel. in_vain c.phase (has_channel topic channel c) c.timeout count c.ready (λ gets. none gets topic channel);
      ready = λ asks. fresh_asks c.phase count c.ready asks;
    })

-- what a client that gets messages is
held_on : (p : Phase) (r : Option Route) → is_subscribed p ≡ true → held_channel p r ≡ r
held_on Fresh r e = refl
held_on Subscribed r e = refl
held_on Closing r e = refl
held_on Lost r e = absurd (false≢true e)

gets_count : (p : Phase) (count ready : ℕ) → is_subscribed p ≡ true → ready_for p count ready ≡ count
gets_count Fresh count ready e = absurd (false≢true e)
gets_count Subscribed count ready e = refl
gets_count Closing count ready e = absurd (false≢true e)
gets_count Lost count ready e = absurd (false≢true e)

no_fresh : (p : Phase) → is_subscribed p ≡ true → is_fresh p ≡ true → ⊥
no_fresh Fresh e f = absurd (false≢true e)
no_fresh Subscribed e f = false≢true f
no_fresh Closing e f = absurd (false≢true e)
no_fresh Lost e f = absurd (false≢true e)

-- it has no other channel
neither : (p q p' q' : Bool) → (p ≡ true → p' ≡ true) → (q ≡ true → q' ≡ true) → (p' && q') ≡ false → (p && q) ≡ false
neither false q p' q' f g e = refl
neither true false p' q' f g e = refl
neither true true p' q' f g e = absurd (false≢true (sym e ∙ ap (λ b. b && q') (f refl) ∙ g refl))

off_its : (c : Client) (topic channel : List ℕ) (route : Route) (t k : List ℕ) → c.route ≡ Some route → t ≡ route.topic → k ≡ route.channel → (bytes_eq t topic && bytes_eq k channel) ≡ false → has_channel topic channel c ≡ false
off_its c topic channel route t k on same_t same_k apart =
    and_false (not (is_lost c.phase)) (is_on c.route topic channel)
    (ap (λ r. is_on r topic channel) on
    ∙ neither (bytes_eq topic route.topic) (bytes_eq channel route.channel) (bytes_eq t topic) (bytes_eq k channel)
    (λ e. ap (bytes_eq t) (exact_bytes topic route.topic e ∙ sym same_t) ∙ same_bytes t) (λ e. ap (bytes_eq k) (exact_bytes channel route.channel e ∙ sym same_k) ∙ same_bytes k) apart)

module _ (h0 h1 h2 : Hall) (k : ℕ) (spot : Spot) (number count : ℕ) (x y z : Client) (sound : IsSound h0) (l : k < length h0.clients.items) (e : x ≡ get_or h0.clients.items k x) (gets : GetsOf h0.rooms.items spot x) (n_is : number ≡ x.number)
    (rest1 : h1 ≡ record h0 { rooms = h1.rooms }) (at : AtStall spot.room spot.stall (ReadiesStall number count) h0.rooms.items h1.rooms.items) (e1 : y ≡ get_or h1.clients.items k y) (is : z ≡ record y { ready = ready_for y.phase count y.ready })
    (rest2 : h2 ≡ record h1 { clients = h2.clients }) (put : h2.clients.items ≡ slice_set h1.clients.items k z) where
  same_clients : h1.clients.items ≡ h0.clients.items
  same_clients = ap (λ (h : Hall). h.clients.items) rest1

  y_is : y ≡ x
  y_is = e1 ∙ ap (λ cs. get_or cs k y) same_clients ∙ read_at h0.clients.items k x y l e

  z_is : z ≡ record x { ready = ready_for x.phase count x.ready }
  z_is = is ∙ ap (λ (c : Client). record c { ready = ready_for c.phase count c.ready }) y_is

  z_number : z.number ≡ x.number
  z_number = ap (λ (c : Client). c.number) z_is

  put_set : h2.clients.items ≡ set h0.clients.items k z
  put_set = put ∙ ap (λ cs. set cs k z) same_clients

  whole : h2.clients.items ≡ put_client h0.clients.items z
  whole = put_set ∙ put_at_place h0.clients.items k x z sound.client_order l e z_number

  held : held_channel x.phase x.route ≡ Some gets.route
  held = held_on x.phase x.route gets.gets ∙ gets.on

  topic_is : topic_name at.room ≡ gets.route.topic
  topic_is = topic_there (ReadiesStall number count) h0.rooms.items h0.rooms.items h1.rooms.items refl spot gets.route gets.stands at

  channel_is : channel_name at.does.stall ≡ gets.route.channel
  channel_is = channel_there (ReadiesStall number count) h0.rooms.items h0.rooms.items h1.rooms.items refl spot gets.route gets.stands at

  same_name : channel_name at.does.after ≡ channel_name at.does.stall
  same_name = ap (λ (c : ChannelSeen). c.about.name) at.does.does.rest

  found : client_in h0.clients.items x.number ≡ Some x
  found = found_at_place h0.clients.items k x sound.client_order l e

  knew : client_of at.does.stall.channel.clients x.number ≡ Some (record { timeout = x.timeout; ready = x.ready })
  knew =
      ap (λ (s : Stall). client_of s.channel.clients x.number) (same_stall (ReadiesStall number count) h0.rooms.items h0.rooms.items h1.rooms.items refl spot gets.route gets.stands at)
      ∙ member_here h0 x spot gets.route sound held gets.stands found

  room_is : IsRoomSound h0 at.room
  room_is = at_all (IsRoomSound h0) h0.rooms.items spot.room at.room sound.rooms at.there

  stall_is : IsStallSound h0.options (topic_name at.room) h0.quiet_until h0.unsaved_from at.does.stall
  stall_is = at_all (IsStallSound h0.options (topic_name at.room) h0.quiet_until h0.unsaved_from) at.room.stalls.items spot.stall at.does.stall room_is.stalls at.does.there

  members_are : AreMembers h0.clients.items (topic_name at.room) at.does.stall
  members_are =
      at_all (AreMembers h0.clients.items (topic_name at.room)) at.room.stalls.items spot.stall at.does.stall
      (at_all (λ (r : Room). All (AreMembers h0.clients.items (topic_name r)) r.stalls.items) h0.rooms.items spot.room at.room sound.members at.there) at.does.there

  -- the channel is the same but for its clients
  stall_now : at.does.after ≡ record (at.does.stall) { channel = record (at.does.stall.channel) { clients = at.does.after.channel.clients } }
  stall_now = at.does.does.same ∙ ap (λ (c : ChannelSeen). record (at.does.stall) { channel = c }) at.does.does.rest

  stall_sound : IsStallSound h0.options (topic_name at.room) h0.quiet_until h0.unsaved_from at.does.after
  stall_sound = subst (IsStallSound h0.options (topic_name at.room) h0.quiet_until h0.unsaved_from) (sym stall_now) (record {
    about = stall_is.about;
    named = stall_is.named;
    settled = stall_is.settled;
    durable = stall_is.durable;
    queue = stall_is.queue;
    limits = stall_is.limits;
    calm = stall_is.calm;
    marked = stall_is.marked;
    members = stall_is.members;
  })

  -- who its clients are
  member_now : (topic channel : List ℕ) (n : ℕ) → member_of topic channel (client_in h2.clients.items n) ≡ member_of topic channel (if z.number == n then Some z else client_in h0.clients.items n)
  member_now topic channel n = ap (λ cs. member_of topic channel (client_in cs n)) whole ∙ ap (member_of topic channel) (found_put h0.clients.items z n)

  member_z : (topic channel : List ℕ) → member_of topic channel (Some z) ≡ some_if (has_channel topic channel x) x.timeout (ready_for x.phase count x.ready)
  member_z topic channel = ap (λ c. member_of topic channel (Some c)) z_is

  mine_z : member_of (topic_name at.room) (channel_name at.does.after) (Some z) ≡ Some (record { timeout = x.timeout; ready = count })
  mine_z =
      member_z (topic_name at.room) (channel_name at.does.after)
      ∙ ap (λ b. some_if b x.timeout (ready_for x.phase count x.ready)) (on_its x (topic_name at.room) (channel_name at.does.after) gets.route held topic_is (same_name ∙ channel_is))
      ∙ ap (λ r. some_if true x.timeout r) (gets_count x.phase count x.ready gets.gets)

  known_one : (n : ℕ) (b : Bool) → (z.number == n) ≡ b → (number == n) ≡ b
      → (if b then now_ready count (client_of at.does.stall.channel.clients number) else client_of at.does.stall.channel.clients n) ≡ member_of (topic_name at.room) (channel_name at.does.after) (if b then Some z else client_in h0.clients.items n)
  known_one n true a b = ap (λ m. now_ready count (client_of at.does.stall.channel.clients m)) n_is ∙ ap (now_ready count) knew ∙ sym mine_z
  known_one n false a b = members_are.known n ∙ ap (λ c. member_of (topic_name at.room) c (client_in h0.clients.items n)) (sym same_name)

  listed_one : (n : ℕ) (b : Bool) → (z.number == n) ≡ b → is_some (member_of (topic_name at.room) (channel_name at.does.stall) (client_in h0.clients.items n)) ≡ is_some (member_of (topic_name at.room) (channel_name at.does.after) (if b then Some z else client_in h0.clients.items n))
  listed_one n true a =
      let is_n : x.number ≡ n = sym z_number ∙ eqb-true z.number n a in
      ap is_some (sym (members_are.known n) ∙ ap (client_of at.does.stall.channel.clients) (sym is_n) ∙ knew) ∙ sym (ap is_some mine_z)
  listed_one n false a = ap (λ c. is_some (member_of (topic_name at.room) c (client_in h0.clients.items n))) (sym same_name)

  same_test : (n : ℕ) → (number == n) ≡ (z.number == n)
  same_test n = ap (λ m. m == n) (n_is ∙ sym z_number)

  mine_now : AreMembers h2.clients.items (topic_name at.room) at.does.after
  mine_now = record {
    known = λ n.
        at.does.does.clients n ∙ ap (λ b. if b then now_ready count (client_of at.does.stall.channel.clients number) else client_of at.does.stall.channel.clients n) (same_test n)
        ∙ known_one n (z.number == n) refl (same_test n) ∙ sym (member_now (topic_name at.room) (channel_name at.does.after) n);
    listed = λ n.
        ap (list_any (nat_eq n)) (ap (λ (s : Stall). s.members.items) at.does.does.same) ∙ members_are.listed n ∙ listed_one n (z.number == n) refl
        ∙ sym (ap is_some (member_now (topic_name at.room) (channel_name at.does.after) n));
  }

  others_one : (topic channel : List ℕ) (n : ℕ) (b : Bool) → (z.number == n) ≡ b → (bytes_eq (topic_name at.room) topic && bytes_eq (channel_name at.does.stall) channel) ≡ false
      → member_of topic channel (if b then Some z else client_in h0.clients.items n) ≡ member_of topic channel (client_in h0.clients.items n)
  others_one topic channel n true a apart =
      let is_n : x.number ≡ n = sym z_number ∙ eqb-true z.number n a in
      let off : has_channel topic channel x ≡ false = off_its x topic channel gets.route (topic_name at.room) (channel_name at.does.stall) gets.on topic_is channel_is apart in
      member_z topic channel ∙ ap (λ b. some_if b x.timeout (ready_for x.phase count x.ready)) off ∙ sym (ap (λ b. some_if b x.timeout x.ready) off) ∙ ap (member_of topic channel) (sym found ∙ ap (client_in h0.clients.items) is_n)
  others_one topic channel n false a apart = refl

  regroups : Regroups h0 h2 spot.room spot.stall (ReadiesStall number count)
  regroups = record {
    sound = sound;
    rest = rest2 ∙ ap (λ (h : Hall). record h { clients = h2.clients }) rest1 ∙ ap (λ rs. record h0 { clients = h2.clients; rooms = rs }) (sym (ap (λ (h : Hall). h.rooms) rest2));
    at = record { room = at.room; after = at.after; there = at.there; is = ap (λ (h : Hall). h.rooms.items) rest2 ∙ at.is; does = at.does };
    about = ap (λ (c : ChannelSeen). c.about) at.does.does.rest;
    since = ap (λ (s : Stall). s.since) at.does.does.same;
    stall = stall_sound;
    order = subst AreInOrder (sym whole) (order_put h0.clients.items z sound.client_order);
    mine = mine_now;
    others = λ topic channel apart n. member_now topic channel n ∙ others_one topic channel n (z.number == n) refl apart;
    channels = subst (All (HasItsChannel h0)) (sym put_set)
        (All-set (HasItsChannel h0) h0.clients.items k z (subst (HasItsChannel h0) (sym z_is) (read_holds (HasItsChannel h0) h0.clients.items k x l e (λ d. sound.channels k d l))) sound.channels);
    ready = subst (All AsksForNone) (sym put_set)
        (All-set AsksForNone h0.clients.items k z (subst AsksForNone (sym z_is) (λ fresh. absurd (no_fresh x.phase gets.gets fresh))) sound.ready);
  }

  pub ready_sound : IsSound h2
  ready_sound = sound_regrouped h0 h2 spot.room spot.stall (ReadiesStall number count) regroups

  stall_alike : (files : Files) (c : Channel) → IsStallOf files at.does.stall c → IsStallOf files at.does.after c
  stall_alike files c of = record {
    disk = of.disk;
    on_disk = subst (λ (v : ChannelSeen). OnDisk v.backlog.queue files of.disk) (sym at.does.does.rest) of.on_disk;
    is_kept = subst (λ (v : ChannelSeen). IsKept (seen_channel v of.disk) c) (sym at.does.does.rest) of.is_kept;
    stands = subst (λ (v : ChannelSeen). Stands v.backlog.queue files) (sym at.does.does.rest) of.stands;
  }

  pub ready_told : (files : Files) → HoldsAt (λ c. Carries h0 files h2 files (λ s t. t ≡ with_client s (record c { ready = ready_for c.phase count c.ready }))) h0.clients.items k
  ready_told files =
      holds_read (λ c. Carries h0 files h2 files (λ s t. t ≡ with_client s (record c { ready = ready_for c.phase count c.ready }))) h0.clients.items k x l e
      (λ s holds.
      let mid : HoldsFor h1 files s = holds_at_stall h0 h1 files s spot.room spot.stall (ReadiesStall number count) (stays_rooms h0 h1 rest1) at same_name (stall_alike files) holds in
      let r =
      carries_ordered h1 h2 k y z (subst AreInOrder (sym same_clients) sound.client_order) (subst (λ cs. k < length cs) (sym same_clients) l) e1 (z_number ∙ ap (λ (c : Client). c.number) (sym y_is)) rest2 put files s mid in
      (r.0, r.1 ∙ ap (with_client s) z_is, r.2))

pub ready_keeps : (moment : ℕ) (spot : Spot) (number count : ℕ) (old new : List Room) → AtStall spot.room spot.stall (ReadiesStall number count) old new → KeepsRooms moment old new
ready_keeps moment spot number count old new at =
    keeps_at_stall moment spot.room spot.stall (ReadiesStall number count) old new at (record {
      about = ap (λ (c : ChannelSeen). c.about) at.does.does.rest;
      paused = ap (λ (c : ChannelSeen). c.paused) at.does.does.rest;
      members = ap (λ (s : Stall). s.members.items) at.does.does.same;
      since = since_equal moment at.does.stall.since at.does.after.since (ap (λ (s : Stall). s.since) at.does.does.same);
    })

-- what RDY does, where it asks for so many
pub readies : (h h' : Hall) (k : ℕ) (n : ℤ) (count : ℕ) (files : Files) → count_of n ≡ count
    → HoldsAt (λ c. Carries h files h' files (λ s t. t ≡ with_client (with_client s (spoke h.moment c)) (record (spoke h.moment c) { ready = ready_for c.phase count c.ready }))) h.clients.items k → DoesAt k (Rdy n) false h files h' files
readies h h' k n count files is carries =
    λ d s holds.
    let c : Client = get_or h.clients.items k d in
    let r = carries d s holds in
    (r.0, r.1 ∙ ap (λ m. with_client (with_client s (spoke h.moment c)) (record (spoke h.moment c) { ready = ready_for c.phase m c.ready })) (sym is), r.2)

-- the client's own channel knows it
pub knows_at : (h : Hall) (k : ℕ) (spot : Spot) (number : ℕ) (x : Client) → IsSound h → k < length h.clients.items → x ≡ get_or h.clients.items k x → (gets : GetsOf h.rooms.items spot x) → number ≡ x.number
    → client_of gets.stands.stall.channel.clients number ≡ Some (record { timeout = x.timeout; ready = x.ready })
knows_at h k spot number x sound l e gets same =
    ap (client_of gets.stands.stall.channel.clients) same ∙ member_here h x spot gets.route sound (held_on x.phase x.route gets.gets ∙ gets.on) gets.stands (found_at_place h.clients.items k x sound.client_order l e)
