-- A message that was drawn for a client is sent to it: that is the definitions' step, of each state that the hall stood for before the drawing.
use Rattle.std.proofs.Common.{◌≡◌, inl, ◌<◌, ℕ, Bool, true, false, not, ◌&&◌, if◌then◌else◌, List, length, get_or, Option, Some, None, HoldsAt, option_map, refl, sym, ap, subst, ◌∙◌}
use Rattle.std.specs.Prelude.{IfSome, IsSome, IsTrue, slice_set, unwrap_or}
use Rattle.std.specs.List.{All}
use Rattle.std.specs.Str.{bytes_eq}
use Rattle.std.proofs.lemmas.Bool.{false≢true}
use Rattle.nsq_outside.specs.Files.{Files}
use Rattle.disk_queue.specs.Seen.{Seen as Queue}
use Rattle.v2_frame.specs.declared.message.Message.{Message}
use Rattle.backlog.specs.Seen.{SameQueue}
use Rattle.broker_history.specs.State.{Channel, Client, Route, State, counted, has_channel, is_lost, is_on, with_client}
use Rattle.broker_history.specs.Channels.{Moves, Sends}
use Rattle.broker_history.specs.Step.{DoesSend}
use Rattle.broker_history.proofs.Lists.{exact_bytes}
use Rattle.topic_core.proofs.Saving.{same_joined}
use Rattle.channel_copies.specs.Clients.{client_of}
use Rattle.channel_copies.specs.declared.clients.Client as copies
use Rattle.channel_core.specs.declared.answers.Next.TheVariants as next
use Rattle.channel_core.specs.declared.drawn.Drawn.TheVariants.{Nothing}
use Rattle.channel_core.specs.Drawing.{IsDrawnFor, first_drawn, timeout_of}
use Rattle.channel_core.specs.Seen.{Seen as ChannelSeen, channel_with, drawn_in, queued_in, queue_name, seen_channel}
use Rattle.floor_rooms.specs.declared.stall.Stall.{Stall}
use Rattle.floor_rooms.specs.declared.room.Room.{Room}
use Rattle.floor_rooms.specs.declared.hall.Hall.{Hall}
use Rattle.floor_rooms.specs.Rooms.{channel_name, topic_name, client_in}
use Rattle.floor_rooms.specs.Sound.{AreMembers, IsRoomSound, IsSound, IsStallSound, member_of}
use Rattle.floor_rooms.specs.Standing.{Carries, HoldsFor, IsStallOf, LiftsTo}
use Rattle.floor_rooms.specs.Changes.{AtStall, KeepsRooms, OnlyQueueFiles, OthersStay, Touches, TouchesStall}
use Rattle.floor_rooms.proofs.Dating.{keeps_at_stall, keeps_stall_touched, keeps_then}
use Rattle.floor_rooms.proofs.Filing.{only_of_channel}
use Rattle.floor_rooms.proofs.Lifting.{sends_lifts}
use Rattle.floor_rooms.proofs.Sounding.{at_all}
use Rattle.floor_rooms.proofs.Staying.{others_stay}
use Rattle.floor_acts.specs.Sending.{DrawsStall, HasDrawn, IsToSend, SendsStall}
use Rattle.floor_acts.proofs.Putting.{carries_client, found_at_place, read_at}
use Rattle.floor_acts.proofs.Flying.{row_at, stays_rooms}
use Rattle.floor_acts.proofs.Drawing.{Both, behind_stall, draw_stall, holds_there, join}

-- what a call of the channel requires
pub drawn_there : (i j now number n : ℕ) (message : Message) (rooms : List Room) → number ≡ n → HoldsAt (λ (r : Room). HoldsAt (IsToSend now n message) r.stalls.items j) rooms i → HoldsAt (λ (r : Room). HoldsAt (λ s. IsDrawnFor number message now s.channel.drawn) r.stalls.items j) rooms i
drawn_there i j now number n message rooms same all = λ r s. subst (λ m. IsDrawnFor m message now (get_or (get_or rooms i r).stalls.items j s).channel.drawn) (sym same) (all r s).drawn

pub member_there : (i j now number n : ℕ) (message : Message) (rooms : List Room) → number ≡ n → HoldsAt (λ (r : Room). HoldsAt (IsToSend now n message) r.stalls.items j) rooms i → HoldsAt (λ (r : Room). HoldsAt (λ s. IsSome (client_of s.channel.clients number)) r.stalls.items j) rooms i
member_there i j now number n message rooms same all = λ r s. subst (λ m. IsSome (client_of (get_or (get_or rooms i r).stalls.items j s).channel.clients m)) (sym same) (all r s).member

-- the clients are as they were
pub clients_kept : (h1 h2 h3 : Hall) → h2 ≡ record h1 { rooms = h2.rooms } → h3 ≡ record h2 { quiet_until = h3.quiet_until } → h3.clients.items ≡ h1.clients.items
clients_kept h1 h2 h3 rest2 rest3 = ap (λ (h : Hall). h.clients.items) rest3 ∙ ap (λ (h : Hall). h.clients.items) rest2

-- whose channel a client's is
its_route : (r : Option Route) (topic channel : List ℕ) → is_on r topic channel ≡ true → (route : Route) × (r ≡ Some route) × (topic ≡ route.topic) × (channel ≡ route.channel)
its_route None topic channel e = absurd (false≢true e)
its_route (Some route) topic channel e =
    let t = first_true (bytes_eq topic route.topic) (bytes_eq channel route.channel) e in
    (route, refl, exact_bytes topic route.topic t.0, exact_bytes channel route.channel t.1)
  where
    first_true : (a b : Bool) → (a && b) ≡ true → (a ≡ true) × (b ≡ true)
    first_true true b h = (refl, h)
    first_true false b h = absurd (false≢true h)

its_channel : (lost on : Bool) → (not lost && on) ≡ true → on ≡ true
its_channel false on e = e
its_channel true on e = absurd (false≢true e)

has_some : (b : Bool) (v : copies.Client) → IsSome (if b then Some v else None) → b ≡ true
has_some true v h = refl
has_some false v h = absurd (let gone : ⊥ = cc in gone)

-- a queue of the same name
named_on : (q r : Option Queue) (name : List ℕ) → SameQueue q r → IfSome q (λ x. x.name ≡ name) → IfSome r (λ x. x.name ≡ name)
named_on None None name same is = tt
named_on None (Some r) name same is = absurd same
named_on (Some q) None name same is = absurd same
named_on (Some q) (Some r) name same is = same.name ∙ is

-- the client counts it
sent_last : (t u : State) (y x : Client) → t ≡ with_client u (record y { message_count = counted y.message_count }) → y ≡ x → t ≡ with_client u (record x { message_count = counted x.message_count })
sent_last t u y x e same = e ∙ ap (λ (c : Client). with_client u (record c { message_count = counted c.message_count })) same

module _ (tells : Bool) (i j : ℕ) (message : Message) (f0 f1 f2 : Files) (n0 n1 n2 : ℕ) (hb h1 h2 h3 : Hall) (k : ℕ) (x : Client) (d : HasDrawn tells i j x.number (next.Send message) f0 f1 n0 n1 hb h1) (l : k < length h1.clients.items) (e : x ≡ get_or h1.clients.items k x)
    (is_drawn : HoldsAt (λ (r : Room). HoldsAt (IsToSend h1.moment x.number message) r.stalls.items j) h1.rooms.items i) (rest2 : h2 ≡ record h1 { rooms = h2.rooms }) (sent : AtStall i j (SendsStall tells x.number h1.moment message f1 f2 n1 n2) h1.rooms.items h2.rooms.items)
    (rest3 : h3 ≡ record h2 { quiet_until = h3.quiet_until }) where
  abbrev Drew : Stall → Stall → Type 0
  Drew = DrawsStall tells x.number d.marked.moment (next.Send message) f0 f1 n0 n1

  abbrev Sent : Stall → Stall → Type 0
  Sent = SendsStall tells x.number h1.moment message f1 f2 n1 n2

  abbrev both : AtStall i j (Both Drew Sent) d.marked.rooms.items h2.rooms.items
  both = join i j Drew Sent d.marked.rooms.items h1.rooms.items h2.rooms.items d.at sent

  before : IsStallSound d.marked.options (topic_name d.at.room) d.marked.quiet_until d.marked.unsaved_from d.at.does.stall
  before = draw_stall tells i j x.number (next.Send message) f0 f1 n0 n1 hb h1 d

  room_before : IsRoomSound d.marked d.at.room
  room_before = at_all (IsRoomSound d.marked) d.marked.rooms.items i d.at.room d.sound.rooms d.at.there

  rest_two : h2 ≡ record (d.marked) { rooms = h2.rooms }
  rest_two = rest2 ∙ ap (λ (h : Hall). record h { rooms = h2.rooms }) d.rest

  sent_channel : both.does.after.channel
      ≡ record (d.at.does.stall.channel) { backlog = both.does.after.channel.backlog; flights = both.does.after.channel.flights; drawn = Nothing; spare = both.does.after.channel.spare; deferred_spare = d.at.does.after.channel.deferred_spare }
  sent_channel =
      both.does.does.second.rest
      ∙ ap (λ (v : ChannelSeen). record v { backlog = both.does.after.channel.backlog; flights = both.does.after.channel.flights; drawn = Nothing; spare = both.does.after.channel.spare }) d.at.does.does.rest

  sent_name : channel_name both.does.after ≡ channel_name d.at.does.stall
  sent_name = ap (λ (v : ChannelSeen). v.about.name) sent_channel

  touched : TouchesStall d.at.does.stall both.does.after
  touched = record {
    about = ap (λ (v : ChannelSeen). v.about) sent_channel;
    drawn = both.does.does.second.nothing;
    queue = same_joined d.at.does.stall.channel.backlog.queue d.at.does.after.channel.backlog.queue both.does.after.channel.backlog.queue d.at.does.does.disk.queue both.does.does.second.disk.queue;
    clients = λ n. ap (λ (v : ChannelSeen). client_of v.clients n) sent_channel;
    members = ap (λ (s : Stall). s.members.items) both.does.does.second.same ∙ ap (λ (s : Stall). s.members.items) d.at.does.does.same;
    since = ap (λ (s : Stall). s.since) both.does.does.second.same ∙ ap (λ (s : Stall). s.since) d.at.does.does.same;
    marked = inl d.is_marked;
  }

  pub sent_touches : Touches i j d.marked h2
  sent_touches = record {
    sound = d.sound;
    rest = rest_two;
    stall = record {
      room = both.room;
      after = both.after;
      there = both.there;
      is = both.is;
      does = record { stall = both.does.stall; after = both.does.after; there = both.does.there; is = both.does.is; stalls = both.does.stalls; does = touched };
    };
  }

  pub sent_keeps : KeepsRooms hb.moment hb.rooms.items h3.rooms.items
  sent_keeps =
      subst (KeepsRooms hb.moment hb.rooms.items) (sym (ap (λ (h : Hall). h.rooms.items) rest3))
      (keeps_then hb.moment hb.rooms.items d.marked.rooms.items h2.rooms.items d.keeps
      (keeps_at_stall hb.moment i j (Both Drew Sent) d.marked.rooms.items h2.rooms.items both (keeps_stall_touched hb.moment d.at.does.stall both.does.after touched (ap (λ (v : ChannelSeen). v.paused) sent_channel))))

  named_drawn : IfSome d.at.does.after.channel.backlog.queue (λ q. q.name ≡ queue_name (topic_name d.at.room) (channel_name d.at.does.stall))
  named_drawn = named_on d.at.does.stall.channel.backlog.queue d.at.does.after.channel.backlog.queue (queue_name (topic_name d.at.room) (channel_name d.at.does.stall)) d.at.does.does.disk.queue before.queue

  pub sent_files : IsTrue tells → OnlyQueueFiles f1 f2
  sent_files told =
      only_of_channel (topic_name d.at.room) (channel_name d.at.does.stall) d.at.does.after.channel.backlog.queue f1 f2 room_before.named before.named named_drawn (both.does.does.second.disk.others told)

  -- the client's channel is that one
  clients_b : h1.clients.items ≡ hb.clients.items
  clients_b = ap (λ (h : Hall). h.clients.items) d.rest ∙ ap (λ (h : Hall). h.clients.items) d.marks

  moment_b : h1.moment ≡ hb.moment
  moment_b = ap (λ (h : Hall). h.moment) d.rest ∙ ap (λ (h : Hall). h.moment) d.marks

  found : client_in d.marked.clients.items x.number ≡ Some x
  found =
      let same : h1.clients.items ≡ d.marked.clients.items = ap (λ (h : Hall). h.clients.items) d.rest in
      found_at_place d.marked.clients.items k x d.sound.client_order (subst (λ cs. k < length cs) same l) (e ∙ ap (λ cs. get_or cs k x) same)

  members_are : AreMembers d.marked.clients.items (topic_name d.at.room) d.at.does.stall
  members_are =
      at_all (AreMembers d.marked.clients.items (topic_name d.at.room)) d.at.room.stalls.items j d.at.does.stall
      (at_all (λ (r : Room). All (AreMembers d.marked.clients.items (topic_name r)) r.stalls.items) d.marked.rooms.items i d.at.room d.sound.members d.at.there) d.at.does.there

  knows : client_of d.at.does.stall.channel.clients x.number ≡ member_of (topic_name d.at.room) (channel_name d.at.does.stall) (Some x)
  knows = members_are.known x.number ∙ ap (member_of (topic_name d.at.room) (channel_name d.at.does.stall)) found

  same_clients : d.at.does.after.channel.clients ≡ d.at.does.stall.channel.clients
  same_clients = ap (λ (v : ChannelSeen). v.clients) d.at.does.does.rest

  it_has : has_channel (topic_name d.at.room) (channel_name d.at.does.stall) x ≡ true
  it_has =
      let is : IsToSend h1.moment x.number message sent.does.stall = holds_there i j Sent h1.rooms.items h2.rooms.items (IsToSend h1.moment x.number message) sent is_drawn in
      has_some (has_channel (topic_name d.at.room) (channel_name d.at.does.stall) x) (record { timeout = x.timeout; ready = x.ready })
      (subst IsSome (ap (λ (s : Stall). client_of s.channel.clients x.number) (behind_stall i j Drew Sent d.marked.rooms.items h1.rooms.items h2.rooms.items d.at sent) ∙ ap (λ cs. client_of cs x.number) same_clients ∙ knows) is.member)

  timeout_is : timeout_of x.number d.at.does.after.channel ≡ x.timeout
  timeout_is =
      ap (λ cs. unwrap_or (option_map (λ (c : copies.Client). c.timeout) (client_of cs x.number)) 0) same_clients
      ∙ ap (λ (o : Option copies.Client). unwrap_or (option_map (λ (c : copies.Client). c.timeout) o) 0)
      (knows ∙ ap (λ b. if b then Some (record { timeout = x.timeout; ready = x.ready }) else None) it_has)

  -- the row
  lifts : IsTrue tells → (c : Channel) → IsStallOf f0 d.at.does.stall c → LiftsTo (Sends Moves x.number hb.moment x.timeout message) f2 both.does.after c
  lifts told c is =
      let a : ChannelSeen = d.at.does.stall.channel in
      let b : ChannelSeen = d.at.does.after.channel in
      let g = d.at.does.does.gives told is.disk is.on_disk in
      let waits : List Message = drawn_in (first_drawn b.drawn message) b is.disk in
      let same : channel_with b waits ≡ seen_channel a is.disk = ap (channel_with b) g.same ∙ ap (λ (v : ChannelSeen). channel_with v (queued_in a is.disk)) d.at.does.does.rest in
      let leads = both.does.does.second.row told is.disk (d.at.does.does.list told is.disk is.on_disk) g.first in
      subst (λ n. LiftsTo (Sends Moves x.number n x.timeout message) f2 both.does.after c) moment_b
      (subst (λ t. LiftsTo (Sends Moves x.number h1.moment t message) f2 both.does.after c) timeout_is
      (sends_lifts x.number h1.moment (timeout_of x.number b) message f0 f2 d.at.does.stall both.does.after c b waits is same sent_name (both.does.does.second.disk.stands told (d.at.does.does.disk.stands told is.stands)) leads))

  others : IsTrue tells → OthersStay (queue_name (topic_name d.at.room) (channel_name d.at.does.stall)) f0 f2
  others told =
      let name : List ℕ = queue_name (topic_name d.at.room) (channel_name d.at.does.stall) in
      let first : OthersStay name f0 f1 = others_stay d.at.does.stall.channel.backlog.queue name f0 f1 before.queue (d.at.does.does.disk.others told) in
      let second : OthersStay name f1 f2 = others_stay d.at.does.after.channel.backlog.queue name f1 f2 named_drawn (both.does.does.second.disk.others told) in
      λ n apart file own. second n apart file own ∙ first n apart file own

  pub sent_clients : h3.clients.items ≡ h1.clients.items
  sent_clients = clients_kept h1 h2 h3 rest2 rest3

  pub sent_told : (h4 : Hall) (y z : Client) → IsTrue tells → ((s : State) → HoldsFor h2 f2 s → HoldsFor h3 f2 s) → IsSound h3 → y ≡ get_or h3.clients.items k y → z ≡ record y { message_count = counted y.message_count } → h4 ≡ record h3 { clients = h4.clients }
      → h4.clients.items ≡ slice_set h3.clients.items k z → Carries hb f0 h4 f2 (λ s t. DoesSend s hb.moment x.number message t)
  sent_told h4 y z told end sound3 e3 counts rest4 put4 = λ s holds.
      let at = its_route x.route (topic_name d.at.room) (channel_name d.at.does.stall) (its_channel (is_lost x.phase) (is_on x.route (topic_name d.at.room) (channel_name d.at.does.stall)) it_has) in
      let r =
      row_at d.marked h2 f0 f2 i j (Both Drew Sent) (Sends Moves x.number hb.moment x.timeout message) at.0.topic at.0.channel d.sound both sent_name (stays_rooms d.marked h2 rest_two) (others told) (lifts told) at.2 at.3 s (d.stands f0 s holds) in
      let y_is : y ≡ x = e3 ∙ ap (λ cs. get_or cs k y) sent_clients ∙ read_at h1.clients.items k x y l e in
      let g : Client → Client = λ c. record c { message_count = counted c.message_count } in
      let last = carries_client h3 h4 k y (g y) sound3 (subst (λ cs. k < length cs) (sym sent_clients) l) e3 refl rest4 (put4 ∙ ap (slice_set h3.clients.items k) counts) f2 r.0 (end r.0 r.2) in
      let there : client_in s.clients x.number ≡ Some x = ap (λ cs. client_in cs x.number) (holds.stands.clients ∙ sym (ap (λ (h : Hall). h.clients.items) d.marks)) ∙ found in (
        last.0,
        record { client = x; there = there; sends = record { route = at.0; between = r.0; on = at.1; channel = r.1; is = sent_last last.0 r.0 y x last.1 y_is } },
        last.2,
      )
