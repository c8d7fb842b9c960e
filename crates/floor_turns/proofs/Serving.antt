-- The channel of a client that is to be sent something: where it stands, and what may be sent of it in each state that the hall stands for.
use Rattle.std.proofs.Common.{◌≡◌, ◌<◌, ◌≤◌, ◌==◌, ℕ, zero, suc, Bool, true, false, not, ◌&&◌, nat_lt, List, [], ◌∷◌, length, get_or, Option, Some, None, option_map, refl, sym, ap, subst, ◌∙◌, arith}
use Rattle.std.specs.Prelude.{IsTrue, option_and_then, slice_get, unwrap_or}
use Rattle.std.specs.Global.{Vec}
use Rattle.std.proofs.lemmas.Bool.{eqb-true, false≢true, le-ltb}
use Rattle.std.proofs.lemmas.Option.{get_or_from_slice_get, slice_get-get_or}
use Rattle.nsq_outside.specs.Files.{Files}
use Rattle.nsq_outside.specs.declared.journal.End.TheVariants.{Done, Faulted}
use Rattle.v2_frame.specs.declared.message.Message.{Message}
use Rattle.path_image.specs.Found.{Pairwise}
use Rattle.broker_history.specs.State.{Channel, Client, Phase, Fresh, Subscribed, Closing, Lost, Route, State, channel_at, client_channel, flying, is_subscribed}
use Rattle.broker_history.specs.Channels.{can_send, has_credit, is_free}
use Rattle.broker_history.specs.Credit.{has_message, is_quiet, may_get}
use Rattle.broker_history.specs.Reply.{copies_in}
use Rattle.broker_history.specs.Step.{IsAllowedAct, MayBeSent}
use Rattle.broker_history.specs.declared.entry.Act.TheVariants.{Idle, Sent, Stuck}
use Rattle.broker_history.proofs.Lists.{find_passes}
use Rattle.channel_copies.specs.Clients.{client_of}
use Rattle.channel_copies.specs.declared.clients.Client as copies
use Rattle.channel_core.specs.declared.about.About.{About}
use Rattle.channel_core.specs.declared.answers.Next.{Next}
use Rattle.channel_core.specs.declared.answers.Next.TheVariants as next
use Rattle.channel_core.specs.Drawing.{Draws, NextWhere, ready_of}
use Rattle.channel_core.specs.Seen.{queued_in, seen_channel}
use Rattle.floor_rooms.specs.Seen.{held_channel}
use Rattle.floor_laws.proofs.Counting.{counts_alike, none_sent}
use Rattle.floor_laws.proofs.Pairs.{IfBoth}
use Rattle.floor_rooms.specs.declared.stall.Stall.{Stall}
use Rattle.floor_rooms.specs.declared.room.Room.{Room}
use Rattle.floor_rooms.specs.declared.hall.Hall.{Hall}
use Rattle.floor_rooms.specs.Changes.{KeepsRoom, KeepsRooms, KeepsStall}
use Rattle.floor_rooms.specs.Places.{IsThere}
use Rattle.floor_rooms.specs.Rooms.{channel_name, client_in, room_in, stall_at, stall_in, topic_name}
use Rattle.floor_rooms.specs.Sound.{IsSound}
use Rattle.floor_rooms.specs.Standing.{HoldsFor, IsStallOf}
use Rattle.floor_rooms.proofs.Placing.{found_at}
use Rattle.floor_acts.proofs.Found.{found_channel}
use Rattle.floor_acts.specs.Plans.{DrawsAt}
use Rattle.floor_moves.specs.declared.due.Place.{Place}
use Rattle.floor_moves.specs.Moves.{Keeps}
use Rattle.floor_acts.specs.declared.spots.Spot.{Spot}
use Rattle.floor_acts.specs.Sending.{DrawsStall, HasDrawn}
use Rattle.floor_acts.specs.Spots.{StandsIn}
use Rattle.floor_acts.proofs.Spotting.{member_here, room_here}
use Rattle.floor_acts.proofs.Flying.{channel_there, topic_there}
use Rattle.floor_turns.specs.Drawing.{IsServedAt}

-- a place of a channel is a spot
abbrev pub spot_at : Place → Spot
spot_at place = record { room = place.room; stall = place.stall }

-- what stands at a place where something does
item_at : {X : Type 0} (xs : List X) (i : ℕ) → i < length xs → (x : X) × (slice_get xs i ≡ Some x)
item_at [] i l = absurd (omega (arith, l))
item_at (x ∷ xs) i l = (get_or (x ∷ xs) i x, slice_get-get_or (x ∷ xs) i x l)

there_item : {X : Type 0} (key : X → List ℕ) (xs : List X) (name : List ℕ) (i : ℕ) → IsThere key xs name i → (x : X) × (slice_get xs i ≡ Some x) × (key x ≡ name)
there_item key xs name i h =
    let at = item_at xs i h.stands.in_range in
    (at.0, at.1, ap key (sym (get_or_from_slice_get xs i at.0 at.0 at.1)) ∙ h.stands.is_key at.0)

-- one that is drawn for is served
pub served_at : (h : Hall) (number : ℕ) (place : Place) → DrawsAt h number place.room place.stall → IsServedAt h number place
served_at h number place d =
    let room = there_item topic_name h.rooms.items d.from.route.topic place.room d.from.room in
    let within : IsThere channel_name room.0.stalls.items d.from.route.channel place.stall =
    subst (λ (r : Room). IsThere channel_name r.stalls.items d.from.route.channel place.stall) (get_or_from_slice_get h.rooms.items place.room room.0 room.0 room.1) (d.from.stall room.0) in
    let stall = there_item channel_name room.0.stalls.items d.from.route.channel place.stall within in
    record {
      client = d.client;
      there = d.there;
      quiet = d.quiet;
      from = record { route = d.from.route; on = d.from.on; gets = d.from.subscribed; stands = record { room = room.0; stall = stall.0; there = room.1; has = stall.1; topic = room.2; channel = stall.2 } };
    }

-- what stands at the place of a pair
pair_at : {X Y : Type 0} (R : X → Y → Type 0) (xs : List X) (ys : List Y) (i : ℕ) (x : X) → Pairwise R xs ys → slice_get xs i ≡ Some x → (y : Y) × (slice_get ys i ≡ Some y) × R x y
pair_at R [] ys i x p at = absurd (let no : ⊥ = cc in no)
pair_at R (z ∷ xs) [] i x p at = absurd p
pair_at R (z ∷ xs) (y ∷ ys) zero x p at = let same : z ≡ x = cc in (y, refl, subst (λ u. R u y) same p.0)
pair_at R (z ∷ xs) (y ∷ ys) (suc i) x p at = pair_at R xs ys i x p.1 at

-- a channel stays at its place
pub stands_kept : (at : ℕ) (old new : List Room) (spot : Spot) (route : Route) → KeepsRooms at old new → StandsIn old spot route → StandsIn new spot route
stands_kept at old new spot route keeps s =
    let room = pair_at (KeepsRoom at) old new spot.room s.room keeps s.there in
    let stall = pair_at (KeepsStall at) s.room.stalls.items room.0.stalls.items spot.stall s.stall room.2.stalls s.has in
    record { room = room.0; stall = stall.0; there = room.1; has = stall.1; topic = room.2.name ∙ s.topic; channel = ap (λ (a : About). a.name) stall.2.about ∙ s.channel }

pub served_kept : (h h' : Hall) (number : ℕ) (place : Place) → Keeps h h' → IsServedAt h number place → IsServedAt h' number place
served_kept h h' number place keeps s = record {
  client = s.client;
  there = ap (λ (xs : Vec Client). client_in xs.items number) keeps.clients ∙ s.there;
  quiet = ap (λ m. is_quiet m s.client) keeps.moment ∙ s.quiet;
  from = record { route = s.from.route; on = s.from.on; gets = s.from.gets; stands = stands_kept h.moment h.rooms.items h'.rooms.items (spot_at place) s.from.route keeps.rooms s.from.stands };
}

-- who is subscribed has its route's channel
holds_route : (p : Phase) (r : Option Route) → is_subscribed p ≡ true → held_channel p r ≡ r
holds_route Fresh r e = absurd (false≢true e)
holds_route Subscribed r e = refl
holds_route Closing r e = absurd (false≢true e)
holds_route Lost r e = absurd (false≢true e)

pub its_number : (cs : List Client) (number : ℕ) (c : Client) → client_in cs number ≡ Some c → c.number ≡ number
its_number cs number c found = eqb-true c.number number (find_passes (λ (d : Client). d.number == number) cs c found)

-- of a sound hall, the channel at a spot knows its client
pub member_at : (h : Hall) (number : ℕ) (c : Client) (spot : Spot) (route : Route) → IsSound h → client_in h.clients.items number ≡ Some c → is_subscribed c.phase ≡ true → c.route ≡ Some route → (s : StandsIn h.rooms.items spot route)
    → client_of s.stall.channel.clients number ≡ Some (record { timeout = c.timeout; ready = c.ready })
member_at h number c spot route sound found gets on s =
    let same : c.number ≡ number = its_number h.clients.items number c found in
    subst (λ n. client_of s.stall.channel.clients n ≡ Some (record { timeout = c.timeout; ready = c.ready })) same
    (member_here h c spot route sound (holds_route c.phase c.route gets ∙ on) s (ap (client_in h.clients.items) same ∙ found))

pub stall_found : (h : Hall) (c : Client) (spot : Spot) (route : Route) → IsSound h → is_subscribed c.phase ≡ true → c.route ≡ Some route → (s : StandsIn h.rooms.items spot route) → stall_at h.rooms.items route.topic route.channel ≡ Some s.stall
stall_found h c spot route sound gets on s =
    ap (option_and_then (λ (r : Room). stall_in r.stalls.items route.channel)) (ap (room_in h.rooms.items) (sym s.topic) ∙ found_at topic_name h.rooms.items spot.room s.room sound.room_order s.there)
    ∙ ap (stall_in s.room.stalls.items) (sym s.channel) ∙ found_at channel_name s.room.stalls.items spot.stall s.stall (room_here h c spot route sound (holds_route c.phase c.route gets ∙ on) s).order s.has

both_some : {X Y : Type 0} (R : X → Y → Type 0) (x : X) (o : Option Y) → IfBoth R (Some x) o → (y : Y) × (o ≡ Some y) × R x y
both_some R x None h = absurd h
both_some R x (Some y) h = (y, refl, h)

-- tests
and_false : (b : Bool) → (b && false) ≡ false
and_false true = refl
and_false false = refl

no_credit : (ready client : ℕ) (k : Channel) → ready ≤ flying client k.copies → has_credit ready client k ≡ false
no_credit ready client k few = ap (λ b. not k.paused && b) (le-ltb (flying client k.copies) ready few) ∙ and_false (not k.paused)

paused_credit : (ready client : ℕ) (k : Channel) → k.paused ≡ true → has_credit ready client k ≡ false
paused_credit ready client k paused = ap (λ b. not b && nat_lt (flying client k.copies) ready) paused

-- the client's channel was drawn of
module _ (tells : Bool) (number : ℕ) (place : Place) (answer : Next) (f f' : Files) (n n' : ℕ) (h h' : Hall) (d : HasDrawn tells place.room place.stall number answer f f' n n' h h') (s : IsServedAt h number place) where
  abbrev Drew : Stall → Stall → Type 0
  Drew = DrawsStall tells number d.marked.moment answer f f' n n'

  pub there_marked : client_in d.marked.clients.items number ≡ Some s.client
  there_marked = ap (λ (x : Hall). client_in x.clients.items number) d.marks ∙ s.there

  kept_marked : StandsIn d.marked.rooms.items (spot_at place) s.from.route
  kept_marked = stands_kept h.moment h.rooms.items d.marked.rooms.items (spot_at place) s.from.route d.keeps s.from.stands

  pub drawn_topic : topic_name d.at.room ≡ s.from.route.topic
  drawn_topic = topic_there Drew d.marked.rooms.items d.marked.rooms.items h'.rooms.items refl (spot_at place) s.from.route kept_marked d.at

  pub drawn_channel : channel_name d.at.does.stall ≡ s.from.route.channel
  drawn_channel = channel_there Drew d.marked.rooms.items d.marked.rooms.items h'.rooms.items refl (spot_at place) s.from.route kept_marked d.at

  abbrev here : StandsIn d.marked.rooms.items (spot_at place) s.from.route
  here = record { room = d.at.room; stall = d.at.does.stall; there = d.at.there; has = d.at.does.there; topic = drawn_topic; channel = drawn_channel }

  pub member_drawn : client_of d.at.does.stall.channel.clients number ≡ Some (record { timeout = s.client.timeout; ready = s.client.ready })
  member_drawn = member_at d.marked number s.client (spot_at place) s.from.route d.sound there_marked s.from.gets s.from.on here

  ready_is : ready_of number d.at.does.stall.channel ≡ s.client.ready
  ready_is = ap (λ (o : Option copies.Client). unwrap_or (option_map (λ (c : copies.Client). c.ready) o) 0) member_drawn

  -- it is this one of a state
  record Of (u : State) : Type 0 where
    channel : Channel
    its : client_channel u s.client.route ≡ Some channel
    is : IsStallOf f d.at.does.stall channel

  of_state : (u : State) → HoldsFor h f u → Of u
  of_state u holds =
      let both : IfBoth (IsStallOf f) (Some d.at.does.stall) (channel_at u s.from.route.topic s.from.route.channel) =
      subst (λ o. IfBoth (IsStallOf f) o (channel_at u s.from.route.topic s.from.route.channel)) (stall_found d.marked s.client (spot_at place) s.from.route d.sound s.from.gets s.from.on here)
      (found_channel d.marked f u (d.stands f u holds) s.from.route.topic s.from.route.channel) in
      let k = both_some (IsStallOf f) d.at.does.stall (channel_at u s.from.route.topic s.from.route.channel) both in
      record { channel = k.0; its = ap (client_channel u) s.from.on ∙ k.1; is = k.2 }

  there_state : (u : State) → HoldsFor h f u → client_in u.clients number ≡ Some s.client
  there_state u holds = ap (λ cs. client_in cs number) holds.stands.clients ∙ s.there

  -- whether the client has credit
  credit_alike : (u : State) (o : Of u) (b : Bool) → has_credit s.client.ready number (seen_channel d.at.does.stall.channel o.is.disk) ≡ b → has_credit s.client.ready s.client.number o.channel ≡ b
  credit_alike u o b e =
      ap (λ m. has_credit s.client.ready m o.channel) (its_number h.clients.items number s.client s.there)
      ∙ sym ((counts_alike (seen_channel d.at.does.stall.channel o.is.disk) o.channel o.is.is_kept).credit s.client.ready number) ∙ e

  cause_at : (disk : List Message) → NextWhere number s.client.ready (seen_channel d.at.does.stall.channel disk) answer
  cause_at disk = subst (λ r. NextWhere number r (seen_channel d.at.does.stall.channel disk) answer) ready_is (d.at.does.does.cause (queued_in d.at.does.stall.channel disk))

  module _ (running : h.stopped ≡ false) where
    running_state : (u : State) → HoldsFor h f u → u.stopped ≡ false
    running_state u holds = holds.stands.stopped ∙ running

    -- it may be sent a message, where there is one
    may_be_sent : (u : State) → HoldsFor h f u → ((k : Channel) → NextWhere number s.client.ready k answer → has_credit s.client.ready number k ≡ true) → MayBeSent u h.moment s.client
    may_be_sent u holds credit =
        let o = of_state u holds in
        record {
          quiet = s.quiet;
          credit =
              ap (may_get s.client) o.its ∙ ap (λ b. b && has_credit s.client.ready s.client.number o.channel) s.from.gets
              ∙ credit_alike u o true (credit (seen_channel d.at.does.stall.channel o.is.disk) (cause_at o.is.disk));
        }

    pub may_send : (message : Message) → IsTrue tells → ((disk : List Message) → Draws d.at.does.stall.channel d.at.does.after.channel disk answer → is_free message.id (seen_channel d.at.does.stall.channel disk).copies ≡ true)
        → ((k : Channel) → NextWhere number s.client.ready k answer → has_credit s.client.ready number k ≡ true) → (u : State) → HoldsFor h f u → IsAllowedAct u h.moment number (Sent message) Done
    may_send message told free credit u holds =
        let o = of_state u holds in
        record {
          client = s.client;
          there = there_state u holds;
          running = running_state u holds;
          is = (
            may_be_sent u holds credit,
            ap (λ c. is_free message.id (copies_in c)) o.its
                ∙ ap (λ m. m == 0) (sym ((counts_alike (seen_channel d.at.does.stall.channel o.is.disk) o.channel o.is.is_kept).of_id message.id))
                ∙ free o.is.disk (d.at.does.does.gives told o.is.disk o.is.on_disk),
          );
        }

    pub may_stick : ((k : Channel) → NextWhere number s.client.ready k answer → has_credit s.client.ready number k ≡ true) → (topic channel : List ℕ) → topic ≡ topic_name d.at.room → channel ≡ channel_name d.at.does.stall → (u : State) → HoldsFor h f u
        → IsAllowedAct u h.moment number (Stuck topic (Some channel)) (Faulted 0)
    may_stick credit topic channel t k u holds =
        let route : record { topic = topic; channel = channel } ≡ s.from.route = ap (λ n. record { topic = n; channel = channel }) (t ∙ drawn_topic) ∙ ap (λ n. record { topic = s.from.route.topic; channel = n }) (k ∙ drawn_channel) in (
          refl,
          record { client = s.client; there = there_state u holds; running = running_state u holds; is = (may_be_sent u holds credit, s.from.on ∙ ap Some (sym route)) },
        )

    -- nothing may be sent to it
    rests_at : (u : State) (o : Of u) → HoldsFor h f u → (may_get s.client (Some o.channel) && has_message (Some o.channel)) ≡ false → IsAllowedAct u h.moment number Idle Done
    rests_at u o holds none = record {
      client = s.client;
      there = there_state u holds;
      running = running_state u holds;
      is = record { quiet = s.quiet; none = ap (λ c. may_get s.client c && has_message c) o.its ∙ none };
    }

    without_credit : (u : State) → HoldsFor h f u → ((k : Channel) → NextWhere number s.client.ready k answer → has_credit s.client.ready number k ≡ false) → IsAllowedAct u h.moment number Idle Done
    without_credit u holds none =
        let o = of_state u holds in
        rests_at u o holds
        (ap (λ b. (is_subscribed s.client.phase && b) && can_send o.channel.copies) (credit_alike u o false (none (seen_channel d.at.does.stall.channel o.is.disk) (cause_at o.is.disk)))
        ∙ ap (λ b. b && can_send o.channel.copies) (and_false (is_subscribed s.client.phase)))

    without_message : (u : State) → HoldsFor h f u → IsTrue tells → answer ≡ next.NoneQueued → IsAllowedAct u h.moment number Idle Done
    without_message u holds told is =
        let o = of_state u holds in
        let none = subst (Draws d.at.does.stall.channel d.at.does.after.channel o.is.disk) is (d.at.does.does.gives told o.is.disk o.is.on_disk) in
        rests_at u o holds
        (ap (λ b. may_get s.client (Some o.channel) && b) (none_sent (seen_channel d.at.does.stall.channel o.is.disk) o.channel o.is.is_kept none.0) ∙ and_false (may_get s.client (Some o.channel)))

-- by the answer
module _ (tells : Bool) (number : ℕ) (place : Place) (f f' : Files) (n n' : ℕ) (h h' : Hall) (s : IsServedAt h number place) (running : h.stopped ≡ false) where
  abbrev Drawn : Next → Type 0
  Drawn answer = HasDrawn tells place.room place.stall number answer f f' n n' h h'

  pub no_credit_rests : Drawn next.NoCredit → IsTrue tells → (u : State) → HoldsFor h f u → IsAllowedAct u h.moment number Idle Done
  no_credit_rests d told u holds = without_credit tells number place next.NoCredit f f' n n' h h' d s running u holds (λ k few. no_credit s.client.ready number k few)

  pub paused_rests : Drawn next.Paused → IsTrue tells → (u : State) → HoldsFor h f u → IsAllowedAct u h.moment number Idle Done
  paused_rests d told u holds = without_credit tells number place next.Paused f f' n n' h h' d s running u holds (λ k both. paused_credit s.client.ready number k both.1)

  pub none_rests : Drawn next.NoneQueued → IsTrue tells → (u : State) → HoldsFor h f u → IsAllowedAct u h.moment number Idle Done
  none_rests d told u holds = without_message tells number place next.NoneQueued f f' n n' h h' d s running u holds told refl

  pub sends_now : (message : Message) → Drawn (next.Send message) → IsTrue tells → (u : State) → HoldsFor h f u → IsAllowedAct u h.moment number (Sent message) Done
  sends_now message d told u holds = may_send tells number place (next.Send message) f f' n n' h h' d s running message told (λ disk gives. gives.free) (λ k credit. credit) u holds

  -- where files are told, none is damaged
  pub no_damage : Drawn next.Damaged → IsTrue tells → (u : State) → HoldsFor h f u → ⊥
  no_damage d told u holds = let o = of_state tells number place next.Damaged f f' n n' h h' d s u holds in d.at.does.does.gives told o.is.disk o.is.on_disk
