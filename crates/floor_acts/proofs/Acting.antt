-- FIN and TOUCH: the client spoke, a row took place at its channel, and the client counts.
use Rattle.std.proofs.Common.{◌≡◌, ◌<◌, ℕ, true, false, List, length, get_or, nat_lt, Option, Some, None, HoldsAt, refl, sym, ap, subst, ◌∙◌, get_or-set_same, option_map}
use Rattle.std.specs.Prelude.{IsSome, slice_set, unwrap_or}
use Rattle.std.proofs.lemmas.Bool.{false≢true}
use Rattle.nsq_base.specs.declared.options.Options.{Options}
use Rattle.nsq_outside.specs.Files.{Files}
use Rattle.v2_frame.specs.declared.command.Command.TheVariants as command
use Rattle.broker_history.specs.State.{Channel, Client, Route, State, counted, flying_with, with_client}
use Rattle.broker_history.specs.Changes.{AtChannel}
use Rattle.broker_history.specs.Channels.{Finishes, Moves, MovesLive, Touches}
use Rattle.broker_history.specs.Step.{AtOwn, DoesCommand, spoke}
use Rattle.channel_copies.specs.Clients.{client_of}
use Rattle.channel_copies.specs.declared.clients.Client as copies
use Rattle.channel_core.specs.declared.about.About.{About}
use Rattle.channel_core.specs.Answers.{IsYours}
use Rattle.channel_core.specs.Drawing.{timeout_of}
use Rattle.floor_rooms.specs.Seen.{held_channel}
use Rattle.floor_laws.specs.Lifting.{Lift}
use Rattle.floor_laws.proofs.Lifting.{finishes, touches}
use Rattle.floor_acts.specs.Replies.{copies_at, flies_in, stall_on}
use Rattle.floor_rooms.specs.declared.stall.Stall.{Stall}
use Rattle.floor_rooms.specs.declared.room.Room.{Room}
use Rattle.floor_rooms.specs.declared.hall.Hall.{Hall}
use Rattle.floor_rooms.specs.Sound.{IsSound}
use Rattle.floor_rooms.specs.Standing.{Carries, HoldsFor}
use Rattle.floor_rooms.specs.Changes.{AtStall, KeepsRooms}
use Rattle.floor_acts.specs.declared.spots.Spot.{Spot}
use Rattle.floor_acts.specs.Acts.{ChangesAt, DoesAt, FliesAt}
use Rattle.floor_acts.specs.Flights.{FliesStall}
use Rattle.floor_acts.specs.Spots.{IsSpotOf, StandsIn}
use Rattle.floor_acts.proofs.Putting.{carries_client, changed_range, changed_read, found_at_place, holds_read, read_holds}
use Rattle.floor_acts.proofs.Spotting.{held_route, member_here, spot_some, yours_here}
use Rattle.floor_acts.proofs.Flying.{carries_same, flown_keeps, flown_row, flown_stall, own_acts, same_stall, spot_holds, spot_range, spot_stall_range}

-- where nothing of the client's stands, nothing flies with it
none_held : (rooms : List Room) (o : Option Route) → IsSpotOf rooms o None → o ≡ None
none_held rooms None h = refl
none_held rooms (Some route) h = absurd h

pub no_spot : (h : Hall) (k : ℕ) (x : Client) (id : List ℕ) → k < length h.clients.items → x ≡ get_or h.clients.items k x → HoldsAt (λ c. IsSpotOf h.rooms.items (held_channel c.phase c.route) None) h.clients.items k → FliesAt k id h → ⊥
no_spot h k x id l e none flies =
    let held : held_channel x.phase x.route ≡ None = none_held h.rooms.items (held_channel x.phase x.route) (read_holds (λ c. IsSpotOf h.rooms.items (held_channel c.phase c.route) None) h.clients.items k x l e none) in
    false≢true (ap (λ o. nat_lt 0 (flying_with x.number id (copies_at (stall_on h.rooms.items o)))) (sym held) ∙ read_holds (λ c. flies_in h c id ≡ true) h.clients.items k x l e flies)

-- what differs of a hall is the hall's own
own_rest : (h0 a b c h : Hall) → h ≡ record h0 { clients = a.clients; rooms = b.rooms; quiet_until = c.quiet_until } → h ≡ record h0 { clients = h.clients; rooms = h.rooms; quiet_until = h.quiet_until }
own_rest h0 a b c h e = e ∙ sym (ap (λ (x : Hall). record h0 { clients = x.clients; rooms = x.rooms; quiet_until = x.quiet_until }) e)

pub spoken_rest : (h0 h1 h2 h3 : Hall) → h1 ≡ record h0 { clients = h1.clients } → h2 ≡ record h1 { rooms = h2.rooms } → h3 ≡ record h2 { quiet_until = h3.quiet_until } → h3 ≡ record h0 { clients = h3.clients; rooms = h3.rooms; quiet_until = h3.quiet_until }
spoken_rest h0 h1 h2 h3 e1 e2 e3 =
    own_rest h0 h1 h2 h3 h3 (e3 ∙ ap (λ (h : Hall). record h { quiet_until = h3.quiet_until }) e2 ∙ ap (λ (h : Hall). record h { rooms = h2.rooms; quiet_until = h3.quiet_until }) e1)

pub counted_rest : (h0 h1 h2 h3 h4 : Hall) → h1 ≡ record h0 { clients = h1.clients } → h2 ≡ record h1 { rooms = h2.rooms } → h3 ≡ record h2 { quiet_until = h3.quiet_until } → h4 ≡ record h3 { clients = h4.clients } → h4 ≡ record h0 { clients = h4.clients; rooms = h4.rooms; quiet_until = h4.quiet_until }
counted_rest h0 h1 h2 h3 h4 e1 e2 e3 e4 = own_rest h0 h4 h3 h3 h4 (e4 ∙ ap (λ (h : Hall). record h { clients = h4.clients }) (spoken_rest h0 h1 h2 h3 e1 e2 e3))

-- the client at a place, whose channel stands at a spot, spoke
pub record Spoke (h0 h1 : Hall) (k : ℕ) (x : Client) (spot : Spot) : Type 0 where
  pub sound : IsSound h0
  pub within : k < length h0.clients.items
  pub read : x ≡ get_or h0.clients.items k x
  pub of : HoldsAt (λ c. IsSpotOf h0.rooms.items (held_channel c.phase c.route) (Some spot)) h0.clients.items k
  pub rest : h1 ≡ record h0 { clients = h1.clients }
  pub changed : ChangesAt k (spoke h0.moment) h0.clients.items h1.clients.items
  pub nop : (files : Files) → DoesAt k command.Nop false h0 files h1 files

-- it has a channel, which stands there
pub record Owns (h : Hall) (x : Client) (spot : Spot) : Type 0 where
  pub route : Route
  pub held : held_channel x.phase x.route ≡ Some route
  pub stands : StandsIn h.rooms.items spot route

module _ (h0 h1 : Hall) (k : ℕ) (x : Client) (spot : Spot) (p : Spoke h0 h1 k x spot) where
  pub own : Owns h0 x spot
  own =
      let at = spot_some h0.rooms.items (held_channel x.phase x.route) spot (read_holds (λ c. IsSpotOf h0.rooms.items (held_channel c.phase c.route) (Some spot)) h0.clients.items k x p.within p.read p.of) in
      record { route = at.0; held = at.1; stands = at.2 }

  pub route_is : x.route ≡ Some own.route
  route_is = (held_route x.phase x.route own.route own.held).0

  pub rooms_same : h1.rooms.items ≡ h0.rooms.items
  rooms_same = ap (λ (h : Hall). h.rooms.items) p.rest

  pub room_at : spot.room < length h1.rooms.items
  room_at = subst (λ rs. spot.room < length rs) (sym rooms_same) (spot_range h0.rooms.items spot own.route own.stands)

  pub stall_at : HoldsAt (λ (r : Room). spot.stall < length r.stalls.items) h1.rooms.items spot.room
  stall_at = subst (λ rs. HoldsAt (λ (r : Room). spot.stall < length r.stalls.items) rs spot.room) (sym rooms_same) (spot_stall_range h0.rooms.items spot own.route own.stands)

  own_member : client_of own.stands.stall.channel.clients x.number ≡ Some (record { timeout = x.timeout; ready = x.ready })
  own_member = member_here h0 x spot own.route p.sound own.held own.stands (found_at_place h0.clients.items k x p.sound.client_order p.within p.read)

  -- what the calls of the channel require
  pub yours_found : (id : List ℕ) → FliesAt k id h0 → IsYours x.number id own.stands.stall.channel
  yours_found id flies = yours_here h0 x spot own.route p.sound own.held own.stands id (read_holds (λ c. flies_in h0 c id ≡ true) h0.clients.items k x p.within p.read flies)

  pub yours_at : (id : List ℕ) (number : ℕ) → number ≡ x.number → FliesAt k id h0 → HoldsAt (λ (r : Room). HoldsAt (λ s. IsYours number id s.channel) r.stalls.items spot.stall) h1.rooms.items spot.room
  yours_at id number same flies =
      subst (λ rs. HoldsAt (λ (r : Room). HoldsAt (λ s. IsYours number id s.channel) r.stalls.items spot.stall) rs spot.room) (sym rooms_same)
      (spot_holds h0.rooms.items spot own.route (λ s. IsYours number id s.channel) own.stands
      (subst (λ n. IsYours n id own.stands.stall.channel) (sym same) (yours_found id flies)))

  pub member_at : (number : ℕ) → number ≡ x.number → HoldsAt (λ (r : Room). HoldsAt (λ s. IsSome (client_of s.channel.clients number)) r.stalls.items spot.stall) h1.rooms.items spot.room
  member_at number same =
      subst (λ rs. HoldsAt (λ (r : Room). HoldsAt (λ s. IsSome (client_of s.channel.clients number)) r.stalls.items spot.stall) rs spot.room) (sym rooms_same)
      (spot_holds h0.rooms.items spot own.route (λ s. IsSome (client_of s.channel.clients number)) own.stands
      (subst (λ n. IsSome (client_of own.stands.stall.channel.clients n)) (sym same) (subst IsSome (sym own_member) refl)))

  -- the client as it is found behind all that only changes its channel
  pub spoken_in : (h3 : Hall) → h3.clients.items ≡ h1.clients.items → ChangesAt k (spoke h0.moment) h0.clients.items h3.clients.items
  spoken_in h3 same = subst (ChangesAt k (spoke h0.moment) h0.clients.items) (sym same) p.changed

  pub spoken_range : (h3 : Hall) → h3.clients.items ≡ h1.clients.items → k < length h3.clients.items
  spoken_range h3 same = changed_range (spoke h0.moment) k h0.clients.items h3.clients.items p.within (spoken_in h3 same)

  pub spoken_is : (h3 : Hall) (y : Client) → h3.clients.items ≡ h1.clients.items → y ≡ get_or h3.clients.items k y → y ≡ spoke h0.moment x
  spoken_is h3 y same e = changed_read (spoke h0.moment) k h0.clients.items h3.clients.items y x p.within (spoken_in h3 same) e ∙ ap (spoke h0.moment) (sym p.read)

  spoken_there : (h3 : Hall) → h3.clients.items ≡ h1.clients.items → spoke h0.moment x ≡ get_or h3.clients.items k (spoke h0.moment x)
  spoken_there h3 same =
      sym (ap (λ cs. get_or cs k (spoke h0.moment x)) (spoken_in h3 same x) ∙ get_or-set_same h0.clients.items k (spoke h0.moment (get_or h0.clients.items k x)) (spoke h0.moment x) p.within ∙ ap (spoke h0.moment) (sym p.read))

  pub first : (files : Files) → Carries h0 files h1 files (λ s t. t ≡ with_client s (spoke h0.moment x))
  first files = read_holds (λ c. Carries h0 files h1 files (λ s t. t ≡ with_client s (spoke h0.moment c))) h0.clients.items k x p.within p.read (p.nop files)

  -- what the client's own counts become
  pub last_act : (h3 h4 : Hall) (g : Client → Client) (y z : Client) (files : Files) → IsSound h3 → h3.clients.items ≡ h1.clients.items → y ≡ get_or h3.clients.items k y → z ≡ g y → ((c : Client) → (g c).number ≡ c.number) → h4 ≡ record h3 { clients = h4.clients }
      → h4.clients.items ≡ slice_set h3.clients.items k z → Carries h3 files h4 files (λ s t. t ≡ with_client s (g (spoke h0.moment x)))
  last_act h3 h4 g y z files sound same e is number rest put =
      subst (λ c. Carries h3 files h4 files (λ s t. t ≡ with_client s (g c))) (spoken_is h3 y same e)
      (carries_client h3 h4 k y (g y) sound (changed_range (spoke h0.moment) k h0.clients.items h3.clients.items p.within (spoken_in h3 same)) e (number y) rest (put ∙ ap (slice_set h3.clients.items k) is) files)

  pub no_last : (h3 : Hall) (files : Files) → IsSound h3 → h3.clients.items ≡ h1.clients.items → Carries h3 files h3 files (λ s t. t ≡ with_client s (spoke h0.moment x))
  no_last h3 files sound same =
      carries_same h3 k (spoke h0.moment x) sound (changed_range (spoke h0.moment) k h0.clients.items h3.clients.items p.within (spoken_in h3 same)) (spoken_there h3 same) files

  -- a row between
  pub own_told : (h3 h4 : Hall) (f0 f1 : Files) (g : Client → Client) (Row : State → Channel → Channel → Type 0) → ((s : State) → HoldsFor h1 f0 s → (t : State) × AtChannel own.route.topic own.route.channel (Row s) s t × HoldsFor h3 f1 t)
      → Carries h3 f1 h4 f1 (λ s t. t ≡ with_client s (g (spoke h0.moment x))) → Carries h0 f0 h4 f1 (λ s t. AtOwn (spoke h0.moment x) (Row (with_client s (spoke h0.moment x))) g (with_client s (spoke h0.moment x)) t)
  own_told h3 h4 f0 f1 g Row row last = own_acts h0 h1 h3 h4 f0 f1 (spoke h0.moment x) g own.route Row (first f0) route_is row last

  -- nothing but copies in flight changed of the channel
  module _ (Row : Stall → Channel → Channel → Type 0) (h2 h3 : Hall) (sound1 : IsSound h1) (rest2 : h2 ≡ record h1 { rooms = h2.rooms }) (at : AtStall spot.room spot.stall (FliesStall Row) h1.rooms.items h2.rooms.items) (rest3 : h3 ≡ record h2 { quiet_until = h3.quiet_until }) where
    pub clients_same : h3.clients.items ≡ h1.clients.items
    clients_same = ap (λ (h : Hall). h.clients.items) rest3 ∙ ap (λ (h : Hall). h.clients.items) rest2

    pub flight_keeps : KeepsRooms h0.moment h0.rooms.items h3.rooms.items
    flight_keeps =
        subst (KeepsRooms h0.moment h0.rooms.items) (sym (ap (λ (h : Hall). h.rooms.items) rest3)) (subst (λ rs. KeepsRooms h0.moment rs h2.rooms.items) rooms_same (flown_keeps Row h1 h2 spot sound1 rest2 at h0.moment))

    flight_row : (Up : Channel → Channel → Type 0) (files : Files) → Lift (Row at.does.stall) Up → ((s : State) → HoldsFor h2 files s → HoldsFor h3 files s) → (s : State) → HoldsFor h1 files s → (t : State) × AtChannel own.route.topic own.route.channel Up s t × HoldsFor h3 files t
    flight_row Up files lift end s holds =
        let r = flown_row Row h1 h2 spot sound1 rest2 at Up own.route h0.rooms.items lift rooms_same own.stands files s holds in
        (r.0, r.1, end r.0 r.2)

    -- the stall is the client's
    stall_is : at.does.stall ≡ own.stands.stall
    stall_is = same_stall (FliesStall Row) h0.rooms.items h1.rooms.items h2.rooms.items rooms_same spot own.route own.stands at

    time_is : (number : ℕ) → number ≡ x.number → timeout_of number at.does.stall.channel ≡ x.timeout
    time_is number same =
        ap (λ (s : Stall). timeout_of number s.channel) stall_is ∙ ap (λ n. timeout_of n own.stands.stall.channel) same ∙ ap (λ (o : Option copies.Client). unwrap_or (option_map (λ (c : copies.Client). c.timeout) o) 0) own_member

    most_is : (s : State) (files : Files) → HoldsFor h1 files s → at.does.stall.channel.about.max_msg_timeout ≡ s.options.max_msg_timeout
    most_is s files holds = ap (λ (a : About). a.max_msg_timeout) (flown_stall Row h1 h2 spot sound1 rest2 at).about ∙ ap (λ (o : Options). o.max_msg_timeout) (sym holds.stands.options)

    -- TOUCH
    touch_row : (number : ℕ) (id : List ℕ) (files : Files) → number ≡ x.number → Row at.does.stall ≡ Touches MovesLive number id h1.moment (timeout_of number at.does.stall.channel) at.does.stall.channel.about.max_msg_timeout → ((s : State) → HoldsFor h2 files s → HoldsFor h3 files s)
        → (s : State) → HoldsFor h1 files s → (t : State) × AtChannel own.route.topic own.route.channel (Touches Moves x.number id h0.moment x.timeout s.options.max_msg_timeout) s t × HoldsFor h3 files t
    touch_row number id files same row end s holds =
        flight_row (Touches Moves x.number id h0.moment x.timeout s.options.max_msg_timeout) files
        (subst (λ Live. Lift Live (Touches Moves x.number id h0.moment x.timeout s.options.max_msg_timeout)) (sym row)
        (touch_lift number x.number id h1.moment h0.moment (timeout_of number at.does.stall.channel) x.timeout at.does.stall.channel.about.max_msg_timeout s.options.max_msg_timeout same (ap (λ (h : Hall). h.moment) p.rest) (time_is number same) (most_is s files holds)))
        end s holds
      where
        touch_lift : (n n' : ℕ) (id : List ℕ) (a a' t t' m m' : ℕ) → n ≡ n' → a ≡ a' → t ≡ t' → m ≡ m' → Lift (Touches MovesLive n id a t m) (Touches Moves n' id a' t' m')
        touch_lift n n' id a a' t t' m m' en ea et em =
            subst (λ q. Lift (Touches MovesLive n id a t m) (Touches Moves q id a' t' m')) en
            (subst (λ q. Lift (Touches MovesLive n id a t m) (Touches Moves n id q t' m')) ea
            (subst (λ q. Lift (Touches MovesLive n id a t m) (Touches Moves n id a q m')) et
            (subst (λ q. Lift (Touches MovesLive n id a t m) (Touches Moves n id a t q)) em (touches n id a t m))))

    pub touch_told : (number : ℕ) (id : List ℕ) (files : Files) → number ≡ x.number → Row at.does.stall ≡ Touches MovesLive number id h1.moment (timeout_of number at.does.stall.channel) at.does.stall.channel.about.max_msg_timeout → IsSound h3
        → ((s : State) → HoldsFor h2 files s → HoldsFor h3 files s) → DoesAt k (command.Touch id) false h0 files h3 files
    touch_told number id files same row sound3 end =
        holds_read (λ c. Carries h0 files h3 files (λ s t. DoesCommand s h0.moment c (command.Touch id) false t)) h0.clients.items k x p.within p.read
        (own_told h3 h3 files files (λ d. d) (λ s. Touches Moves x.number id h0.moment x.timeout s.options.max_msg_timeout) (touch_row number id files same row end) (no_last h3 files sound3 clients_same))

    -- FIN
    pub finish_told : (number : ℕ) (id : List ℕ) (h4 : Hall) (y z : Client) (files : Files) → number ≡ x.number → Row at.does.stall ≡ Finishes MovesLive number id → IsSound h3 → ((s : State) → HoldsFor h2 files s → HoldsFor h3 files s)
        → y ≡ get_or h3.clients.items k y → z ≡ record y { finish_count = counted y.finish_count } → h4 ≡ record h3 { clients = h4.clients } → h4.clients.items ≡ slice_set h3.clients.items k z → DoesAt k (command.Fin id) false h0 files h4 files
    finish_told number id h4 y z files same row sound3 end e is rest4 put4 =
        let g : Client → Client = λ d. record d { finish_count = counted d.finish_count } in
        holds_read (λ c. Carries h0 files h4 files (λ s t. DoesCommand s h0.moment c (command.Fin id) false t)) h0.clients.items k x p.within p.read
        (own_told h3 h4 files files g (λ s. Finishes Moves x.number id)
        (flight_row (Finishes Moves x.number id) files (subst (λ Live. Lift Live (Finishes Moves x.number id)) (sym row) (subst (λ n. Lift (Finishes MovesLive number id) (Finishes Moves n id)) same (finishes number id))) end)
        (last_act h3 h4 g y z files sound3 clients_same e is (λ d. refl) rest4 put4))
