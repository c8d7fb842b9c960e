-- A client that goes, and what goes with it.
use Rattle.std.proofs.Common.{◌≡◌, ◌<◌, ℕ, Bool, true, false, ◌&&◌, List, [], ◌∷◌, map, length, get_or, Option, Some, None, refl, sym, ap, subst, ◌∙◌}
use Rattle.std.specs.List.{slice_get}
use Rattle.std.proofs.lemmas.Bool.{false≢true}
use Rattle.std.proofs.lemmas.Option.{get_or_from_slice_get}
use Rattle.nsq_outside.specs.Files.{Files}
use Rattle.broker_history.specs.State.{Client, Closing, Fresh, Lost, Phase, Route, State, Subscribed, client_of, is_empty, is_ephemeral_channel, without_client}
use Rattle.broker_history.specs.Changes.{deleted_channel, gone, gone_client, left_by, left_channel, lost}
use Rattle.floor_rooms.specs.Seen.{held_channel}
use Rattle.floor_rooms.specs.declared.stall.Stall.{Stall}
use Rattle.floor_rooms.specs.declared.room.Room.{Room}
use Rattle.floor_rooms.specs.declared.hall.Hall.{Hall}
use Rattle.floor_rooms.specs.Rooms.{channel_name, topic_name, client_in}
use Rattle.floor_rooms.specs.Sound.{AreMembers, IsSound}
use Rattle.floor_rooms.specs.Standing.{HoldsFor}
use Rattle.floor_rooms.specs.Changes.{AtRoom, KeepsSince}
use Rattle.floor_rooms.proofs.Placing.{at_place}
use Rattle.floor_rooms.proofs.Dating.{AreAmong, since_shrunk}
use Rattle.floor_topics.specs.Losing.{LosesStall}
use Rattle.floor_topics.proofs.LostPlaces.{among_lost}
use Rattle.floor_topics.proofs.SeatPlaces.{client_found}
use Rattle.floor_topics.specs.Deleting.{GoesEmpty}
use Rattle.floor_topics.proofs.LosingChannels.{among_empty}
use Rattle.floor_topics.proofs.Marks.{some_same}
use Rattle.floor_calls.specs.Going.{NoneComes, is_deserted}
use Rattle.floor_calls.proofs.Deserted.{goes_there, none_has, none_lost, stays_there}

-- parts of a test
first_part : (a b : Bool) → (a && b) ≡ true → a ≡ true
first_part true b e = refl
first_part false b e = absurd (false≢true e)

second_part : (a b : Bool) → (a && b) ≡ true → b ≡ true
second_part true b e = e
second_part false b e = absurd (false≢true e)

none_in : {X : Type 0} (xs : List X) → is_empty xs ≡ true → xs ≡ []
none_in [] e = refl
none_in (x ∷ xs) e = absurd (false≢true e)

pub deserted_ephemeral : (topic : List ℕ) (x : Stall) → is_deserted topic x ≡ true → is_ephemeral_channel topic (channel_name x) ≡ true
deserted_ephemeral topic x e = first_part (is_ephemeral_channel topic (channel_name x)) (is_empty x.members.items) e

deserted_none : (topic : List ℕ) (x : Stall) → is_deserted topic x ≡ true → x.members.items ≡ []
deserted_none topic x e = none_in x.members.items (second_part (is_ephemeral_channel topic (channel_name x)) (is_empty x.members.items) e)

-- a channel at its place in a topic
module _ (h : Hall) (i j : ℕ) (d : Room) (x : Stall) (sound : IsSound h) (room : i < length h.rooms.items) (stall : j < length (get_or h.rooms.items i d).stalls.items) where
  abbrev T : List ℕ
  T = topic_name (get_or h.rooms.items i d)

  abbrev X : Stall
  X = get_or (get_or h.rooms.items i d).stalls.items j x

  members_there : AreMembers h.clients.items T X
  members_there = sound.members i d room j x stall

  -- nobody loses it that nobody has
  clients_stay : is_deserted T X ≡ true → map (lost T (channel_name X)) h.clients.items ≡ h.clients.items
  clients_stay e = none_lost T (channel_name X) h.clients.items (none_has h T X sound members_there (deserted_none T X e))

  pub forgot_all : (h1 h2 : Hall) → is_deserted T X ≡ true → h1.clients.items ≡ map (lost T (channel_name X)) h.clients.items → h2 ≡ record h1 { rooms = h2.rooms } → h2.clients.items ≡ h.clients.items
  forgot_all h1 h2 e lost_so rest = ap (λ (y : Hall). y.clients.items) rest ∙ lost_so ∙ clients_stay e

  module _ (topic channel : List ℕ) (called : T ≡ topic) (named : channel_name X ≡ channel) (files : Files) (s : State) (holds : HoldsFor h files s) where
    same_left : left_channel s (record { topic = T; channel = channel_name X }) ≡ left_channel s (record { topic = topic; channel = channel })
    same_left = ap (λ t. left_channel s (record { topic = t; channel = channel_name X })) called ∙ ap (λ n. left_channel s (record { topic = topic; channel = n })) named

    pub stays_left : is_deserted T X ≡ false → s ≡ left_channel s (record { topic = topic; channel = channel })
    stays_left e = stays_there h T X sound members_there files s holds e ∙ same_left

    pub goes_left : (t : State) → is_deserted T X ≡ true → t ≡ deleted_channel s T (channel_name X) → t ≡ left_channel s (record { topic = topic; channel = channel })
    goes_left t e is = is ∙ goes_there h T X sound members_there files s holds e ∙ same_left

-- a test of a channel in a topic that was read at a place
pub tested : (rooms : List Room) (i j : ℕ) (room : Room) (b : Bool) → i < length rooms → room ≡ get_or rooms i room → ((x : Stall) → b ≡ is_deserted (topic_name room) (get_or room.stalls.items j x)) → (d : Room) (x : Stall)
    → is_deserted (topic_name (get_or rooms i d)) (get_or (get_or rooms i d).stalls.items j x) ≡ b
tested rooms i j room b within value test d x =
    ap (λ (r : Room). is_deserted (topic_name r) (get_or r.stalls.items j x)) (get_or_from_slice_get rooms i room d (at_place rooms i room within value)) ∙ sym (test x)

-- none comes
pub none_same : (rooms : List Room) → NoneComes rooms rooms
none_same rooms = record { topics = λ topic has. has; channels = λ topic channel has. has }

pub none_came : (i j : ℕ) (channel : List ℕ) (r : Room) (at : ℕ) (a b c : List Room) → AtRoom i (LosesStall j channel) a b → GoesEmpty r b c → NoneComes a c
none_came i j channel r at a b c loses goes =
    let first : AreAmong b a = among_lost i j channel a b loses in
    let then_so : AreAmong c b = among_empty r at b c goes in
    record { topics = λ topic has. first.topics topic (then_so.topics topic has); channels = λ topic channel has. first.channels topic channel (then_so.channels topic channel has) }

pub since_then_none : (at at' : ℕ) (a b c : List Room) → at' ≡ at → NoneComes b c → KeepsSince at a b → KeepsSince at' b c → KeepsSince at a c
since_then_none at at' a b c same none x y = since_shrunk at a b c (record { topics = none.topics; channels = none.channels }) x (subst (λ n. KeepsSince n b c) same y)

-- what else stays
pub lost_moment : (h0 h1 : Hall) → h1 ≡ record h0 { rooms = h1.rooms; clients = h1.clients; unsaved_names = h1.unsaved_names; unsaved_from = h1.unsaved_from } → h1.moment ≡ h0.moment
lost_moment h0 h1 e = ap (λ (h : Hall). h.moment) e

pub left_moment : (h0 h1 : Hall) → h1 ≡ record h0 { rooms = h1.rooms; clients = h1.clients; pending = h1.pending } → h1.moment ≡ h0.moment
left_moment h0 h1 e = ap (λ (h : Hall). h.moment) e

pub forgot_rest : (h0 h1 h2 : Hall) → h1 ≡ record h0 { rooms = h1.rooms; clients = h1.clients; unsaved_names = h1.unsaved_names; unsaved_from = h1.unsaved_from } → h1.unsaved_names ≡ h0.unsaved_names → h2 ≡ record h1 { rooms = h2.rooms }
    → h2 ≡ record h0 { clients = h2.clients; rooms = h2.rooms; unsaved_from = h2.unsaved_from }
forgot_rest h0 h1 h2 e1 unsaved e2 =
    let f : Hall → Hall = λ y. record y { clients = h2.clients; rooms = h2.rooms; unsaved_names = h2.unsaved_names; unsaved_from = h2.unsaved_from } in
    let same : h2.unsaved_names ≡ h0.unsaved_names = ap (λ (y : Hall). y.unsaved_names) e2 ∙ unsaved in
    ap f e2 ∙ ap f e1 ∙ ap (λ n. record h0 { clients = h2.clients; rooms = h2.rooms; unsaved_names = n; unsaved_from = h2.unsaved_from }) same

pub left_rest : (h0 h1 h2 : Hall) → h1 ≡ record h0 { rooms = h1.rooms; clients = h1.clients; pending = h1.pending } → h2 ≡ record h1 { clients = h2.clients; rooms = h2.rooms; unsaved_from = h2.unsaved_from }
    → h2 ≡ record h0 { clients = h2.clients; rooms = h2.rooms; pending = h2.pending; unsaved_from = h2.unsaved_from }
left_rest h0 h1 h2 e1 e2 =
    let f : Hall → Hall = λ y. record y { clients = h2.clients; rooms = h2.rooms; pending = h2.pending; unsaved_from = h2.unsaved_from } in
    ap f e2 ∙ ap f e1

-- with room for more topics that may have something to do a hall stands for the same states
pub reserved_holds : (h h1 : Hall) (files : Files) (s : State) → h1 ≡ record h { pending = h1.pending } → HoldsFor h files s → HoldsFor h1 files s
reserved_holds h h1 files s e holds =
    let to : Hall = record h { pending = h1.pending } in
    let now : HoldsFor to files s = record {
      stands = record {
        options = holds.stands.options;
        epoch = holds.stands.epoch;
        ids_used = holds.stands.ids_used;
        moment = holds.stands.moment;
        stopped = holds.stands.stopped;
        clients = holds.stands.clients;
        topics = holds.stands.topics;
      };
      idle = record { topics = holds.idle.topics; channels = holds.idle.channels };
    } in
    subst (λ (y : Hall). HoldsFor y files s) (sym e) now

-- what goes with a client, by the channel that it has
left_none : (u : State) (phase : Phase) (route : Option Route) → held_channel phase route ≡ None → left_by u phase route ≡ u
left_none u Fresh None e = refl
left_none u Fresh (Some r) e = absurd (let no : ⊥ = cc in no)
left_none u Subscribed None e = refl
left_none u Subscribed (Some r) e = absurd (let no : ⊥ = cc in no)
left_none u Closing None e = refl
left_none u Closing (Some r) e = absurd (let no : ⊥ = cc in no)
left_none u Lost None e = refl
left_none u Lost (Some r) e = refl

left_some : (u : State) (phase : Phase) (route : Option Route) (r : Route) → held_channel phase route ≡ Some r → left_by u phase route ≡ left_channel u r
left_some u Fresh None r e = absurd (let no : ⊥ = cc in no)
left_some u Fresh (Some q) r e = ap (left_channel u) (some_same q r e)
left_some u Subscribed None r e = absurd (let no : ⊥ = cc in no)
left_some u Subscribed (Some q) r e = ap (left_channel u) (some_same q r e)
left_some u Closing None r e = absurd (let no : ⊥ = cc in no)
left_some u Closing (Some q) r e = ap (left_channel u) (some_same q r e)
left_some u Lost route r e = absurd (let no : ⊥ = cc in no)

module _ (h : Hall) (k : ℕ) (c : Client) (sound : IsSound h) (within : k < length h.clients.items) (value : c ≡ get_or h.clients.items k c) (files : Files) (s : State) (holds : HoldsFor h files s) where
  stands_there : slice_get h.clients.items k ≡ Some c
  stands_there = at_place h.clients.items k c within value

  read : (d : Client) → get_or h.clients.items k d ≡ c
  read d = get_or_from_slice_get h.clients.items k c d stands_there

  abbrev left : State
  left = record s { clients = without_client s.clients c.number }

  found : client_of s c.number ≡ Some c
  found = ap (λ cs. client_in cs c.number) holds.stands.clients ∙ client_found h k c sound stands_there

  gone_is : gone s c.number ≡ left_by left c.phase c.route
  gone_is = ap (gone_client s c.number) found

  -- it has no channel
  pub gone_alone : (d : Client) (t : State) → held_channel c.phase c.route ≡ None → t ≡ record s { clients = without_client s.clients (get_or h.clients.items k d).number } → t ≡ gone s (get_or h.clients.items k d).number
  gone_alone d t none is =
      is ∙ ap (λ (y : Client). record s { clients = without_client s.clients y.number }) (read d) ∙ sym (gone_is ∙ left_none left c.phase c.route none) ∙ ap (λ (y : Client). gone s y.number) (sym (read d))

  -- it has one
  pub gone_from : (d : Client) (u t : State) (r : Route) → held_channel c.phase c.route ≡ Some r → u ≡ record s { clients = without_client s.clients (get_or h.clients.items k d).number } → t ≡ left_channel u r → t ≡ gone s (get_or h.clients.items k d).number
  gone_from d u t r has is went =
      went ∙ ap (λ v. left_channel v r) (is ∙ ap (λ (y : Client). record s { clients = without_client s.clients y.number }) (read d)) ∙ sym (gone_is ∙ left_some left c.phase c.route r has) ∙ ap (λ (y : Client). gone s y.number) (sym (read d))
