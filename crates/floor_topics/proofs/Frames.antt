-- A hall in which nothing changed but ids that are used, or rooms, lists and facts for speed.
use Rattle.std.proofs.Common.{◌≡◌, ◌≤◌, ◌+◌, ◌^◌, ℕ, Bool, Result, Ok, Err, refl, sym, ap, ◌∙◌, arith}
use Rattle.std.specs.Prelude.{OnErr}
use Rattle.std.proofs.lemmas.List.Elements.{All-weaker}
use Rattle.nsq_outside.specs.Files.{Files}
use Rattle.broker_history.specs.State.{State}
use Rattle.floor_rooms.specs.declared.hall.Hall.{Hall}
use Rattle.floor_rooms.specs.Sound.{IsRoomSound, IsSound}
use Rattle.floor_rooms.specs.Standing.{Carries, HoldsFor}
use Rattle.floor_rooms.specs.Changes.{KeepsSince}
use Rattle.floor_rooms.specs.Kept.{NamesTold}
use Rattle.floor_rooms.proofs.Dating.{keeps_equal, since_kept}
use Rattle.floor_rooms.proofs.Naming.{names_kept}
use Rattle.floor_rooms.proofs.Sounding.{Lowers, room_lowered}

-- with more ids used it is sound where there are so many
same_lowers : (h : Hall) (n : ℕ) → Lowers h (record h { ids_used = n })
same_lowers h n = record { options = refl; quiet = omega arith; unsaved = omega arith; pending = λ name has. has }

pub ids_sound : (h : Hall) (n : ℕ) → n ≤ 2 ^ 40 → IsSound h → IsSound (record h { ids_used = n })
ids_sound h n within s = record {
  options = s.options;
  epoch = s.epoch;
  ids_used = within;
  moment = s.moment;
  client_order = s.client_order;
  room_order = s.room_order;
  rooms = All-weaker (IsRoomSound h) (IsRoomSound (record h { ids_used = n })) (λ r x. room_lowered h (record h { ids_used = n }) r (same_lowers h n) x) h.rooms.items s.rooms;
  members = s.members;
  channels = s.channels;
  ready = s.ready;
  past = s.past;
}

-- and stands for the state with so many more
pub ids_hold : (h : Hall) (files : Files) (s : State) (count more : ℕ) → count ≡ more → HoldsFor h files s → HoldsFor (record h { ids_used = h.ids_used + count }) files (record s { ids_used = s.ids_used + more })
ids_hold h files s count more same holds = record {
  stands = record {
    options = holds.stands.options;
    epoch = holds.stands.epoch;
    ids_used = ap (λ n. n + more) holds.stands.ids_used ∙ ap (λ k. h.ids_used + k) (sym same);
    moment = holds.stands.moment;
    stopped = holds.stands.stopped;
    clients = holds.stands.clients;
    topics = holds.stands.topics;
  };
  idle = record {
    topics = holds.idle.topics;
    channels = holds.idle.channels;
  };
}

-- changes of rooms, lists and facts for speed, one after another
pub frame_there : (h0 h1 h2 h3 h4 : Hall) (u : ℕ) → h1 ≡ record h0 { rooms = h1.rooms; pending = h1.pending } → h2 ≡ record h1 { rooms = h2.rooms; unsaved_from = u } → h3 ≡ record h2 { rooms = h3.rooms; pending = h3.pending } → h4 ≡ record h3 { rooms = h4.rooms }
    → h4 ≡ record h0 { rooms = h4.rooms; pending = h4.pending; unsaved_from = h4.unsaved_from }
frame_there h0 h1 h2 h3 h4 u e1 e2 e3 e4 =
    let f : Hall → Hall = λ x. record x { rooms = h4.rooms; pending = h4.pending; unsaved_from = h4.unsaved_from } in
    ap f e4 ∙ ap f e3 ∙ ap f e2 ∙ ap f e1

pub there_rest : (h0 h1 h2 h3 h4 : Hall) (u n : ℕ) → h1 ≡ record h0 { rooms = h1.rooms; pending = h1.pending } → h2 ≡ record h1 { rooms = h2.rooms; unsaved_from = u } → h3 ≡ record h2 { rooms = h3.rooms; pending = h3.pending } → h4 ≡ record h3 { rooms = h4.rooms }
    → record h4 { ids_used = n } ≡ record h0 { ids_used = n; rooms = h4.rooms; pending = h4.pending; unsaved_from = h4.unsaved_from }
there_rest h0 h1 h2 h3 h4 u n e1 e2 e3 e4 = ap (λ (x : Hall). record x { ids_used = n }) (frame_there h0 h1 h2 h3 h4 u e1 e2 e3 e4)

pub came_rest : (h0 h1 h2 : Hall) (u n : ℕ) (unsaved : Bool) → h1 ≡ record h0 { rooms = h1.rooms; pending = h1.pending } → h2 ≡ record (record h1 { unsaved_from = u }) { rooms = h2.rooms; unsaved_names = unsaved }
    → record h2 { ids_used = n } ≡ record h0 { ids_used = n; rooms = h2.rooms; pending = h2.pending; unsaved_names = h2.unsaved_names; unsaved_from = h2.unsaved_from }
came_rest h0 h1 h2 u n unsaved e1 e2 =
    let f : Hall → Hall = λ x. record x { ids_used = n; rooms = h2.rooms; pending = h2.pending; unsaved_names = h2.unsaved_names; unsaved_from = h2.unsaved_from } in
    ap f e2 ∙ ap f e1

pub frame_settled : (h0 h1 h2 h3 : Hall) (u : ℕ) → h1 ≡ record h0 { rooms = h1.rooms; unsaved_from = u } → h2 ≡ record h1 { rooms = h2.rooms } → h3 ≡ record h2 { quiet_until = h3.quiet_until } → h3 ≡ record h0 { rooms = h3.rooms; unsaved_from = h3.unsaved_from; quiet_until = h3.quiet_until }
frame_settled h0 h1 h2 h3 u e1 e2 e3 =
    let f : Hall → Hall = λ x. record x { rooms = h3.rooms; unsaved_from = h3.unsaved_from; quiet_until = h3.quiet_until } in
    ap f e3 ∙ ap f e2 ∙ ap f e1

pub frame_marked : (h0 h1 h2 : Hall) (u : ℕ) → h1 ≡ record h0 { rooms = h1.rooms; unsaved_from = u } → h2 ≡ record h1 { rooms = h2.rooms } → h2 ≡ record h0 { rooms = h2.rooms; unsaved_from = h2.unsaved_from }
frame_marked h0 h1 h2 u e1 e2 =
    let f : Hall → Hall = λ x. record x { rooms = h2.rooms; unsaved_from = h2.unsaved_from } in
    ap f e2 ∙ ap f e1

pub frame_paused : (h0 h1 h2 h3 : Hall) → h1 ≡ record h0 { rooms = h1.rooms; pending = h1.pending } → h2 ≡ record h1 { rooms = h2.rooms; pending = h2.pending } → h3 ≡ record h2 { rooms = h3.rooms; unsaved_names = h3.unsaved_names }
    → h3 ≡ record h0 { rooms = h3.rooms; pending = h3.pending; unsaved_names = h3.unsaved_names }
frame_paused h0 h1 h2 h3 e1 e2 e3 =
    let f : Hall → Hall = λ x. record x { rooms = h3.rooms; pending = h3.pending; unsaved_names = h3.unsaved_names } in
    ap f e3 ∙ ap f e2 ∙ ap f e1

-- a topic went after its last channel did
pub frame_lost : (h0 h1 h2 : Hall) → h1 ≡ record h0 { clients = h1.clients; rooms = h1.rooms; unsaved_names = h1.unsaved_names; unsaved_from = h1.unsaved_from } → h2 ≡ record h1 { rooms = h2.rooms }
    → h2 ≡ record h0 { clients = h2.clients; rooms = h2.rooms; unsaved_names = h2.unsaved_names; unsaved_from = h2.unsaved_from }
frame_lost h0 h1 h2 e1 e2 =
    let f : Hall → Hall = λ x. record x { clients = h2.clients; rooms = h2.rooms; unsaved_names = h2.unsaved_names; unsaved_from = h2.unsaved_from } in
    ap f e2 ∙ ap f e1

-- where room was made and nothing came of it
pub frame_spaced : (h0 h1 : Hall) → h1 ≡ record h0 { rooms = h1.rooms; pending = h1.pending } → h1 ≡ record h0 { rooms = h1.rooms; pending = h1.pending; unsaved_names = h1.unsaved_names }
frame_spaced h0 h1 e = ap (λ (x : Hall). record x { rooms = h1.rooms; pending = h1.pending; unsaved_names = h1.unsaved_names }) e

pub spaced_more : (h0 h1 : Hall) → h1 ≡ record h0 { rooms = h1.rooms; pending = h1.pending } → h1 ≡ record h0 { ids_used = h1.ids_used; rooms = h1.rooms; pending = h1.pending; unsaved_names = h1.unsaved_names; unsaved_from = h1.unsaved_from }
spaced_more h0 h1 e = ap (λ (x : Hall). record x { ids_used = h1.ids_used; rooms = h1.rooms; pending = h1.pending; unsaved_names = h1.unsaved_names; unsaved_from = h1.unsaved_from }) e

pub spaced_there : (h0 h1 : Hall) → h1 ≡ record h0 { rooms = h1.rooms; pending = h1.pending } → h1 ≡ record h0 { ids_used = h1.ids_used; rooms = h1.rooms; pending = h1.pending; unsaved_from = h1.unsaved_from }
spaced_there h0 h1 e = ap (λ (x : Hall). record x { ids_used = h1.ids_used; rooms = h1.rooms; pending = h1.pending; unsaved_from = h1.unsaved_from }) e

pub spaced_stays : (h0 h1 : Hall) (files : Files) → ((s : State) → HoldsFor h0 files s → HoldsFor h1 files s) → Carries h0 files h1 files (λ s t. t ≡ s)
spaced_stays h0 h1 files stands = λ s holds. (s, refl, stands s holds)

pub publish_rest : (h0 h1 : Hall) → h1 ≡ record h0 { ids_used = h1.ids_used; rooms = h1.rooms; pending = h1.pending; unsaved_from = h1.unsaved_from } → h1 ≡ record h0 { ids_used = h1.ids_used; rooms = h1.rooms; pending = h1.pending; unsaved_names = h1.unsaved_names; unsaved_from = h1.unsaved_from }
publish_rest h0 h1 e = ap (λ (x : Hall). record x { ids_used = h1.ids_used; rooms = h1.rooms; pending = h1.pending; unsaved_names = h1.unsaved_names; unsaved_from = h1.unsaved_from }) e

pub spaced_names : (h0 h1 : Hall) → h1 ≡ record h0 { rooms = h1.rooms; pending = h1.pending } → h1.rooms.items ≡ h0.rooms.items → NamesTold h0 h1
spaced_names h0 h1 e same = names_kept h0.moment h0 h1 (ap (λ (x : Hall). x.unsaved_names) e) (keeps_equal h0.moment h0.rooms.items h1.rooms.items same)

pub spaced_since : (h0 h1 : Hall) → h1.rooms.items ≡ h0.rooms.items → KeepsSince h0.moment h0.rooms.items h1.rooms.items
spaced_since h0 h1 same = since_kept h0.moment h0.rooms.items h1.rooms.items (keeps_equal h0.moment h0.rooms.items h1.rooms.items same)

-- where nothing changed
pub same_names : (h : Hall) → NamesTold h h
same_names h = names_kept h.moment h h refl (keeps_equal h.moment h.rooms.items h.rooms.items refl)

pub same_since : (h : Hall) → KeepsSince h.moment h.rooms.items h.rooms.items
same_since h = since_kept h.moment h.rooms.items h.rooms.items (keeps_equal h.moment h.rooms.items h.rooms.items refl)

-- what is so of an error
pub on_error : {X Y : Type 0} (r : Result X Y) (P : Type 0) → P → OnErr r P
on_error (Ok x) P p = tt
on_error (Err y) P p = p
