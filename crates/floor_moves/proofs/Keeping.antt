-- What moves leave of a hall.
use Rattle.std.proofs.Common.{◌≡◌, ◌≤◌, ℕ, refl, sym, ap, subst, ◌∙◌, arith}
use Rattle.floor_rooms.specs.declared.stall.Stall.{Stall}
use Rattle.floor_rooms.specs.declared.hall.Hall.{Hall}
use Rattle.floor_rooms.specs.Changes.{AtStall, KeepsRooms, KeepsStall, marked}
use Rattle.floor_rooms.proofs.Holding.{StaysElse}
use Rattle.floor_moves.specs.Moves.{Keeps}
use Rattle.floor_rooms.proofs.Dating.{keeps_at_stall, keeps_marks_stall, keeps_then}
use Rattle.floor_rooms.proofs.Dating.{keeps_same as rooms_same}

-- other topics are listed
pub keeps_from : (h h' : Hall) → h' ≡ record h { rooms = h'.rooms; pending = h'.pending } → KeepsRooms h.moment h.rooms.items h'.rooms.items → Keeps h h'
keeps_from h h' e rooms = record {
  options = ap (λ (x : Hall). x.options) e;
  epoch = ap (λ (x : Hall). x.epoch) e;
  began_at = ap (λ (x : Hall). x.began_at) e;
  ids_used = ap (λ (x : Hall). x.ids_used) e;
  moment = ap (λ (x : Hall). x.moment) e;
  stopped = ap (λ (x : Hall). x.stopped) e;
  stuck = ap (λ (x : Hall). x.stuck) e;
  unsaved_names = ap (λ (x : Hall). x.unsaved_names) e;
  clients = ap (λ (x : Hall). x.clients) e;
  rooms = rooms;
}

-- a mark
pub keeps_marked : (h h' : Hall) (unsaved : ℕ) → h' ≡ record h { rooms = h'.rooms; unsaved_from = unsaved } → KeepsRooms h.moment h.rooms.items h'.rooms.items → Keeps h h'
keeps_marked h h' unsaved e rooms = record {
  options = ap (λ (x : Hall). x.options) e;
  epoch = ap (λ (x : Hall). x.epoch) e;
  began_at = ap (λ (x : Hall). x.began_at) e;
  ids_used = ap (λ (x : Hall). x.ids_used) e;
  moment = ap (λ (x : Hall). x.moment) e;
  stopped = ap (λ (x : Hall). x.stopped) e;
  stuck = ap (λ (x : Hall). x.stuck) e;
  unsaved_names = ap (λ (x : Hall). x.unsaved_names) e;
  clients = ap (λ (x : Hall). x.clients) e;
  rooms = rooms;
}

pub keeps_on : (h h1 h' : Hall) → Keeps h h1 → Keeps h1 h' → Keeps h h'
keeps_on h h1 h' a b = record {
  options = b.options ∙ a.options;
  epoch = b.epoch ∙ a.epoch;
  began_at = b.began_at ∙ a.began_at;
  ids_used = b.ids_used ∙ a.ids_used;
  moment = b.moment ∙ a.moment;
  stopped = b.stopped ∙ a.stopped;
  stuck = b.stuck ∙ a.stuck;
  unsaved_names = b.unsaved_names ∙ a.unsaved_names;
  clients = b.clients ∙ a.clients;
  rooms = keeps_then h.moment h.rooms.items h1.rooms.items h'.rooms.items a.rooms (subst (λ n. KeepsRooms n h1.rooms.items h'.rooms.items) a.moment b.rooms);
}

same_most : (a b : ℕ) → b ≡ a → a ≤ b
same_most a b e = omega (arith, e)

pub rest_of : (h h' : Hall) → Keeps h h' → StaysElse h h'
rest_of h h' k = record {
  options = k.options;
  epoch = k.epoch;
  ids_used = k.ids_used;
  moment = same_most h.moment h'.moment k.moment;
  stopped = k.stopped;
  clients = ap (λ cs. cs.items) k.clients;
}

pub rest_rooms : (h h' : Hall) → h' ≡ record h { rooms = h'.rooms } → StaysElse h h'
rest_rooms h h' e = record {
  options = ap (λ (x : Hall). x.options) e;
  epoch = ap (λ (x : Hall). x.epoch) e;
  ids_used = ap (λ (x : Hall). x.ids_used) e;
  moment = same_most h.moment h'.moment (ap (λ (x : Hall). x.moment) e);
  stopped = ap (λ (x : Hall). x.stopped) e;
  clients = ap (λ (x : Hall). x.clients.items) e;
}

-- another moment until which all is quiet
pub keeps_quiet : (h h' : Hall) (quiet : ℕ) → h' ≡ record h { quiet_until = quiet } → Keeps h h'
keeps_quiet h h' quiet e = record {
  options = ap (λ (x : Hall). x.options) e;
  epoch = ap (λ (x : Hall). x.epoch) e;
  began_at = ap (λ (x : Hall). x.began_at) e;
  ids_used = ap (λ (x : Hall). x.ids_used) e;
  moment = ap (λ (x : Hall). x.moment) e;
  stopped = ap (λ (x : Hall). x.stopped) e;
  stuck = ap (λ (x : Hall). x.stuck) e;
  unsaved_names = ap (λ (x : Hall). x.unsaved_names) e;
  clients = ap (λ (x : Hall). x.clients) e;
  rooms = subst (λ (x : Hall). KeepsRooms h.moment h.rooms.items x.rooms.items) (sym e) (rooms_same h.moment h.rooms.items);
}

-- nothing changed
pub keeps_same : (h : Hall) → Keeps h h
keeps_same h = record { options = refl; epoch = refl; began_at = refl; ids_used = refl; moment = refl; stopped = refl; stuck = refl; unsaved_names = refl; clients = refl; rooms = rooms_same h.moment h.rooms.items }

-- one channel was marked
pub keeps_stall_mark : (h h' : Hall) (unsaved i j : ℕ) → h' ≡ record h { rooms = h'.rooms; unsaved_from = unsaved } → AtStall i j (λ a b. b ≡ record a { since = marked a.since h.moment }) h.rooms.items h'.rooms.items → Keeps h h'
keeps_stall_mark h h' unsaved i j e x =
    keeps_marked h h' unsaved e (keeps_marks_stall h.moment i j h.rooms.items h'.rooms.items x)

-- or changed in a way that keeps what moves do
pub keeps_stall : (h h' : Hall) (i j : ℕ) (Does : Stall → Stall → Type 0) → h' ≡ record h { rooms = h'.rooms } → (x : AtStall i j Does h.rooms.items h'.rooms.items) → KeepsStall h.moment x.does.stall x.does.after → Keeps h h'
keeps_stall h h' i j Does e x keeps = keeps_marked h h' h.unsaved_from e (keeps_at_stall h.moment i j Does h.rooms.items h'.rooms.items x keeps)
