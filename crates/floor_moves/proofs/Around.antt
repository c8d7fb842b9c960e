-- What stays of a hall where one of its topics or channels changes, and which channel of a topic is owed a copy first.
use Rattle.std.proofs.Common.{◌≡◌, ◌≢◌, ℕ, Bool, true, false, ◌&&◌, List, [], ◌∷◌, get_or, Option, Some, None, refl, sym, ap, subst, ◌∙◌, arith}
use Rattle.std.specs.Prelude.{IfSome, IsSome}
use Rattle.std.specs.List.{Contains}
use Rattle.std.proofs.lemmas.Bool.{false≢true}
use Rattle.std.proofs.lemmas.Option.{get_or_from_slice_get}
use Rattle.broker_history.specs.State.{Taken}
use Rattle.topic_core.specs.Seen.{owed_of}
use Rattle.floor_rooms.specs.declared.room.Room.{Room}
use Rattle.floor_rooms.specs.declared.hall.Hall.{Hall}
use Rattle.floor_rooms.specs.Places.{IsThere}
use Rattle.floor_rooms.specs.Rooms.{channel_name, topic_name}
use Rattle.floor_rooms.specs.Sound.{IsSound}
use Rattle.floor_rooms.proofs.Forming.{some_at}
use Rattle.floor_rooms.proofs.Sounding.{KeepsRest}
use Rattle.floor_moves.specs.Pending.{BeginsWith}
use Rattle.floor_moves.specs.Copying.{IsOwedFirst}

pub keeps_rest : (h h' : Hall) → IsSound h → h' ≡ record h { rooms = h'.rooms } → KeepsRest h h'
keeps_rest h h' sound rest =
    let moment = sound.moment in
    let same = ap (λ (x : Hall). x.moment) rest in
    let quiet = ap (λ (x : Hall). x.quiet_until) rest in
    let from = ap (λ (x : Hall). x.unsaved_from) rest in
    record {
      lowers = record { options = ap (λ (x : Hall). x.options) rest; quiet = omega (arith, quiet); unsaved = omega (arith, from); pending = λ name c. subst (λ (x : Hall). Contains x.pending.items name) (sym rest) c };
      epoch = ap (λ (x : Hall). x.epoch) rest;
      ids_used = ap (λ (x : Hall). x.ids_used) rest;
      moment = omega (arith, moment, same);
      later = omega (arith, same);
      clients = ap (λ (x : Hall). x.clients.items) rest;
    }

pub and_left : (a b : Bool) → (a && b) ≡ true → a ≡ true
and_left true b h = refl
and_left false b h = absurd (false≢true h)

-- the first of names
begins : (names : List (List ℕ)) (n : List ℕ) → n ≡ get_or names 0 n → names ≢ [] → BeginsWith names n
begins [] n at some = absurd (some refl)
begins (x ∷ xs) n at some = record { more = xs; is = ap (λ y. y ∷ xs) (sym at) }

pub chosen : (r : Room) (topic channel : List ℕ) (stall : ℕ) (names : List (List ℕ)) (head : Option Taken) → r.queue.head ≡ head → IsSome head → IfSome head (λ h. h.owed ≢ []) → names ≡ owed_of head → channel ≡ get_or names 0 channel → topic ≡ topic_name r
    → IsThere channel_name r.stalls.items channel stall → IsOwedFirst r (record { topic = topic; channel = channel; stall = stall })
chosen r topic channel stall names None e some have is at named there = absurd (false≢true some)
chosen r topic channel stall names (Some taken) e some have is at named there =
    let x = some_at r.stalls.items stall there.stands.in_range in
    record {
      topic = named;
      taken = taken;
      head = e;
      first = begins taken.owed channel (at ∙ ap (λ xs. get_or xs 0 channel) is) have;
      stall = record { stall = x.0; there = x.1; is = ap channel_name (sym (get_or_from_slice_get r.stalls.items stall x.0 x.0 x.1)) ∙ there.stands.is_key x.0 };
    }
