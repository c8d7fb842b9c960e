-- A look through channels for what is due.
use Rattle.std.proofs.Common.{◌≡◌, ◌<◌, ◌≤◌, ◌+◌, ℕ, min, Bool, true, false, nat_le, List, [], ◌∷◌, length, Option, Some, None, refl, sym, ap, subst, arith, get_or}
use Rattle.std.specs.Prelude.{IsSome}
use Rattle.std.specs.List.{All, AllWithin, count_by, slice_get}
use Rattle.std.proofs.lemmas.Bool.{false≢true, leb-true, le-leb, leb-false}
use Rattle.std.proofs.lemmas.Option.{get_or_from_slice_get}
use Rattle.nsq_base.specs.declared.options.Options.{Options}
use Rattle.broker_history.specs.State.{Place as CopyPlace, Queued, InFlight, Deferred, Finished, Emptied, Dropped, Copy, is_due}
use Rattle.broker_history.specs.Channels.{one}
use Rattle.broker_history.proofs.Counting.{count-cons}
use Rattle.channel_core.specs.Answers.{IsNextDue, TellsDue, all_due}
use Rattle.channel_core.specs.Moves.{due_in}
use Rattle.channel_core.specs.Seen.{Seen as ChannelSeen, channel_with}
use Rattle.channel_core.proofs.Dues.{tells_due}
use Rattle.floor_rooms.specs.declared.stall.Stall.{Stall}
use Rattle.floor_rooms.specs.declared.room.Room.{Room}
use Rattle.floor_rooms.specs.declared.hall.Hall.{Hall}
use Rattle.floor_rooms.specs.Rooms.{topic_name}
use Rattle.floor_rooms.specs.Sound.{IsQuietUntil, IsStallSound, IsRoomSound, IsSound}
use Rattle.floor_moves.specs.Due.{has_come, sooner, IsDueNow, AreQuiet, RoomsAreQuiet}

-- what was due is due later
still_one : (early now : ℕ) (p : CopyPlace) → early ≤ now → is_due early p ≡ true → is_due now p ≡ true
still_one early now (InFlight client due sent) e h = le-leb due now (let d = leb-true due early h in omega (arith, d, e))
still_one early now (Deferred due) e h = le-leb due now (let d = leb-true due early h in omega (arith, d, e))
still_one early now Queued e h = absurd (false≢true h)
still_one early now Finished e h = absurd (false≢true h)
still_one early now Emptied e h = absurd (false≢true h)
still_one early now Dropped e h = absurd (false≢true h)

fewer_one : (a b : Bool) → (a ≡ true → b ≡ true) → one a ≤ one b
fewer_one true b h = omega (arith, ap one (h refl))
fewer_one false b h = omega arith

fewer_due : (early now : ℕ) → early ≤ now → (xs : List Copy) → count_by (λ x. is_due early x.place) xs ≤ count_by (λ x. is_due now x.place) xs
fewer_due early now e [] = omega arith
fewer_due early now e (x ∷ xs) =
    omega (arith, count-cons (λ (y : Copy). is_due early y.place) x xs, count-cons (λ (y : Copy). is_due now y.place) x xs, fewer_one (is_due early x.place) (is_due now x.place) (still_one early now x.place e), fewer_due early now e xs)

-- where copies are due one is told
some_told : {X : Type 0} (o : Option X) → (o ≡ None → ⊥) → IsSome o
some_told None h = absurd (h refl)
some_told (Some x) h = refl

-- a channel whose next copy is due by now has one that is due
pub due_now : (now : ℕ) (s : Stall) (due : Option ℕ) → IsNextDue (channel_with s.channel []) due → has_come due now ≡ true → IsDueNow now s
due_now now s None next come = absurd (false≢true come)
due_now now s (Some moment) next come =
    let within : moment ≤ now = leb-true moment now come in
    let some : 0 < all_due now (channel_with s.channel []) = let few = fewer_due moment now within (channel_with s.channel []).copies in let most = next.1 in omega (arith, few, most) in
    some_told (due_in now s.channel) (λ e. let none : all_due now (channel_with s.channel []) ≡ 0 = subst (TellsDue now (channel_with s.channel [])) e (tells_due now s.channel []) in let no : ⊥ = omega (arith, none, some) in no)

-- one that isn't is quiet until then
pub quiet_next : (soonest : ℕ) (v : ChannelSeen) (due : Option ℕ) → IsNextDue (channel_with v []) due → IsQuietUntil (sooner soonest due) v
quiet_next soonest v None next = λ now before. next now
quiet_next soonest v (Some moment) next = λ now before. next.0 now (omega (arith, before))

sooner_less : (soonest : ℕ) (due : Option ℕ) → sooner soonest due ≤ soonest
sooner_less soonest None = omega arith
sooner_less soonest (Some due) = omega arith

pub quieter : (later sooner : ℕ) (v : ChannelSeen) → sooner ≤ later → IsQuietUntil later v → IsQuietUntil sooner v
quieter later sooner v less quiet = λ now before. quiet now (omega (arith, before, less))

pub after_now : (now soonest : ℕ) (due : Option ℕ) → now < soonest → has_come due now ≡ false → now < sooner soonest due
after_now now soonest None later come = later
after_now now soonest (Some due) later come = let behind : now < due = leb-false due now come in omega (arith, later, behind)

-- one more
more_within : {X : Type 0} (P Q : X → Type 0) (xs : List X) (low j : ℕ) → ((x : X) → P x → Q x) → ((d : X) → Q (get_or xs j d)) → AllWithin P xs low j → AllWithin Q xs low (j + 1)
more_within P Q xs low j f here all k d from below =
    elim (nat_le j k) as (λ b. nat_le j k ≡ b → Q (get_or xs k d)) [
      | true ↦ λ e. let at : j ≤ k = leb-true j k e in let same : j ≡ k = omega (arith, at, below) in subst (λ n. Q (get_or xs n d)) same (here d)
      | false ↦ λ e. f (get_or xs k d) (all k d from (leb-false j k e))
    ] refl

pub stalls_more : (soonest : ℕ) (stalls : List Stall) (j : ℕ) (s : Stall) (due : Option ℕ) → ((d : Stall) → get_or stalls j d ≡ s) → IsNextDue (channel_with s.channel []) due → AllWithin (λ x. IsQuietUntil soonest x.channel) stalls 0 j
    → AllWithin (λ x. IsQuietUntil (sooner soonest due) x.channel) stalls 0 (j + 1)
stalls_more soonest stalls j s due at next all =
    more_within (λ x. IsQuietUntil soonest x.channel) (λ x. IsQuietUntil (sooner soonest due) x.channel) stalls 0 j (λ x quiet. quieter soonest (sooner soonest due) x.channel (sooner_less soonest due) quiet)
    (λ d. subst (λ (x : Stall). IsQuietUntil (sooner soonest due) x.channel) (sym (at d)) (quiet_next soonest s.channel due next)) all

pub all_quieter : (later sooner : ℕ) (stalls : List Stall) → sooner ≤ later → AreQuiet later stalls → AreQuiet sooner stalls
all_quieter later sooner stalls less quiet = λ k d within. quieter later sooner (get_or stalls k d).channel less (quiet k d within)

pub rooms_more : (soonest later : ℕ) (rooms : List Room) (low i : ℕ) (r : Room) → ((d : Room) → get_or rooms i d ≡ r) → AreQuiet later r.stalls.items → RoomsAreQuiet soonest rooms low i → RoomsAreQuiet (min soonest later) rooms low (i + 1)
rooms_more soonest later rooms low i r at quiet all =
    more_within (λ x. AreQuiet soonest x.stalls.items) (λ x. AreQuiet (min soonest later) x.stalls.items) rooms low i
    (λ x h. all_quieter soonest (min soonest later) x.stalls.items (omega arith) h)
    (λ d. subst (λ (x : Room). AreQuiet (min soonest later) x.stalls.items) (sym (at d)) (all_quieter later (min soonest later) r.stalls.items (omega arith) quiet)) all

-- both halves
pub both_quiet : (behind before : ℕ) (rooms : List Room) (from count : ℕ) → count ≡ length rooms → RoomsAreQuiet behind rooms from count → RoomsAreQuiet before rooms 0 from → All (λ r. AreQuiet (min behind before) r.stalls.items) rooms
both_quiet behind before rooms from count whole late early k d within =
    elim (nat_le from k) as (λ b. nat_le from k ≡ b → AreQuiet (min behind before) (get_or rooms k d).stalls.items) [
      | true ↦ λ e. all_quieter behind (min behind before) (get_or rooms k d).stalls.items (omega arith) (late k d (leb-true from k e) (omega (arith, whole, within)))
      | false ↦ λ e. all_quieter before (min behind before) (get_or rooms k d).stalls.items (omega arith) (early k d (omega arith) (leb-false from k e))
    ] refl

-- a hall that is quiet for longer is as sound
pub sound_quiet : (h : Hall) (quiet : ℕ) → IsSound h → All (λ r. AreQuiet quiet r.stalls.items) h.rooms.items → IsSound (record h { quiet_until = quiet })
sound_quiet h quiet sound all = record {
  options = sound.options;
  epoch = sound.epoch;
  ids_used = sound.ids_used;
  moment = sound.moment;
  client_order = sound.client_order;
  room_order = sound.room_order;
  rooms = λ k d within. room_quiet h quiet (get_or h.rooms.items k d) (sound.rooms k d within) (all k d within);
  members = sound.members;
  channels = sound.channels;
  ready = sound.ready;
  past = sound.past;
}
  where
    stall_quiet : (o : Options) (topic : List ℕ) (q quiet u : ℕ) (s : Stall) → IsStallSound o topic q u s → IsQuietUntil quiet s.channel → IsStallSound o topic quiet u s
    stall_quiet o topic q quiet u s x calm =
        record { about = x.about; named = x.named; settled = x.settled; durable = x.durable; queue = x.queue; limits = x.limits; calm = calm; marked = x.marked; members = x.members }

    room_quiet : (h : Hall) (quiet : ℕ) (r : Room) → IsRoomSound h r → AreQuiet quiet r.stalls.items → IsRoomSound (record h { quiet_until = quiet }) r
    room_quiet h quiet r x all = record {
      named = x.named;
      settled = x.settled;
      backlog = x.backlog;
      capacity = x.capacity;
      limits = x.limits;
      names = x.names;
      order = x.order;
      stalls = λ k d within. stall_quiet h.options (topic_name r) h.quiet_until quiet h.unsaved_from (get_or r.stalls.items k d) (x.stalls k d within) (all k d within);
      owed = x.owed;
      marked = x.marked;
      listed = x.listed;
      rests = x.rests;
    }

-- a step of a look through channels, and through topics
pub stalls_step : (now soonest new : ℕ) (stalls : List Stall) (j : ℕ) (s : Stall) (due : Option ℕ) → new ≡ sooner soonest due → slice_get stalls j ≡ Some s → IsNextDue (channel_with s.channel []) due → has_come due now ≡ false → now < soonest
    → AllWithin (λ x. IsQuietUntil soonest x.channel) stalls 0 j → (now < new) × AllWithin (λ x. IsQuietUntil new x.channel) stalls 0 (j + 1)
stalls_step now soonest new stalls j s due is there next come later all =
    subst (λ n. (now < n) × AllWithin (λ x. IsQuietUntil n x.channel) stalls 0 (j + 1)) (sym is)
    (after_now now soonest due later come, stalls_more soonest stalls j s due (λ d. get_or_from_slice_get stalls j s d there) next all)

pub rooms_step : (now soonest later new : ℕ) (rooms : List Room) (low i : ℕ) (r : Room) (stalls : List Stall) → new ≡ min soonest later → slice_get rooms i ≡ Some r → stalls ≡ r.stalls.items → now < soonest → RoomsAreQuiet soonest rooms low i → (now < later) × AreQuiet later stalls
    → (now < new) × RoomsAreQuiet new rooms low (i + 1)
rooms_step now soonest later new rooms low i r stalls is there of late all found =
    let l = found.0 in
    subst (λ n. (now < n) × RoomsAreQuiet n rooms low (i + 1)) (sym is)
    (omega (arith, late, l), rooms_more soonest later rooms low i r (λ d. get_or_from_slice_get rooms i r d there) (subst (AreQuiet later) of found.1) all)
