-- A client that takes a seat in a channel, at their places in a hall.
use Rattle.std.proofs.Common.{◌≡◌, ◌≤◌, ◌<◌, ℕ, set, Bool, true, false, not, ◌&&◌, nat_eq, if◌then◌else◌, List, get_or, Option, Some, None, Result, Ok, Err, refl, sym, ap, subst, ◌∙◌, arith, Equal}
use Rattle.std.specs.Prelude.{IfSome, is_some}
use Rattle.std.specs.List.{All, AllPairs, Contains, list_any, slice_get}
use Rattle.std.specs.Cmp.{nat_cmp_is}
use Rattle.std.specs.Result.{OnErr}
use Rattle.std.specs.Str.{bytes_eq}
use Rattle.std.proofs.lemmas.Bool.{false≢true}
use Rattle.std.proofs.lemmas.List.Elements.{All-set, All-weaker}
use Rattle.std.proofs.lemmas.Option.{get_or_from_slice_get, slice_get_within}
use Rattle.nsq_outside.specs.Files.{Files}
use Rattle.broker_history.specs.State.{Client, Closing, Fresh, Lost, Phase, Route, State, Subscribed, has_channel, is_lost, is_on, put_client, with_client}
use Rattle.broker_history.specs.Step.{subscribed}
use Rattle.broker_history.proofs.Lists.{exact_bytes, same_bytes}
use Rattle.channel_copies.specs.Clients.{client_of}
use Rattle.channel_copies.specs.declared.clients.Client.{Client as Known}
use Rattle.floor_rooms.specs.ClientPlaces.{AreInOrder, StandsAt}
use Rattle.floor_rooms.specs.Seen.{held_channel}
use Rattle.floor_rooms.proofs.ClientPlacing.{stands}
use Rattle.floor_rooms.proofs.Putting.{found_put, order_put, put_standing}
use Rattle.floor_rooms.specs.declared.stall.Stall.{Stall}
use Rattle.floor_rooms.specs.declared.room.Room.{Room}
use Rattle.floor_rooms.specs.declared.hall.Hall.{Hall}
use Rattle.floor_rooms.specs.Rooms.{channel_name, topic_name, client_in}
use Rattle.floor_rooms.specs.Sound.{AreMembers, AsksForNone, HasItsChannel, IsSound, IsStallSound, member_of}
use Rattle.floor_rooms.specs.Standing.{HoldsFor}
use Rattle.floor_rooms.specs.Changes.{AtStall, KeepsRooms, KeepsSince}
use Rattle.floor_rooms.specs.Kept.{NamesTold}
use Rattle.floor_rooms.proofs.Sounding.{KeepsRest, at_all, members_before, members_stay, sound_at_stall, stall_before, stall_past}
use Rattle.floor_rooms.proofs.Holding.{holds_at_stall, stall_alike}
use Rattle.floor_rooms.proofs.Marked.{IsElse, else_keeps, else_stays}
use Rattle.floor_rooms.proofs.Dating.{keeps_at_stall, since_equal}
use Rattle.floor_topics.specs.Seating.{AtSeat, IsFree, SameSeats, Seats}
use Rattle.floor_topics.proofs.LostStalls.{neither}
use Rattle.floor_topics.proofs.Seated.{OnlySeats, SeatFacts, seat_names, seat_since, seat_sound, seat_stands}

-- what is so of what stands at places is so of what is read there
pub held_seat : (P : Room → Stall → Client → Type 0) (rooms : List Room) (clients : List Client) (i j k : ℕ) (room : Room) (stall : Stall) (c : Client) → slice_get rooms i ≡ Some room → slice_get room.stalls.items j ≡ Some stall → slice_get clients k ≡ Some c → P room stall c
    → AtSeat rooms clients i j k P
held_seat P rooms clients i j k room stall c at there client p =
    λ d e g.
    subst (λ (r : Room). P r (get_or r.stalls.items j e) (get_or clients k g)) (sym (get_or_from_slice_get rooms i room d at))
    (subst (λ (s : Stall). P room s (get_or clients k g)) (sym (get_or_from_slice_get room.stalls.items j stall e there)) (subst (P room stall) (sym (get_or_from_slice_get clients k c g client)) p))

-- a client stands at its place by its number
module _ (h : Hall) (k : ℕ) (c : Client) (sound : IsSound h) (at : slice_get h.clients.items k ≡ Some c) where
  pub client_stands : StandsAt h.clients.items c.number k
  client_stands =
      stands h.clients.items c.number k c sound.client_order (slice_get_within h.clients.items k c at)
      (λ d. sym (nat_cmp_is (get_or h.clients.items k d).number c.number Equal (ap (λ (x : Client). x.number) (get_or_from_slice_get h.clients.items k c d at))))

  pub client_found : client_in h.clients.items c.number ≡ Some c
  client_found = client_stands.found c ∙ ap Some (get_or_from_slice_get h.clients.items k c c at)

-- a free client is nobody's
pub free_where : (phase : Phase) (o : Option Route) (t k : List ℕ) → held_channel phase o ≡ None → not (is_lost phase) && is_on o t k ≡ false
free_where Fresh None t k e = refl
free_where Fresh (Some r) t k e = absurd (let no : ⊥ = cc in no)
free_where Subscribed None t k e = refl
free_where Subscribed (Some r) t k e = absurd (let no : ⊥ = cc in no)
free_where Closing None t k e = refl
free_where Closing (Some r) t k e = absurd (let no : ⊥ = cc in no)
free_where Lost o t k e = refl

pub free_member : (c : Client) (t k : List ℕ) → IsFree c → member_of t k (Some c) ≡ None
free_member c t k free = ap (λ b. if b then Some (record { timeout = c.timeout; ready = c.ready }) else None) (free_where c.phase c.route t k free.none)

module _ (h : Hall) (k i j : ℕ) (c : Client) (room : Room) (stall : Stall) (sound : IsSound h) (client : slice_get h.clients.items k ≡ Some c) (free : IsFree c) (at : slice_get h.rooms.items i ≡ Some room) (there : slice_get room.stalls.items j ≡ Some stall) where
  mine : AreMembers h.clients.items (topic_name room) stall
  mine = at_all (AreMembers h.clients.items (topic_name room)) room.stalls.items j stall (at_all (λ (r : Room). All (AreMembers h.clients.items (topic_name r)) r.stalls.items) h.rooms.items i room sound.members at) there

  pub seat_new : client_of stall.channel.clients c.number ≡ None
  seat_new = mine.known c.number ∙ ap (member_of (topic_name room) (channel_name stall)) (client_found h k c sound client) ∙ free_member c (topic_name room) (channel_name stall) free

  pub seat_absent : list_any (nat_eq c.number) stall.members.items ≡ false
  seat_absent = mine.listed c.number ∙ ap (λ o. is_some (member_of (topic_name room) (channel_name stall) o)) (client_found h k c sound client) ∙ ap is_some (free_member c (topic_name room) (channel_name stall) free)

-- the client sits there now
pub record Sits (h h1 : Hall) (i j k : ℕ) (c : Client) (room room1 : Room) (stall after : Stall) (topic channel : List ℕ) : Type 0 where
  pub sound : IsSound h
  pub free : IsFree c
  pub client : slice_get h.clients.items k ≡ Some c
  pub at : slice_get h.rooms.items i ≡ Some room
  pub there : slice_get room.stalls.items j ≡ Some stall
  pub called : topic ≡ topic_name room
  pub named : channel ≡ channel_name stall
  pub rest : OnlySeats h h1
  pub pending : h1.pending.items ≡ h.pending.items
  pub rooms : h1.rooms.items ≡ set h.rooms.items i room1
  pub is : room1 ≡ record room { stalls = room1.stalls }
  pub stalls : room1.stalls.items ≡ set room.stalls.items j after
  pub seats : Seats c.number (Some (record { timeout = c.timeout; ready = 0 })) stall after
  pub clients : h1.clients.items ≡ set h.clients.items k (subscribed topic channel c)

own_seat : {X : Type 0} (x y : X) (b : Bool) → b ≡ true → x ≡ y → (if b then Some x else None) ≡ Some y
own_seat x y true e same = ap Some same
own_seat x y false e same = absurd (false≢true e)

ready_seat : (timeout ready : ℕ) (x : Known) → x ≡ record { timeout = timeout; ready = ready } → ready ≡ 0 → x ≡ record { timeout = timeout; ready = 0 }
ready_seat timeout ready x e zero = e ∙ ap (λ n. record { timeout = timeout; ready = n }) zero

-- a call that fails
pub on_err : {A B : Type 0} (r : Result A B) (P : Type 0) → P → OnErr r P
on_err (Ok x) P p = tt
on_err (Err e) P p = p

module _ (h h1 : Hall) (i j k : ℕ) (c : Client) (room room1 : Room) (stall after : Stall) (topic channel : List ℕ) (s : Sits h h1 i j k c room room1 stall after topic channel) where
  abbrev Own : Type 0
  Own = Seats c.number (Some (record { timeout = c.timeout; ready = 0 })) stall after

  abbrev T : List ℕ
  T = topic_name room

  abbrev C : List ℕ
  C = channel_name stall

  abbrev seated : Client
  seated = subscribed T C c

  clients_are : h1.clients.items ≡ set h.clients.items k seated
  clients_are = s.clients ∙ ap (λ t. set h.clients.items k (subscribed t channel c)) s.called ∙ ap (λ n. set h.clients.items k (subscribed T n c)) s.named

  clients_put : h1.clients.items ≡ put_client h.clients.items seated
  clients_put = clients_are ∙ put_standing h.clients.items seated k (client_stands h k c s.sound s.client)

  abbrev sits_at : AtStall i j (Seats c.number (Some (record { timeout = c.timeout; ready = 0 }))) h.rooms.items h1.rooms.items
  sits_at = record { room = room; after = room1; there = s.at; is = s.rooms; does = record { stall = stall; after = after; there = s.there; is = s.is; stalls = s.stalls; does = s.seats } }

  others_none : (t n : List ℕ) → bytes_eq T t && bytes_eq C n ≡ false → has_channel t n seated ≡ false
  others_none t n apart =
      neither (bytes_eq t T) (bytes_eq n C)
      (λ e f.
      let both : bytes_eq T t && bytes_eq C n ≡ true =
      ap (λ b. b && bytes_eq C n) (ap (bytes_eq T) (exact_bytes t T e) ∙ same_bytes T) ∙ ap (bytes_eq C) (exact_bytes n C f) ∙ same_bytes C in
      false≢true (sym apart ∙ both))

  facts : SeatFacts h h1 c.number T C (Some (record { timeout = c.timeout; ready = 0 })) c (Some seated)
  facts = record {
    was = client_found h k c s.sound s.client;
    found = λ n. ap (λ cs. client_in cs n) clients_put ∙ found_put h.clients.items seated n;
    order = subst AreInOrder (sym clients_put) (order_put h.clients.items seated s.sound.client_order);
    ready = subst (All AsksForNone) (sym clients_are) (All-set AsksForNone h.clients.items k seated (λ e. absurd (false≢true e)) s.sound.ready);
    own = own_seat (record { timeout = c.timeout; ready = c.ready }) (record { timeout = c.timeout; ready = 0 }) (has_channel T C seated) (ap (λ b. b && bytes_eq C C) (same_bytes T) ∙ same_bytes C)
        (ready_seat c.timeout c.ready (record { timeout = c.timeout; ready = c.ready }) refl (at_all AsksForNone h.clients.items k c s.sound.ready s.client s.free.fresh));
    others = λ t n apart. ap (λ b. if b then Some (record { timeout = c.timeout; ready = c.ready }) else None) (others_none t n apart) ∙ sym (free_member c t n s.free);
    channels = λ still there. subst (All (HasItsChannel h1)) (sym clients_are) (All-set (HasItsChannel h1) h.clients.items k seated there (All-weaker (HasItsChannel h) (HasItsChannel h1) still h.clients.items s.sound.channels));
  }

  keeps_names : (name : List ℕ) → Contains h.pending.items name → Contains h1.pending.items name
  keeps_names name has = subst (λ (names : List (List ℕ)). Contains names name) (sym s.pending) has

  pub sits_sound : IsSound h1
  sits_sound = seat_sound h h1 i j c.number (Some (record { timeout = c.timeout; ready = 0 })) c (Some seated) s.sound s.rest keeps_names sits_at facts

  pub sits_since : KeepsSince h.moment h.rooms.items h1.rooms.items
  sits_since = seat_since h h1 i j c.number (Some (record { timeout = c.timeout; ready = 0 })) c (Some seated) s.sound s.rest keeps_names sits_at facts

  pub sits_names : NamesTold h h1
  sits_names = seat_names h h1 i j c.number (Some (record { timeout = c.timeout; ready = 0 })) c (Some seated) s.sound s.rest keeps_names sits_at facts

  pub sits_clients : h1.clients.items ≡ put_client h.clients.items (subscribed (topic_name room) (channel_name stall) c)
  sits_clients = clients_put

  pub sits_stands : (files : Files) (u : State) → HoldsFor h files u → HoldsFor h1 files (with_client u (subscribed (topic_name room) (channel_name stall) c))
  sits_stands files u holds =
      seat_stands h h1 i j c.number (Some (record { timeout = c.timeout; ready = 0 })) c (Some seated) s.sound s.rest keeps_names sits_at facts files u (put_client u.clients seated) holds
      (ap (λ cs. put_client cs seated) holds.stands.clients ∙ sym clients_put)

-- where there was no memory for it, all is as before
module _ (h h1 : Hall) (i j : ℕ) (sound : IsSound h) (rest : IsElse h h1) (quiet : h1.quiet_until ≡ h.quiet_until) (from : h1.unsaved_from ≡ h.unsaved_from) (pending : h1.pending.items ≡ h.pending.items) (at : AtStall i j SameSeats h.rooms.items h1.rooms.items) where
  keeps : KeepsRest h h1
  keeps = else_keeps h h1 sound rest (omega (arith, quiet)) (omega (arith, from)) (λ name has. subst (λ (names : List (List ℕ)). Contains names name) (sym pending) has)

  same_channel : at.does.after.channel ≡ at.does.stall.channel
  same_channel = ap (λ (x : Stall). x.channel) at.does.does.is

  pub unseated_sound : IsSound h1
  unseated_sound =
      let s : Stall = at.does.stall in
      let x : IsStallSound h.options (topic_name at.room) h.quiet_until h.unsaved_from s = stall_before h h1 i j SameSeats sound keeps at in
      let now : IsStallSound h.options (topic_name at.room) h.quiet_until h.unsaved_from (record s { members = at.does.after.members }) = record {
        about = x.about;
        named = x.named;
        settled = x.settled;
        durable = x.durable;
        queue = x.queue;
        limits = x.limits;
        calm = x.calm;
        marked = x.marked;
        members = subst (AllPairs (λ a b. a < b)) (sym at.does.does.members) x.members;
      } in
      sound_at_stall h h1 i j SameSeats sound keeps at (ap channel_name at.does.does.is)
      (subst (λ o. IsStallSound o (topic_name at.room) h1.quiet_until h1.unsaved_from at.does.after) (sym keeps.lowers.options)
      (subst (λ q. IsStallSound h.options (topic_name at.room) q h1.unsaved_from at.does.after) (sym quiet)
      (subst (λ u. IsStallSound h.options (topic_name at.room) h.quiet_until u at.does.after) (sym from) (subst (IsStallSound h.options (topic_name at.room) h.quiet_until h.unsaved_from) (sym at.does.does.is) now))))
      (subst (λ o. IfSome o (λ m. m ≤ h1.moment)) (sym (ap (λ (y : Stall). y.since) at.does.does.is)) (stall_past h h1 i j SameSeats sound keeps.later at))
      (members_stay h.clients.items (topic_name at.room) s at.does.after (ap channel_name at.does.does.is) (λ n. ap (λ (y : Stall). client_of y.channel.clients n) at.does.does.is) at.does.does.members (members_before h h1 i j SameSeats sound keeps at))

  pub unseated_stands : (files : Files) (u : State) → HoldsFor h files u → HoldsFor h1 files u
  unseated_stands files u holds = holds_at_stall h h1 files u i j SameSeats (else_stays h h1 rest) at (ap channel_name at.does.does.is) (λ n of. stall_alike files at.does.stall at.does.after n same_channel of) holds

  pub unseated_keeps : KeepsRooms h.moment h.rooms.items h1.rooms.items
  unseated_keeps =
      keeps_at_stall h.moment i j SameSeats h.rooms.items h1.rooms.items at (record {
        about = ap (λ (y : Stall). y.channel.about) at.does.does.is;
        paused = ap (λ (y : Stall). y.channel.paused) at.does.does.is;
        members = at.does.does.members;
        since = since_equal h.moment at.does.stall.since at.does.after.since (ap (λ (y : Stall). y.since) at.does.does.is);
      })
