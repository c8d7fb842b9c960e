-- A channel that is paused, or that goes on.
use Rattle.std.proofs.Common.{◌≡◌, inr, ◌≤◌, ℕ, set, Bool, true, false, not, ◌||◌, List, map, get_or, Option, Some, None, refl, sym, ap, subst, ◌∙◌, arith}
use Rattle.std.specs.Prelude.{IfSome, option_and_then}
use Rattle.std.specs.List.{Contains}
use Rattle.std.specs.Str.{bytes_eq}
use Rattle.std.proofs.lemmas.Bool.{false≢true}
use Rattle.std.proofs.lemmas.Option.{get_or_from_slice_get}
use Rattle.nsq_base.specs.Name.{is_ephemeral}
use Rattle.nsq_outside.specs.Files.{Files}
use Rattle.path_image.specs.Data.{durable}
use Rattle.path_image.specs.Found.{Pairwise}
use Rattle.broker_history.specs.State.{Channel, State, is_ephemeral_channel}
use Rattle.broker_history.specs.Changes.{set_paused}
use Rattle.channel_core.specs.Seen.{seen_channel}
use Rattle.floor_laws.proofs.Lifting.{paused_kept}
use Rattle.floor_laws.proofs.Pairs.{IfBoth, pairs_found}
use Rattle.floor_rooms.specs.declared.stall.Stall.{Stall}
use Rattle.floor_rooms.specs.declared.room.Room.{Room}
use Rattle.floor_rooms.specs.declared.hall.Hall.{Hall}
use Rattle.floor_rooms.specs.Rooms.{channel_name, stall_in, topic_name}
use Rattle.floor_rooms.specs.Sound.{IsQuietUntil, IsSound, IsStallSound}
use Rattle.floor_rooms.specs.Standing.{HoldsFor, IsStallOf}
use Rattle.floor_rooms.specs.Changes.{AtStall, InRoom, KeepsSince, SinceStays, TouchesStall}
use Rattle.floor_rooms.specs.Kept.{NamesTold, room_kept, stall_kept}
use Rattle.floor_rooms.proofs.Changing.{at_stall}
use Rattle.floor_rooms.proofs.Sounding.{KeepsRest, members_before, members_stay, sound_at_stall, stall_before, stall_past, stall_touched}
use Rattle.floor_rooms.proofs.Marked.{IsElse, else_keeps, else_stays}
use Rattle.floor_rooms.proofs.Turning.{stall_change}
use Rattle.floor_rooms.proofs.Dating.{pairs_one, since_at_room, since_equal, since_same}
use Rattle.floor_rooms.proofs.Naming.{KeptAlike, kept_pairs, names_at_room}
use Rattle.floor_topics.specs.Pausing.{PausesStall}
use Rattle.floor_topics.proofs.Paused.{or_left, or_right, same_queue}
use Rattle.floor_topics.proofs.States.{channel_is}

-- one channel that changed leaves its topic's marks, where it keeps its own

both_marks : (at : ℕ) (o u : Option Stall) → IfBoth (λ (a b : Stall). (channel_name b ≡ channel_name a) × SinceStays at a.since b.since) o u → IfSome u (λ s. SinceStays at (option_and_then (λ (x : Stall). x.since) o) s.since)
both_marks at None None h = tt
both_marks at None (Some y) h = absurd h
both_marks at (Some x) None h = tt
both_marks at (Some x) (Some y) h = h.1

pub since_at_stall : (at i j : ℕ) (Does : Stall → Stall → Type 0) (old new : List Room) → (a : AtStall i j Does old new) → channel_name a.does.after ≡ channel_name a.does.stall → SinceStays at a.does.stall.since a.does.after.since → KeepsSince at old new
since_at_stall at i j Does old new a named since =
    let R : Stall → Stall → Type 0 = λ x y. (channel_name y ≡ channel_name x) × SinceStays at x.since y.since in
    let pairs : Pairwise R a.room.stalls.items a.after.stalls.items =
    subst (Pairwise R a.room.stalls.items) (sym a.does.stalls) (pairs_one R (λ x. (refl, since_same at x.since)) a.room.stalls.items j a.does.stall a.does.after a.does.there (named, since)) in
    since_at_room at i (InRoom j Does) old new a (record {
      name = ap topic_name a.does.is;
      since = since_equal at a.room.since a.after.since (ap (λ (r : Room). r.since) a.does.is);
      channels = λ channel.
          both_marks at (stall_in a.room.stalls.items channel) (stall_in a.after.stalls.items channel)
          (pairs_found R (λ x. bytes_eq channel (channel_name x)) (λ x. bytes_eq channel (channel_name x)) a.room.stalls.items a.after.stalls.items (λ x y r. ap (bytes_eq channel) (sym r.0)) pairs);
    })

-- what is saved of a topic stays where an ephemeral channel changes
pub ephemeral_kept : (j : ℕ) (Does : Stall → Stall → Type 0) (a b : Room) (x : InRoom j Does a b) → channel_name x.after ≡ channel_name x.stall → is_ephemeral (channel_name x.stall) ≡ true → room_kept b ≡ room_kept a
ephemeral_kept j Does a b x named e =
    let same : map stall_kept (durable channel_name (set a.stalls.items j x.after)) ≡ map stall_kept (durable channel_name a.stalls.items) =
    kept_pairs channel_name stall_kept a.stalls.items (set a.stalls.items j x.after)
    (pairs_one (KeptAlike channel_name stall_kept) (λ y. (refl, λ d. refl)) a.stalls.items j x.stall x.after x.there (named, λ durable. absurd (false≢true (sym durable ∙ e)))) in
    ap (λ (r : Room). record { name = topic_name r; paused = r.queue.paused; channels = map stall_kept (durable channel_name b.stalls.items) }) x.is
    ∙ ap (λ xs. record { name = topic_name a; paused = a.queue.paused; channels = map stall_kept (durable channel_name xs) }) x.stalls ∙ ap (λ cs. record { name = topic_name a; paused = a.queue.paused; channels = cs }) same

or_true : (b c : Bool) → b || c ≡ true → b ≡ false → c ≡ true
or_true true c e f = absurd (false≢true (sym f))
or_true false c e f = e

is_true : (b : Bool) → not b ≡ false → b ≡ true
is_true true e = refl
is_true false e = absurd (false≢true (sym e))

module _ (h h' : Hall) (i j : ℕ) (on unsaved : Bool) (sound : IsSound h) (e : h' ≡ record h { rooms = h'.rooms; unsaved_names = unsaved }) (at : AtStall i j (PausesStall on) h.rooms.items h'.rooms.items) where
  silent_else : IsElse h h'
  silent_else = ap (λ (x : Hall). record x { rooms = h'.rooms; pending = h'.pending; unsaved_names = h'.unsaved_names; quiet_until = h'.quiet_until; unsaved_from = h'.unsaved_from }) e

  silent_quiet : h'.quiet_until ≡ h.quiet_until
  silent_quiet = ap (λ (x : Hall). x.quiet_until) e

  silent_from : h'.unsaved_from ≡ h.unsaved_from
  silent_from = ap (λ (x : Hall). x.unsaved_from) e

  silent_keeps : KeepsRest h h'
  silent_keeps =
      let pending : h'.pending.items ≡ h.pending.items = ap (λ (x : Hall). x.pending.items) e in
      else_keeps h h' sound silent_else (omega (arith, silent_quiet)) (omega (arith, silent_from)) (λ name has. subst (λ (names : List (List ℕ)). Contains names name) (sym pending) has)

  silent_stall : IsStallSound h.options (topic_name at.room) h.quiet_until h.unsaved_from at.does.stall
  silent_stall = stall_before h h' i j (PausesStall on) sound silent_keeps at

  silent_named : channel_name at.does.after ≡ channel_name at.does.stall
  silent_named = ap channel_name at.does.does

  silent_touches : TouchesStall at.does.stall at.does.after
  silent_touches = subst (TouchesStall at.does.stall) (sym at.does.does) (record {
    about = refl;
    drawn = silent_stall.settled;
    queue = same_queue at.does.stall.channel.backlog.queue;
    clients = λ n. refl;
    members = refl;
    since = refl;
    marked = inr refl;
  })

  silent_calm : IsQuietUntil h'.quiet_until at.does.after.channel
  silent_calm = subst (λ (x : Stall). IsQuietUntil h'.quiet_until x.channel) (sym at.does.does) (λ now before. silent_stall.calm now (omega (arith, before, silent_quiet)))

  pub silent_sound : IsSound h'
  silent_sound =
      sound_at_stall h h' i j (PausesStall on) sound silent_keeps at silent_named
      (subst (λ o. IsStallSound o (topic_name at.room) h'.quiet_until h'.unsaved_from at.does.after) (sym silent_keeps.lowers.options)
      (stall_touched h.options (topic_name at.room) h.quiet_until h'.quiet_until h.unsaved_from h'.unsaved_from at.does.stall at.does.after (omega (arith, silent_from)) silent_stall silent_touches silent_calm))
      (subst (λ o. IfSome o (λ m. m ≤ h'.moment)) (sym silent_touches.since) (stall_past h h' i j (PausesStall on) sound silent_keeps.later at))
      (members_stay h.clients.items (topic_name at.room) at.does.stall at.does.after silent_named silent_touches.clients silent_touches.members (members_before h h' i j (PausesStall on) sound silent_keeps at))

  -- what stands at the place
  room_at : (d : Room) → get_or h.rooms.items i d ≡ at.room
  room_at d = get_or_from_slice_get h.rooms.items i at.room d at.there

  stall_at_place : (d : Room) (x : Stall) → get_or (get_or h.rooms.items i d).stalls.items j x ≡ at.does.stall
  stall_at_place d x = ap (λ (r : Room). get_or r.stalls.items j x) (room_at d) ∙ get_or_from_slice_get at.room.stalls.items j at.does.stall x at.does.there

  pub silent_told : (files : Files) (d : Room) (x : Stall) (s : State) → HoldsFor h files s → (t : State) × (t ≡ set_paused on s (topic_name (get_or h.rooms.items i d)) (Some (channel_name (get_or (get_or h.rooms.items i d).stalls.items j x)))) × HoldsFor h' files t
  silent_told files d x s holds =
      let r = at_stall h h' files files s (topic_name at.room) (channel_name at.does.stall) at.does.stall at.does.after (λ (a b : Channel). b ≡ record a { paused = on }) sound holds
      (stall_change h h' files files i j (PausesStall on) sound at silent_named (else_stays h h' silent_else) (λ name apart file own. refl))
      (λ k of. record {
        to = record k { paused = on };
        row = refl;
        is = subst (λ (y : Stall). IsStallOf files y (record k { paused = on })) (sym at.does.does) (record { disk = of.disk; on_disk = of.on_disk; is_kept = paused_kept on (seen_channel at.does.stall.channel of.disk) k of.is_kept; stands = of.stands });
        named = refl;
      }) in (
        r.0,
        channel_is (λ (k : Channel). record k { paused = on }) s r.0 (topic_name at.room) (channel_name at.does.stall) r.1.old r.1.new r.1.row.from r.1.row.to r.1.there r.1.row.there r.1.row.row r.1.row.is r.1.is ∙ ap (λ (y : Room). set_paused on s (topic_name y) (Some (channel_name at.does.stall))) (sym (room_at d))
            ∙ ap (λ (y : Stall). set_paused on s (topic_name (get_or h.rooms.items i d)) (Some (channel_name y))) (sym (stall_at_place d x)),
        r.2,
      )

  pub silent_names : ((d : Room) (x : Stall) → unsaved ≡ (h.unsaved_names || not (is_ephemeral_channel (topic_name (get_or h.rooms.items i d)) (channel_name (get_or (get_or h.rooms.items i d).stalls.items j x))))) → NamesTold h h'
  silent_names is =
      let c : Bool = is_ephemeral_channel (topic_name at.room) (channel_name at.does.stall) in
      let now : h'.unsaved_names ≡ (h.unsaved_names || not c) =
      ap (λ (x : Hall). x.unsaved_names) e ∙ is at.room at.does.stall ∙ ap (λ (y : Room). h.unsaved_names || not (is_ephemeral_channel (topic_name y) (channel_name (get_or (get_or h.rooms.items i at.room).stalls.items j at.does.stall)))) (room_at at.room)
      ∙ ap (λ (y : Stall). h.unsaved_names || not (is_ephemeral_channel (topic_name at.room) (channel_name y))) (stall_at_place at.room at.does.stall) in
      names_at_room h h' i (InRoom j (PausesStall on)) at (ap topic_name at.does.is) (λ f. or_left h.unsaved_names (not c) (sym now ∙ f))
      (λ f topic_durable. ephemeral_kept j (PausesStall on) at.room at.after at.does silent_named
      (or_true (is_ephemeral (topic_name at.room)) (is_ephemeral (channel_name at.does.stall)) (is_true c (or_right h.unsaved_names (not c) (sym now ∙ f))) topic_durable))

  pub silent_since : KeepsSince h.moment h.rooms.items h'.rooms.items
  silent_since = since_at_stall h.moment i j (PausesStall on) h.rooms.items h'.rooms.items at silent_named (since_equal h.moment at.does.stall.since at.does.after.since silent_touches.since)

-- names are said to be unsaved, and then the channel's call is made
pub silent_frame : (h h' : Hall) (unsaved : Bool) → h' ≡ record (record h { unsaved_names = unsaved }) { rooms = h'.rooms } → h' ≡ record h { rooms = h'.rooms; unsaved_names = unsaved }
silent_frame h h' unsaved e = e
