-- A message of a topic is taken: that is the move, of each state that the hall stood for.
use Rattle.std.proofs.Common.{◌≡◌, ◌≢◌, inl, inr, ◌≤◌, ℕ, Bool, true, false, not, ◌&&◌, ◌||◌, List, set, [], ◌∷◌, ◌++◌, map, get_or, Some, None, is_none, refl, sym, ap, subst, ◌∙◌, arith}
use Rattle.std.specs.Prelude.{IsTrue, IsSome, IfSome, slice_get}
use Rattle.std.specs.List.{All, Contains}
use Rattle.std.proofs.lemmas.Bool.{false≢true, eq-eqb}
use Rattle.std.proofs.lemmas.List.Elements.{All-head, All-tail, All-cons, All-nil, All-map}
use Rattle.std.proofs.lemmas.Option.{slice_get-get_or, slice_get_within}
use Rattle.nsq_base.specs.Names.{IsAscendingBy}
use Rattle.nsq_outside.specs.Files.{Files}
use Rattle.nsq_outside.specs.declared.journal.End.TheVariants.{Done, Faulted}
use Rattle.v2_frame.specs.declared.message.Message.{Message}
use Rattle.backlog.specs.declared.backlog.Lent.TheVariants.{Nothing}
use Rattle.broker_history.specs.declared.entry.Act.TheVariants.{Took, Stuck}
use Rattle.broker_history.specs.State.{Channel, Waiting, Topic, State, channel_names, is_empty, topic_of}
use Rattle.broker_history.specs.Topics.{Fits, Takes, takes}
use Rattle.broker_history.specs.Entries.{History}
use Rattle.broker_history.specs.Changes.{AtTopic}
use Rattle.broker_history.specs.Step.{DoesMove, IsTopicStuck}
use Rattle.topic_core.specs.Seen.{owed_of}
use Rattle.topic_core.specs.Rows.{IsTopicOf, taken_where}
use Rattle.floor_laws.proofs.Pairs.{pairs_told}
use Rattle.floor_rooms.specs.declared.stall.Stall.{Stall}
use Rattle.floor_rooms.specs.declared.room.Room.{Room}
use Rattle.floor_rooms.specs.declared.hall.Hall.{Hall}
use Rattle.floor_rooms.specs.Rooms.{channel_name, topic_name, stall_names, stall_in}
use Rattle.floor_rooms.specs.Sound.{IsRoomSound, IsSound, has_none_waiting}
use Rattle.floor_rooms.specs.Standing.{IsStallOf, IsRoomOf, HoldsFor, longest_delay}
use Rattle.floor_rooms.specs.Changes.{AtRoom, OnlyQueueFiles, TouchesRoom, marked}
use Rattle.floor_rooms.specs.RoomChanges.{RoomChange, LiftsRoom}
use Rattle.floor_rooms.proofs.Dating.{keeps_at_room, keeps_marks_room, keeps_room_alike, since_equal}
use Rattle.floor_rooms.proofs.Filing.{only_of_topic}
use Rattle.floor_rooms.proofs.Forming.{topic_there}
use Rattle.floor_rooms.proofs.Orders.{room_as_before}
use Rattle.floor_rooms.proofs.Placing.{at_place, found_at}
use Rattle.floor_rooms.proofs.Rooming.{at_room}
use Rattle.floor_rooms.proofs.Sounding.{KeepsRest, at_all, room_past, room_touched, sound_at_room}
use Rattle.floor_rooms.proofs.Staying.{others_stay, stall_named}
use Rattle.floor_rooms.proofs.Turning.{room_change}
use Rattle.floor_moves.specs.declared.made.Made.{Made}
use Rattle.floor_moves.specs.declared.made.Made.TheVariants as made
use Rattle.floor_moves.specs.Moves.{Keeps, entry_at, sight}
use Rattle.floor_moves.proofs.Keeping.{keeps_marked, keeps_on, rest_rooms}
use Rattle.floor_moves.proofs.PuttingBack.{some_same, some_since, stands_now}
use Rattle.floor_moves.proofs.Stepping.{daemon, rose_none, rose_one, steps_to}
use Rattle.floor_moves.specs.Taking.{names_of, HasRoomAt, TakesNext, TakesFirst, LeavesRoom, IsTaken, IsStuck, IsUntouched, TakesIn}

-- all but one in the middle, and that one
all_without : {X : Type 0} (P : X → Type 0) (before : List X) (x : X) (after : List X) → All P (before ++ x ∷ after) → All P (before ++ after)
all_without P [] x after h = All-tail P x after h
all_without P (b ∷ before) x after h = All-cons P b (before ++ after) (All-head P b (before ++ x ∷ after) h) (all_without P before x after (All-tail P b (before ++ x ∷ after) h))

all_middle : {X : Type 0} (P : X → Type 0) (before : List X) (x : X) (after : List X) → All P (before ++ x ∷ after) → P x
all_middle P [] x after h = All-head P x after h
all_middle P (b ∷ before) x after h = all_middle P before x after (All-tail P b (before ++ x ∷ after) h)

-- a topic that has something to take isn't paused, and has a channel
busy_parts : (n p e w : Bool) → n ≡ true → (n && (p || (e || w))) ≡ false → (p ≡ false) × (e ≡ false)
busy_parts false p e w h k = absurd (false≢true h)
busy_parts true true e w h k = absurd (false≢true (sym k))
busy_parts true false true w h k = absurd (false≢true (sym k))
busy_parts true false false w h k = (refl, refl)

pub goes_on : (r : Room) → TakesNext r → (r.queue.paused ≡ false) × (is_empty r.stalls.items ≡ false)
goes_on r t = busy_parts (is_none r.queue.head) r.queue.paused (is_empty r.stalls.items) (has_none_waiting r) (ap is_none t.none) t.busy

-- each of its channels is there
all_there : (stalls : List Stall) → IsAscendingBy channel_name stalls → All (λ name. IsSome (stall_in stalls name)) (map channel_name stalls)
all_there stalls up =
    All-map (λ name. IsSome (stall_in stalls name)) channel_name stalls
    (λ k d within. subst (λ o. IsSome o) (sym (found_at channel_name stalls k (get_or stalls k d) up (slice_get-get_or stalls k d within))) refl)

owed_there : (tells_notes tells : Bool) (at : ℕ) (f0 f1 : Files) (n0 n1 : ℕ) (first last : History) (r r' : Room) (answer : Made) → IsAscendingBy channel_name r.stalls.items → TakesIn tells_notes tells at f0 f1 n0 n1 first last r r' answer
    → All (λ name. IsSome (stall_in r.stalls.items name)) (owed_of r'.queue.head)
owed_there tells_notes tells at f0 f1 n0 n1 first last r r' made.Done up x =
    subst (λ o. All (λ name. IsSome (stall_in r.stalls.items name)) (owed_of o)) (sym x.head) (subst (All (λ name. IsSome (stall_in r.stalls.items name))) (sym x.owed) (all_there r.stalls.items up))
owed_there tells_notes tells at f0 f1 n0 n1 first last r r' made.Stuck up x = subst (λ o. All (λ name. IsSome (stall_in r.stalls.items name)) (owed_of o)) (sym x.none) (All-nil (λ name. IsSome (stall_in r.stalls.items name)))
owed_there tells_notes tells at f0 f1 n0 n1 first last r r' made.Memory up x = subst (λ o. All (λ name. IsSome (stall_in r.stalls.items name)) (owed_of o)) (sym x.none) (All-nil (λ name. IsSome (stall_in r.stalls.items name)))

-- the names of its channels are those of a state's
channels_alike : (files : Files) (r : Room) (t : Topic) → IsRoomOf files r t → channel_names t ≡ stall_names r
channels_alike files r t is = sym (pairs_told (IsStallOf files) channel_name (λ (k : Channel). k.name) r.stalls.items t.channels (λ x k of. sym (stall_named files x k of)) is.channels)

-- one that waits, of whichever length the list of its channels is
empty_map : {X Y : Type 0} (f : X → Y) (xs : List X) → is_empty (map f xs) ≡ is_empty xs
empty_map f [] = refl
empty_map f (x ∷ xs) = refl

not_empty : {X : Type 0} (xs : List X) → xs ≢ [] → is_empty xs ≡ false
not_empty [] some = absurd (some refl)
not_empty (x ∷ xs) some = refl

and_four : (a b c d : Bool) → a ≡ false → b ≡ false → c ≡ false → d ≡ true → (not a && not b && not c && d) ≡ true
and_four a b c d p q r s = ap (λ x. not x && not b && not c && d) p ∙ ap (λ x. not x && not c && d) q ∙ ap (λ x. not x && d) r ∙ s

takes_one : (files : Files) (r : Room) (t : Topic) → r.queue.backlog.lent ≡ Nothing → TakesNext r → IsRoomOf files r t → t.waiting ≢ [] → takes t ≡ true
takes_one files r t settled next is some =
    let on = goes_on r next in
    and_four t.paused (is_empty t.channels) (is_empty t.waiting) (is_none t.taken) (is.queue.paused ∙ on.0)
    (sym (empty_map (λ (k : Channel). k.name) t.channels) ∙ ap is_empty (channels_alike files r t is) ∙ empty_map channel_name r.stalls.items ∙ on.1) (not_empty t.waiting some)
    (ap is_none (is.queue.taken ∙ ap (λ lent. taken_where lent r.queue.head) settled ∙ next.none))

-- no longer delay was taken than one that waited
delay_fits : (w : Waiting) (m : Message) → Fits w m → w.message.delay ≤ longest_delay → m.delay ≤ longest_delay
delay_fits w m fits within =
    elim fits.delay as (λ x. m.delay ≤ longest_delay) [
      | inl same ↦ omega (arith, same, within)
      | inr none ↦ let it = none.1 in omega (arith, it)
    ]

module _ (h0 h1 : Hall) (i : ℕ) (unsaved : ℕ) (has : HasRoomAt i TakesNext h0.rooms.items) (mark : AtRoom i (λ a b. b ≡ record a { since = marked a.since h0.moment }) h0.rooms.items h1.rooms.items) (sound : IsSound h1) (rest1 : h1 ≡ record h0 { rooms = h1.rooms; unsaved_from = unsaved })
    (r : Room) (read : r ≡ get_or h1.rooms.items i r) where
  place_now : slice_get h1.rooms.items i ≡ Some mark.after
  place_now = ap (λ xs. slice_get xs i) mark.is ∙ stands_now h0.rooms.items i mark.room mark.after mark.there

  there : slice_get h1.rooms.items i ≡ Some r
  there = at_place h1.rooms.items i r (slice_get_within h1.rooms.items i mark.after place_now) read

  from_first : r ≡ record (has.room) { since = marked has.room.since h0.moment }
  from_first = some_same r mark.after (sym there ∙ place_now) ∙ mark.does ∙ ap (λ (x : Room). record x { since = marked x.since h0.moment }) (some_same mark.room has.room (sym mark.there ∙ has.there))

  pub takes_now : TakesNext r
  takes_now = subst TakesNext (sym from_first) (record { busy = has.is.busy; none = has.is.none })

  pub room_now : IsRoomSound h1 r
  room_now = at_all (IsRoomSound h1) h1.rooms.items i r sound.rooms there

  -- what was taken, or not
  module _ (tells : Bool) (h2 : Hall) (r' : Room) (f0 f1 : Files) (n0 n1 : ℕ) (rest2 : h2 ≡ record h1 { rooms = h2.rooms }) (is : h2.rooms.items ≡ set h1.rooms.items i r') (l : LeavesRoom tells f0 f1 n0 n1 r r') where
    abbrev Left : Room → Room → Type 0
    Left a b = LeavesRoom tells f0 f1 n0 n1 a b

    abbrev at : AtRoom i Left h1.rooms.items h2.rooms.items
    at = record { room = r; after = r'; there = there; is = is; does = l }

    keeps_rest : KeepsRest h1 h2
    keeps_rest = let moment = sound.moment in let same = ap (λ (h : Hall). h.moment) rest2 in let quiet = ap (λ (h : Hall). h.quiet_until) rest2 in let from = ap (λ (h : Hall). h.unsaved_from) rest2 in record {
      lowers = record { options = ap (λ (h : Hall). h.options) rest2; quiet = omega (arith, quiet); unsaved = omega (arith, from); pending = λ name c. subst (λ (h : Hall). Contains h.pending.items name) (sym rest2) c };
      epoch = ap (λ (h : Hall). h.epoch) rest2;
      ids_used = ap (λ (h : Hall). h.ids_used) rest2;
      moment = omega (arith, moment, same);
      later = omega (arith, same);
      clients = ap (λ (h : Hall). h.clients.items) rest2;
    }

    same_stalls : r'.stalls.items ≡ r.stalls.items
    same_stalls = ap (λ (y : Room). y.stalls.items) l.rest

    same_since : r'.since ≡ r.since
    same_since = ap (λ (y : Room). y.since) l.rest

    is_listed : r.listed ≡ false → ⊥
    is_listed none = false≢true (sym takes_now.busy ∙ room_now.rests none)

    touched : All (λ name. IsSome (stall_in r.stalls.items name)) (owed_of r'.queue.head) → TouchesRoom r r'
    touched owed = record {
      name = l.name;
      settled = l.settled;
      queue = l.queue;
      capacity = l.capacity;
      names = l.names;
      stalls = same_stalls;
      owed = owed;
      since = same_since;
      marked = inl (subst (λ (y : Room). IsSome y.since) (sym from_first) (some_since has.room.since h0.moment));
      listed = λ e. sym (ap (λ (y : Room). y.listed) l.rest) ∙ e;
      rests = λ e. absurd (is_listed (sym (ap (λ (y : Room). y.listed) l.rest) ∙ e));
    }

    pub take_sound : (tells_notes : Bool) (first last : History) (answer : Made) → TakesIn tells_notes tells h1.moment f0 f1 n0 n1 first last r r' answer → IsSound h2
    take_sound tells_notes first last answer x =
        sound_at_room h1 h2 i Left sound keeps_rest at l.name same_stalls (room_touched h1 h2 r r' keeps_rest.lowers room_now (touched (owed_there tells_notes tells h1.moment f0 f1 n0 n1 first last r r' answer room_now.order x)))
        (subst (λ o. IfSome o (λ m. m ≤ h2.moment)) (sym same_since) (room_past h1 h2 i Left sound keeps_rest.later at))

    pub take_keeps : Keeps h0 h2
    take_keeps =
        keeps_on h0 h1 h2 (keeps_marked h0 h1 unsaved rest1 (keeps_marks_room h0.moment i h0.rooms.items h1.rooms.items mark))
        (keeps_marked h1 h2 h1.unsaved_from rest2 (keeps_at_room h1.moment i Left h1.rooms.items h2.rooms.items at (keeps_room_alike h1.moment r r' l.name l.paused (since_equal h1.moment r.since r'.since same_since) same_stalls)))

    pub take_files : IsTrue tells → OnlyQueueFiles f0 f1
    take_files told = only_of_topic (topic_name r) r.queue.backlog.queue f0 f1 room_now.named room_now.backlog.queue (l.others told)

    change : IsTrue tells → RoomChange h1 h2 f0 f1 (topic_name r) r r'
    change told = room_change h1 h2 f0 f1 i Left sound at l.name same_stalls (rest_rooms h1 h2 rest2) (others_stay r.queue.backlog.queue (topic_name r) f0 f1 room_now.backlog.queue (l.others told))

    -- the topic is the same of a state
    stays_of : IsTrue tells → ((t : Topic) → IsTopicOf r.queue f0 t → IsTopicOf r'.queue f1 t) → (s : State) → HoldsFor h1 f0 s → HoldsFor h2 f1 s
    stays_of told stays s holds =
        room_as_before h1 h2 f0 f1 s (topic_name r) r r' sound holds (change told)
        (λ t of. record { to = t; row = refl; queue = stays t of.queue; stands = l.stands told of.stands; delays = of.delays; taken = of.taken; channels = refl })

    module _ (tells_notes : Bool) (first last : History) (sound0 : IsSound h0) (running : h0.stopped ≡ false) (start : (s : State) → HoldsFor h0 f0 s → HoldsFor h1 f0 s) where
      same_moment : h1.moment ≡ h0.moment
      same_moment = ap (λ (h : Hall). h.moment) rest1

      -- a message was taken
      module _ (y : IsTaken tells_notes tells h1.moment f0 f1 first last r r') where
        lifts : IsTrue tells → (t : Topic) → IsRoomOf f0 r t → LiftsRoom (Takes y.taken.message (names_of r)) f1 r' t
        lifts told t of =
            let k = y.row told t of.queue (record { goes_on = of.queue.paused ∙ (goes_on r takes_now).0; owed = channels_alike f0 r t of ∙ sym y.owed }) in
            let names : (t.name, channel_names t) ∷ [] ≡ names_of r = ap (λ n. (n, channel_names t) ∷ []) of.queue.name ∙ ap (λ ns. (topic_name r, ns) ∷ []) (channels_alike f0 r t of) in
            let all : All (λ (w : Waiting). w.message.delay ≤ longest_delay) (k.row.before ++ k.row.waits ∷ k.row.after) = subst (All (λ (w : Waiting). w.message.delay ≤ longest_delay)) k.row.was of.delays in
            record {
              to = k.to;
              row = subst (λ ns. Takes y.taken.message ns t k.to) names k.row;
              queue = k.is;
              stands = l.stands told of.stands;
              delays = subst (λ (u : Topic). All (λ (w : Waiting). w.message.delay ≤ longest_delay) u.waiting) (sym k.row.is) (all_without (λ (w : Waiting). w.message.delay ≤ longest_delay) k.row.before k.row.waits k.row.after all);
              taken = subst (λ (u : Topic). IfSome u.taken (λ x. x.message.delay ≤ longest_delay)) (sym k.row.is)
                  (delay_fits k.row.waits y.taken.message k.row.fits (all_middle (λ (w : Waiting). w.message.delay ≤ longest_delay) k.row.before k.row.waits k.row.after all));
              channels = ap (λ (u : Topic). u.channels) k.row.is;
            }

        carried : IsTrue tells → (s : State) → HoldsFor h0 f0 s → (t : State) × DoesMove s h0.moment (Took (topic_name has.room) y.taken.message (names_of has.room)) t × HoldsFor h2 f1 t
        carried told s holds =
            let c = at_room h1 h2 f0 f1 s (topic_name r) r r' (Takes y.taken.message (names_of r)) sound (start s holds) (change told) (lifts told) in
            (c.0, subst (λ (x : Room). AtTopic (topic_name x) (Takes y.taken.message (names_of x)) s c.0) from_first c.1, c.2)

        taken_first : TakesFirst tells_notes tells i (sight h0 first f0 n0) (sight h2 last f1 n1) made.Done
        taken_first = record {
          room = has.room;
          there = has.there;
          message = y.taken.message;
          moves = record {
            entry = (entry_at h0.moment (Took (topic_name has.room) y.taken.message (names_of has.room)), Done);
            is = record { moved = eq-eqb h0.moment h0.moment refl; of = refl; done = refl };
            noted = λ told.
                y.noted told ∙ ap (λ n. first ++ (entry_at n (Took (topic_name r) y.taken.message (names_of r)), Done) ∷ []) same_moment
                ∙ ap (λ (x : Room). first ++ (entry_at h0.moment (Took (topic_name x) y.taken.message (names_of x)), Done) ∷ []) from_first;
            step = λ told s holds.
                let c = carried told s holds in
                steps_to h0 h2 f0 f1 s c.0 (Took (topic_name has.room) y.taken.message (names_of has.room)) Done sound0 take_keeps holds (daemon h0 f0 s running holds) c.1 c.2;
            rose = λ told s holds. rose_none n0 n1 l.faults;
            faults = l.faults;
          };
        }

      -- it is stuck
      topic_here : (s : State) → HoldsFor h0 f0 s → (t : Topic) × (topic_of s (topic_name r) ≡ Some t) × IsRoomOf f0 r t
      topic_here s holds = topic_there h1 f0 s (topic_name r) r (start s holds) (found_at topic_name h1.rooms.items i r sound.room_order there)

      no_message : Message
      no_message = record { stamp = 0; attempts = 0; id = []; body = []; delay = 0 }

      stuck_first : IsStuck tells_notes tells h1.moment f0 f1 n0 n1 first last r r' → TakesFirst tells_notes tells i (sight h0 first f0 n0) (sight h2 last f1 n1) made.Stuck
      stuck_first y = record {
        room = has.room;
        there = has.there;
        message = no_message;
        moves = (
          record {
            entry = (entry_at h0.moment (Stuck (topic_name has.room) None), Faulted 0);
            is = record { stuck = eq-eqb h0.moment h0.moment refl; of = refl };
            noted = λ told.
                y.noted told ∙ ap (λ n. first ++ (entry_at n (Stuck (topic_name r) None), Faulted 0) ∷ []) same_moment ∙ ap (λ (x : Room). first ++ (entry_at h0.moment (Stuck (topic_name x) None), Faulted 0) ∷ []) from_first;
            step = λ told s holds.
                let c = topic_here s holds in
                let stuck : IsTopicStuck s (topic_name has.room) = record { of = c.0; there = subst (λ (x : Room). topic_of s (topic_name x) ≡ Some c.0) from_first c.1; due = takes_one f0 r c.0 room_now.settled takes_now c.2 (y.waits told c.0 c.2.queue) } in
                steps_to h0 h2 f0 f1 s s (Stuck (topic_name has.room) None) (Faulted 0) sound0 take_keeps holds (refl, (daemon h0 f0 s running holds, stuck)) refl (stays_of told (y.stays told) s (start s holds));
            rose = λ told s holds. let c = topic_here s holds in rose_one n0 n1 (y.rose told c.0 c.2.queue);
            faults = l.faults;
          },
          λ told s holds. let c = topic_here s holds in y.rose told c.0 c.2.queue,
        );
      }

      -- nothing was done
      untouched_first : IsUntouched tells_notes tells f0 f1 first last r r' → TakesFirst tells_notes tells i (sight h0 first f0 n0) (sight h2 last f1 n1) made.Memory
      untouched_first y = record {
        room = has.room;
        there = has.there;
        message = no_message;
        moves = record { noted = y.noted; same = λ told s holds. stays_of told (y.stays told) s (start s holds); faults = l.faults };
      }

      pub took_first : (answer : Made) → TakesIn tells_notes tells h1.moment f0 f1 n0 n1 first last r r' answer → TakesFirst tells_notes tells i (sight h0 first f0 n0) (sight h2 last f1 n1) answer
      took_first made.Done y = taken_first y
      took_first made.Stuck y = stuck_first y
      took_first made.Memory y = untouched_first y
