-- A channel gets its copy and is owed it no more: that is the move, of each state that the hall stood for.
use Rattle.std.proofs.Common.{◌≡◌, ◌≤◌, ◌<◌, ℕ, min, Bool, true, false, ◌||◌, if◌then◌else◌, List, get_or, length, Option, Some, refl, sym, ap, subst, ◌∙◌, arith}
use Rattle.std.specs.Prelude.{IsTrue, IfSome, slice_get}
use Rattle.std.specs.List.{HoldsAt, find, list_any}
use Rattle.std.specs.Str.{bytes_eq}
use Rattle.std.proofs.lemmas.Bool.{eq-eqb}
use Rattle.std.proofs.lemmas.Option.{get_or_from_slice_get, slice_get_within}
use Rattle.nsq_outside.specs.Causes.{Rose}
use Rattle.nsq_outside.specs.Files.{Files}
use Rattle.nsq_outside.specs.Journals as journals
use Rattle.nsq_outside.specs.declared.journal.End.TheVariants.{Done, Faulted, Skip}
use Rattle.v2_frame.specs.declared.message.Message.{Message}
use Rattle.broker_history.specs.declared.entry.Act.TheVariants.{Copied}
use Rattle.broker_history.specs.declared.entry.Entry.{Entry}
use Rattle.broker_history.specs.State.{Channel, Taken, Topic, State, topic_of, with_topic}
use Rattle.broker_history.specs.Channels.{Room as Space, Joins, Gets}
use Rattle.broker_history.specs.Changes.{AtChannel, AtTopic}
use Rattle.broker_history.specs.Entries.{History}
use Rattle.broker_history.specs.Step.{Copies, DoesMove, IsMoveDue, room_of}
use Rattle.broker_history.specs.Topics.{is_owed, owed_no_more}
use Rattle.broker_history.proofs.Lists.{find_passes, find_put, same_bytes}
use Rattle.topic_core.specs.Rows.{paid_in, taken_where}
use Rattle.floor_rooms.specs.declared.room.Room.{Room}
use Rattle.floor_rooms.specs.declared.hall.Hall.{Hall}
use Rattle.floor_rooms.specs.Rooms.{topic_name}
use Rattle.floor_rooms.specs.Sound.{IsRoomSound, IsSound}
use Rattle.floor_rooms.specs.Standing.{HoldsFor, IsRoomOf, longest_delay}
use Rattle.floor_rooms.specs.Changes.{AtRoom}
use Rattle.floor_rooms.proofs.Forming.{topic_there}
use Rattle.floor_rooms.proofs.Placing.{at_place, found_at}
use Rattle.floor_rooms.proofs.Sounding.{at_all}
use Rattle.floor_moves.specs.Moves.{Keeps, entry_at, sight}
use Rattle.floor_moves.specs.declared.due.Place.{Place}
use Rattle.floor_moves.specs.declared.made.Made.TheVariants as made
use Rattle.floor_moves.proofs.PuttingBack.{some_same, stands_now}
use Rattle.floor_moves.proofs.Stepping.{Noted, daemon, noted_done, noted_fault, rests_same, rose_none, rose_one, steps_to}
use Rattle.floor_moves.specs.declared.owed.Owed.{Owed}
use Rattle.floor_moves.specs.Copying.{CopiesFirst, Gives, IsNamedAt, IsOwedFirst, KeepsQueue, Owes, OwesNext, PaysTopic, bounded}
use Rattle.floor_moves.specs.Taking.{HasRoomAt}
use Rattle.floor_moves.proofs.Twice.{put_again}

-- the channel's copy, and then what its topic owes it no more
copies_of : (s t : State) (topic channel : List ℕ) (space : Space) (at : ℕ) (m : Message) (o : Taken) (c : AtChannel topic channel (Gets Joins space at m) s t) → c.old.taken ≡ Some o → m ≡ o.message → is_owed (Some o) channel ≡ true
    → AtTopic topic (Copies space at channel m) s (with_topic s (paid_in channel c.new))
copies_of s t topic channel space at m o c was message owed = record {
  old = c.old;
  new = paid_in channel c.new;
  there = c.there;
  row = record {
    between = c.new;
    gets = c.row;
    pays = record { taken = o; was = was; message = message; owed = subst (λ x. is_owed x channel ≡ true) (sym was) owed; is = ap (λ x. owed_no_more x channel) (ap (λ (u : Topic). u.taken) c.row.is) };
    is = refl;
  };
  is = refl;
}

then_paid : (s t u : State) (topic channel : List ℕ) (Row : Channel → Channel → Type 0) (c : AtChannel topic channel Row s t) (p : AtTopic topic (λ a b. b ≡ paid_in channel a) t u) → u ≡ with_topic s (paid_in channel c.new)
then_paid s t u topic channel Row c p =
    let name : c.new.name ≡ c.old.name = ap (λ (x : Topic). x.name) c.row.is in
    let here : bytes_eq topic c.old.name ≡ true = find_passes (λ (x : Topic). bytes_eq topic x.name) s.topics c.old c.there in
    let found : topic_of t topic ≡ Some c.new =
    ap (λ (x : State). topic_of x topic) c.is ∙ find_put (λ (x : Topic). x.name) s.topics c.new topic ∙ ap (λ b. if b then Some c.new else find (λ (x : Topic). bytes_eq topic x.name) s.topics) (ap (bytes_eq topic) name ∙ here) in
    let same : p.old ≡ c.new = some_same p.old c.new (sym p.there ∙ found) in
    p.is ∙ ap (λ (x : Topic). with_topic t x) (p.row ∙ ap (paid_in channel) same) ∙ ap (λ (x : State). with_topic x (paid_in channel c.new)) c.is
    ∙ ap (λ ts. record s { topics = ts }) (put_again (λ (x : Topic). x.name) s.topics c.new (paid_in channel c.new) refl)

-- a bound on the delay changes nothing of what the hall stands for
least : (d most : ℕ) → d ≤ most → min d most ≡ d
least d most h = omega (arith, h)

bounded_same : (m n : Message) → m ≡ n → n.delay ≤ longest_delay → bounded m ≡ n
bounded_same m n same within = ap bounded same ∙ ap (λ d. record n { delay = d }) (least n.delay longest_delay within)

noted_skip : (tells : Bool) (old mid new : History) (kept : Option Entry) (entry : Entry) → Noted tells old mid new kept entry Skip → IsTrue tells → new ≡ old
noted_skip tells old mid new kept entry h told = subst (λ u. IfSome u (λ e. journals.Notes mid new e Skip)) (h.0 told) (h.2 told) ∙ h.1 told

module _ (h0 : Hall) (i : ℕ) (f0 : Files) (r : Room) (read : r ≡ get_or h0.rooms.items i r) (has : HasRoomAt i OwesNext h0.rooms.items) (sound : IsSound h0) where
  copied_there : slice_get h0.rooms.items i ≡ Some r
  copied_there = at_place h0.rooms.items i r (slice_get_within h0.rooms.items i has.room has.there) read

  pub copied_room : IsRoomSound h0 r
  copied_room = at_all (IsRoomSound h0) h0.rooms.items i r sound.rooms copied_there

  pub copied_owes : OwesNext r
  copied_owes = subst OwesNext (some_same has.room r (sym has.there ∙ copied_there)) has.is

  module _ (owed : Owed) (o : IsOwedFirst r owed) where
    topic_here : (s : State) → HoldsFor h0 f0 s → (t : Topic) × (topic_of s owed.topic ≡ Some t) × IsRoomOf f0 r t
    topic_here s holds = subst (λ n. (t : Topic) × (topic_of s n ≡ Some t) × IsRoomOf f0 r t) (sym o.topic) (topic_there h0 f0 s (topic_name r) r holds (found_at topic_name h0.rooms.items i r sound.room_order copied_there))

    taken_is : (s : State) → HoldsFor h0 f0 s → (t : Topic) → topic_of s owed.topic ≡ Some t → (t.taken ≡ Some o.taken) × (o.taken.message.delay ≤ longest_delay)
    taken_is s holds t found =
        let x = topic_here s holds in
        let of : IsRoomOf f0 r t = subst (IsRoomOf f0 r) (some_same x.0 t (sym x.1 ∙ found)) x.2 in
        let taken : t.taken ≡ Some o.taken = of.queue.taken ∙ ap (λ lent. taken_where lent r.queue.head) copied_room.settled ∙ o.head in
        (taken, subst (λ u. IfSome u (λ y. y.message.delay ≤ longest_delay)) taken of.taken)

    owes_first : is_owed (Some o.taken) owed.channel ≡ true
    owes_first = ap (list_any (λ n. bytes_eq n owed.channel)) o.first.is ∙ ap (λ b. b || list_any (λ n. bytes_eq n owed.channel) o.first.more) (same_bytes owed.channel)

    -- where it stands
    pub copied_named : IsNamedAt h0.rooms.items (record { room = i; stall = owed.stall }) owed.topic owed.channel
    copied_named = record { room = r; there = copied_there; topic_is = o.topic; stall = record { stall = o.stall.stall; there = o.stall.there; is = sym o.stall.is } }

    pub owes_now : (h1 : Hall) → AtRoom i KeepsQueue h0.rooms.items h1.rooms.items → HasRoomAt i (Owes owed.channel) h1.rooms.items
    owes_now h1 at =
        let same : r ≡ at.room = some_same r at.room (sym copied_there ∙ at.there) in
        record {
          room = at.after;
          there = ap (λ xs. slice_get xs i) at.is ∙ stands_now h0.rooms.items i at.room at.after at.there;
          is = subst (λ (x : Room). Owes owed.channel x) (sym at.does) (subst (λ (x : Room). Owes owed.channel x) same (subst (λ u. is_owed u owed.channel ≡ true) (sym o.head) owes_first));
        }

    pub pays_now : (h1 h2 : Hall) → AtRoom i KeepsQueue h0.rooms.items h1.rooms.items → ((room : Room) → slice_get h1.rooms.items i ≡ Some room → (files : Files) → PaysTopic (topic_name room) owed.channel h1 h2 files) → (files : Files) → PaysTopic owed.topic owed.channel h1 h2 files
    pays_now h1 h2 at pays files =
        let same : r ≡ at.room = some_same r at.room (sym copied_there ∙ at.there) in
        let topic : topic_name at.after ≡ owed.topic = ap (λ (x : Room). x.queue.name) at.does ∙ ap topic_name (sym same) ∙ sym o.topic in
        subst (λ n. PaysTopic n owed.channel h1 h2 files) topic (pays at.after (ap (λ xs. slice_get xs i) at.is ∙ stands_now h0.rooms.items i at.room at.after at.there) files)

    -- the message that goes into the entry, and then to the channel
    module _ (m : Message) (same : m ≡ o.taken.message) where
      gets_it : (s t : State) → HoldsFor h0 f0 s → (found : (u : Topic) × (topic_of s owed.topic ≡ Some u)) → AtChannel owed.topic owed.channel (Gets Joins (room_of s owed.topic owed.channel) h0.moment (bounded m)) s t
          → AtChannel owed.topic owed.channel (Gets Joins (room_of s owed.topic owed.channel) h0.moment o.taken.message) s t
      gets_it s t holds found c = subst (λ k. AtChannel owed.topic owed.channel (Gets Joins (room_of s owed.topic owed.channel) h0.moment k) s t) (bounded_same m o.taken.message same (taken_is s holds found.0 found.1).1) c

      copy_does : (s t : State) → HoldsFor h0 f0 s → (c : AtChannel owed.topic owed.channel (Gets Joins (room_of s owed.topic owed.channel) h0.moment o.taken.message) s t) → DoesMove s h0.moment (Copied owed.topic owed.channel o.taken.message) (with_topic s (paid_in owed.channel c.new))
      copy_does s t holds c = copies_of s t owed.topic owed.channel (room_of s owed.topic owed.channel) h0.moment o.taken.message o.taken c (taken_is s holds c.old c.there).0 refl owes_first

      module _ (tells_notes tells : Bool) (h1 : Hall) (f1 : Files) (n0 n1 : ℕ) (first mid last : History) (kept : Option Entry) (running : h0.stopped ≡ false) (rises : n0 ≤ n1) where
        pub copy_done : (h2 : Hall) → (IsTrue tells → Gives h0.moment owed.topic owed.channel (bounded m) h0 f0 h1 f1 made.Done) → ((files : Files) → PaysTopic owed.topic owed.channel h1 h2 files) → Keeps h0 h2
            → Noted tells_notes first mid last kept (entry_at h0.moment (Copied owed.topic owed.channel m)) Done → CopiesFirst tells_notes tells i (sight h0 first f0 n0) (sight h2 last f1 n1) made.Done
        copy_done h2 gives pays keeps noted = record {
          room = r;
          there = copied_there;
          owed = owed;
          is = o;
          moves = record {
            entry = (entry_at h0.moment (Copied owed.topic owed.channel o.taken.message), Done);
            is = record { moved = eq-eqb h0.moment h0.moment refl; of = refl; done = refl };
            noted = noted_done tells_notes first mid last kept (entry_at h0.moment (Copied owed.topic owed.channel o.taken.message))
                (subst (λ k. Noted tells_notes first mid last kept (entry_at h0.moment (Copied owed.topic owed.channel k)) Done) same noted);
            step = λ told s holds.
                let g = gives told s holds in
                let x = topic_here s holds in
                let c = gets_it s g.0 holds (x.0, x.1) g.1 in
                let p = pays f1 g.0 g.2 in
                let does : DoesMove s h0.moment (Copied owed.topic owed.channel o.taken.message) p.0 =
                subst (DoesMove s h0.moment (Copied owed.topic owed.channel o.taken.message))
                (sym (then_paid s g.0 p.0 owed.topic owed.channel (Gets Joins (room_of s owed.topic owed.channel) h0.moment o.taken.message) c p.1)) (copy_does s g.0 holds c) in
                steps_to h0 h2 f0 f1 s p.0 (Copied owed.topic owed.channel o.taken.message) Done sound keeps holds (daemon h0 f0 s running holds) does p.2;
            rose = λ told s holds. rose_none n0 n1 rises;
            faults = rises;
          };
        }

        pub copy_stuck : (IsTrue tells → Gives h0.moment owed.topic owed.channel (bounded m) h0 f0 h1 f1 made.Stuck) → Keeps h0 h1 → Noted tells_notes first mid last kept (entry_at h0.moment (Copied owed.topic owed.channel m)) (Faulted 0) → Rose n0 n1
            → CopiesFirst tells_notes tells i (sight h0 first f0 n0) (sight h1 last f1 n1) made.Stuck
        copy_stuck gives keeps noted rose = record {
          room = r;
          there = copied_there;
          owed = owed;
          is = o;
          moves = (
            record {
              entry = (entry_at h0.moment (Copied owed.topic owed.channel o.taken.message), Faulted 0);
              is = record { stuck = eq-eqb h0.moment h0.moment refl; of = refl };
              noted = noted_fault tells_notes first mid last kept (entry_at h0.moment (Copied owed.topic owed.channel o.taken.message))
                  (subst (λ k. Noted tells_notes first mid last kept (entry_at h0.moment (Copied owed.topic owed.channel k)) (Faulted 0)) same noted);
              step = λ told s holds.
                  let g = gives told s holds in
                  let x = topic_here s holds in
                  let c = gets_it s g.0.0 holds (x.0, x.1) g.0.1 in
                  let due : IsMoveDue s h0.moment (Copied owed.topic owed.channel o.taken.message) = (with_topic s (paid_in owed.channel c.new), copy_does s g.0.0 holds c) in
                  steps_to h0 h1 f0 f1 s s (Copied owed.topic owed.channel o.taken.message) (Faulted 0) sound keeps holds (daemon h0 f0 s running holds, refl, due) refl g.1;
              rose = λ told s holds. rose_one n0 n1 rose;
              faults = rises;
            },
            λ told s holds. rose,
          );
        }

        pub copy_want : (IsTrue tells → Gives h0.moment owed.topic owed.channel (bounded m) h0 f0 h1 f1 made.Memory) → Noted tells_notes first mid last kept (entry_at h0.moment (Copied owed.topic owed.channel m)) Skip
            → CopiesFirst tells_notes tells i (sight h0 first f0 n0) (sight h1 last f1 n1) made.Memory
        copy_want gives noted = record {
          room = r;
          there = copied_there;
          owed = owed;
          is = o;
          moves = record { noted = noted_skip tells_notes first mid last kept (entry_at h0.moment (Copied owed.topic owed.channel m)) noted; same = gives; faults = rises };
        }

    -- nothing was done
    pub copy_none : (tells_notes tells : Bool) (faults : ℕ) (first last : History) → (IsTrue tells_notes → last ≡ first) → CopiesFirst tells_notes tells i (sight h0 first f0 faults) (sight h0 last f0 faults) made.Memory
    copy_none tells_notes tells faults first last noted = record { room = r; there = copied_there; owed = owed; is = o; moves = rests_same tells_notes tells h0 first last f0 faults noted }

-- the message that is in hand is the one that was taken
pub in_hand : (m : Message) (r : Room) (owed : Owed) (o : IsOwedFirst r owed) → IfSome r.queue.head (λ h. m ≡ h.message) → m ≡ o.taken.message
in_hand m r owed o h = subst (λ u. IfSome u (λ (x : Taken). m ≡ x.message)) o.head h

-- the place is one
pub give_room : (rooms : List Room) (i : ℕ) (owed : Owed) (place : Place) → HasRoomAt i OwesNext rooms → place ≡ record { room = i; stall = owed.stall } → place.room < length rooms
give_room rooms i owed place has is = subst (λ (p : Place). p.room < length rooms) (sym is) (slice_get_within rooms i has.room has.there)

pub give_stall : (rooms : List Room) (i : ℕ) (r : Room) (owed : Owed) (o : IsOwedFirst r owed) (place : Place) → r ≡ get_or rooms i r → HasRoomAt i OwesNext rooms → place ≡ record { room = i; stall = owed.stall } → HoldsAt (λ (x : Room). place.stall < length x.stalls.items) rooms place.room
give_stall rooms i r owed o place read has is d =
    let there : slice_get rooms i ≡ Some r = at_place rooms i r (slice_get_within rooms i has.room has.there) read in
    subst (λ (p : Place). p.stall < length (get_or rooms p.room d).stalls.items) (sym is)
    (subst (λ (x : Room). owed.stall < length x.stalls.items) (sym (get_or_from_slice_get rooms i r d there)) (slice_get_within r.stalls.items owed.stall o.stall.stall o.stall.there))
