-- One act answers a client's call: a message was sent, there was none to send, or a disk fault kept it off.
use Rattle.std.proofs.Common.{◌≡◌, inl, ◌<◌, ◌≤◌, ◌||◌, ℕ, min, Bool, true, false, if◌then◌else◌, List, [], ◌∷◌, ◌++◌, length, get_or, Some, HoldsAt, is_some, refl, sym, ap, subst, ◌∙◌, arith}
use Rattle.std.specs.Prelude.{IsTrue, slice_get}
use Rattle.std.specs.Global.{Vec}
use Rattle.std.proofs.lemmas.Bool.{false≢true}
use Rattle.std.proofs.lemmas.List.{append-nil}
use Rattle.nsq_outside.specs.Causes.{Rose}
use Rattle.nsq_outside.specs.Files.{Files}
use Rattle.nsq_outside.specs.declared.journal.End.{End}
use Rattle.nsq_outside.specs.declared.journal.End.TheVariants.{Done, Faulted}
use Rattle.broker_history.specs.declared.entry.Act.{Act}
use Rattle.broker_history.specs.declared.entry.Act.TheVariants.{Idle, Stuck}
use Rattle.broker_history.specs.declared.entry.Entry.{Entry}
use Rattle.broker_history.specs.State.{Client, State, at_moment}
use Rattle.broker_history.specs.Entries.{History, faults_of, is_stop, is_tick}
use Rattle.broker_history.specs.Legal.{none}
use Rattle.broker_history.specs.Step.{DoesAct, IsAllowedAct}
use Rattle.channel_core.specs.declared.answers.Next.{Next}
use Rattle.channel_core.specs.declared.answers.Next.TheVariants as next
use Rattle.channel_core.specs.Seen.{Seen as ChannelSeen}
use Rattle.broker_history.specs.declared.call.Call.TheVariants as call
use Rattle.broker_history.specs.declared.turned.Turned.{Turned}
use Rattle.broker_history.specs.declared.turned.Turned.TheVariants as turned
use Rattle.broker_history.specs.Answers.{Answers, IsShortAnswer}
use Rattle.floor_rooms.specs.declared.stall.Stall.{Stall}
use Rattle.floor_rooms.specs.declared.room.Room.{Room}
use Rattle.floor_rooms.specs.declared.hall.Hall.{Hall}
use Rattle.floor_rooms.specs.Rooms.{channel_name, client_in, topic_name}
use Rattle.floor_rooms.specs.Sound.{IsSound}
use Rattle.floor_rooms.specs.Standing.{Carries, HoldsFor}
use Rattle.floor_rooms.proofs.Dating.{since_kept}
use Rattle.floor_rooms.proofs.Naming.{names_kept}
use Rattle.floor_rooms.proofs.Orders.{holds_at}
use Rattle.floor_rooms.proofs.Placing.{at_place}
use Rattle.floor_moves.specs.declared.due.Place.{Place}
use Rattle.floor_moves.specs.Moves.{Keeps, RoseBy, sight}
use Rattle.floor_moves.proofs.Keeping.{keeps_marked}
use Rattle.floor_acts.specs.Sending.{HasDrawn}
use Rattle.floor_acts.proofs.Drawing.{draw_faults, draw_keeps}
use Rattle.floor_acts.proofs.Flying.{some_same, stands_now}
use Rattle.floor_turns.specs.Acting.{Acts, ActsTo, FaultsRose, LeavesClients, SameClients, StaysSet, there_after}
use Rattle.floor_turns.proofs.Carrying.{acts_none}
use Rattle.floor_turns.specs.Drawing.{IsIdleBy, IsServedAt, SticksAt, entry_of}
use Rattle.floor_turns.proofs.Serving.{may_stick, no_credit_rests, no_damage, none_rests, paused_rests}

-- a hall that keeps what moves do
pub stays_kept : (h h' : Hall) → Keeps h h' → StaysSet h h'
stays_kept h h' keeps = record {
  options = keeps.options;
  epoch = keeps.epoch;
  began_at = keeps.began_at;
  moment = keeps.moment;
  stuck = keeps.stuck;
  names = names_kept h.moment h h' keeps.unsaved_names keeps.rooms;
  since = since_kept h.moment h.rooms.items h'.rooms.items keeps.rooms;
}

pub same_kept : (h h' : Hall) → Keeps h h' → SameClients h h'
same_kept h h' keeps = record { there = λ m. ap (λ (xs : Vec Client). is_some (client_in xs.items m)) keeps.clients; stopped = keeps.stopped }

or_false : (b : Bool) → b ≡ (b || false)
or_false true = refl
or_false false = refl

pub leaves_same : (a : Act) (number : ℕ) (h h' : Hall) → ((m : ℕ) (there : Bool) → there_after a number m there ≡ there) → is_stop a ≡ false → SameClients h h' → LeavesClients a number h h'
leaves_same a number h h' after other same = record {
  there = λ m. same.there m ∙ sym (after m (is_some (client_in h.clients.items m)));
  stopped = same.stopped ∙ or_false h.stopped ∙ ap (λ b. h.stopped || b) (sym other);
}

-- a drawing keeps that too
pub keeps_drawn : (tells : Bool) (i j client : ℕ) (answer : Next) (old new : Files) (before after : ℕ) (h h' : Hall) → HasDrawn tells i j client answer old new before after h h' → Keeps h h'
keeps_drawn tells i j client answer old new before after h h' d =
    keeps_marked h h' (min h.unsaved_from h.moment) (d.rest ∙ ap (λ (x : Hall). record x { rooms = h'.rooms }) d.marks) (draw_keeps tells i j client answer old new before after h h' d)

-- the act was made
module _ (tells_notes tells_files : Bool) (number : ℕ) (h h' : Hall) (n n' : History) (f f' : Files) (k k' : ℕ) (sound : IsSound h) (stays : StaysSet h h') (faults : k ≤ k') where
  pub acts_one : (act : Act) (e : End) (answer : Turned) → is_tick act ≡ false → Answers call.Next (entry_of number h.moment act, e) answer → IsShortAnswer answer → (IsTrue tells_notes → n' ≡ n ++ (entry_of number h.moment act, e) ∷ [])
      → (IsTrue tells_files → (s : State) → HoldsFor h f s → ActsTo h f h' f' number act e s) → (IsTrue tells_files → (s : State) → HoldsFor h f s → RoseBy (faults_of ((entry_of number h.moment act, e) ∷ [])) k k')
      → FaultsRose k k' ((entry_of number h.moment act, e) ∷ []) → LeavesClients act number h h' → Acts tells_notes tells_files number call.Next answer (sight h n f k) (sight h' n' f' k')
  acts_one act e answer other answers short noted does rose caused clients =
      let entry : Entry × End = (entry_of number h.moment act, e) in
      record {
        held = [];
        acts = entry ∷ [];
        held_back = tt;
        sending = inl refl;
        act = record { now = refl; names = sym (ap (λ b. if b then 0 else number) other); answers = answers };
        short = short;
        noted = noted;
        leads = λ told s holds may.
            let to = does told s holds in
            let same = stays.moment in
            record {
              between = s;
              back = none;
              calm = λ calm. calm;
              same = λ nothing. refl;
              to = at_moment to.to h.moment;
              steps = record { allowed = to.allowed; later = holds.stands.moment; bounded = sound.moment; between = to.to; does = to.does; is = refl };
              holds = holds_at h' f' to.to h.moment (omega (arith, same)) to.holds;
            };
        rose = rose;
        caused = caused;
        faults = faults;
        clients = clients;
        stays = stays;
      }

-- the hall stands for the states that it stood for
module _ (tells_notes tells_files : Bool) (number : ℕ) (h h' : Hall) (n n' : History) (f f' : Files) (k k' : ℕ) (sound : IsSound h) (keeps : Keeps h h') (faults : k ≤ k') (rests : IsTrue tells_files → Carries h f h' f' (λ s t. t ≡ s)) where
  abbrev ActsBy : Turned → Type 0
  ActsBy answer = Acts tells_notes tells_files number call.Next answer (sight h n f k) (sight h' n' f' k')

  pub wants : (IsTrue tells_notes → n' ≡ n) → ActsBy turned.Memory
  wants same = acts_none tells_notes tells_files number call.Next h h' n n' f f' k k' sound (stays_kept h h' keeps) faults (λ told. same told ∙ sym (append-nil n)) rests (same_kept h h' keeps)

  idle_does : (act : Act) (e : End) → ((s t : State) → t ≡ s → DoesAct s h.moment number act e t) → (IsTrue tells_files → (s : State) → HoldsFor h f s → IsAllowedAct s h.moment number act e) → IsTrue tells_files → (s : State) → HoldsFor h f s → ActsTo h f h' f' number act e s
  idle_does act e still allowed told s holds = let to = rests told s holds in record { allowed = allowed told s holds; to = to.0; does = still s to.0 to.1; holds = to.2 }

  pub idle : (IsTrue tells_files → (s : State) → HoldsFor h f s → IsAllowedAct s h.moment number Idle Done) → (answer : Turned) → IsIdleBy tells_notes (entry_of number h.moment Idle, Done) n n' answer → ActsBy answer
  idle allowed turned.Idle noted =
      acts_one tells_notes tells_files number h h' n n' f f' k k' sound (stays_kept h h' keeps) faults Idle Done turned.Idle refl tt tt noted (idle_does Idle Done (λ s t same. same) allowed) (λ told s holds. omega (arith, faults)) (λ faulted. absurd (false≢true faulted))
      (leaves_same Idle number h h' (λ m there. refl) refl (same_kept h h' keeps))
  idle allowed turned.Memory noted = wants noted
  idle allowed answer noted = absurd noted

  pub stuck : (topic channel : List ℕ) → (IsTrue tells_files → (s : State) → HoldsFor h f s → IsAllowedAct s h.moment number (Stuck topic (Some channel)) (Faulted 0)) → (IsTrue tells_files → (s : State) → HoldsFor h f s → Rose k k') → (answer : Turned)
      → IsIdleBy tells_notes (entry_of number h.moment (Stuck topic (Some channel)), Faulted 0) n n' answer → ActsBy answer
  stuck topic channel allowed rose turned.Idle noted =
      acts_one tells_notes tells_files number h h' n n' f f' k k' sound (stays_kept h h' keeps) faults (Stuck topic (Some channel)) (Faulted 0) turned.Idle refl tt tt noted (idle_does (Stuck topic (Some channel)) (Faulted 0) (λ s t same. same) allowed)
      (λ told s holds. rose told s holds) (λ faulted. tt)
      (leaves_same (Stuck topic (Some channel)) number h h' (λ m there. refl) refl (same_kept h h' keeps))
  stuck topic channel allowed rose turned.Memory noted = wants noted
  stuck topic channel allowed rose answer noted = absurd noted

-- what a drawing answered that leaves nothing drawn
module _ (tells_notes tells_files : Bool) (number : ℕ) (place : Place) (h h' : Hall) (n n' : History) (f f' : Files) (k k' : ℕ) (sound : IsSound h) (running : h.stopped ≡ false) (s : IsServedAt h number place) where
  abbrev Drawn : Next → Type 0
  Drawn answer = HasDrawn tells_files place.room place.stall number answer f f' k k' h h'

  abbrev Still : Type 0
  Still = IsTrue tells_files → Carries h f h' f' (λ s t. t ≡ s)

  abbrev Answered : Turned → Type 0
  Answered answer = Acts tells_notes tells_files number call.Next answer (sight h n f k) (sight h' n' f' k')

  abbrev Idled : Turned → Type 0
  Idled answer = IsIdleBy tells_notes (entry_of number h'.moment Idle, Done) n n' answer

  idled_then : (next : Next) (answer : Turned) → Drawn next → Idled answer → IsIdleBy tells_notes (entry_of number h.moment Idle, Done) n n' answer
  idled_then next answer d noted = subst (λ m. IsIdleBy tells_notes (entry_of number m Idle, Done) n n' answer) (keeps_drawn tells_files place.room place.stall number next f f' k k' h h' d).moment noted

  pub acts_no_credit : (answer : Turned) → Drawn next.NoCredit → Still → Idled answer → Answered answer
  acts_no_credit answer d still noted =
      idle tells_notes tells_files number h h' n n' f f' k k' sound (keeps_drawn tells_files place.room place.stall number next.NoCredit f f' k k' h h' d) (draw_faults tells_files place.room place.stall number next.NoCredit f f' k k' h h' d) still
      (no_credit_rests tells_files number place f f' k k' h h' s running d) answer (idled_then next.NoCredit answer d noted)

  pub acts_paused : (answer : Turned) → Drawn next.Paused → Still → Idled answer → Answered answer
  acts_paused answer d still noted =
      idle tells_notes tells_files number h h' n n' f f' k k' sound (keeps_drawn tells_files place.room place.stall number next.Paused f f' k k' h h' d) (draw_faults tells_files place.room place.stall number next.Paused f f' k k' h h' d) still
      (paused_rests tells_files number place f f' k k' h h' s running d) answer (idled_then next.Paused answer d noted)

  pub acts_none_queued : (answer : Turned) → Drawn next.NoneQueued → Still → Idled answer → Answered answer
  acts_none_queued answer d still noted =
      idle tells_notes tells_files number h h' n n' f f' k k' sound (keeps_drawn tells_files place.room place.stall number next.NoneQueued f f' k k' h h' d) (draw_faults tells_files place.room place.stall number next.NoneQueued f f' k k' h h' d) still
      (none_rests tells_files number place f f' k k' h h' s running d) answer (idled_then next.NoneQueued answer d noted)

  pub acts_wants : Drawn next.Memory → Still → (IsTrue tells_notes → n' ≡ n) → Answered turned.Memory
  acts_wants d still same =
      wants tells_notes tells_files number h h' n n' f f' k k' sound (keeps_drawn tells_files place.room place.stall number next.Memory f f' k k' h h' d) (draw_faults tells_files place.room place.stall number next.Memory f f' k k' h h' d) still same

  -- the channel that stands there is the one that was drawn of
  module _ (next : Next) (d : Drawn next) (answer : Turned) (x : SticksAt tells_notes number place h' n n' answer) where
    same_room : x.room ≡ d.at.after
    same_room = some_same x.room d.at.after (sym x.there ∙ ap (λ xs. slice_get xs place.room) d.at.is ∙ stands_now d.marked.rooms.items place.room d.at.room d.at.after d.at.there)

    same_stall : x.stall ≡ d.at.does.after
    same_stall =
        some_same x.stall d.at.does.after
        (sym x.has ∙ ap (λ (r : Room). slice_get r.stalls.items place.stall) same_room ∙ ap (λ xs. slice_get xs place.stall) d.at.does.stalls ∙ stands_now d.at.room.stalls.items place.stall d.at.does.stall d.at.does.after d.at.does.there)

    topic_is : topic_name x.room ≡ topic_name d.at.room
    topic_is = ap topic_name same_room ∙ ap (λ (r : Room). r.queue.name) d.at.does.is

    channel_is : channel_name x.stall ≡ channel_name d.at.does.stall
    channel_is = ap channel_name same_stall ∙ ap (λ (v : ChannelSeen). v.about.name) d.at.does.does.rest

    stuck_noted : IsIdleBy tells_notes (entry_of number h.moment (Stuck (topic_name x.room) (Some (channel_name x.stall))), Faulted 0) n n' answer
    stuck_noted = subst (λ m. IsIdleBy tells_notes (entry_of number m (Stuck (topic_name x.room) (Some (channel_name x.stall))), Faulted 0) n n' answer) (keeps_drawn tells_files place.room place.stall number next f f' k k' h h' d).moment x.is

  pub acts_fault : (answer : Turned) → Drawn next.Fault → Still → Rose k k' → SticksAt tells_notes number place h' n n' answer → Answered answer
  acts_fault answer d still rose x =
      stuck tells_notes tells_files number h h' n n' f f' k k' sound (keeps_drawn tells_files place.room place.stall number next.Fault f f' k k' h h' d) (draw_faults tells_files place.room place.stall number next.Fault f f' k k' h h' d) still
      (topic_name x.room) (channel_name x.stall)
      (λ told u holds. may_stick tells_files number place next.Fault f f' k k' h h' d s running (λ c credit. credit) (topic_name x.room) (channel_name x.stall) (topic_is next.Fault d answer x) (channel_is next.Fault d answer x) u holds)
      (λ told u holds. rose) answer (stuck_noted next.Fault d answer x)

  -- no file is damaged where that is told
  pub acts_damage : (answer : Turned) → Drawn next.Damaged → Still → SticksAt tells_notes number place h' n n' answer → Answered answer
  acts_damage answer d still x =
      stuck tells_notes tells_files number h h' n n' f f' k k' sound (keeps_drawn tells_files place.room place.stall number next.Damaged f f' k k' h h' d) (draw_faults tells_files place.room place.stall number next.Damaged f f' k k' h h' d) still
      (topic_name x.room) (channel_name x.stall)
      (λ told u holds. may_stick tells_files number place next.Damaged f f' k k' h h' d s running (λ c credit. credit) (topic_name x.room) (channel_name x.stall) (topic_is next.Damaged d answer x) (channel_is next.Damaged d answer x) u holds)
      (λ told u holds. undamaged told u holds) answer (stuck_noted next.Damaged d answer x)
    where
      undamaged : IsTrue tells_files → (u : State) → HoldsFor h f u → Rose k k'
      undamaged told u holds = absurd (no_damage tells_files number place f f' k k' h h' s running d told u holds)

-- the channel that was read at a place
pub sticks_found : (tells : Bool) (number : ℕ) (place : Place) (h : Hall) (n n' : History) (answer : Turned) (room : Room) (stall : Stall) → place.room < length h.rooms.items → HoldsAt (λ (r : Room). place.stall < length r.stalls.items) h.rooms.items place.room → room ≡ get_or h.rooms.items place.room room
    → stall ≡ get_or room.stalls.items place.stall stall → (topic channel : List ℕ) → topic ≡ topic_name room → channel ≡ channel_name stall → IsIdleBy tells (entry_of number h.moment (Stuck topic (Some channel)), Faulted 0) n n' answer → SticksAt tells number place h n n' answer
sticks_found tells number place h n n' answer room stall within in_room r s topic channel t k noted = record {
  room = room;
  stall = stall;
  there = at_place h.rooms.items place.room room within r;
  has = at_place room.stalls.items place.stall stall (subst (λ (x : Room). place.stall < length x.stalls.items) (sym r) (in_room room)) s;
  is =
      subst (λ c. IsIdleBy tells (entry_of number h.moment (Stuck (topic_name room) (Some c)), Faulted 0) n n' answer) k
      (subst (λ x. IsIdleBy tells (entry_of number h.moment (Stuck x (Some channel)), Faulted 0) n n' answer) t noted);
}
