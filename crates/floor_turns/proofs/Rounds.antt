-- What was held back so far, one copy after another, and the act behind it.
use Rattle.std.proofs.Common.{◌≡◌, inr, ◌<◌, ◌≤◌, ◌||◌, ◌^◌, ℕ, Bool, false, List, [], ◌∷◌, ◌++◌, is_some, refl, sym, ap, subst, ◌∙◌, append_assoc, arith}
use Rattle.std.specs.Prelude.{IsTrue, slice_get}
use Rattle.std.specs.Global.{Vec}
use Rattle.std.proofs.lemmas.List.{append-nil}
use Rattle.nsq_base.specs.declared.options.Options.{Options}
use Rattle.nsq_outside.specs.Files.{Files}
use Rattle.nsq_outside.specs.declared.journal.End.{End}
use Rattle.broker_history.specs.declared.entry.Act.{Act}
use Rattle.broker_history.specs.declared.entry.Act.TheVariants.{Stuck}
use Rattle.broker_history.specs.declared.entry.Entry.{Entry}
use Rattle.broker_history.specs.State.{Client, State}
use Rattle.broker_history.specs.Entries.{History, faults_of, is_stop}
use Rattle.broker_history.specs.Before.{is_any_due}
use Rattle.broker_history.specs.Legal.{Legal, more, none}
use Rattle.broker_history.proofs.Histories.{Legal-append}
use Rattle.channel_core.specs.declared.answers.Next.TheVariants as next
use Rattle.broker_history.specs.declared.call.Call.TheVariants as call
use Rattle.broker_history.specs.declared.turned.Turned.{Turned}
use Rattle.broker_history.specs.declared.turned.Turned.TheVariants as turned
use Rattle.floor_rooms.specs.declared.hall.Hall.{Hall}
use Rattle.floor_rooms.specs.Changes.{KeepsSince, OnlyQueueFiles}
use Rattle.floor_rooms.specs.Rooms.{client_in}
use Rattle.floor_rooms.specs.Sound.{IsSound}
use Rattle.floor_rooms.specs.Standing.{HoldsFor}
use Rattle.floor_rooms.proofs.Dating.{since_kept_then}
use Rattle.floor_rooms.proofs.Naming.{names_kept, names_then}
use Rattle.floor_moves.specs.declared.due.Place.{Place}
use Rattle.floor_moves.specs.Due.{HasStallAt}
use Rattle.floor_moves.specs.Holding.{HasHeld, IsDrawnFrom, IsHeldAt}
use Rattle.floor_moves.specs.Moves.{Keeps, NothingNoted, Notes, RoseBy, Sight, sight}
use Rattle.floor_moves.proofs.Keeping.{keeps_marked, keeps_on, keeps_same}
use Rattle.floor_acts.specs.Sending.{HasDrawn}
use Rattle.floor_acts.proofs.Flying.{stands_now}
use Rattle.floor_laws.specs.Laid.{AreHeldBack, IsHeld}
use Rattle.floor_laws.proofs.Allowing.{held_calm}
use Rattle.floor_laws.proofs.Laying.{all_both}
use Rattle.floor_turns.specs.Acting.{Acts, ActsBy, ClientsBy, FaultRose, FaultsRose, StaysSet, there_after}
use Rattle.floor_turns.proofs.Owing.{held_loose, loose_paid, notes_on}
use Rattle.floor_turns.proofs.Answering.{wants}

-- a copy came up while its id was in flight: nothing else happened since the channel was marked
module _ (tells_notes tells_files : Bool) (number : ℕ) (place : Place) (id : List ℕ) (f f' : Files) (k k' : ℕ) (h h' : Hall) (d : HasDrawn tells_files place.room place.stall number (next.Held id) f f' k k' h h') where
  pub drawn_from : (n : History) → IsDrawnFrom tells_files place id (sight d.marked n f k) (sight h' n f' k')
  drawn_from n = record {
    sound = d.sound;
    rest = d.rest;
    noted = refl;
    at = record {
      room = d.at.room;
      after = d.at.after;
      there = d.at.there;
      is = d.at.is;
      does = record {
        stall = d.at.does.stall;
        after = d.at.does.after;
        there = d.at.does.there;
        is = d.at.does.is;
        stalls = d.at.does.stalls;
        does = record {
          drawn = d.at.does.does.drawn;
          gives = d.at.does.does.gives;
          list = d.at.does.does.list;
          rest = d.at.does.does.rest;
          disk = d.at.does.does.disk;
          same = d.at.does.does.same;
          marked = d.is_marked;
        };
      };
    };
  }

  drawn_at : h'.moment ≡ d.marked.moment
  drawn_at = ap (λ (x : Hall). x.moment) d.rest

  marked_at : d.marked.moment ≡ h.moment
  marked_at = ap (λ (x : Hall). x.moment) d.marks

  pub held_there : HasStallAt place.room place.stall (HasHeld id h'.moment) h'.rooms.items
  held_there = record {
    room = d.at.after;
    there = ap (λ xs. slice_get xs place.room) d.at.is ∙ stands_now d.marked.rooms.items place.room d.at.room d.at.after d.at.there;
    has = record {
      stall = d.at.does.after;
      there = ap (λ xs. slice_get xs place.stall) d.at.does.stalls ∙ stands_now d.at.room.stalls.items place.stall d.at.does.stall d.at.does.after d.at.does.there;
      is = subst (λ m. HasHeld id m d.at.does.after) (sym drawn_at) d.at.does.does.drawn;
    };
  }

  pub held_moment : h'.moment ≤ 2 ^ 62
  held_moment = subst (λ m. m ≤ 2 ^ 62) (sym drawn_at) d.sound.moment

  pub marked_running : h.stopped ≡ false → d.marked.stopped ≡ false
  marked_running running = ap (λ (x : Hall). x.stopped) d.marks ∙ running

  marked_keeps : Keeps h d.marked
  marked_keeps = keeps_marked h d.marked _ d.marks d.keeps

  pub held_keeps : (h2 : Hall) → Keeps d.marked h2 → Keeps h h2
  held_keeps h2 keeps = keeps_on h d.marked h2 marked_keeps keeps

  -- it was held back
  pub held_round : (n : History) (new : Sight) → Notes tells_notes tells_files (IsHeldAt place id d.marked) (sight d.marked n f k) new → Notes tells_notes tells_files (IsHeld h.moment) (sight h n f k) new
  held_round n new x =
      notes_on tells_notes tells_files h d.marked n f k new d.stands (IsHeldAt place id d.marked) (IsHeld h.moment) (λ e is. record { held = is.held; now = is.now ∙ marked_at; done = is.done }) x

  -- or memory was wanting
  pub held_wants : (n : History) (h2 : Hall) (n2 : History) (f2 : Files) (k2 : ℕ) → IsSound h → Keeps d.marked h2 → NothingNoted tells_notes tells_files (sight d.marked n f k) (sight h2 n2 f2 k2)
      → Acts tells_notes tells_files number call.Next turned.Memory (sight h n f k) (sight h2 n2 f2 k2)
  held_wants n h2 n2 f2 k2 sound keeps x =
      wants tells_notes tells_files number h h2 n n2 f f2 k k2 sound (held_keeps h2 keeps) x.faults (λ told s holds. (s, refl, x.same told s (d.stands f s holds))) x.noted

-- from a state, what was held back leads to one that the hall stands for, with no more due
pub record HeldTo (at : ℕ) (held : History) (s : State) (now : Sight) : Type 0 where
  pub between : State
  pub back : Legal s held between
  pub calm : is_any_due s at ≡ false → is_any_due between at ≡ false
  pub same : held ≡ [] → between ≡ s
  pub holds : HoldsFor now.hall now.files between

-- so many copies were held back, and nothing else was done
pub record HeldSoFar (tells_notes tells_files : Bool) (old now : Sight) : Type 0 where
  pub held : History
  pub held_back : AreHeldBack old.hall.moment held
  pub noted : IsTrue tells_notes → now.noted ≡ old.noted ++ held
  pub leads : IsTrue tells_files → (s : State) → HoldsFor old.hall old.files s → HeldTo old.hall.moment held s now
  pub faults : old.faults ≤ now.faults
  pub sound : IsSound now.hall
  pub keeps : Keeps old.hall now.hall
  pub files : IsTrue tells_files → OnlyQueueFiles old.files now.files

pub held_none : (tells_notes tells_files : Bool) (old : Sight) → IsSound old.hall → HeldSoFar tells_notes tells_files old old
held_none tells_notes tells_files old sound = record {
  held = [];
  held_back = tt;
  noted = λ told. sym (append-nil old.noted);
  leads = λ told s holds. record { between = s; back = none; calm = λ calm. calm; same = λ nothing. refl; holds = holds };
  faults = omega arith;
  sound = sound;
  keeps = keeps_same old.hall;
  files = λ told file other. refl;
}

no_snoc : (h : History) (e : Entry × End) → h ++ e ∷ [] ≡ [] → ⊥
no_snoc [] e same = cc
no_snoc (f ∷ h) e same = cc

both_none : (h k : History) → h ++ k ≡ [] → (h ≡ []) × (k ≡ [])
both_none [] k same = (refl, same)
both_none (e ∷ h) k same = absurd (let no : ⊥ = cc in no)

rise_before : (n a b c : ℕ) → a ≤ b → RoseBy n b c → RoseBy n a c
rise_before n a b c less rose = omega (arith, less, rose)

fault_then : (act : Act) (a b c : ℕ) → a ≤ b → FaultRose b c act → FaultRose a c act
fault_then (Stuck topic channel) a b c le h = tt
fault_then act a b c le h = omega (arith, le, h)

rose_then : (acts : History) (a b c : ℕ) → a ≤ b → FaultsRose b c acts → FaultsRose a c acts
rose_then [] a b c le h = tt
rose_then (e ∷ acts) a b c le h = λ faulted. fault_then e.0.act a b c le (h faulted)

clients_then : (acts : History) (a b c : Hall) → Keeps a b → ClientsBy acts b c → ClientsBy acts a c
clients_then [] a b c keeps h = record {
  there = λ m. h.there m ∙ ap (λ (xs : Vec Client). is_some (client_in xs.items m)) keeps.clients;
  stopped = h.stopped ∙ keeps.stopped;
}
clients_then (e ∷ acts) a b c keeps h = record {
  there = λ m. h.there m ∙ ap (λ (xs : Vec Client). there_after e.0.act e.0.conn m (is_some (client_in xs.items m))) keeps.clients;
  stopped = h.stopped ∙ ap (λ x. x || is_stop e.0.act) keeps.stopped;
}

stays_then : (a b c : Hall) → Keeps a b → StaysSet b c → StaysSet a c
stays_then a b c keeps s = record {
  options = s.options ∙ keeps.options;
  epoch = s.epoch ∙ keeps.epoch;
  began_at = s.began_at ∙ keeps.began_at;
  moment = s.moment ∙ keeps.moment;
  stuck = s.stuck ∙ keeps.stuck;
  names = names_then a b c (names_kept a.moment a b keeps.unsaved_names keeps.rooms) s.names;
  since = since_kept_then a.moment a.rooms.items b.rooms.items c.rooms.items keeps.rooms (subst (λ m. KeepsSince m b.rooms.items c.rooms.items) keeps.moment s.since);
}

module _ (tells_notes tells_files : Bool) (old now : Sight) (x : HeldSoFar tells_notes tells_files old now) where
  -- one more was held back
  pub held_one : (new : Sight) → Notes tells_notes tells_files (IsHeld now.hall.moment) now new → IsSound new.hall → Keeps now.hall new.hall → (IsTrue tells_files → OnlyQueueFiles now.files new.files) → HeldSoFar tells_notes tells_files old new
  held_one new y sound keeps files =
      let is : IsHeld old.hall.moment y.entry = subst (λ m. IsHeld m y.entry) x.keeps.moment y.is in
      record {
        held = x.held ++ y.entry ∷ [];
        held_back = all_both (IsHeld old.hall.moment) x.held (y.entry ∷ []) x.held_back (is, tt);
        noted = λ told. y.noted told ∙ ap (λ h. h ++ y.entry ∷ []) (x.noted told) ∙ append_assoc old.noted x.held (y.entry ∷ []);
        leads = λ told s holds.
            let p = x.leads told s holds in
            let q = y.step told p.between p.holds in
            record {
              between = q.0;
              back = more p.back (loose_paid x.held p.between y.entry (held_loose old.hall.moment y.entry is)) q.1;
              calm = λ calm.
                  subst (λ m. is_any_due q.0 m ≡ false) is.now
                  (held_calm p.between q.0 y.entry q.1 is.held is.done (patient p.between p.holds) (subst (λ m. is_any_due p.between m ≡ false) (sym is.now) (p.calm calm)));
              same = λ nothing. absurd (no_snoc x.held y.entry nothing);
              holds = q.2;
            };
        faults = let first = x.faults in let second = y.faults in omega (arith, first, second);
        sound = sound;
        keeps = keeps_on old.hall now.hall new.hall x.keeps keeps;
        files = λ told file other. files told file other ∙ x.files told file other;
      }
    where
      patient : (s : State) → HoldsFor now.hall now.files s → 0 < s.options.msg_timeout
      patient s holds = subst (λ (o : Options). 0 < o.msg_timeout) (sym holds.stands.options) (let least = x.sound.options.times.msg_timeout.at_least in omega (arith, least))

  -- and the act came
  pub held_acts : (number : ℕ) (answer : Turned) (new : Sight) → Acts tells_notes tells_files number call.Next answer now new → Acts tells_notes tells_files number call.Next answer old new
  held_acts number answer new y = record {
    held = x.held ++ y.held;
    acts = y.acts;
    held_back = all_both (IsHeld old.hall.moment) x.held y.held x.held_back (subst (λ m. AreHeldBack m y.held) x.keeps.moment y.held_back);
    sending = inr refl;
    act = subst (λ m. ActsBy m number call.Next answer y.acts) x.keeps.moment y.act;
    short = y.short;
    noted = λ told.
        y.noted told ∙ ap (λ h. h ++ (y.held ++ y.acts)) (x.noted told) ∙ append_assoc old.noted x.held (y.held ++ y.acts)
        ∙ ap (λ h. old.noted ++ h) (sym (append_assoc x.held y.held y.acts));
    leads = λ told s holds may.
        let p = x.leads told s holds in
        let q = y.leads told p.between p.holds tt in
        record {
          between = q.between;
          back = Legal-append p.back q.back;
          calm = λ calm. (subst (λ m. is_any_due p.between m ≡ false → is_any_due q.between m ≡ false) x.keeps.moment q.calm) (p.calm calm);
          same = λ nothing. let both = both_none x.held y.held nothing in q.same both.1 ∙ p.same both.0;
          to = q.to;
          steps = q.steps;
          holds = q.holds;
        };
    rose = λ told s holds. let p = x.leads told s holds in rise_before (faults_of y.acts) old.faults now.faults new.faults x.faults (y.rose told p.between p.holds);
    caused = rose_then y.acts old.faults now.faults new.faults x.faults y.caused;
    faults = let first = x.faults in let second = y.faults in omega (arith, first, second);
    clients = clients_then y.acts old.hall now.hall new.hall x.keeps y.clients;
    stays = stays_then old.hall now.hall new.hall x.keeps y.stays;
  }

-- nothing more
pub held_ends : (tells_notes tells_files : Bool) (old now : Sight) → HeldSoFar tells_notes tells_files old now → (number : ℕ) → Acts tells_notes tells_files number call.Next turned.Memory old now
held_ends tells_notes tells_files old now x number =
    held_acts tells_notes tells_files old now x number turned.Memory now
    (wants tells_notes tells_files number now.hall now.hall now.noted now.noted now.files now.files now.faults now.faults x.sound (keeps_same now.hall) (omega arith) (λ told s holds. (s, refl, holds)) (λ told. refl))
