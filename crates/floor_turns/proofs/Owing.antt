-- One move after another is paid.
use Rattle.std.proofs.Common.{◌≡◌, inl, ◌<◌, ◌≤◌, ◌==◌, ◌&&◌, ◌||◌, ℕ, ◌+◌, zero, suc, List, Bool, true, false, [], ◌∷◌, ◌++◌, length, get_or, Option, Some, None, is_some, refl, sym, ap, subst, ◌∙◌, append_assoc, length-append, arith}
use Rattle.std.specs.Prelude.{IsSome, IsTrue, slice_get}
use Rattle.std.proofs.lemmas.Bool.{false≢true}
use Rattle.std.proofs.lemmas.List.{append-nil}
use Rattle.nsq_outside.specs.Files.{Files}
use Rattle.nsq_outside.specs.declared.journal.End.{End}
use Rattle.broker_history.specs.declared.entry.Act.{Act}
use Rattle.broker_history.specs.declared.entry.Act.TheVariants.{Stop}
use Rattle.broker_history.specs.declared.entry.Entry.{Entry}
use Rattle.broker_history.specs.State.{State}
use Rattle.broker_history.specs.Entries.{History, faults_of, is_due_move, is_faulted, is_held, is_move, is_stop, is_stuck, is_stuck_topic}
use Rattle.broker_history.specs.Legal.{none, more}
use Rattle.broker_history.specs.Moments.{IsFree}
use Rattle.broker_history.specs.Before.{IsPaid, is_stuck_at}
use Rattle.floor_rooms.specs.declared.hall.Hall.{Hall}
use Rattle.floor_rooms.specs.Standing.{HoldsFor}
use Rattle.floor_rooms.specs.declared.room.Room.{Room}
use Rattle.floor_moves.specs.Pending.{IsBusyAt}
use Rattle.floor_moves.specs.Taking.{HasRoomAt, TakesNext}
use Rattle.floor_moves.specs.Copying.{OwesNext}
use Rattle.floor_moves.specs.declared.made.Made.{Made}
use Rattle.floor_moves.specs.declared.made.Made.TheVariants as made
use Rattle.floor_moves.specs.Moves.{IsKeptOff, IsMade, Keeps, Moves, NothingNoted, Notes, RoseBy, Sight, sight}
use Rattle.floor_rooms.specs.Changes.{OnlyQueueFiles}
use Rattle.floor_rooms.specs.Sound.{IsSound}
use Rattle.floor_moves.proofs.Keeping.{keeps_on, keeps_same}
use Rattle.floor_moves.proofs.Stepping.{rose_none}
use Rattle.floor_laws.proofs.Counting.{parts}
use Rattle.floor_laws.specs.Laid.{EndsStuck, IsHeld, IsMoved}
use Rattle.floor_laws.proofs.Laying.{all_both, holds_free, moved_free, sticks_free}
use Rattle.floor_laws.proofs.Faulting.{faults-append, rise_behind, rise_later, rises_add}
use Rattle.floor_turns.specs.declared.paying.Paid.TheVariants as paid
use Rattle.floor_turns.specs.declared.paying.Moved.{Moved}
use Rattle.floor_turns.specs.declared.paying.Moved.TheVariants as moved
use Rattle.floor_turns.specs.Paying.{AreFew, AreMade, Extends, IsClear, MovesNext, Pays, ended}

-- one entry was noted by a hall that stands for all that another does
module _ (tells_notes tells_files : Bool) (h h1 : Hall) (n : History) (f : Files) (k : ℕ) (new : Sight) (stands : (files : Files) (s : State) → HoldsFor h files s → HoldsFor h1 files s) where
  pub notes_on : (Is So : Entry × End → Type 0) → ((e : Entry × End) → Is e → So e) → Notes tells_notes tells_files Is (sight h1 n f k) new → Notes tells_notes tells_files So (sight h n f k) new
  notes_on Is So so x = record {
    entry = x.entry;
    is = so x.entry x.is;
    noted = x.noted;
    step = λ told s holds. x.step told s (stands f s holds);
    rose = λ told s holds. x.rose told s (stands f s holds);
    faults = x.faults;
  }

  moved_here : (move : Act) → h1.moment ≡ h.moment → (e : Entry × End) → IsMade h1.moment move e → IsMoved h.moment e
  moved_here move same e is = subst (λ at. IsMoved at e) same (record { moved = is.moved; done = is.done })

  stuck_here : (move : Act) → h1.moment ≡ h.moment → (e : Entry × End) → IsKeptOff h1.moment move e → is_stuck_at h.moment e ≡ true
  stuck_here move same e is = subst (λ at. is_stuck_at at e ≡ true) same is.stuck

  pub moved_next : (move : Act) (answer : Made) → h1.moment ≡ h.moment → Moves tells_notes tells_files move (sight h1 n f k) new answer → MovesNext tells_notes tells_files (sight h n f k) new (ended answer)
  moved_next move made.Done same x = notes_on (IsMade h1.moment move) (IsMoved h.moment) (moved_here move same) x
  moved_next move made.Stuck same x = (notes_on (IsKeptOff h1.moment move) (λ e. is_stuck_at h.moment e ≡ true) (stuck_here move same) x.0, λ told s holds. x.1 told s (stands f s holds))
  moved_next move made.Memory same x = record { noted = x.noted; same = λ told s holds. x.same told s (stands f s holds); faults = x.faults }

  pub moved_on : (move : Act) (answer : Made) (result : Moved) → result ≡ ended answer → h1.moment ≡ h.moment → Moves tells_notes tells_files move (sight h1 n f k) new answer → MovesNext tells_notes tells_files (sight h n f k) new result
  moved_on move answer result is same x = subst (MovesNext tells_notes tells_files (sight h n f k) new) (sym is) (moved_next move answer same x)

  pub next_on : h1.moment ≡ h.moment → (answer : Moved) → MovesNext tells_notes tells_files (sight h1 n f k) new answer → MovesNext tells_notes tells_files (sight h n f k) new answer
  next_on same moved.Done x = notes_on (IsMoved h1.moment) (IsMoved h.moment) (λ e is. subst (λ at. IsMoved at e) same is) x
  next_on same moved.Stuck x = (notes_on (λ e. is_stuck_at h1.moment e ≡ true) (λ e. is_stuck_at h.moment e ≡ true) (λ e is. subst (λ at. is_stuck_at at e ≡ true) same is) x.0, λ told s holds. x.1 told s (stands f s holds))
  next_on same moved.Memory x = record { noted = x.noted; same = λ told s holds. x.same told s (stands f s holds); faults = x.faults }
  next_on same moved.Nothing x = (record { noted = x.0.noted; same = λ told s holds. x.0.same told s (stands f s holds); faults = x.0.faults }, x.1)

-- nothing was listed any more, and nothing is due
pub none_next : (tells_notes tells_files : Bool) (h h1 : Hall) (n : History) (f : Files) (k : ℕ) → ((files : Files) (s : State) → HoldsFor h files s → HoldsFor h1 files s) → h1 ≡ record h { rooms = h1.rooms; pending = h1.pending } → h.moment < h.quiet_until → h1.pending.items ≡ []
    → NothingNoted tells_notes tells_files (sight h n f k) (sight h1 n f k) × IsClear h1
none_next tells_notes tells_files h h1 n f k stands rest quiet nothing =
    let moment : h1.moment ≡ h.moment = ap (λ (x : Hall). x.moment) rest in
    let until : h1.quiet_until ≡ h.quiet_until = ap (λ (x : Hall). x.quiet_until) rest in
    (record { noted = λ told. refl; same = λ told s holds. stands f s holds; faults = omega arith }, record { quiet = omega (arith, quiet, moment, until); none = nothing })

-- what stands at a place stands within the list
pub place_within : {X : Type 0} (xs : List X) (i : ℕ) (x : X) → slice_get xs i ≡ Some x → i < length xs
place_within [] i x h = absurd cc
place_within (y ∷ xs) zero x h = omega arith
place_within (y ∷ xs) (suc i) x h = omega (arith, place_within xs i x h)

-- no due move is a Stop, and nothing that is stuck is one
due_no_stop : (act : Act) → is_due_move act ≡ true → is_stop act ≡ false
due_no_stop Stop h = absurd (false≢true h)
due_no_stop act h = refl

stuck_no_stop : (act : Act) (faulted : Bool) → (is_stuck_topic act || (is_move act && faulted)) ≡ true → is_stop act ≡ false
stuck_no_stop Stop faulted h = absurd (false≢true h)
stuck_no_stop act faulted h = refl

-- nor is what is held back
held_no_stop : (act : Act) → is_held act ≡ true → is_stop act ≡ false
held_no_stop Stop h = absurd (false≢true h)
held_no_stop act h = refl

-- an entry that may stand anywhere
pub record IsLoose (e : Entry × End) : Type 0 where
  pub free : IsFree e
  pub other : is_stop e.0.act ≡ false

pub moved_loose : (at : ℕ) (e : Entry × End) → IsMoved at e → IsLoose e
moved_loose at e m = record { free = moved_free at e m; other = due_no_stop e.0.act (parts (is_due_move e.0.act) (e.0.at == at) m.moved).0 }

pub stuck_loose : (at : ℕ) (e : Entry × End) → is_stuck_at at e ≡ true → IsLoose e
stuck_loose at e m = record { free = sticks_free at e m; other = stuck_no_stop e.0.act (is_faulted e.1) (parts (is_stuck e) (e.0.at == at) m).0 }

pub held_loose : (at : ℕ) (e : Entry × End) → IsHeld at e → IsLoose e
held_loose at e m = record { free = holds_free at e m; other = held_no_stop e.0.act m.held }

pub loose_paid : (h : History) (s : State) (e : Entry × End) → IsLoose e → IsPaid h s e
loose_paid h s e l = record { moved = inl l.free; paid = inl l.other }

-- nothing was noted yet
pub extends_none : (tells_notes tells_files : Bool) (Is : History → Type 0) (old : Sight) → Is [] → Extends tells_notes tells_files Is old old
extends_none tells_notes tells_files Is old is = record {
  added = [];
  is = is;
  noted = λ told. sym (append-nil old.noted);
  legal = λ told s holds. (s, none, holds);
  rose = λ told s holds. rose_none old.faults old.faults (omega arith);
  faults = omega arith;
}

module _ (tells_notes tells_files : Bool) (Is So : History → Type 0) (old now new : Sight) (x : Extends tells_notes tells_files Is old now) where
  -- one entry more
  pub extends_one : (One : Entry × End → Type 0) (y : Notes tells_notes tells_files One now new) → IsLoose y.entry → So (x.added ++ y.entry ∷ []) → Extends tells_notes tells_files So old new
  extends_one One y loose so = record {
    added = x.added ++ y.entry ∷ [];
    is = so;
    noted = λ told. y.noted told ∙ ap (λ h. h ++ y.entry ∷ []) (x.noted told) ∙ append_assoc old.noted x.added (y.entry ∷ []);
    legal = λ told s holds.
        let p = x.legal told s holds in
        let q = y.step told p.0 p.2 in
        (q.0, more p.1 (loose_paid x.added p.0 y.entry loose) q.1, q.2);
    rose = λ told s holds.
        let p = x.legal told s holds in
        subst (λ n. RoseBy n old.faults new.faults) (sym (faults-append x.added (y.entry ∷ []))) (rises_add (faults_of x.added) (faults_of (y.entry ∷ [])) old.faults now.faults new.faults (x.rose told s holds) (y.rose told p.0 p.2));
    faults = omega (arith, x.faults, y.faults);
  }

  -- nothing more
  pub extends_same : NothingNoted tells_notes tells_files now new → So x.added → Extends tells_notes tells_files So old new
  extends_same y so = record {
    added = x.added;
    is = so;
    noted = λ told. y.noted told ∙ x.noted told;
    legal = λ told s holds. let p = x.legal told s holds in (p.0, p.1, y.same told p.0 p.2);
    rose = λ told s holds. rise_later (faults_of x.added) old.faults now.faults new.faults (x.rose told s holds) y.faults;
    faults = omega (arith, x.faults, y.faults);
  }

-- so many moves were made, and nothing else
pub record PaysSoFar (tells_notes tells_files : Bool) (made : ℕ) (old now : Sight) : Type 0 where
  pub extends : Extends tells_notes tells_files (AreMade old.hall.moment made) old now
  pub sound : IsSound now.hall
  pub keeps : Keeps old.hall now.hall
  pub files : IsTrue tells_files → OnlyQueueFiles old.files now.files

pub pays_none : (tells_notes tells_files : Bool) (old : Sight) → IsSound old.hall → PaysSoFar tells_notes tells_files 0 old old
pays_none tells_notes tells_files old sound = record {
  extends = extends_none tells_notes tells_files (AreMade old.hall.moment 0) old (record { moved = tt; count = refl });
  sound = sound;
  keeps = keeps_same old.hall;
  files = λ told file none. refl;
}

module _ (tells_notes tells_files : Bool) (made most : ℕ) (old now new : Sight) (x : PaysSoFar tells_notes tells_files made old now) where
  moved_too : (e : Entry × End) → IsMoved now.hall.moment e → IsMoved old.hall.moment e
  moved_too e m = subst (λ at. IsMoved at e) x.keeps.moment m

  -- one move more
  pub pays_one : MovesNext tells_notes tells_files now new moved.Done → IsSound new.hall → Keeps now.hall new.hall → (IsTrue tells_files → OnlyQueueFiles now.files new.files) → PaysSoFar tells_notes tells_files (made + 1) old new
  pays_one y sound keeps files = record {
    extends =
        extends_one tells_notes tells_files (AreMade old.hall.moment made) (AreMade old.hall.moment (made + 1)) old now new x.extends (IsMoved now.hall.moment) y (moved_loose now.hall.moment y.entry y.is) (record {
          moved = all_both (IsMoved old.hall.moment) x.extends.added (y.entry ∷ []) x.extends.is.moved (moved_too y.entry y.is, tt);
          count = length-append x.extends.added (y.entry ∷ []) ∙ ap (λ n. n + 1) x.extends.is.count;
        });
    sound = sound;
    keeps = keeps_on old.hall now.hall new.hall x.keeps keeps;
    files = λ told file none. files told file none ∙ x.files told file none;
  }

  few_moves : made ≤ most → AreFew old.hall.moment most x.extends.added
  few_moves few = record { moved = x.extends.is.moved; few = let same = x.extends.is.count in omega (arith, few, same) }

  -- nothing is due any more
  pub pays_clear : made ≤ most → MovesNext tells_notes tells_files now new moved.Nothing → Pays tells_notes tells_files most old new paid.Clear
  pays_clear few y = record {
    extends = extends_same tells_notes tells_files (AreMade old.hall.moment made) (AreFew old.hall.moment most) old now new x.extends y.0 (few_moves few);
    leaves = y.1;
    stuck = tt;
  }

  -- memory was wanting
  pub pays_wants : made ≤ most → MovesNext tells_notes tells_files now new moved.Memory → Pays tells_notes tells_files most old new paid.Wants
  pays_wants few y = record {
    extends = extends_same tells_notes tells_files (AreMade old.hall.moment made) (AreFew old.hall.moment most) old now new x.extends y (few_moves few);
    leaves = tt;
    stuck = tt;
  }

  -- one got stuck
  pub pays_stuck : made < most → MovesNext tells_notes tells_files now new moved.Stuck → Pays tells_notes tells_files most old new paid.Stuck
  pays_stuck fewer y = record {
    extends =
        extends_one tells_notes tells_files (AreMade old.hall.moment made) (EndsStuck old.hall.moment most) old now new x.extends (λ e. is_stuck_at now.hall.moment e ≡ true) y.0 (stuck_loose now.hall.moment y.0.entry y.0.is) (record {
          moves = x.extends.added;
          entry = y.0.entry;
          whole = refl;
          moved = x.extends.is.moved;
          fewer = let same = x.extends.is.count in omega (arith, fewer, same);
          stuck = subst (λ at. is_stuck_at at y.0.entry ≡ true) x.keeps.moment y.0.is;
        });
    leaves = tt;
    stuck = λ told s holds. let p = x.extends.legal told s holds in rise_behind old.faults now.faults new.faults x.extends.faults (y.1 told p.0 p.2);
  }

-- as many as were allowed
pub pays_most : (tells_notes tells_files : Bool) (made most : ℕ) (old now : Sight) → PaysSoFar tells_notes tells_files made old now → made ≡ most → Pays tells_notes tells_files most old now paid.Most
pays_most tells_notes tells_files made most old now x same = record {
  extends = record {
    added = x.extends.added;
    is = record { moved = x.extends.is.moved; count = x.extends.is.count ∙ same };
    noted = x.extends.noted;
    legal = x.extends.legal;
    rose = x.extends.rose;
    faults = x.extends.faults;
  };
  leaves = tt;
  stuck = tt;
}

read_is : (rooms : List Room) (i : ℕ) (r s : Room) → r ≡ get_or rooms i r → slice_get rooms i ≡ Some s → r ≡ s
read_is [] i r s read there = absurd cc
read_is (x ∷ rooms) zero r s read there = let same : x ≡ s = cc in read ∙ same
read_is (x ∷ rooms) (suc i) r s read there = read_is rooms i r s read there

-- of a topic that has something to do, by whether a message was taken: one is to be taken, or owed
head_is : {X : Type 0} (o : Option X) → is_some o ≡ false → o ≡ None
head_is None e = refl
head_is (Some x) e = absurd (false≢true (sym e))

some_head : {X : Type 0} (o : Option X) → is_some o ≡ true → IsSome o
some_head None e = absurd (false≢true e)
some_head (Some x) e = refl

pub takes_at : (rooms : List Room) (i : ℕ) (r : Room) (b : Bool) → IsBusyAt rooms i → r ≡ get_or rooms i r → b ≡ is_some r.queue.head → b ≡ false → HasRoomAt i TakesNext rooms
takes_at rooms i r b busy read is e = record {
  room = busy.room;
  there = busy.there;
  is = record { busy = busy.busy; none = head_is busy.room.queue.head (ap (λ (x : Room). is_some x.queue.head) (sym (read_is rooms i r busy.room read busy.there)) ∙ sym is ∙ e) };
}

pub owes_at : (rooms : List Room) (i : ℕ) (r : Room) (b : Bool) → IsBusyAt rooms i → r ≡ get_or rooms i r → b ≡ is_some r.queue.head → b ≡ true → HasRoomAt i OwesNext rooms
owes_at rooms i r b busy read is e = record {
  room = busy.room;
  there = busy.there;
  is = some_head busy.room.queue.head (ap (λ (x : Room). is_some x.queue.head) (sym (read_is rooms i r busy.room read busy.there)) ∙ sym is ∙ e);
}
