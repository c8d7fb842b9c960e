-- Turns of several connections, one after another, and what is saved between them.
use Rattle.std.proofs.Common.{◌≡◌, ◌≤◌, ℕ, Bool, [], ◌++◌, refl, sym, ◌∙◌, ap, arith, append_assoc}
use Rattle.std.specs.Prelude.{IsTrue}
use Rattle.std.proofs.lemmas.Bool.{false≢true}
use Rattle.std.proofs.lemmas.List.{append-nil}
use Rattle.queue_files.specs.Replaced.{OnlyTwoChange}
use Rattle.path_image.specs.Data.{data_name, temp_name}
use Rattle.broker_history.specs.State.{State}
use Rattle.broker_history.specs.Entries.{History, own}
use Rattle.broker_history.specs.Legal.{none}
use Rattle.broker_history.specs.Moments.{starts}
use Rattle.broker_history.proofs.Histories.{Legal-append}
use Rattle.broker_history.specs.Calls.{has_began}
use Rattle.broker_floor.specs.Standing.{HoldsFor}
use Rattle.floor_laws.proofs.Laying.{timed_join}
use Rattle.floor_laws.proofs.Faulting.{faults_join, stuck_join}
use Rattle.broker_floor.specs.Scenes.{Scene}
use Rattle.broker_floor.specs.Leads.{Leads, LedTo, Times}
use Rattle.broker_floor.specs.Held.{Held}
use Rattle.broker_floor.specs.Closings.{HeldBehind}
use Rattle.broker_floor.specs.declared.path.saving.Saved.{Saved}
use Rattle.broker_floor.specs.declared.path.saving.Saved.TheVariants as saved
use Rattle.daemon_main.specs.Going.{Went}

-- one led to the next
led_on : (a b c : Scene) (s : State) (p : LedTo a b s) → LedTo b c p.to → LedTo a c s
led_on a b c s p q = record {
  added = p.added ++ q.added;
  whole = q.whole ∙ ap (λ x. x ++ q.added) p.whole ∙ append_assoc a.notes p.added q.added;
  to = q.to;
  legal = Legal-append p.legal q.legal;
  stands = q.stands;
  counted = faults_join p.added q.added a.faults b.faults c.faults p.counted q.counted;
  apart = stuck_join p.added q.added a.faults b.faults c.faults a.hall.stuck b.hall.stuck c.hall.stuck p.counted q.counted p.apart q.apart;
}

times_on : (coming : ℕ → ℕ) (readings : ℕ) (a b c : Scene) (p : Times coming readings a b) → Times coming p.later b c → Times coming readings a c
times_on coming readings a b c p q = record {
  added = p.added ++ q.added;
  whole = q.whole ∙ ap (λ x. x ++ q.added) p.whole ∙ append_assoc a.notes p.added q.added;
  later = q.later;
  timed = timed_join p.timed q.timed;
  now = q.now;
}

module _ (tells_notes tells_files tells_readings : Bool) where
  -- no turn was made
  pub went_nowhere : (a : Scene) → Went tells_notes tells_files tells_readings a a
  went_nowhere a = record {
    faults = omega arith;
    files = λ told file not_names not_temp none. refl;
    legal = λ told tells s stands. record { added = []; whole = sym (append-nil a.notes); to = s; legal = none; stands = stands; counted = omega arith; apart = λ fails_so yet. absurd (false≢true (sym fails_so ∙ yet)) };
    times = λ told tells coming readings at. record { added = []; whole = sym (append-nil a.notes); later = readings; timed = starts; now = at };
  }

  pub went_then : (a b c : Scene) → Went tells_notes tells_files tells_readings a b → Went tells_notes tells_files tells_readings b c → Went tells_notes tells_files tells_readings a c
  went_then a b c p q = record {
    faults = let first = p.faults in let second = q.faults in omega (arith, first, second);
    files = λ told file not_names not_temp none. q.files told file not_names not_temp none ∙ p.files told file not_names not_temp none;
    legal = λ told tells s stands. let first = p.legal told tells s stands in led_on a b c s first (q.legal told tells first.to first.stands);
    times = λ told tells coming readings at. let first = p.times told tells coming readings at in times_on coming readings a b c first (q.times told tells coming first.later first.now);
  }

  -- turns of a number
  pub went_by : (n : ℕ) (a b : Scene) → Leads tells_notes tells_files tells_readings n a b → Went tells_notes tells_files tells_readings a b
  went_by n a b p = record { faults = p.faults; files = λ told file not_names not_temp none. p.files told file none; legal = p.legal; times = p.times }

-- what a saving leaves of a hall, but that no name is unsaved
pub record Saves (old new : Held) : Type 0 where
  pub moment : new.hall.moment ≡ old.hall.moment
  pub stuck : new.hall.stuck ≡ old.hall.stuck
  pub flushed : new.flushed ≡ old.flushed

held_behind : (answer : Saved) (old new : Held) → HeldBehind answer old new → Saves old new
held_behind saved.Done old new h = record { moment = ap (λ (x : Held). x.hall.moment) h; stuck = ap (λ (x : Held). x.hall.stuck) h; flushed = ap (λ (x : Held). x.flushed) h }
held_behind saved.Fault old new h = record { moment = ap (λ (x : Held). x.hall.moment) h; stuck = ap (λ (x : Held). x.hall.stuck) h; flushed = ap (λ (x : Held). x.flushed) h }
held_behind saved.Memory old new h = record { moment = ap (λ (x : Held). x.hall.moment) h; stuck = ap (λ (x : Held). x.hall.stuck) h; flushed = ap (λ (x : Held). x.flushed) h }

pub saves_behind : (answer : Saved) (old new : Held) → HeldBehind answer old new → Saves old new
saves_behind answer old new h = held_behind answer old new h

-- a saving between two turns
pub went_saving : (tells_notes tells_files tells_readings : Bool) (a b : Scene) → b.notes ≡ a.notes → b.coming ≡ a.coming → a.faults ≤ b.faults → b.hall.moment ≡ a.hall.moment → b.hall.stuck ≡ a.hall.stuck
    → (IsTrue tells_files → OnlyTwoChange a.files b.files data_name temp_name) → (IsTrue tells_files → (s : State) → HoldsFor a.hall a.files s → HoldsFor b.hall b.files s) → Went tells_notes tells_files tells_readings a b
went_saving tells_notes tells_files tells_readings a b notes coming faults moment stuck two holds = record {
  faults = faults;
  files = λ told file not_names not_temp none. two told file not_names not_temp;
  legal = λ told tells s stands. record {
    added = [];
    whole = notes ∙ sym (append-nil a.notes);
    to = s;
    legal = none;
    stands = record { holds = holds tells s stands.holds; began = λ n. stands.began n ∙ ap (λ (x : History). has_began (own n x)) (sym notes) };
    counted = omega (arith, faults);
    apart = λ fails_so yet. absurd (false≢true (sym fails_so ∙ sym stuck ∙ yet));
  };
  times = λ told tells readings made at. record {
    added = [];
    whole = notes ∙ sym (append-nil a.notes);
    later = made;
    timed = starts;
    now = record { ahead = λ k. ap (λ (f : ℕ → ℕ). f k) coming ∙ at.ahead k; moment = moment ∙ at.moment };
  };
}
