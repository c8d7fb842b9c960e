-- What follows from how turns are laid out, each the contract of a function that does nothing.
use Rattle.std.specs.Prelude.{◌≡◌, ◌⊎◌, ℕ, ◌+◌, ◌<◌, ◌≤◌, ◌-◌, ◌^◌, ◌||◌, min, true, false, [], ◌∷◌, ◌++◌, length}
use Rattle.std.specs.List.{AllByRecursion}
use Rattle.nsq_outside.specs.declared.journal.End.{End}
use Rattle.nsq_outside.specs.declared.journal.End.TheVariants.{Done}
use Rattle.broker_history.specs.declared.entry.Entry.{Entry}
use Rattle.broker_history.specs.State.{State, has_begun}
use Rattle.broker_history.specs.Entries.{History, is_common, is_held, own, has_stop, faults_of, faults_apart}
use Rattle.broker_history.specs.Before.{MayAct, MayStop, is_any_due, is_any_taken, most_moves}
use Rattle.broker_history.specs.Step.{Step}
use Rattle.broker_history.specs.Legal.{Legal}
use Rattle.broker_history.specs.Moments.{IsTimed, moment_of}
use Rattle.broker_history.specs.declared.call.Call.{Call}
use Rattle.broker_history.specs.declared.turned.Turned.{Turned}
use Rattle.broker_history.specs.Answers.{Adds}
use Rattle.broker_history.specs.Calls.{has_began}
use Rattle.floor_laws.specs.Laid.{AreMoved, AreHeldBack, EndsStuck, IsLaid, AreTurns}

-- turns and then turns are turns
abbrev pub TurnsJoin : Type 0
TurnsJoin = (number : ℕ) (h k : History) → AreTurns number h → AreTurns number k → AreTurns number (h ++ k)

-- the entry is common, or of this number
abbrev pub IsOf : (number : ℕ) → Entry × End → Type 0
IsOf number e = (is_common e.0.act ≡ true) ⊎ (e.0.conn ≡ number)

-- each entry of a number's turns is common or of it
abbrev pub TurnsAreOf : Type 0
TurnsAreOf = (number : ℕ) (h : History) → AreTurns number h → AllByRecursion (IsOf number) h

-- a turn adds to its number's own entries what its answer says
abbrev pub TurnsAdd : Type 0
TurnsAdd = (at number : ℕ) (c : Call) (answer : Turned) (h k : History) → IsLaid at number c answer k → Adds number (own number h) (own number (h ++ k)) c answer

-- a turn that read the clock once is one more in a timed history
abbrev pub TurnsAreTimed : Type 0
TurnsAreTimed = (coming : ℕ → ℕ) (first readings number : ℕ) (c : Call) (answer : Turned) (h k : History) → IsTimed coming first h readings → IsLaid (moment_of coming (readings + 1)) number c answer k
    → IsTimed coming first (h ++ k) (readings + 1)

-- behind due moves and what was held back then, a turn may act where no move is due, or the moves were as many as a turn makes
abbrev pub MovesAllow : Type 0
MovesAllow = (at : ℕ) (moves held : History) (s : State) → AreMoved at moves → AreHeldBack at held → (is_any_due s at ≡ false) ⊎ (most_moves ≤ length moves) → MayAct (moves ++ held) s at

-- so it may where one got stuck
abbrev pub StuckAllows : Type 0
StuckAllows = (at most : ℕ) (h held : History) (s : State) → EndsStuck at most h → AreHeldBack at held → MayAct (h ++ held) s at

-- and a Stop may stand there
abbrev pub StuckStops : Type 0
StuckStops = (at most : ℕ) (h : History) (s : State) → EndsStuck at most h → MayStop h s at

-- what is held back leaves no more due, and as much taken
abbrev pub HeldKeepsCalm : Type 0
HeldKeepsCalm = (s t : State) (e : Entry × End) → Step s e t → is_held e.0.act ≡ true → e.1 ≡ Done → 0 < s.options.msg_timeout → is_any_due s e.0.at ≡ false → is_any_due t e.0.at ≡ false

-- whether a connection ever began is told by its own entries
abbrev pub LegalBegins : Type 0
LegalBegins = (s t : State) (h : History) (number : ℕ) → Legal s h t → has_begun t number ≡ (has_begun s number || has_began (own number h))

-- the count rose by so much, or stands at the end of its type
abbrev pub RoseBy : (n before now : ℕ) → Type 0
RoseBy n before now = min (before + n) (2 ^ 64 - 1) ≤ now

-- rises add up
abbrev pub RisesAdd : Type 0
RisesAdd = (m n a b c : ℕ) → RoseBy m a b → RoseBy n b c → RoseBy (m + n) a c

-- faults of two histories
abbrev pub FaultsAdd : Type 0
FaultsAdd = (h k : History) → faults_of (h ++ k) ≡ faults_of h + faults_of k

-- of which those that stand just before a Stop aren't counted: no more in the whole than in a half, with the faults of the other
abbrev pub ApartAdds : Type 0
ApartAdds = (h k : History) → (faults_apart (h ++ k) ≤ faults_apart h + faults_of k) × (faults_apart (h ++ k) ≤ faults_of h + faults_apart k)
