-- What a turn notes, in order: due moves that were made, perhaps an entry that a disk fault kept off, what was held back, and one act at most.
use Rattle.std.specs.Prelude.{◌≡◌, ◌⊎◌, ℕ, ◌+◌, ◌<◌, ◌≤◌, true, if◌then◌else◌, [], ◌∷◌, ◌++◌, length}
use Rattle.std.specs.List.{AllByRecursion}
use Rattle.nsq_outside.specs.declared.journal.End.{End}
use Rattle.nsq_outside.specs.declared.journal.End.TheVariants.{Done}
use Rattle.broker_history.specs.declared.entry.Entry.{Entry}
use Rattle.broker_history.specs.Entries.{History, is_held, is_tick}
use Rattle.broker_history.specs.Before.{is_moved_at, is_stuck_at, most_moves}
use Rattle.broker_history.specs.declared.call.Call.{Call}
use Rattle.broker_history.specs.declared.call.Call.TheVariants as call
use Rattle.broker_history.specs.declared.turned.Turned.{Turned}
use Rattle.broker_history.specs.Answers.{Answers, HasNoAct}

-- a move of this moment that came as it was due, and was made
pub record IsMoved (at : ℕ) (e : Entry × End) : Type 0 where
  pub moved : is_moved_at at e ≡ true
  pub done : e.1 ≡ Done

abbrev pub AreMoved : (at : ℕ) → History → Type 0
AreMoved at h = AllByRecursion (IsMoved at) h

-- an entry of this moment that a disk fault kept off: a move, or the taking of a topic's message
abbrev pub AreStuck : (at : ℕ) → History → Type 0
AreStuck at h = AllByRecursion (λ e. is_stuck_at at e ≡ true) h

-- a move of this moment that is never due, and was made
pub record IsHeld (at : ℕ) (e : Entry × End) : Type 0 where
  pub held : is_held e.0.act ≡ true
  pub now : e.0.at ≡ at
  pub done : e.1 ≡ Done

abbrev pub AreHeldBack : (at : ℕ) → History → Type 0
AreHeldBack at h = AllByRecursion (IsHeld at) h

-- due moves that were made, and then one entry that a disk fault kept off: fewer moves than so many
pub record EndsStuck (at most : ℕ) (h : History) : Type 0 where
  pub moves : History
  pub entry : Entry × End
  pub whole : h ≡ moves ++ entry ∷ []
  pub moved : AreMoved at moves
  pub fewer : length moves < most
  pub stuck : is_stuck_at at entry ≡ true

-- the entry is the act of a call of this number, which was answered so: a Ticked names 0, whoever ticks
pub record IsActFor (at number : ℕ) (c : Call) (answer : Turned) (e : Entry × End) : Type 0 where
  pub now : e.0.at ≡ at
  pub names : e.0.conn ≡ (if is_tick e.0.act then 0 else number)
  pub answers : Answers c e answer

-- a call made no act, or one by which it was answered
abbrev pub AreActsFor : (at number : ℕ) → Call → Turned → History → Type 0
AreActsFor at number c answer [] = HasNoAct c answer
AreActsFor at number c answer (e ∷ []) = IsActFor at number c answer e
AreActsFor at number c answer (e ∷ f ∷ h) = ⊥

-- what one turn of a number noted at its moment, for its call and its answer: no more than 64 due moves, unless a Stop was called for; and moves that
-- are never due only where something was to be sent
pub record IsLaid (at number : ℕ) (c : Call) (answer : Turned) (h : History) : Type 0 where
  pub moves : History
  pub stuck : History
  pub held : History
  pub acts : History
  pub whole : h ≡ (moves ++ stuck) ++ (held ++ acts)
  pub moved : AreMoved at moves
  pub most : (length (moves ++ stuck) ≤ most_moves) ⊎ (c ≡ call.Stop)
  pub is_stuck : AreStuck at stuck
  pub one : length stuck ≤ 1
  pub held_back : AreHeldBack at held
  pub sending : (held ≡ []) ⊎ (c ≡ call.Next)
  pub act : AreActsFor at number c answer acts

-- turns of a number, one after another
pub data AreTurns (number : ℕ) : History → Type 0 where
  none : AreTurns number []
  turn : {h k : History} (at : ℕ) (c : Call) (answer : Turned) → AreTurns number h → IsLaid at number c answer k → AreTurns number (h ++ k)
