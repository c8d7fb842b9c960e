-- What is due of a channel, and what becomes of the channel as it is put back.
use Rattle.std.specs.Prelude.{◌≡◌, ℕ, Bool, true, false, IsTrue, List, Some, if◌then◌else◌}
use Rattle.nsq_outside.specs.Causes.{Rose}
use Rattle.nsq_outside.specs.Files.{Files}
use Rattle.v2_frame.specs.declared.message.Message.{Message}
use Rattle.backlog.specs.Lists.{OnDisk}
use Rattle.broker_history.specs.declared.entry.Act.{Act}
use Rattle.broker_history.specs.declared.entry.Act.TheVariants.{TimedOut, CameDue}
use Rattle.broker_history.specs.State.{State}
use Rattle.broker_history.specs.Step.{DoesMove, IsMoveDue}
use Rattle.channel_copies.specs.Putting.{KeepsDisk, around}
use Rattle.channel_core.specs.Moves.{MovesDue, MoveFails, IsTold, due_in}
use Rattle.channel_core.specs.declared.answers.Moved.{Moved}
use Rattle.channel_core.specs.declared.answers.Moved.TheVariants as moved
use Rattle.floor_rooms.specs.declared.stall.Stall.{Stall}
use Rattle.floor_rooms.specs.declared.hall.Hall.{Hall}
use Rattle.floor_rooms.specs.Rooms.{channel_name, topic_name}
use Rattle.floor_rooms.specs.Standing.{Carries, HoldsFor}
use Rattle.floor_moves.specs.declared.due.Place.{Place}
use Rattle.floor_moves.specs.declared.moving.Due.{Due}
use Rattle.floor_moves.specs.declared.made.Made.{Made}
use Rattle.floor_moves.specs.Due.{HasStallAt}
use Rattle.floor_moves.specs.Moves.{Sight, Moves}

-- the move of what is due
abbrev pub act_of : Due → Act
act_of due = if due.flies then TimedOut due.topic due.channel due.id else CameDue due.topic due.channel due.id

-- the channel of that name has this copy to move first
pub record IsFirstDue (now : ℕ) (due : Due) (s : Stall) : Type 0 where
  pub named : due.channel ≡ channel_name s
  pub first : due_in now s.channel ≡ Some (due.id, due.flies)

-- so has the channel at a place, of the topic of that name
pub record IsDueAt (h : Hall) (place : Place) (due : Due) : Type 0 where
  pub at : HasStallAt place.room place.stall (IsFirstDue h.moment due) h.rooms.items
  pub topic : due.topic ≡ topic_name at.room

-- the move of what is due first at a place ended so
pub record MovesFirst (tells_notes tells_files : Bool) (place : Place) (old new : Sight) (answer : Made) : Type 0 where
  pub due : Due
  pub first : IsDueAt old.hall place due
  pub moves : Moves tells_notes tells_files (act_of due) old new answer

-- what one call of `move_due` made of a channel, of the folder's files and of its count of faults
pub record MovesStall (tells : Bool) (now : ℕ) (answer : Moved) (old new : Files) (before after : ℕ) (a b : Stall) : Type 0 where
  pub told : IsTold (due_in now a.channel) answer
  pub row : IsTrue tells → (disk : List Message) → OnDisk a.channel.backlog.queue old disk → MovesDue now a.channel disk b.channel new answer
  pub rest : b.channel ≡ record a.channel { timeout_count = b.channel.timeout_count; backlog = b.channel.backlog; flights = b.channel.flights; deferred = b.channel.deferred; spare = b.channel.spare; deferred_spare = b.channel.deferred_spare }
  pub disk : KeepsDisk tells (around a.channel.backlog old before) (around b.channel.backlog new after)
  pub cause : MoveFails before after answer
  pub same : b ≡ record a { channel = b.channel }

-- whether a copy was put back
abbrev pub is_done : Moved → Bool
is_done (moved.TimedOut id) = true
is_done (moved.CameDue id) = true
is_done (moved.Fault id) = false
is_done moved.Nothing = true

-- the move was made of each state that the hall stood for; or it could have been made, and the hall stands for the same state
abbrev pub PutsDue : (now : ℕ) → Act → (h : Hall) → (old : Files) → (h' : Hall) → (new : Files) → (done : Bool) → Type 0
PutsDue now act h old h' new true = Carries h old h' new (λ s t. DoesMove s now act t)
PutsDue now act h old h' new false = (s : State) → HoldsFor h old s → IsMoveDue s now act × HoldsFor h' new s

-- a fault comes only with a rise
abbrev pub PutFails : (before after : ℕ) → (done : Bool) → Type 0
PutFails before after true = Unit {0}
PutFails before after false = Rose before after
