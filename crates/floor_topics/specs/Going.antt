-- What a deletion makes of a state, and when it fails.
use Rattle.std.specs.Prelude.{◌≡◌, ℕ, Bool, true, List}
use Rattle.nsq_outside.specs.Causes.{Rose}
use Rattle.broker_history.specs.State.{State}
use Rattle.broker_history.specs.Changes.{without_topic}
use Rattle.floor_rooms.specs.declared.room.Room.{Room}
use Rattle.floor_rooms.specs.Rooms.{without_room}
use Rattle.floor_rooms.specs.Changes.{KeepsRooms}
use Rattle.floor_topics.specs.declared.lost.Lost.{Lost}
use Rattle.floor_topics.specs.declared.lost.Lost.TheVariants.{Done, Fault}

-- the topic of this name goes from the state, or all stays as it was
abbrev pub DropsTopic : Lost → (topic : List ℕ) → State → State → Type 0
DropsTopic Done topic s t = t ≡ without_topic s topic
DropsTopic Fault topic s t = t ≡ s

-- so it goes from the hall, where else nothing changes but marks
abbrev pub DropsRoom : Lost → (at : ℕ) → (topic : List ℕ) → (old new : List Room) → Type 0
DropsRoom Done at topic old new = new ≡ without_room old topic
DropsRoom Fault at topic old new = KeepsRooms at old new

-- a fault comes only with a rise
abbrev pub LostFails : (before now : ℕ) → Lost → Type 0
LostFails before now Done = Unit {0}
LostFails before now Fault = Rose before now

-- with a durable topic durable names changed, which are unsaved from then on
abbrev pub UnsavedBy : Lost → (old new : Bool) → Type 0
UnsavedBy Done old new = new ≡ true
UnsavedBy Fault old new = new ≡ old
