-- What a channel of the program keeps changes as the state's channel does: each row over what is kept, which has the live copies alone, is that row
-- over the state's copies, and what is kept afterwards is what the state's channel comes to.
use Rattle.std.specs.Prelude.{◌≡◌, ◌<◌, ℕ, Bool, ◌&&◌, List, [], count_by}
use Rattle.std.specs.Str.{bytes_eq}
use Rattle.v2_frame.specs.declared.message.Message.{Message}
use Rattle.broker_history.specs.State.{Copy, Channel, is_in_flight, is_deferred, is_due}
use Rattle.broker_history.specs.Channels.{Room, Moves, MovesLive, Joins, JoinsLive, AsOften, IsKept, Sends, Finishes, Touches, GivesBack, TimesOut, ComesDue, HoldsBack, Gets, emptied_all}

-- the state's channel changes by the row, and this is kept of it then
pub record Lifts (Row : Channel → Channel → Type 0) (kept k : Channel) : Type 0 where
  pub to : Channel
  pub row : Row k to
  pub is_kept : IsKept kept to

-- a row over what is kept is that row over the state's copies
abbrev pub Lift : (Live Row : Channel → Channel → Type 0) → Type 0
Lift Live Row = (kept kept' k : Channel) → IsKept kept k → Live kept kept' → Lifts Row kept' k

abbrev pub SendsLift : Type 0
SendsLift = (client at timeout : ℕ) (m : Message) → Lift (Sends MovesLive client at timeout m) (Sends Moves client at timeout m)

abbrev pub FinishesLift : Type 0
FinishesLift = (client : ℕ) (id : List ℕ) → Lift (Finishes MovesLive client id) (Finishes Moves client id)

abbrev pub TouchesLift : Type 0
TouchesLift = (client : ℕ) (id : List ℕ) (at timeout most : ℕ) → Lift (Touches MovesLive client id at timeout most) (Touches Moves client id at timeout most)

abbrev pub GivesBackLift : Type 0
GivesBackLift = (room : Room) (client : ℕ) (id : List ℕ) (at delay : ℕ) → Lift (GivesBack MovesLive room client id at delay) (GivesBack Moves room client id at delay)

abbrev pub TimesOutLift : Type 0
TimesOutLift = (room : Room) (id : List ℕ) (at : ℕ) → Lift (TimesOut MovesLive room id at) (TimesOut Moves room id at)

abbrev pub ComesDueLift : Type 0
ComesDueLift = (room : Room) (id : List ℕ) (at : ℕ) → Lift (ComesDue MovesLive room id at) (ComesDue Moves room id at)

abbrev pub HoldsBackLift : Type 0
HoldsBackLift = (id : List ℕ) (until : ℕ) → Lift (HoldsBack MovesLive id until) (HoldsBack Moves id until)

abbrev pub GetsLift : Type 0
GetsLift = (room : Room) (at : ℕ) (m : Message) → Lift (Gets JoinsLive room at m) (Gets Joins room at m)

-- where what is kept has each copy as often and is else the same, it is kept of the same channel still
abbrev pub SameIsKept : Type 0
SameIsKept = (kept kept' k : Channel) → IsKept kept k → AsOften kept.copies kept'.copies → kept' ≡ record kept { copies = kept'.copies } → IsKept kept' k

-- a channel as it is made keeps what the state's does
abbrev pub NewIsKept : Type 0
NewIsKept = (k : Channel) → k.copies ≡ [] → IsKept k k

-- so does one that keeps no copy, once the state's was emptied
abbrev pub EmptiedIsKept : Type 0
EmptiedIsKept = (kept kept' k : Channel) → IsKept kept k → kept' ≡ record kept { copies = [] } → IsKept kept' (record k { copies = emptied_all k.copies })

-- and one that is paused, or not any more
abbrev pub PausedIsKept : Type 0
PausedIsKept = (on : Bool) (kept k : Channel) → IsKept kept k → IsKept (record kept { paused = on }) (record k { paused = on })

-- how many copies of an id are in flight, or deferred, and due at a moment
abbrev pub flying_due : (at : ℕ) → (id : List ℕ) → List Copy → ℕ
flying_due at id copies = count_by (λ x. (is_in_flight x.place && is_due at x.place) && bytes_eq id x.message.id) copies

abbrev pub deferred_due : (at : ℕ) → (id : List ℕ) → List Copy → ℕ
deferred_due at id copies = count_by (λ x. (is_deferred x.place && is_due at x.place) && bytes_eq id x.message.id) copies

-- the row leads somewhere
pub record Leads (Row : Channel → Channel → Type 0) (k : Channel) : Type 0 where
  pub to : Channel
  pub row : Row k to

-- where what is kept has a copy that is due, the state's channel can let it time out, or come due
abbrev pub DueCanMove : Type 0
DueCanMove = (room : Room) (id : List ℕ) (at : ℕ) (kept k : Channel) → IsKept kept k → 0 < flying_due at id kept.copies → Leads (TimesOut Moves room id at) k

abbrev pub DueCanCome : Type 0
DueCanCome = (room : Room) (id : List ℕ) (at : ℕ) (kept k : Channel) → IsKept kept k → 0 < deferred_due at id kept.copies → Leads (ComesDue Moves room id at) k

-- a copy can always join
abbrev pub AnyCanJoin : Type 0
AnyCanJoin = (room : Room) (at : ℕ) (m : Message) (k : Channel) → Leads (Gets Joins room at m) k
