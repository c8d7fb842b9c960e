-- What a run of the daemon did, told by its kit and its host before and after.
use Rattle.std.specs.Prelude.{◌≡◌, ◌≢◌, ◌⊎◌, ℕ, ◌+◌, ◌≤◌, true, List, [], length}
use Rattle.nsq_base.specs.declared.options.Options.{Options}
use Rattle.nsq_outside.specs.Hosts.{HostContent}
use Rattle.nsq_outside.specs.declared.host.Kind.{Kind}
use Rattle.path_image.specs.Found.{Found, IsFound, Names}
use Rattle.broker_history.specs.Entries.{faults_apart, faults_of, has_stop, stops_of}
use Rattle.broker_history.specs.Found.{start}
use Rattle.broker_history.specs.Legal.{Legal}
use Rattle.broker_history.specs.Moments.{HasReadings, IsTimed, moment_of}
use Rattle.broker_history.specs.State.{State}
use Rattle.floor_laws.specs.Laws.{RoseBy}
use Rattle.broker_floor.specs.Opening.{FindsAgain, HaveBytes, OnlyOpeningFiles}
use Rattle.broker_floor.specs.Closings.{Leaves}
use Rattle.daemon_main.specs.Rounds.{IsHalted}
use Rattle.daemon_callers.specs.Served.{Views}
use Rattle.daemon_main.specs.Asked.{StartsOnce}
use Rattle.daemon_main.specs.Callers.{ServesAll, StopsAreCaused, StopsLast, HasCallersStop, numbers_of, one_to}
use Rattle.daemon_endings.specs.Endings.{status_of}
use Rattle.daemon_main.specs.Sights.{Sight}
use Rattle.daemon_endings.specs.declared.serving.ServeEnd.{ServeEnd}
use Rattle.daemon_endings.specs.declared.serving.ServeEnd.TheVariants as end

-- no caller was given or handed back, and whether anybody will call is as before
pub record NoCaller {K : Type 0} (old new : HostContent K) : Type 0 where
  pub coming : new.coming ≡ old.coming
  pub given : new.given ≡ old.given
  pub back : new.back ≡ old.back
  pub halted : new.halted ≡ old.halted

-- the history is legal, from the state that starts with what was found in the files and these options. Its moments are the greatest of the first readings of the
-- clock, of which one was the opening's and each turn made one
pub record TellsHistory {K : Type 0} (options : Options) (old new : Sight K) (to : State) : Type 0 where
  pub found : Found
  pub is_found : IsFound old.files (Names found)
  pub legal : Legal (start found options (moment_of old.coming 1)) new.notes to
  pub readings : ℕ
  pub timed : IsTimed old.coming 1 new.notes readings
  pub moments : (r : ℕ) × HasReadings old.coming 1 new.notes r × (r ≤ readings)
  pub ahead : (k : ℕ) → new.coming k ≡ old.coming (readings + k)

-- no more entries ended with a disk fault than the folder's count rose; where the run ended by a fault of the stop it rose by more than those of them that don't stand
-- just before the Stop
pub record CountsFaults {K : Type 0} (ended : ServeEnd) (old new : Sight K) : Type 0 where
  pub all : RoseBy (faults_of new.notes) old.counts.folder new.counts.folder
  pub at_stop : ended ≡ end.StopFault → RoseBy (faults_apart new.notes + 1) old.counts.folder new.counts.folder

-- the history has one Stop at most, and one but where memory was wanting; it has its cause. A clean end comes only where nobody will call any more, or as many
-- called as there are numbers, or a caller's Stop stands in the history. The daemon's own Stop stands behind the entries of all callers, and it has no other own entry
pub record Stops {K : Type 0} (seen : Views K) (options : Options) (began : ℕ) (callers : List (Kind × List ℕ)) (back : List (ℕ × K)) (ended : ServeEnd) (old new : Sight K) : Type 0 where
  pub once : stops_of new.notes ≤ 1
  pub there : ended ≢ end.Memory → has_stop new.notes ≡ true
  pub caused : StopsAreCaused seen options began callers back ended old.counts.accept new.counts.accept new.content new.notes
  pub clean : ended ≡ end.Clean → IsHalted (length callers) new.content ⊎ HasCallersStop new.notes
  pub last : StopsLast new.notes

-- the floor was shut cleanly
abbrev pub IsShut : ServeEnd → Type 0
IsShut ended = (ended ≡ end.Clean) ⊎ (ended ≡ end.AcceptFailed)

-- callers were served at a floor that was opened: it was shut cleanly, or the folder failed at the stop, or memory was wanting
pub record HasRun {K : Type 0} (seen : Views K) (options : Options) (ended : ServeEnd) (old new : Sight K) : Type 0 where
  pub to : State
  pub history : TellsHistory options old new to
  pub callers : ServesAll seen options (moment_of old.coming 1) new.notes old.content new.content
  pub in_turn : numbers_of callers.back ≡ one_to (length callers.callers)
  pub faults : CountsFaults ended old new
  pub stops : Stops seen options (moment_of old.coming 1) callers.callers callers.back ended old new
  pub ends : IsShut ended ⊎ ((ended ≡ end.StopFault) ⊎ (ended ≡ end.Memory))
  pub left : IsShut ended → Leaves to new.files
  pub others : OnlyOpeningFiles old.files new.files

-- the data path wasn't opened: the history is empty, no caller came, and an opening of the files finds what it would have found before, with the same epoch or the
-- next
pub record IsRefused {K : Type 0} (ended : ServeEnd) (old new : Sight K) : Type 0 where
  pub empty : new.notes ≡ []
  pub callers : NoCaller old.content new.content
  pub ends : (status_of ended ≡ 2) ⊎ (ended ≡ end.Memory)
  pub again : FindsAgain old.files new.files
  pub others : OnlyOpeningFiles old.files new.files

-- the host couldn't be started, or memory was wanting before: the kit wasn't used, and no caller came
pub record StayedHome {K : Type 0} (ended : ServeEnd) (old new : Sight K) : Type 0 where
  pub files : new.files ≡ old.files
  pub coming : new.coming ≡ old.coming
  pub notes : new.notes ≡ old.notes
  pub callers : NoCaller old.content new.content
  pub ends : (ended ≡ end.AcceptFailed) ⊎ (ended ≡ end.Memory)

-- the host was started, and the data path was refused, or opened and served
abbrev pub HasWorked : {K : Type 0} → Views K → Options → ServeEnd → (old new : Sight K) → Type 0
HasWorked seen options ended old new = IsRefused ended old new ⊎ HasRun seen options ended old new

-- what a run that serves does: it doesn't get to its kit; or the host is started with the addresses and the data path of the options, and the kit is used. The
-- entries of files are bytes, as those of all files are
abbrev pub Runs : {K : Type 0} → Views K → Options → ServeEnd → (old new : Sight K) → Type 0
Runs seen options ended old new = HaveBytes old.files → StayedHome ended old new ⊎ (StartsOnce options old.content new.content × HasWorked seen options ended old new)
