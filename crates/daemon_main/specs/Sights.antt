-- What is seen of a run at a moment.
use Rattle.std.specs.Prelude.{ℕ, Bool, IsTrue, Option, IfSome, option_map}
use Rattle.nsq_outside.specs.Causes.{Rose}
use Rattle.nsq_outside.specs.Files.{Files}
use Rattle.nsq_outside.specs.Hosts.{HostContent, HostState}
use Rattle.nsq_outside.specs.declared.host.Kit.{Kit}
use Rattle.broker_history.specs.Entries.{History}

-- how often the folder failed, and of the host the listeners, standard output and standard error
pub record Counts : Type 0 where
  pub folder : ℕ
  pub accept : ℕ
  pub print : ℕ
  pub tell : ℕ

-- these counts of a folder and a host
abbrev pub counts_of : {F C J : Type 0} → (F → ℕ) → F → HostState F C J → Counts
counts_of faults folder state = record { folder = faults folder; accept = state.accept_faults; print = state.print_faults; tell = state.tell_faults }

-- neither the folder's count nor that of the listeners rose
pub record NoFault (old new : Counts) : Type 0 where
  pub folder : Rose old.folder new.folder → ⊥
  pub accept : Rose old.accept new.accept → ⊥

-- a kit and its host: the files, the readings of the clock to come, the history, the counts of faults, and what the host tells
pub record Sight (K : Type 0) : Type 0 where
  pub files : Files
  pub coming : ℕ → ℕ
  pub notes : History
  pub counts : Counts
  pub content : HostContent K

-- what is seen of this kit and this host
abbrev pub sight : {F C J K : Type 0} → (J → History) → (F → Files) → (C → ℕ → ℕ) → (F → ℕ) → Kit F C J → HostState F C J → HostContent K → Sight K
sight notes files coming faults kit state content =
    record { files = files kit.folder; coming = coming kit.clock; notes = notes kit.journal; counts = counts_of faults kit.folder state; content = content }

-- what is seen of a host and its kit, where that is at home
abbrev pub sight_of : {F C J K : Type 0} → (J → History) → (F → Files) → (C → ℕ → ℕ) → (F → ℕ) → HostState F C J → HostContent K → Option (Sight K)
sight_of notes files coming faults state content = option_map (λ kit. sight notes files coming faults kit state content) state.kit

-- both moments are seen, and this holds of what is seen
abbrev pub Both : {K : Type 0} → (old new : Option (Sight K)) → (Sight K → Sight K → Type 0) → Type 0
Both old new P = IfSome old (λ before. IfSome new (λ after. P before after))

-- host, connections, journal, folder and clock tell their content
pub record AllTold (tells tells_pieces tells_written tells_notes tells_files tells_readings : Bool) : Type 0 where
  pub host : IsTrue tells
  pub pieces : IsTrue tells_pieces
  pub written : IsTrue tells_written
  pub notes : IsTrue tells_notes
  pub files : IsTrue tells_files
  pub readings : IsTrue tells_readings
