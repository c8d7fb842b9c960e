-- The host of a drill before its run.
use Rattle.std.specs.Prelude.{◌≡◌, ℕ, false, List, [], ◌∷◌, ◌++◌, map, None, Some}
use Rattle.nsq_base.specs.Options.{default_options}
use Rattle.nsq_base.specs.declared.options.Options.{Options}
use Rattle.nsq_outside.specs.declared.host.Kind.{Kind}
use Rattle.nsq_outside.specs.declared.host.Kind.TheVariants.{Tcp}
use Rattle.nsq_outside.specs.declared.host.Kit.{Kit}
use Rattle.nsq_fakes.specs.MemClocks.{coming_of}
use Rattle.nsq_fakes.specs.MemConns.{FailsAtCalls, IsToGive, left_of}
use Rattle.nsq_fakes.specs.MemFolders.{fails_of, faults_of, files_in}
use Rattle.nsq_fakes.specs.MemHosts.{FailsAtHostCalls, callers_of, content_of, state_of}
use Rattle.nsq_fakes.specs.MemJournals.{notes_of}
use Rattle.nsq_fakes.specs.Pieces.{bytes_to_come}
use Rattle.nsq_fakes.specs.declared.clock.MemClock.{MemClock}
use Rattle.nsq_fakes.specs.declared.conn.MemConn.{MemConn}
use Rattle.nsq_fakes.specs.declared.folder.MemFolder.{MemFolder}
use Rattle.nsq_fakes.specs.declared.host.MemHost.{MemHost}
use Rattle.nsq_fakes.specs.declared.journal.MemJournal.{MemJournal}
use Rattle.nsq_fakes.specs.declared.script.Piece.TheVariants.{Bytes}
use Rattle.path_image.specs.Found.{Pairwise}
use Rattle.broker_history.specs.declared.entry.Entry.{Entry}
use Rattle.drill_parts.specs.Callers.{senders}
use Rattle.drill_parts.specs.declared.draws.Publish.{Publish}

-- the options of a drill: the defaults, but that 100 messages of a topic or a channel are kept in memory
abbrev pub drill_options : Options
drill_options = record default_options { mem_queue_size = 100 }

-- the bytes of a sender's pieces, as a connection in memory gives them
abbrev pub stream_of : List (List ℕ) → List ℕ
stream_of pieces = bytes_to_come (map (λ piece. Bytes piece) pieces)

-- a caller whose connection gives these pieces, one a read, and at which nothing is to fail
pub record Sends (pieces : List (List ℕ)) (caller : Kind × MemConn) : Type 0 where
  pub kind : caller.0 ≡ Tcp
  pub gives : IsToGive (map (λ piece. Bytes piece) pieces) caller.1
  pub stream : left_of caller.1 ≡ stream_of pieces
  pub fails : FailsAtCalls [] [] caller.1

-- one more caller joined them at the end, which sends these pieces
pub record AddsSender (pieces : List (List ℕ)) (old new : List (Kind × MemConn)) : Type 0 where
  pub caller : Kind × MemConn
  pub sends : Sends pieces caller
  pub is : new ≡ old ++ caller ∷ []

-- what stands under a host in memory
abbrev pub MemKit : Type 0
MemKit = Kit MemFolder MemClock (MemJournal Entry)

-- a kit as it is new: its folder is empty, and no call on it is to fail; its clock shows 0 whenever it is read
pub record IsNewKit (kit : MemKit) : Type 0 where
  pub files : (name : List ℕ) → files_in kit.folder name ≡ None
  pub fails : fails_of kit.folder ≡ []
  pub faults : faults_of kit.folder ≡ 0
  pub readings : (n : ℕ) → coming_of kit.clock n ≡ 0
  pub notes : notes_of kit.journal ≡ []

-- a host as it is new, with the callers of a drill with these publishes, and no call on it is to fail
pub record IsDrillHost (publishes : List Publish) (host : MemHost Entry) : Type 0 where
  pub kit : MemKit
  pub is_new : IsNewKit kit
  pub state : state_of host ≡ record { kit = Some kit; beside = false; accept_faults = 0; print_faults = 0; tell_faults = 0 }
  pub fails : FailsAtHostCalls [] [] [] host
  pub callers : Pairwise Sends (senders publishes) (callers_of host)
  pub content : content_of host ≡ record { starts = []; coming = map (λ (pieces : List (List ℕ)). (Tcp, stream_of pieces)) (senders publishes); given = []; halted = false; back = []; printed = []; lines = [] }
