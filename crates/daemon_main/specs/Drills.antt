-- What a drill did.
use Rattle.std.specs.Prelude.{◌≡◌, ◌⊎◌, ℕ, ◌+◌, false, List, [], ◌∷◌, ◌++◌, Some}
use Rattle.std.specs.List.{AllByRecursion}
use Rattle.nsq_fakes.specs.MemClocks.{coming_of}
use Rattle.nsq_fakes.specs.MemConns.{has_ended, left_of, pieces_of, read_faults_of, write_faults_of, written_of}
use Rattle.nsq_fakes.specs.MemFolders.{faults_of, files_in}
use Rattle.nsq_fakes.specs.MemHosts.{content_of, state_of}
use Rattle.nsq_fakes.specs.MemJournals.{notes_of}
use Rattle.nsq_fakes.specs.declared.conn.MemConn.{MemConn}
use Rattle.nsq_fakes.specs.declared.host.MemHost.{MemHost}
use Rattle.path_image.specs.Found.{Found, IsFound, Names}
use Rattle.broker_history.specs.declared.ended.Ended.TheVariants.{Memory}
use Rattle.broker_history.specs.declared.entry.Entry.{Entry}
use Rattle.broker_history.specs.Entries.{History}
use Rattle.daemon_callers.specs.Served.{IsServedTcp, Views, limits_of, views}
use Rattle.daemon_main.specs.Asked.{StartsOnce}
use Rattle.daemon_main.specs.Runs.{HasRun}
use Rattle.daemon_main.specs.Sights.{Sight, sight}
use Rattle.daemon_endings.specs.declared.serving.ServeEnd.TheVariants as end
use Rattle.drill_parts.specs.Callers.{publisher}
use Rattle.drill_parts.specs.Counting.{finished_in, published_in, sent_in}
use Rattle.drill_parts.specs.Draws.{publishes}
use Rattle.drill_parts.specs.Hosts.{IsDrillHost, MemKit, drill_options, stream_of}
use Rattle.drill_parts.specs.Left.{CountsAll, FindsMessages}
use Rattle.drill_parts.specs.declared.draws.Publish.{Publish}
use Rattle.daemon_main.specs.declared.drill_run.Drilled.{Drilled}

-- what is seen of a connection in memory
abbrev pub seen : Views MemConn
seen = views pieces_of left_of has_ended written_of read_faults_of write_faults_of

-- what is seen of a host in memory with this kit
abbrev pub seen_with : MemKit → MemHost Entry → Sight MemConn
seen_with kit host = sight notes_of files_in coming_of faults_of kit (state_of host) (content_of host)

-- no read and no write of a connection that was handed back failed
pub record NeverFailed (x : ℕ × MemConn) : Type 0 where
  pub reads : read_faults_of x.1 ≡ 0
  pub writes : write_faults_of x.1 ≡ 0

-- no count of a host in memory with this kit rose, from 0 on: neither the folder's nor those of the listeners, of standard output and of standard error, nor those of
-- the connections that were handed back
pub record IsFaultless (kit : MemKit) (host : MemHost Entry) : Type 0 where
  pub state : state_of host ≡ record { kit = Some kit; beside = false; accept_faults = 0; print_faults = 0; tell_faults = 0 }
  pub folder : faults_of kit.folder ≡ 0
  pub back : AllByRecursion NeverFailed (content_of host).back

-- a new host with the callers of a drill ran cleanly with its options, no count of it rose, and this is the host as the run left it
pub record HasRunDrill (all : List Publish) (host : MemHost Entry) : Type 0 where
  pub first : MemHost Entry
  pub is_first : IsDrillHost all first
  pub kit : MemKit
  pub faultless : IsFaultless kit host
  pub started : StartsOnce drill_options (content_of first) (content_of host)
  pub run : HasRun seen drill_options end.Clean (seen_with is_first.kit first) (seen_with kit host)

-- whichever way the connection that published, which was handed back under the number 1, is said to have been served: so many messages were published, or it ended by want
-- of memory
abbrev pub AcceptsAll : List Publish → MemHost Entry → History → (published count : ℕ) → Type 0
AcceptsAll all host notes published count =
    (before : List (ℕ × MemConn)) (conn : MemConn) (after : List (ℕ × MemConn)) → (content_of host).back ≡ before ++ (1, conn) ∷ after → (served : IsServedTcp seen (limits_of drill_options) notes 1 (stream_of (publisher all)) conn)
    → (published ≡ count) ⊎ (served.ended ≡ Memory)

-- the connection that published ended by want of memory: it was handed back under the number 1, and it was served so
pub record PublisherWants (all : List Publish) (host : MemHost Entry) (notes : History) : Type 0 where
  pub before : List (ℕ × MemConn)
  pub conn : MemConn
  pub after : List (ℕ × MemConn)
  pub place : (content_of host).back ≡ before ++ (1, conn) ∷ after
  pub served : IsServedTcp seen (limits_of drill_options) notes 1 (stream_of (publisher all)) conn
  pub memory : served.ended ≡ Memory

-- the numbers are those of what was noted in this kit's journal, and of what its folder has
pub record HasCounted (kit : MemKit) (drilled : Drilled) : Type 0 where
  pub published : drilled.published ≡ published_in (notes_of kit.journal)
  pub sent : drilled.sent ≡ sent_in (notes_of kit.journal)
  pub finished : drilled.finished ≡ finished_in (notes_of kit.journal)
  pub left : CountsAll (files_in kit.folder) drilled.left

-- an opening finds names in this kit's folder
abbrev pub HasNames : MemKit → Type 0
HasNames kit = (found : Found) × IsFound (files_in kit.folder) (Names found)

-- the drill of this seed with so many publishes was run, and these are its host and its numbers: how many messages were accepted, how many were sent and how many
-- FINs succeeded in its history, and how many messages an opening of its folder finds. No message is lost or doubled: those that were accepted were finished, or are left.
-- All callers were served. All that was to be published was accepted, unless the connection that published ended by want of memory
pub record HasDrilled (seed count : ℕ) (drilled : Drilled) : Type 0 where
  pub ran : HasRunDrill (publishes seed count) drilled.host
  pub all_served : (content_of drilled.host).coming ≡ []
  pub published : drilled.published ≡ published_in (notes_of ran.kit.journal)
  pub sent : drilled.sent ≡ sent_in (notes_of ran.kit.journal)
  pub finished : drilled.finished ≡ finished_in (notes_of ran.kit.journal)
  pub left : FindsMessages (files_in ran.kit.folder) drilled.left
  pub conserved : drilled.published ≡ drilled.finished + drilled.left
  pub counted : (drilled.published ≡ count) ⊎ PublisherWants (publishes seed count) drilled.host (notes_of ran.kit.journal)
  pub accepts : AcceptsAll (publishes seed count) drilled.host (notes_of ran.kit.journal) drilled.published count
