-- What a host in memory shows.
use Rattle.std.specs.Prelude.{ℕ, ◌≡◌, ◌<◌, List, [], drop, map, length, IsSomeAnd, slice_get, true}
use Rattle.nsq_outside.specs.Hosts.{DialerContent, HostContent, HostState, IsFreshCaller}
use Rattle.nsq_fakes.specs.MemConns.{left_of, has_ended, pieces_of, written_of, read_faults_of, write_faults_of, IsRestarted}
use Rattle.nsq_fakes.specs.MemCalls.{FailsAt, IsFailing, Counts}
use Rattle.nsq_fakes.specs.MemDialers.{dialled_of}
use Rattle.nsq_outside.specs.Causes.{CountsFault}
use Rattle.nsq_outside.specs.declared.did.Did.{Did}
use Rattle.nsq_outside.specs.declared.did.Did.TheVariants.{Failed as NotDone}
use Rattle.nsq_outside.specs.declared.host.Kind.{Kind}
use Rattle.nsq_outside.specs.declared.host.Accept.{Accept}
use Rattle.nsq_outside.specs.declared.host.Accept.TheVariants.{Caller, Nothing, Halt, Failed}
use Rattle.nsq_fakes.specs.declared.calls.Calls.{Calls}
use Rattle.nsq_fakes.specs.declared.clock.MemClock.{MemClock}
use Rattle.nsq_fakes.specs.declared.conn.MemConn.{MemConn}
use Rattle.nsq_fakes.specs.declared.folder.MemFolder.{MemFolder}
use Rattle.nsq_fakes.specs.declared.journal.MemJournal.{MemJournal}
use Rattle.nsq_fakes.specs.declared.host.MemHost.{MemHost}

-- what it was asked, gave, took back and was told
abbrev pub content_of : {E : Type 0} → MemHost E → HostContent MemConn
content_of host = record {
  starts = host.starts.items;
  coming = map (λ caller. (caller.0, left_of caller.1)) host.callers.items;
  given = host.given.items;
  halted = host.halted;
  back = host.back.items;
  printed = host.printed.items;
  lines = map (λ line. line.items) host.lines.items;
}

-- its kit, whether callers get threads, and its counts of faults
abbrev pub state_of : {E : Type 0} → MemHost E → HostState MemFolder MemClock (MemJournal E)
state_of host = record { kit = host.kit; beside = host.beside; accept_faults = host.accepts.faults.count; print_faults = host.prints.faults.count; tell_faults = host.tells.faults.count }

-- what was dialled, and what the connections to come will send
abbrev pub dials_of : {E : Type 0} → MemHost E → DialerContent
dials_of host = dialled_of host.dialer

-- how often a dial failed
abbrev pub dial_faults_of : {E : Type 0} → MemHost E → ℕ
dial_faults_of host = host.dialer.faults.count

-- a connection that it gives to a caller is unused
abbrev pub IsUnusedCaller : Accept MemConn → Type 0
IsUnusedCaller result = IsFreshCaller pieces_of has_ended written_of read_faults_of write_faults_of result

-- of the callers to come it gives the next one or fails; nobody will call any more exactly where none is to come
abbrev pub AnswersAtOnce : {K : Type 0} → List (Kind × List ℕ) → Accept K → Type 0
AnswersAtOnce coming (Caller kind conn) = 0 < length coming
AnswersAtOnce coming Nothing = ⊥
AnswersAtOnce coming Halt = coming ≡ []
AnswersAtOnce coming Failed = 0 < length coming

-- the callers to come, with their connections
abbrev pub callers_of : {E : Type 0} → MemHost E → List (Kind × MemConn)
callers_of host = host.callers.items

-- the connections that dials will give
abbrev pub to_link_of : {E : Type 0} → MemHost E → List MemConn
to_link_of host = host.dialer.coming.items

-- the accepts and starts, which are counted together: which of them fail, and how many came and failed
abbrev pub accepts_of : {E : Type 0} → MemHost E → Calls
accepts_of host = host.accepts

-- the prints: which of them fail, and how many came and failed
abbrev pub prints_of : {E : Type 0} → MemHost E → Calls
prints_of host = host.prints

-- the lines to be told: which of them fail, and how many came and failed
abbrev pub tells_of : {E : Type 0} → MemHost E → Calls
tells_of host = host.tells

-- no call is counted yet, and the accepts and starts, the prints and the tells of these numbers fail
pub record FailsAtHostCalls {E : Type 0} (accepts prints tells : List ℕ) (host : MemHost E) : Type 0 where
  pub at_accepts : FailsAt accepts (accepts_of host)
  pub at_prints : FailsAt prints (prints_of host)
  pub at_tells : FailsAt tells (tells_of host)

-- no call was counted and no fault, and the same ones fail
pub record KeepsCalls {E : Type 0} (old new : MemHost E) : Type 0 where
  pub accepts : accepts_of new ≡ accepts_of old
  pub prints : prints_of new ≡ prints_of old
  pub tells : tells_of new ≡ tells_of old

-- a start is counted, and fails where its number is listed
pub record CountsStart {E : Type 0} (old new : MemHost E) (result : Did) : Type 0 where
  pub counted : Counts (accepts_of old) (accepts_of new)
  pub failing : IsFailing (accepts_of old) → result ≡ NotDone
  pub prints : prints_of new ≡ prints_of old
  pub tells : tells_of new ≡ tells_of old

-- while callers are to come an accept is counted, and fails where its number is listed; once none is, it isn't counted
pub record CountsAccept {E : Type 0} (old new : MemHost E) (result : Accept MemConn) : Type 0 where
  pub counted : 0 < length (callers_of old) → Counts (accepts_of old) (accepts_of new)
  pub failing : 0 < length (callers_of old) → IsFailing (accepts_of old) → result ≡ Failed
  pub over : callers_of old ≡ [] → accepts_of new ≡ accepts_of old
  pub prints : prints_of new ≡ prints_of old
  pub tells : tells_of new ≡ tells_of old

-- a print is counted, and fails where its number is listed
pub record CountsPrint {E : Type 0} (old new : MemHost E) (result : Did) : Type 0 where
  pub counted : Counts (prints_of old) (prints_of new)
  pub failing : IsFailing (prints_of old) → result ≡ NotDone
  pub accepts : accepts_of new ≡ accepts_of old
  pub tells : tells_of new ≡ tells_of old

-- a line to be told is counted, and where its number is listed it isn't told, and its fault is counted
pub record CountsTell {E : Type 0} (old new : MemHost E) : Type 0 where
  pub counted : Counts (tells_of old) (tells_of new)
  pub untold : IsFailing (tells_of old) → content_of new ≡ content_of old
  pub failing : IsFailing (tells_of old) → CountsFault (tells_of old).faults.count (tells_of new).faults.count true
  pub accepts : accepts_of new ≡ accepts_of old
  pub prints : prints_of new ≡ prints_of old

-- the first of the callers to come is given, its connection restarted, and the others are still to come; or all are
abbrev pub GivesFirst : List (Kind × MemConn) → List (Kind × MemConn) → Accept MemConn → Type 0
GivesFirst old new (Caller kind conn) = IsSomeAnd (slice_get old 0) (λ first. (first.0 ≡ kind) × IsRestarted first.1 conn) × (new ≡ drop 1 old)
GivesFirst old new Nothing = new ≡ old
GivesFirst old new Halt = new ≡ old
GivesFirst old new Failed = new ≡ old
