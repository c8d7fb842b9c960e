-- What clauses see of a TCP connection.
use Rattle.std.specs.Prelude.{ℕ, ◌≡◌, ◌≢◌, ◌+◌, ◌≤◌, ◌<◌, ◌⊎◌, ◌++◌, List, [], length, Bool, true, false}
use Rattle.nsq_outside.specs.Causes.{CountsFault}
use Rattle.nsq_outside.specs.Hosts.{IsFresh}
use Rattle.nsq_system.specs.Frames.{EndsInError}
use Rattle.nsq_system.specs.Outboxes.{gathered_in, is_broken, faults_in}
use Rattle.nsq_outside.specs.declared.conn.Read.{Read}
use Rattle.nsq_outside.specs.declared.conn.Read.TheVariants.{Failed as NotRead}
use Rattle.nsq_outside.specs.declared.conn.Write.{Write}
use Rattle.nsq_outside.specs.declared.conn.Write.TheVariants.{Took, Failed}
use Rattle.nsq_outside.specs.declared.host.Kind.{Kind}
use Rattle.nsq_system.specs.declared.tcp_conn.TcpConn.{TcpConn}

-- whether a read answered that no byte will come any more
abbrev pub ended_of : TcpConn → Bool
ended_of conn = conn.ended

-- what it speaks
abbrev pub kind_of : TcpConn → Kind
kind_of conn = conn.kind

-- the bytes that were taken and aren't sent yet
abbrev pub gathered_of : TcpConn → List ℕ
gathered_of conn = gathered_in conn.outbox

-- whether a read or a send failed, after which nothing is read or sent any more
abbrev pub broken_of : TcpConn → Bool
broken_of conn = is_broken conn.outbox

-- how often a read failed
abbrev pub read_faults_of : TcpConn → ℕ
read_faults_of conn = conn.read_faults.count

-- how often a write failed
abbrev pub write_faults_of : TcpConn → ℕ
write_faults_of conn = faults_in conn.outbox

-- a TCP connection doesn't tell the pieces that were read
abbrev pub no_pieces : TcpConn → List (List ℕ)
no_pieces conn = []

-- a TCP connection doesn't tell the bytes that were written or are to come
abbrev pub no_bytes : TcpConn → List ℕ
no_bytes conn = []

-- nothing was read or written yet, and nothing failed
abbrev pub IsFreshTcpConn : TcpConn → Type 0
IsFreshTcpConn conn = IsFresh no_pieces ended_of no_bytes read_faults_of write_faults_of conn

-- where bytes were taken and the count of write faults rose nevertheless, the connection is broken
abbrev pub TookBreaks : TcpConn → TcpConn → Write → Type 0
TookBreaks old new (Took n) = write_faults_of old < write_faults_of new → broken_of new ≡ true
TookBreaks old new Failed = Unit {0}

-- bytes that were taken leave the connection broken only where they end in an error frame, which couldn't be sent
abbrev pub BreaksAtErrors : List ℕ → TcpConn → Write → Type 0
BreaksAtErrors from new (Took n) = broken_of new ≡ true → EndsInError from
BreaksAtErrors from new Failed = Unit {0}

-- a read first sends what was gathered. A part of that can't be sent, which is counted and breaks the connection; or no write failed, and
-- the connection is broken only where it was before or the read fails
abbrev pub SendsFirst : TcpConn → TcpConn → Read → Type 0
SendsFirst old new result =
    ((gathered_of old ≢ []) × CountsFault (write_faults_of old) (write_faults_of new) true × (broken_of new ≡ true))
    ⊎ (CountsFault (write_faults_of old) (write_faults_of new) false × (broken_of new ≡ true → (broken_of old ≡ true) ⊎ (result ≡ NotRead)))

-- nothing is gathered and nothing failed yet
abbrev pub IsNewTcpConn : TcpConn → Type 0
IsNewTcpConn conn = (gathered_of conn ≡ []) × (broken_of conn ≡ false)

-- what speaks the same, and stays broken once it is
abbrev pub IsSameConn : TcpConn → TcpConn → Type 0
IsSameConn old new = (kind_of new ≡ kind_of old) × (broken_of old ≡ true → broken_of new ≡ true)
