-- What clauses see of the listeners.
use Rattle.std.specs.Prelude.{ℕ, ◌≡◌, Bool, true, is_some}
use Rattle.nsq_outside.specs.Hosts.{IsFreshCaller}
use Rattle.nsq_system.specs.TcpConns.{no_pieces, no_bytes, ended_of, read_faults_of, write_faults_of, kind_of, IsNewTcpConn}
use Rattle.nsq_outside.specs.declared.host.Kind.{Kind}
use Rattle.nsq_outside.specs.declared.host.Kind.TheVariants.{Http, Tcp}
use Rattle.nsq_outside.specs.declared.host.Accept.{Accept}
use Rattle.nsq_outside.specs.declared.host.Accept.TheVariants.{Caller, Nothing, Halt, Failed}
use Rattle.nsq_system.specs.declared.tcp_conn.TcpConn.{TcpConn}
use Rattle.nsq_system.specs.declared.listeners.Listeners.{Listeners}
use Rattle.nsq_system.specs.declared.listeners.Tried.{Tried}
use Rattle.nsq_system.specs.declared.listeners.Tried.TheVariants.{Stream, Nobody, Shortage, Broken}

-- how often an accept failed
abbrev pub accept_faults_of : {N : Type 0} → Listeners N → ℕ
accept_faults_of listeners = listeners.faults.count

-- from a caller's connection nothing was read yet, nothing was written, and it has no fault
abbrev pub IsFreshTcpCaller : Accept TcpConn → Type 0
IsFreshTcpCaller accept = IsFreshCaller no_pieces ended_of no_bytes read_faults_of write_faults_of accept

-- in a caller's connection nothing is gathered, and it isn't broken
abbrev pub IsNewTcpCaller : Accept TcpConn → Type 0
IsNewTcpCaller (Caller kind conn) = IsNewTcpConn conn
IsNewTcpCaller Nothing = Unit {0}
IsNewTcpCaller Halt = Unit {0}
IsNewTcpCaller Failed = Unit {0}

-- a caller's connection speaks what is told with it
abbrev pub Speaks : Accept TcpConn → Type 0
Speaks (Caller kind conn) = kind_of conn ≡ kind
Speaks Nothing = Unit {0}
Speaks Halt = Unit {0}
Speaks Failed = Unit {0}

-- callers may still come
abbrev pub GoesOn : Accept TcpConn → Type 0
GoesOn (Caller kind conn) = Unit {0}
GoesOn Nothing = Unit {0}
GoesOn Halt = ⊥
GoesOn Failed = Unit {0}

-- whether there is a listener for HTTP
abbrev pub has_http : {N : Type 0} → Listeners N → Bool
has_http listeners = is_some listeners.http

-- a caller of HTTP comes only where there is a listener for it
abbrev pub IsHeard : Bool → Accept TcpConn → Type 0
IsHeard http (Caller kind conn) = kind ≡ Http → http ≡ true
IsHeard http Nothing = Unit {0}
IsHeard http Halt = Unit {0}
IsHeard http Failed = Unit {0}

-- and so does such a caller's stream
abbrev pub IsHeardStream : Bool → Tried → Type 0
IsHeardStream http (Stream kind stream) = kind ≡ Http → http ≡ true
IsHeardStream http Nobody = Unit {0}
IsHeardStream http Shortage = Unit {0}
IsHeardStream http Broken = Unit {0}

-- a stream is of this kind
abbrev pub IsOfKind : Kind → Tried → Type 0
IsOfKind here (Stream kind stream) = kind ≡ here
IsOfKind here Nobody = Unit {0}
IsOfKind here Shortage = Unit {0}
IsOfKind here Broken = Unit {0}

-- the kind of caller that is looked for first behind this: the other one than that of a caller, and where none came the same as before
abbrev pub kind_behind : Kind → Tried → Kind
kind_behind first (Stream Tcp stream) = Http
kind_behind first (Stream Http stream) = Tcp
kind_behind first Nobody = first
kind_behind first Shortage = first
kind_behind first Broken = first

-- behind a caller the other kind is looked for first; where the listeners failed, the same as before
abbrev pub TakesTurns : Kind → Kind → Accept TcpConn → Type 0
TakesTurns old new (Caller Tcp conn) = new ≡ Http
TakesTurns old new (Caller Http conn) = new ≡ Tcp
TakesTurns old new Nothing = Unit {0}
TakesTurns old new Halt = Unit {0}
TakesTurns old new Failed = new ≡ old
