-- What clauses see of what opens TCP connections.
use Rattle.std.specs.Prelude.{ℕ, ◌≡◌, []}
use Rattle.nsq_outside.specs.Hosts.{DialerContent, IsFreshLink}
use Rattle.nsq_system.specs.TcpConns.{no_pieces, no_bytes, ended_of, read_faults_of, write_faults_of, kind_of, IsNewTcpConn}
use Rattle.nsq_outside.specs.declared.host.Dialled.{Dialled}
use Rattle.nsq_outside.specs.declared.host.Dialled.TheVariants.{Linked, Failed}
use Rattle.nsq_outside.specs.declared.host.Kind.TheVariants.{Tcp}
use Rattle.nsq_system.specs.declared.tcp_conn.TcpConn.{TcpConn}
use Rattle.nsq_system.specs.declared.tcp_dialer.TcpDialer.{TcpDialer}

-- how often a dial failed
abbrev pub dial_faults_of : {N : Type 0} → TcpDialer N → ℕ
dial_faults_of dialer = dialer.faults.count

-- a TCP dialer doesn't tell its content
abbrev pub no_content : {N : Type 0} → TcpDialer N → DialerContent
no_content dialer = record { asked = []; linked = []; coming = [] }

-- from a connection nothing was read yet, nothing was written, and it has no fault
abbrev pub IsFreshTcpLink : Dialled TcpConn → Type 0
IsFreshTcpLink link = IsFreshLink no_pieces ended_of no_bytes read_faults_of write_faults_of link

-- in a connection nothing is gathered, and it isn't broken
abbrev pub IsNewTcpLink : Dialled TcpConn → Type 0
IsNewTcpLink (Linked conn) = IsNewTcpConn conn
IsNewTcpLink Failed = Unit {0}

-- a connection speaks the TCP protocol
abbrev pub SpeaksTcp : Dialled TcpConn → Type 0
SpeaksTcp (Linked conn) = kind_of conn ≡ Tcp
SpeaksTcp Failed = Unit {0}
