-- What clauses see of the host that is the real machine. `F` and `D` are the types of the files and folders that its runtime opens.
use Rattle.std.specs.Prelude.{ℕ, ◌≡◌, Bool, [], false, IsSome}
use Rattle.std.specs.Option.{option_map_or}
use Rattle.broker_history.specs.declared.entry.Entry.{Entry}
use Rattle.nsq_outside.specs.Hosts.{DialerContent, HostContent, HostState}
use Rattle.nsq_outside.specs.declared.faults.Faults.{Faults}
use Rattle.nsq_system.specs.Listeners.{has_http}
use Rattle.nsq_system.specs.TcpDialers.{dial_faults_of as dial_faults_in}
use Rattle.nsq_system.specs.declared.forgetful.Forgetful.{Forgetful}
use Rattle.nsq_system.specs.declared.sys_clock.SysClock.{SysClock}
use Rattle.nsq_system.specs.declared.tcp_conn.TcpConn.{TcpConn}
use Rattle.nsqd_host.specs.declared.host.SysHost.{SysHost}

-- it doesn't tell what it was asked, gave, took back and was told
abbrev pub no_content : {N F D : Type 0} → SysHost N F D → HostContent TcpConn
no_content host = record { starts = []; coming = []; given = []; halted = false; back = []; printed = []; lines = [] }

-- it doesn't tell what was dialled
abbrev pub no_dials : {N F D : Type 0} → SysHost N F D → DialerContent
no_dials host = record { asked = []; linked = []; coming = [] }

-- its kit, and its counts of faults; callers get no threads
abbrev pub state_of : {N F D : Type 0} → SysHost N F D → HostState Faults (SysClock N) (Forgetful Entry)
state_of host = record { kit = host.kit; beside = false; accept_faults = host.accept_faults.count; print_faults = host.print_faults.count; tell_faults = host.tell_faults.count }

-- how often a dial failed
abbrev pub dial_faults_of : {N F D : Type 0} → SysHost N F D → ℕ
dial_faults_of host = dial_faults_in host.dialer

-- its kit is at home, and nothing failed yet
abbrev pub IsAtHome : {F C J : Type 0} → HostState F C J → Type 0
IsAtHome state = (IsSome state.kit) × (state.accept_faults ≡ 0) × (state.print_faults ≡ 0) × (state.tell_faults ≡ 0)

-- whether it listens for HTTP
abbrev pub hears_http : {N F D : Type 0} → SysHost N F D → Bool
hears_http host = option_map_or has_http host.listeners false
