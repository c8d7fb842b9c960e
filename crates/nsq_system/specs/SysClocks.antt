-- What clauses see of the system's clock.
use Rattle.std.specs.Prelude.{ℕ}
use Rattle.nsq_system.specs.declared.sys_clock.SysClock.{SysClock}

-- its last reading, 0 where it gave none yet
abbrev pub last_of : {R : Type 0} → SysClock R → ℕ
last_of clock = clock.last
