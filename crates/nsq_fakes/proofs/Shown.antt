-- What holds of each fake in memory, whatever was called.
use Rattle.std.proofs.Common.{◌≡◌, [], map, ap, true}
use Rattle.nsq_fakes.specs.MemConns.{left_of, has_ended}
use Rattle.nsq_fakes.specs.MemHosts.{content_of}
use Rattle.nsq_fakes.specs.declared.conn.MemConn.{MemConn}
use Rattle.nsq_fakes.specs.declared.host.MemHost.{MemHost}

-- a connection whose end was read has no byte to give
pub nothing_left : (conn : MemConn) → has_ended conn ≡ true → left_of conn ≡ []
nothing_left conn ended = conn.at_end ended

-- once a host has said that nobody will call any more, nobody is to come
pub nobody_to_come : {E : Type 0} (host : MemHost E) → (content_of host).halted ≡ true → (content_of host).coming ≡ []
nobody_to_come host halted = ap (λ callers. map (λ caller. (caller.0, left_of caller.1)) callers) (host.at_halt halted)
