-- What a connection in memory holds.
use Rattle.std.proofs.Common.{◌≡◌, ℕ, [], true, ap}
use Rattle.std.proofs.Props.{props}
use Rattle.std.specs.Global.{Vec}
use Rattle.nsq_fakes.specs.Scripts.{to_come}
use Rattle.nsq_fakes.specs.declared.calls.Calls.{Calls}
use Rattle.nsq_fakes.specs.declared.conn.MemConn.{MemConn}

-- two connections of the same fields are the same, whatever shows their end
pub same_conn : (conn : MemConn) (written : Vec ℕ) (writes : Calls) (at_end : conn.ended ≡ true → to_come conn.script ≡ []) → record conn { written = written; writes = writes; at_end = at_end } ≡ record conn { written = written; writes = writes }
same_conn conn written writes at_end =
    let only : IsProp (conn.ended ≡ true → to_come conn.script ≡ []) = hlevel props in
    ap (λ (shown : conn.ended ≡ true → to_come conn.script ≡ []). record conn { written = written; writes = writes; at_end = shown }) (only at_end conn.at_end)
