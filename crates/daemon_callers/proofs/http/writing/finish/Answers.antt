use Rattle.std.proofs.Common.{Result, IfOk, subst}
use Rattle.nsq_core.specs.declared.memory.Memory.{Memory as NoMemory}
use Rattle.http_wire.specs.Answer.{IsStatus}
use Rattle.http_calls.specs.declared.answer.HttpAnswer.{HttpAnswer}
use Rattle.daemon_callers.proofs.WriteLemmas.{given_up_cause}
use Rattle.daemon_callers.proofs.http.writing.finish.Goals as goal

pub send-requires-clause-status : goal.send-requires-clause-status
send-requires-clause-status g c = λ κs lives. subst (λ (x : Result HttpAnswer NoMemory). IfOk x (λ a. IsStatus a.status)) c.in-Ok.is c.requires.status

pub returns-in-Ok : goal.returns-in-Ok
returns-in-Ok g c =
    let did = c.send.ensures in
    record {
      told = λ told. rw c.in-Ok.is (did.told told);
      warned = did.warned;
      cause = did.cause;
      write_faults = did.write_faults;
      read_faults = did.read_faults;
      pieces = did.pieces;
      left = did.left;
    }

pub returns-in-Err : goal.returns-in-Err
returns-in-Err g c =
    let up = c.give_up.ensures in
    record {
      told = λ told. rw c.in-Err.is (up.memory, up.told told);
      warned = up.warned;
      cause = given_up_cause c.give_up.result _ _ _ _ _ up.memory;
      write_faults = up.write_faults;
      read_faults = up.read_faults;
      pieces = up.pieces;
      left = up.left;
    }
