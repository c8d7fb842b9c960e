-- What is written to a caller, whole or in part.
use Rattle.std.specs.Prelude.{◌≡◌, ◌⊎◌, ℕ, Bool, true, false, List, ◌++◌, take, Result, Ok, Err}
use Rattle.nsq_core.specs.declared.memory.Memory.{Memory as NoMemory}
use Rattle.nsq_outside.specs.Causes.{Rose}
use Rattle.http_calls.specs.declared.answer.HttpAnswer.{HttpAnswer}
use Rattle.http_calls.specs.declared.refusal.Refusal.TheVariants.{OutOfMemory}
use Rattle.http_calls.specs.Refusals.{refused_answer}
use Rattle.daemon_callers.specs.declared.http.ended.EndedHttp.{EndedHttp}
use Rattle.daemon_callers.specs.declared.http.ended.EndedHttp.TheVariants.{Answered, WriteFault, Memory}
use Rattle.daemon_callers.specs.Exchange.{written_of}

-- the bytes of the answer for want of memory
abbrev pub memory_bytes : List ℕ
memory_bytes = written_of (refused_answer OutOfMemory)

-- some of the first of these bytes were written
abbrev pub WritesFirst : (bytes written written' : List ℕ) → Type 0
WritesFirst bytes written written' = (count : ℕ) × (written' ≡ written ++ take count bytes)

-- all these bytes were written, or some of the first
abbrev pub WritesAll : (bytes written written' : List ℕ) → (all : Bool) → Type 0
WritesAll bytes written written' true = written' ≡ written ++ bytes
WritesAll bytes written written' false = WritesFirst bytes written written'

-- all these bytes were written, or a write failed
abbrev pub WritesUnlessFault : (bytes written written' : List ℕ) → (write_faults write_faults' : ℕ) → Type 0
WritesUnlessFault bytes written written' write_faults write_faults' = (written' ≡ written ++ bytes) ⊎ Rose write_faults write_faults'

-- an answer was written whole; or in part, or for want of memory the answer for that in part
abbrev pub Sends : HttpAnswer → (written written' : List ℕ) → EndedHttp → Type 0
Sends answer written written' Answered = written' ≡ written ++ written_of answer
Sends answer written written' WriteFault = WritesFirst (written_of answer) written written'
Sends answer written written' Memory = WritesFirst memory_bytes written written'
Sends answer written written' _ = ⊥

-- the same, where memory may have been wanting for the answer before
abbrev pub Finishes : Result HttpAnswer NoMemory → (written written' : List ℕ) → EndedHttp → Type 0
Finishes (Ok answer) written written' ended = Sends answer written written' ended
Finishes (Err e) written written' ended = (ended ≡ Memory) × WritesFirst memory_bytes written written'
