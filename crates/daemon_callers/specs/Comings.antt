-- What the reading of a request comes to.
use Rattle.std.specs.Prelude.{◌≡◌, ◌≢◌, ℕ, Bool, true, false, List, [], Option, Some, None}
use Rattle.nsq_base.specs.declared.options.Options.{Options}
use Rattle.broker_history.specs.Entries.{History, own}
use Rattle.broker_history.specs.Talk.{bytes_of}
use Rattle.http_wire.specs.Request.{Outcome, Unfinished, IsRequest}
use Rattle.http_wire.specs.Request as request
use Rattle.http_wire.specs.Reading.{Fed}
use Rattle.http_calls.specs.declared.refusal.Refusal.{Refusal}
use Rattle.daemon_callers.specs.declared.http.ended.EndedHttp.{EndedHttp}
use Rattle.daemon_callers.specs.declared.http.ended.EndedHttp.TheVariants.{EndOfInput, Cut, Memory as OutOfMemory}
use Rattle.daemon_callers.specs.Exchange.{AreRead, refusal_at, IsExchangeIn, HasCause}
use Rattle.daemon_callers.specs.declared.http.reading.Came.{Came}
use Rattle.daemon_callers.specs.declared.http.reading.Came.TheVariants.{Whole, Refused, Over, Memory}

-- the bytes are no request, for this reason
pub record IsRefused (limit : ℕ) (bytes : List ℕ) (r : Refusal) : Type 0 where
  pub outcome : Outcome
  pub is_request : IsRequest limit bytes outcome
  pub refuses : refusal_at outcome ≡ Some r

-- what the bytes of a connection are, unless they are the beginning of a request
abbrev pub Looks : (limit : ℕ) → (bytes : List ℕ) → Option Came → Type 0
Looks limit bytes None = IsRequest limit bytes Unfinished
Looks limit bytes (Some (Whole r)) = IsRequest limit bytes (request.Whole r)
Looks limit bytes (Some (Refused r)) = IsRefused limit bytes r
Looks limit bytes (Some (Over ended)) = ⊥
Looks limit bytes (Some Memory) = Unit {0}

-- these pieces were read, and nothing was noted of the connection
pub record HasRead (o : Options) (number : ℕ) (pieces : List (List ℕ)) (seen : History) : Type 0 where
  pub read : AreRead o.max_body_size pieces
  pub none : own number seen ≡ []

-- something was read, or nothing
abbrev pub HasBegun : Bool → List (List ℕ) → Type 0
HasBegun true pieces = pieces ≢ []
HasBegun false pieces = pieces ≡ []

-- the same, and a reader holds what was read
pub record IsReading (o : Options) (number : ℕ) (pieces : List (List ℕ)) (seen : History) (reader : Fed) (begun : Bool) : Type 0 where
  pub has_read : HasRead o number pieces seen
  pub limit_is : reader.limit ≡ o.max_body_size
  pub bytes_are : reader.bytes ≡ bytes_of pieces
  pub has_begun : HasBegun begun pieces

-- the reading came to this: a whole request, bytes that are none, an exchange that is over with nothing written, or want of memory
abbrev pub ComesTo : Options → (number : ℕ) → List (List ℕ) → (seen : History) → Came → Type 0
ComesTo o number pieces seen (Whole r) = HasRead o number pieces seen × IsRequest o.max_body_size (bytes_of pieces) (request.Whole r)
ComesTo o number pieces seen (Refused r) = HasRead o number pieces seen × IsRefused o.max_body_size (bytes_of pieces) r
ComesTo o number pieces seen (Over ended) = (began : ℕ) → IsExchangeIn o began number seen pieces [] ended
ComesTo o number pieces seen Memory = HasRead o number pieces seen

-- the reading goes on, or it came to this
abbrev pub Fetches : Options → (number : ℕ) → List (List ℕ) → (seen : History) → Fed → (begun : Bool) → Option Came → Type 0
Fetches o number pieces seen reader begun None = IsReading o number pieces seen reader begun
Fetches o number pieces seen reader begun (Some came) = ComesTo o number pieces seen came

-- how a connection ends at the end of its input, where something was read, or nothing
abbrev pub ended_at : Bool → EndedHttp
ended_at true = Cut
ended_at false = EndOfInput

-- where the reading came to the end of the exchange, it isn't for want of memory: that is what Memory says
abbrev pub EndsOtherwise : Came → Type 0
EndsOtherwise (Over OutOfMemory) = ⊥
EndsOtherwise _ = Unit {0}

-- the same, where it came to something
abbrev pub FetchEndsOtherwise : Option Came → Type 0
FetchEndsOtherwise None = Unit {0}
FetchEndsOtherwise (Some came) = EndsOtherwise came

-- an ending that the reading came to had its cause
abbrev pub HasCameCause : Came → (at_end : Bool) → (read_faults read_faults' write_faults write_faults' : ℕ) → Type 0
HasCameCause (Over ended) at_end read_faults read_faults' write_faults write_faults' = HasCause ended at_end read_faults read_faults' write_faults write_faults'
HasCameCause _ at_end read_faults read_faults' write_faults write_faults' = Unit {0}

-- the same, where it came to something
abbrev pub HasFetchCause : Option Came → (at_end : Bool) → (read_faults read_faults' write_faults write_faults' : ℕ) → Type 0
HasFetchCause None at_end read_faults read_faults' write_faults write_faults' = Unit {0}
HasFetchCause (Some came) at_end read_faults read_faults' write_faults write_faults' = HasCameCause came at_end read_faults read_faults' write_faults write_faults'
