-- What the bytes that a caller of HTTP sent, the entries of its connection and the bytes that it got have to do with each other: an exchange of
-- one request and its answer.
use Rattle.std.specs.Prelude.{◌≡◌, ◌≢◌, ◌⊎◌, ℕ, ◌<◌, ◌≤◌, Bool, true, false, if◌then◌else◌, List, [], ◌∷◌, ◌++◌, length, take, Option, Some, None}
use Rattle.std.specs.List.{list_any}
use Rattle.nsq_base.specs.declared.options.Options.{Options}
use Rattle.nsq_outside.specs.Causes.{Rose}
use Rattle.nsq_outside.specs.declared.journal.End.{End}
use Rattle.broker_history.specs.declared.ask.Ask.{Ask}
use Rattle.broker_history.specs.declared.ask.Said.{Said}
use Rattle.broker_history.specs.declared.entry.Act.{Act}
use Rattle.broker_history.specs.declared.entry.Act.TheVariants.{Asked, Listed, Stop}
use Rattle.broker_history.specs.declared.entry.Entry.{Entry}
use Rattle.broker_history.specs.Entries.{History, is_stop, own}
use Rattle.broker_history.specs.Talk.{bytes_of, longest_piece}
use Rattle.broker_history.specs.Answers.{said_at}
use Rattle.http_wire.specs.declared.request.Request.{Request}
use Rattle.http_wire.specs.Request.{Outcome, Whole, Unfinished, BadHead, NoLength, TooBig, IsRequest}
use Rattle.http_wire.specs.Answer.{answer_bytes}
use Rattle.http_calls.specs.declared.answer.HttpAnswer.{HttpAnswer}
use Rattle.http_calls.specs.declared.call.HttpCall.{HttpCall}
use Rattle.http_calls.specs.declared.call.HttpCall.TheVariants as call
use Rattle.http_calls.specs.declared.refusal.Refusal.{Refusal}
use Rattle.http_calls.specs.declared.refusal.Refusal.TheVariants as refusal
use Rattle.http_calls.specs.Refusals.{refused_answer}
use Rattle.http_calls.specs.Answers.{publishes, answer_for, stop_answer}
use Rattle.http_calls.specs.Calls.{call_for}
use Rattle.daemon_callers.specs.declared.http.ended.EndedHttp.{EndedHttp}
use Rattle.daemon_callers.specs.declared.http.ended.EndedHttp.TheVariants.{Answered, EndOfInput, Cut, Closed, ReadFault, WriteFault, Memory}

-- ---- what was read

-- these pieces were read: each has a byte at least, and no more than one read gives, and it was read only where the bytes before it were neither a
-- whole request nor refused
pub data AreRead (limit : ℕ) : List (List ℕ) → Type 0 where
  nothing : AreRead limit []
  piece : {pieces : List (List ℕ)} (next : List ℕ) → AreRead limit pieces → IsRequest limit (bytes_of pieces) Unfinished → 0 < length next
      → length next ≤ longest_piece → AreRead limit (pieces ++ next ∷ [])

-- ---- what was noted and answered

-- why bytes are no request
abbrev pub refusal_at : Outcome → Option Refusal
refusal_at (Whole request) = None
refusal_at Unfinished = None
refusal_at BadHead = Some refusal.BadRequest
refusal_at NoLength = Some refusal.LengthRequired
refusal_at TooBig = Some refusal.BodyTooBig

-- the answer of a call that is answered by itself
abbrev pub answer_alone : HttpCall → Option HttpAnswer
answer_alone (call.Refused r) = Some (refused_answer r)
answer_alone (call.Answered answer) = Some answer
answer_alone (call.Asks a) = None
answer_alone call.Stops = None

-- the entry lists the names
abbrev pub is_listed : Act → Bool
is_listed (Listed names) = true
is_listed act = false

abbrev pub IsListed : Entry × End → Type 0
IsListed e = is_listed e.0.act ≡ true

-- the entry is a Stop
abbrev pub IsStop : Entry × End → Type 0
IsStop e = is_stop e.0.act ≡ true

-- one entry, which lists the names
pub record IsListing (own : History) : Type 0 where
  pub listed : Entry × End
  pub whole : own ≡ listed ∷ []
  pub lists : IsListed listed

-- two entries, a Stop and one that lists the names
pub record IsStopping (own : History) : Type 0 where
  pub stop : Entry × End
  pub listed : Entry × End
  pub whole : own ≡ stop ∷ listed ∷ []
  pub stops : IsStop stop
  pub lists : IsListed listed

-- one entry: this was asked, and this is said to it, by its end too
pub record IsAsking (a : Ask) (told : Said) (own : History) : Type 0 where
  pub entry : Entry × End
  pub said : Said
  pub whole : own ≡ entry ∷ []
  pub asked : entry.0.act ≡ Asked a said
  pub is : told ≡ said_at said entry.1

-- these bytes, with these entries of their connection, are answered so: bytes that are no request are refused; a call that is answered by itself is;
-- what was asked is answered by what is said, or the daemon stops and its names were listed; a stop was noted, unless one stood there before, and the
-- names were listed
pub data Answers (o : Options) (began : ℕ) (bytes : List ℕ) (own : History) (answer : HttpAnswer) : Type 0 where
  refused : (outcome : Outcome) (r : Refusal) → IsRequest o.max_body_size bytes outcome → refusal_at outcome ≡ Some r → own ≡ []
      → answer ≡ refused_answer r → Answers o began bytes own answer
  alone : (request : Request) → IsRequest o.max_body_size bytes (Whole request) → answer_alone (call_for o began request) ≡ Some answer → own ≡ []
      → Answers o began bytes own answer
  told : (request : Request) (a : Ask) (said : Said) → IsRequest o.max_body_size bytes (Whole request) → call_for o began request ≡ call.Asks a
      → IsAsking a said own → answer ≡ answer_for (publishes a) began said
      → Answers o began bytes own answer
  stopping : (request : Request) (a : Ask) → IsRequest o.max_body_size bytes (Whole request) → call_for o began request ≡ call.Asks a → IsListing own
      → answer ≡ refused_answer refusal.Stopping → Answers o began bytes own answer
  stopped : (request : Request) → IsRequest o.max_body_size bytes (Whole request) → call_for o began request ≡ call.Stops
      → IsStopping own ⊎ IsListing own → answer ≡ stop_answer → Answers o began bytes own answer

-- ---- how it ended

-- the bytes of an answer
abbrev pub written_of : HttpAnswer → List ℕ
written_of answer = answer_bytes answer.status answer.json answer.body

-- neither a whole request nor a refusal came
abbrev pub IsOpen : Options → List (List ℕ) → Type 0
IsOpen o pieces = IsRequest o.max_body_size (bytes_of pieces) Unfinished

-- the answer was written whole
pub record IsAnswered (o : Options) (began : ℕ) (pieces : List (List ℕ)) (own : History) (out : List ℕ) : Type 0 where
  pub answer : HttpAnswer
  pub answers : Answers o began (bytes_of pieces) own answer
  pub written : out ≡ written_of answer

-- the answer was written in part
pub record IsCutShort (o : Options) (began : ℕ) (pieces : List (List ℕ)) (own : History) (out : List ℕ) : Type 0 where
  pub answer : HttpAnswer
  pub answers : Answers o began (bytes_of pieces) own answer
  pub count : ℕ
  pub written : out ≡ take count (written_of answer)

-- nothing was written and nothing noted
pub record IsLeft (own : History) (out : List ℕ) : Type 0 where
  pub no_own : own ≡ []
  pub no_out : out ≡ []

-- the entries of a connection with these bytes: none; those of an answer; or where the daemon stops before a request came, one that lists the names
abbrev pub Fits : Options → (began : ℕ) → List (List ℕ) → History → Type 0
Fits o began pieces own = (own ≡ []) ⊎ ((answer : HttpAnswer) × Answers o began (bytes_of pieces) own answer) ⊎ (IsOpen o pieces × IsListing own)

-- memory was wanting: the last entry may be missing, and of the answer that says so nothing may have been written, or a part, or all
pub record IsGivenUp (o : Options) (began : ℕ) (pieces : List (List ℕ)) (own : History) (out : List ℕ) : Type 0 where
  pub whole : History
  pub fits : Fits o began pieces whole
  pub noted : (own ≡ whole) ⊎ ((last : Entry × End) × (whole ≡ own ++ last ∷ []))
  pub count : ℕ
  pub written : out ≡ take count (written_of (refused_answer refusal.OutOfMemory))

-- the pieces that a caller sent, the entries of its connection and the bytes that it got are an exchange that ended so
abbrev pub IsExchange : Options → (began : ℕ) → List (List ℕ) → (own : History) → (out : List ℕ) → EndedHttp → Type 0
IsExchange o began pieces own out Answered = IsAnswered o began pieces own out
IsExchange o began pieces own out WriteFault = IsCutShort o began pieces own out
IsExchange o began pieces own out EndOfInput = (pieces ≡ []) × IsLeft own out
IsExchange o began pieces own out Cut = (pieces ≢ []) × IsOpen o pieces × IsLeft own out
IsExchange o began pieces own out Closed = IsOpen o pieces × IsListing own × (out ≡ [])
IsExchange o began pieces own out ReadFault = IsOpen o pieces × IsLeft own out
IsExchange o began pieces own out Memory = IsGivenUp o began pieces own out

-- ---- in a history

-- the entries before the first Stop
abbrev pub before_stop : History → History
before_stop [] = []
before_stop (e ∷ h) = if is_stop e.0.act then [] else e ∷ before_stop h

-- a connection lists the names only behind a Stop
abbrev pub ListsBehindStop : ℕ → History → Type 0
ListsBehindStop number h = list_any (λ e. is_listed e.0.act) (own number (before_stop h)) ≡ false

-- the exchange of a connection in a history: what it sent, what it got and how it ended
pub record IsExchangeIn (o : Options) (began number : ℕ) (h : History) (pieces : List (List ℕ)) (out : List ℕ) (ended : EndedHttp) : Type 0 where
  pub read : AreRead o.max_body_size pieces
  pub exchange : IsExchange o began pieces (own number h) out ended
  pub lists : ListsBehindStop number h

-- the ending had its cause: the source answered the end, or the count of failed reads or of failed writes rose
abbrev pub HasCause : EndedHttp → (at_end : Bool) → (read_faults read_faults' write_faults write_faults' : ℕ) → Type 0
HasCause EndOfInput at_end read_faults read_faults' write_faults write_faults' = at_end ≡ true
HasCause Cut at_end read_faults read_faults' write_faults write_faults' = at_end ≡ true
HasCause ReadFault at_end read_faults read_faults' write_faults write_faults' = Rose read_faults read_faults'
HasCause WriteFault at_end read_faults read_faults' write_faults write_faults' = Rose write_faults write_faults'
HasCause _ at_end read_faults read_faults' write_faults write_faults' = Unit {0}

-- an exchange that ended by want of memory wrote the whole answer that says so, or a write failed
abbrev pub IsWarnedHttp : EndedHttp → (written written' : List ℕ) → (write_faults write_faults' : ℕ) → Type 0
IsWarnedHttp Memory written written' write_faults write_faults' = (written' ≡ written ++ written_of (refused_answer refusal.OutOfMemory)) ⊎ Rose write_faults write_faults'
IsWarnedHttp _ written written' write_faults write_faults' = Unit {0}
