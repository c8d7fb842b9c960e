-- Laws of what the bytes of a connection are.
use Rattle.std.specs.Prelude.{◌≡◌, ◌≢◌, ℕ, List, ◌++◌}
use Rattle.http_wire.specs.Request.{Outcome, Unfinished, IsRequest}

-- bytes are one thing at most
abbrev pub OneRequest : Type 0
OneRequest = (limit : ℕ) (bytes : List ℕ) (one other : Outcome) → IsRequest limit bytes one → IsRequest limit bytes other → one ≡ other

-- a request that is whole, and a refusal, stay whatever bytes come behind
abbrev pub RequestsStay : Type 0
RequestsStay = (limit : ℕ) (bytes more : List ℕ) (outcome : Outcome) → outcome ≢ Unfinished → IsRequest limit bytes outcome → IsRequest limit (bytes ++ more) outcome
