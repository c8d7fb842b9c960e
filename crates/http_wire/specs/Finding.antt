-- What is found at the front of bytes whose head has come, and what a reader remembers.
use Rattle.std.specs.Prelude.{ℕ, List}
use Rattle.http_wire.specs.declared.found.Found.{Found}
use Rattle.http_wire.specs.declared.found.Found.TheVariants as found
use Rattle.http_wire.specs.declared.request.Request.{Request}
use Rattle.http_wire.specs.Request.{Whole, Unfinished, BadHead, NoLength, TooBig, IsRequest}
use Rattle.http_wire.specs.Remembering.{Waits}

-- what is found is what the bytes are; memory is wanting only for a request that is whole
abbrev pub Finds : ℕ → List ℕ → Found → Type 0
Finds limit bytes (found.Whole request) = IsRequest limit bytes (Whole request)
Finds limit bytes (found.Open needed) = IsRequest limit bytes Unfinished × Waits limit bytes needed
Finds limit bytes found.BadHead = IsRequest limit bytes BadHead
Finds limit bytes found.NoLength = IsRequest limit bytes NoLength
Finds limit bytes found.TooBig = IsRequest limit bytes TooBig
Finds limit bytes found.Memory = (request : Request) × IsRequest limit bytes (Whole request)
