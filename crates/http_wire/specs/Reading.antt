-- What a reader of a request in pieces holds, and what it gives.
use Rattle.std.specs.Prelude.{ℕ, List}
use Rattle.http_wire.specs.declared.request.Request.{Request}
use Rattle.http_wire.specs.declared.got.GotRequest.{GotRequest}
use Rattle.http_wire.specs.declared.got.GotRequest.TheVariants as got
use Rattle.http_wire.specs.Request.{Whole, Unfinished, BadHead, NoLength, TooBig, IsRequest}

-- a reader: the greatest size of a body, and all bytes that it was fed, in their order
pub record Fed : Type 0 where
  pub limit : ℕ
  pub bytes : List ℕ

-- what a reader gives is what all bytes that it was fed are. Memory is wanting only for a request that is whole
abbrev pub Gives : ℕ → List ℕ → GotRequest → Type 0
Gives limit bytes (got.Whole request) = IsRequest limit bytes (Whole request)
Gives limit bytes got.More = IsRequest limit bytes Unfinished
Gives limit bytes got.BadHead = IsRequest limit bytes BadHead
Gives limit bytes got.NoLength = IsRequest limit bytes NoLength
Gives limit bytes got.TooBig = IsRequest limit bytes TooBig
Gives limit bytes got.Memory = (request : Request) × IsRequest limit bytes (Whole request)
