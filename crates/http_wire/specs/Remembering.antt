-- What a reader remembers, so that it does nothing twice.
use Rattle.std.specs.Prelude.{ℕ, ◌<◌, List, ◌++◌, length}
use Rattle.http_wire.specs.declared.search.Search.{Search}
use Rattle.http_wire.specs.Request.{IsUnfinished}
use Rattle.http_wire.specs.Searching.{IsSearched}

-- as long as fewer bytes are there than are needed, the request is unfinished
abbrev pub Waits : ℕ → List ℕ → ℕ → Type 0
Waits limit bytes needed = (more : List ℕ) → length (bytes ++ more) < needed → IsUnfinished limit (bytes ++ more)

-- how far the end of the head was searched for, and how many bytes are needed before anything more is found
pub record Remembers (limit : ℕ) (bytes : List ℕ) (search : Search) (needed : ℕ) : Type 0 where
  pub searched : IsSearched bytes search.begin search.done
  pub waits : Waits limit bytes needed
