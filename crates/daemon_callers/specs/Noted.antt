-- What a connection's turns note, and what they come to.
use Rattle.std.specs.Prelude.{◌≡◌, ◌⊎◌, ℕ, Bool, true, false, [], ◌∷◌, ◌++◌, Result, Ok, Err}
use Rattle.nsq_core.specs.declared.memory.Memory.{Memory as NoMemory}
use Rattle.nsq_outside.specs.declared.journal.End.{End}
use Rattle.broker_history.specs.declared.ask.Ask.{Ask}
use Rattle.broker_history.specs.declared.entry.Entry.{Entry}
use Rattle.broker_history.specs.Entries.{History, own}
use Rattle.broker_history.specs.declared.turned.Turned.{Turned}
use Rattle.broker_history.specs.declared.turned.Turned.TheVariants.{Listed, Stopping}
use Rattle.daemon_callers.specs.Exchange.{IsStop, IsListed, IsListing, IsStopping, IsAsking, ListsBehindStop}
use Rattle.daemon_callers.specs.declared.http.turns.Ticked.{Ticked}
use Rattle.daemon_callers.specs.declared.http.turns.Ticked.TheVariants.{Goes, Closed, Memory}
use Rattle.http_asked.specs.declared.asked.Asked.{Asked}
use Rattle.http_asked.specs.declared.asked.Asked.TheVariants as asked

-- whether a turn answers that the names were listed
abbrev pub lists_names : Turned → Bool
lists_names (Listed names at) = true
lists_names _ = false

-- whether a turn answers that the daemon stops
abbrev pub says_stopping : Turned → Bool
says_stopping Stopping = true
says_stopping _ = false

-- one more entry lists the names
pub record ListsOne (own own' : History) : Type 0 where
  pub listed : Entry × End
  pub whole : own' ≡ own ++ listed ∷ []
  pub lists : IsListed listed

-- the names were listed, or memory was wanting and nothing joined the entries
abbrev pub ListsNames : (own own' : History) → Result (Unit {0}) NoMemory → Type 0
ListsNames own own' (Ok done) = ListsOne own own'
ListsNames own own' (Err e) = own' ≡ own

-- one entry, a Stop
pub record IsStopped (own : History) : Type 0 where
  pub stop : Entry × End
  pub whole : own ≡ stop ∷ []
  pub stops : IsStop stop

-- a tick of a connection without entries came to this
abbrev pub TicksTo : (number : ℕ) → (seen : History) → Ticked → Type 0
TicksTo number seen Goes = own number seen ≡ []
TicksTo number seen Closed = IsListing (own number seen) × ListsBehindStop number seen
TicksTo number seen Memory = own number seen ≡ []

-- what a connection without entries asked came to this
abbrev pub AsksTo : Ask → (number : ℕ) → (seen : History) → Result Asked NoMemory → Type 0
AsksTo a number seen (Ok (asked.Said said)) = IsAsking a said (own number seen) × ListsBehindStop number seen
AsksTo a number seen (Ok asked.Stopping) = IsListing (own number seen) × ListsBehindStop number seen
AsksTo a number seen (Err e) = own number seen ≡ []

-- a stop by a connection without entries came to this
abbrev pub StopsTo : (number : ℕ) → (seen : History) → Result (Unit {0}) NoMemory → Type 0
StopsTo number seen (Ok done) = (IsStopping (own number seen) ⊎ IsListing (own number seen)) × ListsBehindStop number seen
StopsTo number seen (Err e) = (own number seen ≡ []) ⊎ IsStopped (own number seen)
