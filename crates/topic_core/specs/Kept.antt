-- What every topic's queue keeps.
use Rattle.std.specs.Prelude.{ℕ, ◌≡◌, ◌≢◌, not, List, [], Option, None, IfSome, IsSome, is_some}
use Rattle.nsq_base.specs.Name.{is_ephemeral}
use Rattle.v2_frame.specs.declared.message.Message.{Message}
use Rattle.backlog.specs.Seen.{Seen as Backlog, FitsLimit}
use Rattle.backlog.specs.declared.backlog.Lent.TheVariants.{Nothing}

-- exactly the durable ones have a queue on disk, and that has the topic's name
pub record IsNamed (name : List ℕ) (b : Backlog) : Type 0 where
  pub durable : is_some b.queue ≡ not (is_ephemeral name)
  pub queue : IfSome b.queue (λ q. q.name ≡ name)

-- a head is short, and owed to at least one channel; where there is none nothing is owed
pub record IsOwed (head : Option Message) (owed : List (List ℕ)) : Type 0 where
  pub none : head ≡ None → owed ≡ []
  pub some : IsSome head → owed ≢ []
  pub short : IfSome head FitsLimit

-- the backlog is the topic's, the head is owed, and a message that is drawn is the head
pub record IsSound (name : List ℕ) (b : Backlog) (head : Option Message) (owed : List (List ℕ)) : Type 0 where
  pub named : IsNamed name b
  pub owes : IsOwed head owed
  pub drawn : b.lent ≢ Nothing → IsSome head
