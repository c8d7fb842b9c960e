-- One connection that publishes all messages of a history: each of them is accepted, unless memory was wanting.
use Rattle.std.specs.Prelude.{◌≡◌, ◌⊎◌, ℕ, ◌+◌, ◌<◌, false, true, List, [], length, Some}
use Rattle.std.specs.List.{AllByRecursion}
use Rattle.nsq_outside.specs.declared.journal.End.{End}
use Rattle.nsq_outside.specs.declared.journal.End.TheVariants.{Done}
use Rattle.v2_frame.specs.declared.command.Command.{Command}
use Rattle.v2_frame.specs.declared.command.Command.TheVariants.{Pub}
use Rattle.v2_frame.specs.declared.fault.Limits.{Limits}
use Rattle.broker_history.specs.declared.ended.Ended.{Ended}
use Rattle.broker_history.specs.declared.ended.Ended.TheVariants.{EndOfInput, Closed, ReadFault, WriteFault, Memory}
use Rattle.broker_history.specs.declared.entry.Act.{Act}
use Rattle.broker_history.specs.declared.entry.Act.TheVariants.{Did}
use Rattle.broker_history.specs.declared.entry.Entry.{Entry}
use Rattle.broker_history.specs.Entries.{History, faults_of, is_own}
use Rattle.broker_history.specs.Legal.{Legal}
use Rattle.broker_history.specs.Reply.{most_ids, ok_frame}
use Rattle.broker_history.specs.State.{State}
use Rattle.broker_history.specs.Talk.{IsTalkIn, bytes_of, stops_before_gone}
use Rattle.drill_parts.specs.Conserving.{HaveOnes}
use Rattle.drill_parts.specs.Counts.{published}
use Rattle.drill_parts.specs.Replying.{tried, tried_as}
use Rattle.drill_parts.specs.Staying.{IsCalm}
use Rattle.drill_parts.specs.Talking.{Spell}

-- a PUB is answered with OK, and carried out
abbrev pub IsAccepted : Act → End → Type 0
IsAccepted (Did (Pub topic body) r) end = (r ≡ Some ok_frame) × (end ≡ Done)
IsAccepted act end = Unit {0}

-- each PUB of a legal history is, where no entry ended with a disk fault and a run has ids for all that the history is to publish
abbrev pub PubsAreAccepted : Type 0
PubsAreAccepted = (s u : State) (h : History) → Legal s h u → s.ids_used + tried h < most_ids → faults_of h ≡ 0 → AllByRecursion (λ (e : Entry × End). IsAccepted e.0.act e.1) h

-- the command is a PUB
abbrev pub IsPub : Command → Type 0
IsPub (Pub topic body) = Unit {0}
IsPub command = ⊥

-- the entry is to publish nothing, or is the connection's
abbrev pub PublishesAs : (number : ℕ) → Entry × End → Type 0
PublishesAs number e = (tried_as e.0.act ≡ 0) ⊎ (is_own number e ≡ true)

-- no fault of the connection ended the conversation, and where the end of its bytes did, none is left
abbrev pub EndsWell : Ended → (left : List ℕ) → Type 0
EndsWell EndOfInput left = left ≡ []
EndsWell Closed left = Unit {0}
EndsWell ReadFault left = ⊥
EndsWell WriteFault left = ⊥
EndsWell Memory left = Unit {0}

-- a legal history of one moment that keeps all messages, from a state without clients on, in which no entry ended with a disk fault
pub record IsQuiet (only : List ℕ → List ℕ) (at : ℕ) (s u : State) (h : History) : Type 0 where
  pub legal : Legal s h u
  pub ones : HaveOnes only s.topics
  pub nobody : s.clients ≡ []
  pub beats : 0 < s.options.max_heartbeat_interval
  pub calm : AllByRecursion (IsCalm only at) h
  pub no_fault : faults_of h ≡ 0

-- a connection sends these PUBs, and no other publishes in the history; its conversation ended so, without a fault, and no Stop stands before its Gone
pub record PublishesAlone (limits : Limits) (number : ℕ) (h : History) (wanted : ℕ) (pieces : List (List ℕ)) (out : List ℕ) (ended : Ended) (commands : List Command) : Type 0 where
  pub talk : IsTalkIn limits number h wanted pieces out ended
  pub left : List ℕ
  pub spells : Spell limits commands (bytes_of pieces) left
  pub pubs : AllByRecursion IsPub commands
  pub alone : AllByRecursion (PublishesAs number) h
  pub unstopped : stops_before_gone number h ≡ false
  pub ends : EndsWell ended left

-- then all its messages are published, unless it ended by want of memory
abbrev pub PublishersPublishAll : Type 0
PublishersPublishAll = (only : List ℕ → List ℕ) (at : ℕ) (s u : State) (h : History) (limits : Limits) (number wanted : ℕ) (pieces : List (List ℕ)) (out : List ℕ) (ended : Ended) (commands : List Command) → IsQuiet only at s u h
    → PublishesAlone limits number h wanted pieces out ended commands → s.ids_used + length commands < most_ids → (published h ≡ length commands) ⊎ (ended ≡ Memory)
