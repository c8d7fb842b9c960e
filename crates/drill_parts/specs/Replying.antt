-- How commands are replied to along a history.
use Rattle.std.specs.Prelude.{◌≡◌, ◌≢◌, ℕ, ◌+◌, ◌≤◌, Bool, List, Option, sum_by}
use Rattle.std.specs.List.{AllByRecursion}
use Rattle.nsq_base.specs.declared.options.Options.{Options}
use Rattle.nsq_outside.specs.declared.journal.End.{End}
use Rattle.nsq_outside.specs.declared.journal.End.TheVariants.{Skip}
use Rattle.v2_frame.specs.declared.command.Command.{Command}
use Rattle.v2_frame.specs.declared.frame.Frame.{Frame}
use Rattle.broker_history.specs.declared.entry.Act.{Act}
use Rattle.broker_history.specs.declared.entry.Act.TheVariants.{Did, Asked}
use Rattle.broker_history.specs.declared.entry.Entry.{Entry}
use Rattle.broker_history.specs.Entries.{History}
use Rattle.broker_history.specs.Legal.{Legal}
use Rattle.broker_history.specs.Reply.{reply_by}
use Rattle.broker_history.specs.State.{Phase, State}
use Rattle.drill_parts.specs.Counts.{messages_asked, messages_in}

-- how many messages an act is to publish, whatever is answered
abbrev pub tried_as : Act → ℕ
tried_as (Did command r) = messages_in command
tried_as (Asked a answer) = messages_asked a
tried_as act = 0

-- how many messages a history was to publish
abbrev pub tried : History → ℕ
tried h = sum_by (λ (e : Entry × End). tried_as e.0.act) h

-- a command was replied to by the table, where so many ids were used at most
pub record IsReplied (o : Options) (most : ℕ) (command : Command) (r : Option Frame) (end : End) : Type 0 where
  pub used : ℕ
  pub few : used ≤ most
  pub phase : Phase
  pub flies : (id : List ℕ) → Bool
  pub is : r ≡ reply_by o used phase flies command
  pub ended : end ≢ Skip

abbrev pub HasReply : Options → (most : ℕ) → Act → End → Type 0
HasReply o most (Did command r) end = IsReplied o most command r end
HasReply o most act end = Unit {0}

-- so is each command of a legal history: no more ids are used than were used before and messages were to be published
abbrev pub CommandsAreReplied : Type 0
CommandsAreReplied = (s u : State) (h : History) → Legal s h u → AllByRecursion (λ (e : Entry × End). HasReply s.options (s.ids_used + tried h) e.0.act e.1) h

-- a run has its options and its epoch
pub record Stays (s u : State) : Type 0 where
  pub options : u.options ≡ s.options
  pub epoch : u.epoch ≡ s.epoch

-- along a legal history they don't change
abbrev pub RunsStay : Type 0
RunsStay = (s u : State) (h : History) → Legal s h u → Stays s u
