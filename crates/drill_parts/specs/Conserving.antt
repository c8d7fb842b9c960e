-- Histories that keep all messages.
use Rattle.std.specs.Prelude.{◌≡◌, ◌⊎◌, ℕ, ◌+◌, false, List, [], ◌∷◌, All, Some, None}
use Rattle.std.specs.List.{AllByRecursion}
use Rattle.nsq_base.specs.Name.{is_ephemeral}
use Rattle.nsq_base.specs.Names.{IsAscendingBy}
use Rattle.nsq_outside.specs.declared.journal.End.{End}
use Rattle.v2_frame.specs.declared.command.Command.{Command}
use Rattle.v2_frame.specs.declared.command.Command.TheVariants.{Sub, Pub, Mpub, Dpub}
use Rattle.broker_history.specs.declared.ask.Ask.{Ask}
use Rattle.broker_history.specs.declared.ask.Ask.TheVariants as ask
use Rattle.broker_history.specs.declared.entry.Act.{Act}
use Rattle.broker_history.specs.declared.entry.Act.TheVariants.{Did, Asked}
use Rattle.broker_history.specs.declared.entry.Entry.{Entry}
use Rattle.broker_history.specs.Entries.{History}
use Rattle.broker_history.specs.Legal.{Legal}
use Rattle.broker_history.specs.State.{Channel, State, Taken, Topic}
use Rattle.drill_parts.specs.Counts.{finished, left_of, published}

-- the name is kept on disk
abbrev pub IsDurable : List ℕ → Type 0
IsDurable name = is_ephemeral name ≡ false

-- the channel is the one that a topic may have
pub record IsOnly (only : List ℕ → List ℕ) (topic channel : List ℕ) : Type 0 where
  pub topic_stays : IsDurable topic
  pub channel_stays : IsDurable channel
  pub is : channel ≡ only topic

-- a command loses no message, and makes no copies of one, whatever is answered
abbrev pub KeepsCommand : (List ℕ → List ℕ) → Command → Type 0
KeepsCommand only (Sub topic channel) = IsOnly only topic channel
KeepsCommand only (Pub topic body) = IsDurable topic
KeepsCommand only (Mpub topic bodies) = IsDurable topic
KeepsCommand only (Dpub topic delay body) = IsDurable topic
KeepsCommand only command = Unit {0}

-- nor does what is asked
abbrev pub KeepsAsked : (List ℕ → List ℕ) → Ask → Type 0
KeepsAsked only (ask.Publish topic delay bodies) = IsDurable topic
KeepsAsked only (ask.Create topic None) = IsDurable topic
KeepsAsked only (ask.Create topic (Some channel)) = IsOnly only topic channel
KeepsAsked only (ask.Delete topic channel) = ⊥
KeepsAsked only (ask.Empty topic channel) = ⊥
KeepsAsked only a = Unit {0}

-- nor does an act
abbrev pub KeepsAct : (List ℕ → List ℕ) → Act → Type 0
KeepsAct only (Did command r) = KeepsCommand only command
KeepsAct only (Asked a answer) = KeepsAsked only a
KeepsAct only act = Unit {0}

-- an entry keeps all messages: what it names is durable, no topic gets a channel but its only one, and nothing is deleted or emptied
abbrev pub Keeps : (List ℕ → List ℕ) → Entry × End → Type 0
Keeps only e = KeepsAct only e.0.act

abbrev pub KeepAll : (List ℕ → List ℕ) → History → Type 0
KeepAll only h = AllByRecursion (Keeps only) h

-- the channels of a topic: none, or its only one
abbrev pub HasOnly : (channel : List ℕ) → List Channel → Type 0
HasOnly channel channels = (channels ≡ []) ⊎ ((k : Channel) × (channels ≡ k ∷ []) × (k.name ≡ channel) × IsDurable k.name)

-- a topic is durable and has no channel but its only one, to which a message that it took is owed
pub record HasOne (only : List ℕ → List ℕ) (t : Topic) : Type 0 where
  pub stays : IsDurable t.name
  pub has : HasOnly (only t.name) t.channels
  pub owed : (taken : Taken) → t.taken ≡ Some taken → taken.owed ≡ only t.name ∷ []

-- so is each of these topics, which are in order
pub record HaveOnes (only : List ℕ → List ℕ) (topics : List Topic) : Type 0 where
  pub ascending : IsAscendingBy (λ (t : Topic). t.name) topics
  pub each : All (HasOne only) topics

-- messages are conserved: those that are left at the end and those that were finished are those that were left at the start and those that were published
abbrev pub MessagesAreConserved : Type 0
MessagesAreConserved = (only : List ℕ → List ℕ) (s u : State) (h : History) → HaveOnes only s.topics → KeepAll only h → Legal s h u → left_of u + finished h ≡ left_of s + published h

-- and the topics stay so
abbrev pub OnesStay : Type 0
OnesStay = (only : List ℕ → List ℕ) (s u : State) (h : History) → HaveOnes only s.topics → KeepAll only h → Legal s h u → HaveOnes only u.topics
