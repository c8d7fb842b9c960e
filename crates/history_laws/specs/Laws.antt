-- What follows from the definitions, each the contract of a function that does nothing.
use Rattle.std.specs.List.{AllByRecursion}
use Rattle.std.specs.Prelude.{◌≡◌, ℕ, ◌+◌, ◌≤◌, ◌<◌, true, false, List, [], ◌∷◌, ◌++◌, Some}
use Rattle.nsq_outside.specs.declared.journal.End.{End}
use Rattle.broker_history.specs.declared.entry.Entry.{Entry}
use Rattle.v2_frame.specs.declared.fault.Limits.{Limits}
use Rattle.broker_history.specs.declared.ended.Ended.{Ended}
use Rattle.broker_history.specs.declared.entry.Act.TheVariants.{Gone, Sent}
use Rattle.history_laws.specs.Copies.{ChannelGoesOn}
use Rattle.broker_history.specs.Channels.{Moves, MovesLive, JoinsLive, HasLive, CountsLive}
use Rattle.broker_history.specs.Topics.{HasWaiting, TakenFrom}
use Rattle.broker_history.specs.State.{Copy, Waiting, Channel, State, channel_at, is_ephemeral_channel, is_live}
use Rattle.broker_history.specs.Step.{Step}
use Rattle.broker_history.specs.Entries.{History, IsCommon, own, has_stop, stops_of, faults_of, faults_apart}
use Rattle.broker_history.specs.Legal.{Legal}
use Rattle.broker_history.specs.Credit.{rdy, in_flight_with}
use Rattle.broker_history.specs.Moments.{IsTimed, HasReadings}
use Rattle.broker_history.specs.Found.{start}
use Rattle.broker_history.specs.Left.{IsAllLeft}
use Rattle.path_image.specs.Found.{FoundChannel, FoundTopic, Found}
use Rattle.nsq_base.specs.Name.{is_ephemeral}
use Rattle.nsq_base.specs.declared.options.Options.{Options}
use Rattle.v2_frame.specs.declared.message.Message.{Message}
use Rattle.broker_history.specs.Talk.{has_gone, stops_before_gone, IsTalk, IsTalkIn}

-- two legal histories, the second from where the first leads, are one
abbrev pub HistoriesJoin : Type 0
HistoriesJoin = (s t u : State) (h k : History) → Legal s h t → Legal t k u → Legal s (h ++ k) u

-- each front of a legal history is legal
abbrev pub FrontsAreLegal : Type 0
FrontsAreLegal = (s u : State) (h k : History) → Legal s (h ++ k) u → (t : State) × Legal s h t

-- moments never fall: that of an entry lies between those of the states at the ends
abbrev pub MomentsNeverFall : Type 0
MomentsNeverFall = (s u : State) (h k : History) (e : Entry × End) → Legal s ((h ++ e ∷ []) ++ k) u → (s.moment ≤ e.0.at) × (e.0.at ≤ u.moment)

-- the daemon stops once at most
abbrev pub StopsAreOnce : Type 0
StopsAreOnce = (s u : State) (h : History) → Legal s h u → stops_of h ≤ 1

-- of the disk faults of a legal history at most one stands just before a Stop
abbrev pub FaultsAreApartButOne : Type 0
FaultsAreApartButOne = (s u : State) (h : History) → Legal s h u → (faults_apart h ≤ faults_of h) × (faults_of h ≤ faults_apart h + 1)

-- the own entries of a connection in two histories, one behind the other
abbrev pub OwnEntriesJoin : Type 0
OwnEntriesJoin = (number : ℕ) (h k : History) → own number (h ++ k) ≡ own number h ++ own number k

-- common entries are no connection's own
abbrev pub CommonEntriesAreNobodys : Type 0
CommonEntriesAreNobodys = (number : ℕ) (h : History) → AllByRecursion IsCommon h → own number h ≡ []

-- entries without a Gone of the connection don't change whether a Stop stands before its Gone
abbrev pub OnlyGonesTell : Type 0
OnlyGonesTell = (number : ℕ) (h k : History) → has_gone number k ≡ false → stops_before_gone number (h ++ k) ≡ stops_before_gone number h

-- the first Gone of a connection stands behind a Stop where one stands before it
abbrev pub GonesTell : Type 0
GonesTell = (number : ℕ) (h : History) (e : Entry × End) → e.0.conn ≡ number → e.0.act ≡ Gone → has_gone number h ≡ false → stops_before_gone number (h ++ e ∷ []) ≡ has_stop h

-- a connection is not gone by the entries of others
abbrev pub OthersAreNotGone : Type 0
OthersAreNotGone = (number : ℕ) (h : History) → own number h ≡ [] → has_gone number h ≡ false

-- a conversation stays one however the history goes on with entries of others
abbrev pub TalksStay : Type 0
TalksStay = (limits : Limits) (number wanted : ℕ) (h k : History) (pieces : List (List ℕ)) (out : List ℕ) (ended : Ended) → own number k ≡ []
    → IsTalkIn limits number h wanted pieces out ended → IsTalkIn limits number (h ++ k) wanted pieces out ended

-- a conversation by the own entries is one in the history, where the connection is not gone in it
abbrev pub TalksWithoutGone : Type 0
TalksWithoutGone = (limits : Limits) (number wanted : ℕ) (h : History) (pieces : List (List ℕ)) (out : List ℕ) (ended : Ended) → has_gone number h ≡ false
    → IsTalk limits false wanted pieces (own number h) out ended → IsTalkIn limits number h wanted pieces out ended

-- and where its first Gone is the last entry, which stands behind each Stop of the history
abbrev pub TalksWithGone : Type 0
TalksWithGone = (limits : Limits) (number wanted : ℕ) (h : History) (e : Entry × End) (pieces : List (List ℕ)) (out : List ℕ) (ended : Ended) → e.0.conn ≡ number → e.0.act ≡ Gone → has_gone number h ≡ false
    → IsTalk limits (has_stop h) wanted pieces (own number h ++ e ∷ []) out ended → IsTalkIn limits number (h ++ e ∷ []) wanted pieces out ended

-- a copy has one place: a step that leaves a channel lets its copies go on, each as one copy in one place
abbrev pub CopiesHaveOnePlace : Type 0
CopiesHaveOnePlace = (s t : State) (e : Entry × End) (topic channel : List ℕ) (k k' : Channel) → Step s e t → channel_at s topic channel ≡ Some k → channel_at t topic channel ≡ Some k'
    → ChannelGoesOn (is_ephemeral_channel topic channel) k k'

-- each message is sent within its client's RDY: before it is, fewer copies are in flight with the client than its last accepted RDY
abbrev pub SentWithinReady : Type 0
SentWithinReady = (s t : State) (e : Entry × End) (m : Message) → Step s e t → e.0.act ≡ Sent m → in_flight_with s e.0.conn < rdy s e.0.conn

-- entries that were noted in turns have their moments by the readings: the number of these never falls, and grows by one at least with each act
abbrev pub TurnsHaveReadings : Type 0
TurnsHaveReadings = (coming : ℕ → ℕ) (first made : ℕ) (h : History) → IsTimed coming first h made → (readings : ℕ) × HasReadings coming first h readings × (readings ≤ made)

-- what was found is durable
pub record IsDurable (found : FoundTopic) : Type 0 where
  pub name : is_ephemeral found.name ≡ false
  pub channels : AllByRecursion (λ (c : FoundChannel). is_ephemeral c.name ≡ false) found.channels

-- a run starts from what was found: as long as nothing happens, all of it is left, under the new epoch
abbrev pub StartsFromFound : Type 0
StartsFromFound = (found : Found) (options : Options) (moment : ℕ) → AllByRecursion IsDurable found.topics → IsAllLeft (start found options moment) (record found { epoch = found.epoch + 1 })

-- this copy becomes that one
abbrev pub Becomes : (from to : Copy) → Copy → Copy → Type 0
Becomes from to x y = (x ≡ from) × (y ≡ to)

-- what a channel of the program keeps moves as a state's does: where one live copy of it becomes another, so does one of the state's, and what is
-- kept is the live ones of what the state's comes to
abbrev pub LiveMovesAreMoves : Type 0
LiveMovesAreMoves = (from to : Copy) (kept kept' copies : List Copy) → is_live from.place ≡ true → HasLive kept copies → MovesLive (Becomes from to) kept kept'
    → (copies' : List Copy) × Moves (Becomes from to) copies copies' × HasLive kept' copies'

-- and where a copy joins it, it joins the state's
abbrev pub LiveJoinsAreJoins : Type 0
LiveJoinsAreJoins = (x : Copy) (kept kept' copies : List Copy) → HasLive kept copies → JoinsLive x kept kept' → HasLive kept' (copies ++ x ∷ [])

-- and it has as many copies queued, in flight with a client, and in flight of an id
abbrev pub LiveCountsAreCounts : Type 0
LiveCountsAreCounts = (kept copies : List Copy) → HasLive kept copies → CountsLive kept copies

-- what a topic of the program keeps is taken as a state's is: where one of its messages goes, a waiting one that it fits may be taken
abbrev pub KeptIsTaken : Type 0
KeptIsTaken = (m : Message) (front back : List Message) (waiting : List Waiting) → HasWaiting (front ++ m ∷ back) waiting → TakenFrom (front ++ back) m waiting
