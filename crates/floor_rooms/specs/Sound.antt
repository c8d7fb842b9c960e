-- What a hall keeps, whatever is told of files and of entries. The conditions of the calls of topics and channels follow from it.
use Rattle.std.specs.Prelude.{◌≡◌, ◌<◌, ◌≤◌, ℕ, ◌^◌, ◌==◌, ◌&&◌, ◌||◌, Bool, true, false, not, nat_eq, if◌then◌else◌, List, [], ◌∷◌, All, AllPairs, Contains, Option, Some, None, IfSome, IsSome, is_some, is_none}
use Rattle.std.specs.List.{list_any}
use Rattle.nsq_base.specs.Name.{IsName}
use Rattle.nsq_base.specs.Names.{IsAscendingBy}
use Rattle.nsq_base.specs.Options.{IsInRange}
use Rattle.nsq_base.specs.declared.options.Options.{Options}
use Rattle.channel_core.specs.Queues.{Seen as Queue}
use Rattle.channel_core.specs.Backlogs.{QueueIsSaved, ring_depth, disk_depth}
use Rattle.broker_history.specs.State.{Client, is_empty, is_ephemeral_channel, is_fresh, has_channel}
use Rattle.channel_core.specs.QueueOptions.{QueueOptions}
use Rattle.topic_core.specs.Seen.{IsSettled, owed_of, queue_options as topic_options}
use Rattle.topic_core.specs.Kept.{IsNamed}
use Rattle.channel_core.specs.Clients.{client_of}
use Rattle.channel_core.specs.Client as copies
use Rattle.channel_core.specs.Answers.{all_due}
use Rattle.channel_core.specs.Made.{about_of, queue_options}
use Rattle.channel_core.specs.Seen.{Seen as ChannelSeen, channel_with, queue_name}
use Rattle.channel_core.specs.declared.drawn.Drawn.TheVariants.{Nothing}
use Rattle.floor_rooms.specs.ClientPlaces.{AreInOrder}
use Rattle.floor_rooms.specs.Seen.{held_channel}
use Rattle.floor_rooms.specs.declared.stall.Stall.{Stall}
use Rattle.floor_rooms.specs.declared.room.Room.{Room}
use Rattle.floor_rooms.specs.declared.hall.Hall.{Hall}
use Rattle.floor_rooms.specs.Rooms.{channel_name, topic_name, stall_names, stall_in, stall_at, client_in}

-- no copy of a channel is due before a moment
abbrev pub IsQuietUntil : ℕ → ChannelSeen → Type 0
IsQuietUntil quiet v = (now : ℕ) → now < quiet → all_due now (channel_with v []) ≡ 0

-- a queue that isn't marked as unsaved is saved, and one that is has been so not since before a moment
pub record IsMarked (unsaved : ℕ) (since : Option ℕ) (queue : Option Queue) : Type 0 where
  pub saved : since ≡ None → QueueIsSaved queue
  pub later : IfSome since (λ moment. unsaved ≤ moment)

-- a queue, where there is one, has these options: the greatest length of its files, the records to a save, and the bounds of a record
abbrev pub HasOptions : QueueOptions → Option Queue → Type 0
HasOptions options queue = IfSome queue (λ q. q.options ≡ options)

-- a channel of a topic is as the options made it, nothing of it is drawn, its queue has its name and the hall's options, and its facts for speed hold
pub record IsStallSound (options : Options) (topic : List ℕ) (quiet unsaved : ℕ) (s : Stall) : Type 0 where
  pub about : s.channel.about ≡ about_of topic (channel_name s) options
  pub named : IsName (channel_name s)
  pub settled : s.channel.drawn ≡ Nothing
  pub durable : is_some s.channel.backlog.queue ≡ not (is_ephemeral_channel topic (channel_name s))
  pub queue : IfSome s.channel.backlog.queue (λ q. q.name ≡ queue_name topic (channel_name s))
  pub limits : HasOptions (queue_options options) s.channel.backlog.queue
  pub calm : IsQuietUntil quiet s.channel
  pub marked : IsMarked unsaved s.since s.channel.backlog.queue
  pub members : AllPairs (λ a b. a < b) s.members.items

-- a topic has nothing to take and nothing to pay: it took no message, and it is paused, has no channel or has none waiting
abbrev pub has_none_waiting : Room → Bool
has_none_waiting r = (ring_depth r.queue.backlog == 0) && (disk_depth r.queue.backlog.queue == 0)

abbrev pub rests : Room → Bool
rests r = is_none r.queue.head && (r.queue.paused || (is_empty r.stalls.items || has_none_waiting r))

-- a topic of a hall is as the options made it, nothing of it is drawn, its queue has its name and the hall's options, its channels are sound and in
-- byte order, and each channel that is owed a copy is there
pub record IsRoomSound (h : Hall) (r : Room) : Type 0 where
  pub named : IsName (topic_name r)
  pub settled : IsSettled r.queue
  pub backlog : IsNamed (topic_name r) r.queue.backlog
  pub capacity : r.queue.backlog.capacity ≡ h.options.mem_queue_size
  pub limits : HasOptions (topic_options h.options) r.queue.backlog.queue
  pub names : IfSome r.names (λ names. names ≡ (topic_name r, stall_names r) ∷ [])
  pub order : IsAscendingBy channel_name r.stalls.items
  pub stalls : All (IsStallSound h.options (topic_name r) h.quiet_until h.unsaved_from) r.stalls.items
  pub owed : All (λ name. IsSome (stall_in r.stalls.items name)) (owed_of r.queue.head)
  pub marked : IsMarked h.unsaved_from r.since r.queue.backlog.queue
  pub listed : r.listed ≡ true → Contains h.pending.items (topic_name r)
  pub rests : r.listed ≡ false → rests r ≡ true

-- what a channel knows of a client: its time and its RDY where this is its channel
abbrev pub member_of : (topic channel : List ℕ) → Option Client → Option copies.Client
member_of topic channel None = None
member_of topic channel (Some c) = if has_channel topic channel c then Some (record { timeout = c.timeout; ready = c.ready }) else None

-- a channel's clients are those clients whose channel it is
pub record AreMembers (clients : List Client) (topic : List ℕ) (s : Stall) : Type 0 where
  pub known : (n : ℕ) → client_of s.channel.clients n ≡ member_of topic (channel_name s) (client_in clients n)
  pub listed : (n : ℕ) → list_any (nat_eq n) s.members.items ≡ is_some (member_of topic (channel_name s) (client_in clients n))

-- the channel that a client has is there
abbrev pub HasItsChannel : Hall → Client → Type 0
HasItsChannel h c = IfSome (held_channel c.phase c.route) (λ route. IsSome (stall_at h.rooms.items route.topic route.channel))

-- a client that has no channel yet asked for no message
abbrev pub AsksForNone : Client → Type 0
AsksForNone c = is_fresh c.phase ≡ true → c.ready ≡ 0

-- no queue of a topic, nor of its channels, is marked as unsaved since a later moment
pub record IsPast (at : ℕ) (r : Room) : Type 0 where
  pub room : IfSome r.since (λ moment. moment ≤ at)
  pub stalls : All (λ (s : Stall). IfSome s.since (λ moment. moment ≤ at)) r.stalls.items

pub record IsSound (h : Hall) : Type 0 where
  pub options : IsInRange h.options
  pub epoch : h.epoch < 2 ^ 24
  pub ids_used : h.ids_used ≤ 2 ^ 40
  pub moment : h.moment ≤ 2 ^ 62
  pub client_order : AreInOrder h.clients.items
  pub room_order : IsAscendingBy topic_name h.rooms.items
  pub rooms : All (IsRoomSound h) h.rooms.items
  pub members : All (λ r. All (AreMembers h.clients.items (topic_name r)) r.stalls.items) h.rooms.items
  pub channels : All (HasItsChannel h) h.clients.items
  pub ready : All AsksForNone h.clients.items
  pub past : All (IsPast h.moment) h.rooms.items
