-- What deleting a channel, or a topic with its channels, makes of a state.
use Rattle.std.specs.Prelude.{◌≡◌, ◌⊎◌, ◌≤◌, ◌<◌, ℕ, Bool, HoldsAt, IsTrue, ◌&&◌, if◌then◌else◌, List, Option, Some, None, is_some, drop, fold, length, map, take}
use Rattle.nsq_base.specs.Name.{is_ephemeral}
use Rattle.nsq_outside.specs.Causes.{Rose}
use Rattle.nsq_outside.specs.Files.{Files}
use Rattle.broker_history.specs.State.{State, Topic, is_empty, topic_of, with_topic}
use Rattle.broker_history.specs.Changes.{channels_in, deleted, deleted_first, lost, without_channel, without_topic}
use Rattle.floor_rooms.specs.declared.room.Room.{Room}
use Rattle.floor_rooms.specs.declared.hall.Hall.{Hall}
use Rattle.floor_rooms.specs.Rooms.{client_in, stall_names, topic_name, without_room}
use Rattle.floor_rooms.specs.Sound.{IsSound}
use Rattle.floor_rooms.specs.Standing.{HoldsFor}
use Rattle.floor_rooms.specs.Changes.{AtRoom, KeepsSince, OnlyQueueFiles}
use Rattle.floor_rooms.specs.Kept.{NamesTold}
use Rattle.floor_topics.specs.declared.lost.Lost.{Lost}
use Rattle.floor_topics.specs.declared.lost.Lost.TheVariants as losing
use Rattle.floor_topics.specs.declared.deleted.Deleted.{Deleted}
use Rattle.floor_topics.specs.declared.deleted.Deleted.TheVariants.{Done, Fault}

-- the channel went, and with it an ephemeral topic that has no other, or all is as it was
abbrev pub DeletesChannel : Lost → (topic channel : List ℕ) → State → State → Type 0
DeletesChannel losing.Done topic channel s t = t ≡ deleted s topic (Some channel)
DeletesChannel losing.Fault topic channel s t = t ≡ s

-- the topic went with its channels, or so many of them went before a fault ended that
pub record DeletesFirst (topic : List ℕ) (count : ℕ) (s t : State) : Type 0 where
  pub within : count ≤ length (channels_in (topic_of s topic))
  pub is : t ≡ deleted_first s topic count

abbrev pub DeletesTopic : Deleted → (topic : List ℕ) → State → State → Type 0
DeletesTopic Done topic s t = t ≡ deleted s topic None
DeletesTopic (Fault count) topic s t = DeletesFirst topic count s t

-- a fault comes only with a rise
abbrev pub DeletionFails : (before now : ℕ) → Deleted → Type 0
DeletionFails before now Done = Unit {0}
DeletionFails before now (Fault count) = Rose before now

-- the state without an ephemeral topic that has no channel
abbrev pub without_empty : Room → State → State
without_empty r s = if is_ephemeral (topic_name r) && is_empty r.stalls.items then without_topic s (topic_name r) else s

-- the state after the channel of a topic was deleted, where the topic stays, also an ephemeral one that has no other
abbrev pub kept_in : State → (channel : List ℕ) → Option Topic → State
kept_in s channel None = s
kept_in s channel (Some t) = with_topic (record s { clients = map (lost t.name channel) s.clients }) (without_channel t channel)

abbrev pub kept_without : State → (topic channel : List ℕ) → State
kept_without s topic channel = kept_in s channel (topic_of s topic)

abbrev pub kept_without_all : State → (topic : List ℕ) → List (List ℕ) → State
kept_without_all s topic channels = fold (λ u channel. kept_without u topic channel) s channels

-- so many channels of a topic went, the first ones
pub record LosesFirst (count : ℕ) (old new : Room) : Type 0 where
  pub name : topic_name new ≡ topic_name old
  pub left : new.stalls.items ≡ drop count old.stalls.items

-- how many of so many were deleted by the answer: all, or less
abbrev pub deleted_of : (all : ℕ) → Deleted → ℕ
deleted_of all Done = all
deleted_of all (Fault count) = count

abbrev pub IsWithin : (all : ℕ) → Deleted → Type 0
IsWithin all Done = Unit {0}
IsWithin all (Fault count) = count < all

-- the topic went, or all stay
abbrev pub GoesEmpty : Room → (old new : List Room) → Type 0
GoesEmpty r old new = (new ≡ without_room old (topic_name r)) ⊎ (new ≡ old)

-- so many channels of a topic with these went one after another, the first ones: of each state that the hall stood for, and of the hall's files
pub record LosesSoFar (tells : Bool) (topic : List ℕ) (names : List (List ℕ)) (count : ℕ) (h h' : Hall) (old new : Files) (before now : ℕ) : Type 0 where
  pub sound : IsSound h'
  pub rest : h' ≡ record h { clients = h'.clients; rooms = h'.rooms; unsaved_names = h'.unsaved_names; unsaved_from = h'.unsaved_from }
  pub told : IsTrue tells → (s : State) → HoldsFor h old s → HoldsFor h' new (kept_without_all s topic (take count names))
  pub names_told : NamesTold h h'
  pub since : KeepsSince h.moment h.rooms.items h'.rooms.items
  pub files : IsTrue tells → OnlyQueueFiles old new
  pub faults : before ≤ now
  pub numbers : (m : ℕ) → is_some (client_in h'.clients.items m) ≡ is_some (client_in h.clients.items m)

-- so they went from the topic at a place of the hall
pub record LosesOn (tells : Bool) (i count : ℕ) (h h' : Hall) (old new : Files) (before now : ℕ) : Type 0 where
  pub rooms : AtRoom i (LosesFirst count) h.rooms.items h'.rooms.items
  pub loses : LosesSoFar tells (topic_name rooms.room) (stall_names rooms.room) count h h' old new before now

-- all of them went where the answer is Done
abbrev pub LosesAll : (i : ℕ) → Deleted → (old new : List Room) → Type 0
LosesAll i Done old new = HoldsAt (λ r. AtRoom i (LosesFirst (length r.stalls.items)) old new) old i
LosesAll i (Fault count) old new = Unit {0}
