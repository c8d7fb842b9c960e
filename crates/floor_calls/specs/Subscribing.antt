-- What a client's coming to a channel makes of a hall, where the channel and its topic may have to be made for it.
use Rattle.std.specs.Prelude.{◌≡◌, ℕ, List, [], ◌∷◌, Some, slice_set}
use Rattle.std.specs.List.{Contains}
use Rattle.nsq_base.specs.declared.options.Options.{Options}
use Rattle.nsq_outside.specs.Files.{Files}
use Rattle.broker_history.specs.State.{Client, State, new_channel, new_topic, with_client}
use Rattle.broker_history.specs.Changes.{made_channel}
use Rattle.broker_history.specs.Step.{subscribed}
use Rattle.floor_rooms.specs.declared.stall.Stall.{Stall}
use Rattle.floor_rooms.specs.declared.room.Room.{Room}
use Rattle.floor_rooms.specs.declared.hall.Hall.{Hall}
use Rattle.floor_rooms.specs.Sound.{IsSound}
use Rattle.floor_rooms.specs.Standing.{HoldsFor, IsRoomOf, IsStallOf}
use Rattle.floor_rooms.specs.Changes.{KeepsRooms, KeepsSince}
use Rattle.floor_rooms.specs.Kept.{NamesTold}
use Rattle.floor_rooms.specs.Made.{BeginsIdle, ChannelBeginsIdle, IsFreshRoom, IsFreshStall}
use Rattle.floor_topics.specs.Seating.{Seats}

-- nothing of a hall changed but for how much there is room
pub record IsAsItWas (old new : Hall) : Type 0 where
  pub rooms : KeepsRooms old.moment old.rooms.items new.rooms.items
  pub clients : new.clients.items ≡ old.clients.items
  pub pending : new.pending.items ≡ old.pending.items
  pub unsaved_names : new.unsaved_names ≡ old.unsaved_names

-- so it is as sound, and stands for the same states
pub record Remains (old new : Hall) : Type 0 where
  pub same : IsAsItWas old new
  pub sound : IsSound new
  pub stands : (files : Files) (s : State) → HoldsFor old files s → HoldsFor new files s

-- the client at a place, which was this one, has this channel from now on, which was made with its topic where they weren't there
pub record Joins (topic channel : List ℕ) (k : ℕ) (old new : Hall) (c : Client) : Type 0 where
  pub clients : new.clients.items ≡ slice_set old.clients.items k (subscribed topic channel c)
  pub listed : Contains new.pending.items topic
  pub sound : IsSound new
  pub names : NamesTold old new
  pub since : KeepsSince old.moment old.rooms.items new.rooms.items
  pub stands : (files : Files) (s : State) → HoldsFor old files s → HoldsFor new files (with_client (made_channel s topic channel) (subscribed topic channel c))

-- a channel as it is made, but that it has this client
pub record IsSeated (topic channel : List ℕ) (options : Options) (s : Stall) (c : Client) : Type 0 where
  pub bare : Stall
  pub fresh : IsFreshStall topic channel options bare
  pub is_channel : (files : Files) → ChannelBeginsIdle files topic channel → IsStallOf files bare (new_channel channel)
  pub seats : Seats c.number (Some (record { timeout = c.timeout; ready = 0 })) bare s

-- a topic as it is made, but that it has one channel, which has this client
pub record IsPeopled (topic channel : List ℕ) (options : Options) (r : Room) (c : Client) : Type 0 where
  pub bare : Room
  pub fresh : IsFreshRoom topic options bare
  pub is_topic : (files : Files) → BeginsIdle files topic → IsRoomOf files bare (new_topic topic)
  pub is : r ≡ record bare { stalls = r.stalls }
  pub stall : Stall
  pub stalls : r.stalls.items ≡ stall ∷ []
  pub seated : IsSeated topic channel options stall c
