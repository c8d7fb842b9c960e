-- What is where in a hall.
use Rattle.std.specs.Prelude.{ℕ, ◌==◌, not, List, map, filter, find, Option, option_and_then}
use Rattle.std.specs.Str.{bytes_eq}
use Rattle.nsq_base.specs.Names.{TopicList, put_by}
use Rattle.broker_history.specs.State.{Client}
use Rattle.floor_rooms.specs.declared.stall.Stall.{Stall}
use Rattle.floor_rooms.specs.declared.room.Room.{Room}
use Rattle.floor_rooms.specs.declared.hall.Hall.{Hall}

-- the names of a channel and of a topic
abbrev pub channel_name : Stall → List ℕ
channel_name s = s.channel.about.name

abbrev pub topic_name : Room → List ℕ
topic_name r = r.queue.name

-- the topic, the channel and the client of a name or a number, where there is one
abbrev pub room_in : List Room → List ℕ → Option Room
room_in rooms name = find (λ r. bytes_eq name (topic_name r)) rooms

abbrev pub stall_in : List Stall → List ℕ → Option Stall
stall_in stalls name = find (λ s. bytes_eq name (channel_name s)) stalls

abbrev pub client_in : List Client → ℕ → Option Client
client_in clients number = find (λ c. c.number == number) clients

abbrev pub stall_at : List Room → (topic channel : List ℕ) → Option Stall
stall_at rooms topic channel = option_and_then (λ r. stall_in r.stalls.items channel) (room_in rooms topic)

-- the rooms with this one at its place in byte order, in place of the one of its name; the stalls of a room likewise
abbrev pub put_room : List Room → Room → List Room
put_room rooms r = put_by topic_name rooms r

abbrev pub put_stall : List Stall → Stall → List Stall
put_stall stalls s = put_by channel_name stalls s

-- those of other names
abbrev pub without_room : List Room → List ℕ → List Room
without_room rooms name = filter (λ r. not (bytes_eq name (topic_name r))) rooms

abbrev pub without_stall : List Stall → List ℕ → List Stall
without_stall stalls name = filter (λ s. not (bytes_eq name (channel_name s))) stalls

-- the names of a room's channels, and its name with them
abbrev pub stall_names : Room → List (List ℕ)
stall_names r = map channel_name r.stalls.items

-- the names of all topics and channels
abbrev pub hall_names : Hall → TopicList
hall_names h = map (λ r. (topic_name r, stall_names r)) h.rooms.items
