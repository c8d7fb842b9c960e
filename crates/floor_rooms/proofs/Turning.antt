-- What changes at a place of the hall is the change of the channel, or of the topic, that stands there.
use Rattle.std.proofs.Common.{◌≡◌, ℕ, ap, ◌∙◌}
use Rattle.nsq_outside.specs.Files.{Files}
use Rattle.channel_core.specs.Seen.{queue_name}
use Rattle.topic_core.specs.Seen.{Seen as Queue}
use Rattle.floor_rooms.specs.declared.stall.Stall.{Stall}
use Rattle.floor_rooms.specs.declared.room.Room.{Room}
use Rattle.floor_rooms.specs.declared.hall.Hall.{Hall}
use Rattle.floor_rooms.specs.Rooms.{channel_name, topic_name}
use Rattle.floor_rooms.specs.Sound.{IsRoomSound, IsSound}
use Rattle.floor_rooms.specs.Changes.{OthersStay, StallChange, AtRoom, AtStall}
use Rattle.floor_rooms.specs.RoomChanges.{RoomChange}
use Rattle.floor_rooms.proofs.Placing.{found_at, put_at}
use Rattle.floor_rooms.proofs.Sounding.{at_all}
use Rattle.floor_rooms.proofs.Holding.{StaysElse}

pub stall_change : (h h' : Hall) (old new : Files) (i j : ℕ) (Does : Stall → Stall → Type 0) → IsSound h → (at : AtStall i j Does h.rooms.items h'.rooms.items) → channel_name at.does.after ≡ channel_name at.does.stall → StaysElse h h'
    → OthersStay (queue_name (topic_name at.room) (channel_name at.does.stall)) old new → StallChange h h' old new (topic_name at.room) (channel_name at.does.stall) at.does.stall at.does.after
stall_change h h' old new i j Does sound at named rest others =
    let room : IsRoomSound h at.room = at_all (IsRoomSound h) h.rooms.items i at.room sound.rooms at.there in
    let queue : at.after.queue ≡ at.room.queue = ap (λ (r : Room). r.queue) at.does.is in
    record {
      room = at.room;
      after = at.after;
      there = found_at topic_name h.rooms.items i at.room sound.room_order at.there;
      has = found_at channel_name at.room.stalls.items j at.does.stall room.order at.does.there;
      named = named;
      stalls = at.does.stalls ∙ put_at channel_name at.room.stalls.items j at.does.stall at.does.after room.order at.does.there named;
      queue = queue;
      rooms = at.is ∙ put_at topic_name h.rooms.items i at.room at.after sound.room_order at.there (ap (λ (q : Queue). q.name) queue);
      options = rest.options;
      epoch = rest.epoch;
      ids_used = rest.ids_used;
      moment = rest.moment;
      stopped = rest.stopped;
      clients = rest.clients;
      others = others;
    }

pub room_change : (h h' : Hall) (old new : Files) (i : ℕ) (Does : Room → Room → Type 0) → IsSound h → (at : AtRoom i Does h.rooms.items h'.rooms.items) → topic_name at.after ≡ topic_name at.room → at.after.stalls.items ≡ at.room.stalls.items → StaysElse h h'
    → OthersStay (topic_name at.room) old new → RoomChange h h' old new (topic_name at.room) at.room at.after
room_change h h' old new i Does sound at named stalls rest others = record {
  there = found_at topic_name h.rooms.items i at.room sound.room_order at.there;
  named = named;
  stalls = stalls;
  rooms = at.is ∙ put_at topic_name h.rooms.items i at.room at.after sound.room_order at.there named;
  options = rest.options;
  epoch = rest.epoch;
  ids_used = rest.ids_used;
  moment = rest.moment;
  stopped = rest.stopped;
  clients = rest.clients;
  others = others;
}
