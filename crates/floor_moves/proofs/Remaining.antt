-- Topics of which nothing but whether they are listed changed.
use Rattle.std.proofs.Common.{ℕ, List, refl, ap, ◌∙◌}
use Rattle.path_image.specs.Found.{Pairwise}
use Rattle.floor_rooms.specs.declared.room.Room.{Room}
use Rattle.floor_rooms.specs.Changes.{KeepsRoom, KeepsRooms}
use Rattle.floor_rooms.proofs.Dating.{keeps_room_alike, pairs_same, pairs_weaker, since_equal}
use Rattle.floor_moves.specs.Pending.{IsRelisted}

pub relisted_on : (a b c : Room) → IsRelisted a b → IsRelisted b c → IsRelisted a c
relisted_on a b c ab bc = bc ∙ ap (λ (r : Room). record r { listed = c.listed }) ab

room_relisted : (at : ℕ) (a b : Room) → IsRelisted a b → KeepsRoom at a b
room_relisted at a b is = keeps_room_alike at a b (ap (λ (r : Room). r.queue.name) is) (ap (λ (r : Room). r.queue.paused) is) (since_equal at a.since b.since (ap (λ (r : Room). r.since) is)) (ap (λ (r : Room). r.stalls.items) is)

pub relisted_keep : (at : ℕ) (rooms after : List Room) → Pairwise IsRelisted rooms after → KeepsRooms at rooms after
relisted_keep at rooms after pairs = pairs_weaker IsRelisted (KeepsRoom at) (room_relisted at) rooms after pairs

pub relisted_same : (rooms : List Room) → Pairwise IsRelisted rooms rooms
relisted_same rooms = pairs_same IsRelisted (λ r. refl) rooms
