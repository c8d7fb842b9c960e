use Rattle.std.proofs.Common.{◌∙◌, ap}
use Rattle.floor_rooms.specs.declared.room.Room.{Room}
use Rattle.floor_rooms.proofs.Forming.{fresh_room_of}
use Rattle.floor_rooms.proofs.hall.Hall.free_room.Goals as goal

pub returns-clause-stands : goal.returns-clause-stands
returns-clause-stands c = λ files idle.
    fresh_room_of files c.args.topic c.args.self.now.options c.of.result c.in_ok-queue.queue (ap (λ (r : Room). r.queue) c.of.ensures) (ap (λ (r : Room). r.stalls.items) c.of.ensures ∙ c.new.ensures.items) c.in_ok-queue.ensures.seen (c.in_ok-queue.ensures.row files)
    (c.in_ok-queue.ensures.stands files) idle
