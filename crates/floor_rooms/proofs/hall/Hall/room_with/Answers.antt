use Rattle.std.proofs.Common.{◌∙◌, [], ◌∷◌, ◌++◌, List, ap, subst}
use Rattle.nsq_base.specs.Name.{IsName}
use Rattle.floor_rooms.specs.declared.stall.Stall.{Stall}
use Rattle.floor_rooms.specs.declared.room.Room.{Room}
use Rattle.floor_rooms.proofs.Growing.{fresh_room_with}
use Rattle.floor_rooms.proofs.hall.Hall.room_with.Goals as goal

pub returns-clause-room : goal.returns-clause-room
returns-clause-room c =
    let is = c.of.ensures in
    record {
      named = subst IsName c.bytes.ensures.value c.bytes.ensures.is_name;
      queue = ap (λ (r : Room). r.queue) is ∙ c.in_ok-queue.ensures.seen;
      since = ap (λ (r : Room). r.since) is;
      listed = ap (λ (r : Room). r.listed) is;
      names = ap (λ (r : Room). r.names) is;
      stall = c.in_ok-free_stall.field-0;
      stalls = ap (λ (r : Room). r.stalls.items) is ∙ (c.push_reserved.ensures.items ∙ ap (λ (xs : List Stall). xs ++ c.in_ok-free_stall.field-0 ∷ []) c.in_ok-stalls.ensures.items);
      fresh = c.in_ok-free_stall.ensures.stall;
    }

pub returns-clause-stands : goal.returns-clause-stands
returns-clause-stands c = λ files idle idle_channel.
    fresh_room_with files c.args.topic c.args.channel c.args.self.now.options c.of.result c.in_ok-queue.queue c.in_ok-free_stall.field-0 (ap (λ (r : Room). r.queue) c.of.ensures) (ap (λ (r : Room). r.stalls.items) c.of.ensures ∙ (c.push_reserved.ensures.items ∙ ap (λ (xs : List Stall). xs ++ c.in_ok-free_stall.field-0 ∷ []) c.in_ok-stalls.ensures.items)) c.in_ok-queue.ensures.seen
    (c.in_ok-queue.ensures.row files) (c.in_ok-queue.ensures.stands files) idle (c.in_ok-free_stall.ensures.stands files idle_channel)
