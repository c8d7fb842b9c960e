use Rattle.std.proofs.Common.{None, ap}
use Rattle.topic_core.specs.Seen.{Seen as TopicSeen}
use Rattle.floor_rooms.proofs.Marked.{at_room_read}
use Rattle.floor_topics.specs.Losing.{Forgets}
use Rattle.floor_topics.proofs.losing.strike.Goals as goal

pub returns-clause-room : goal.returns-clause-room
returns-clause-room c =
    let room = c.index_mut-room.result.now in
    at_room_read c.args.i (Forgets c.args.channel) c.args.hall.now.rooms.items room _ c.requires.room c.index_mut-room.ensures.value (ap (λ (q : TopicSeen). record room { queue = q; names = None }) c.forget_channel.ensures.seen)
