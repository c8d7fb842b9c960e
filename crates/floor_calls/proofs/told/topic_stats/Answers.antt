use Rattle.floor_calls.proofs.Telling.{room_told}
use Rattle.floor_calls.proofs.told.topic_stats.Goals as goal

pub returns : goal.returns
returns c =
    rw (c.from.ensures, c.message_count.ensures, c.is_paused.ensures, c.name.ensures.value)
    (room_told c.args.hall.now c.args.channel c.args.room.now c.depths-depths.result.ring c.depths-depths.result.disk c.in_ok-channels_stats.field-0 c.requires.room.capacity
    (record { within = c.depths-depths.ensures.within; none = c.depths-depths.ensures.ephemeral; row = λ files t is. c.depths-depths.ensures.row files t is })
    c.in_ok-channels_stats.ensures)
