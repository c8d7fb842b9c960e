use Rattle.floor_calls.proofs.Telling.{stall_told}
use Rattle.floor_calls.proofs.told.channel_stats.Goals as goal

pub returns : goal.returns
returns c =
    rw (c.name.ensures.value, c.is_paused.ensures)
    (stall_told c.args.hall.now c.args.topic c.args.stall.now c.counts-counts.result c.in_ok-clients_stats.field-0 c.requires.stall.about
    (record { tells = λ files disk on. c.counts-counts.ensures.tells c.requires.stall.settled files disk on; none = c.counts-counts.ensures.none })
    c.in_ok-clients_stats.ensures)
