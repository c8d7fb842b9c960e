use Rattle.floor_rooms.proofs.Growing.{fresh_stall_of}
use Rattle.floor_rooms.proofs.hall.Hall.free_stall.Goals as goal

pub returns-clause-stands : goal.returns-clause-stands
returns-clause-stands c = λ files idle.
    fresh_stall_of files c.args.topic c.args.channel c.args.self.now.options _ c.in_ok-fresh.ensures.seen (c.in_ok-fresh.ensures.list files) (c.in_ok-fresh.ensures.stands files) idle
