use Rattle.due_heap.proofs.Exchanging.{exchanged_set, matched_exchanged, moved_set}
use Rattle.due_heap.proofs.order.exchange.Goals as goal

pub returns-clause-exchanged : goal.returns-clause-exchanged
returns-clause-exchanged g c =
    rw (c.requires.at_i, c.requires.at_j) (exchanged_set c.args.order.now c.args.places.now c.args.i c.args.j c.requires.matched c.requires.i_in c.requires.j_in)

pub returns-clause-matched : goal.returns-clause-matched
returns-clause-matched g c =
    rw (c.requires.at_i, c.requires.at_j) (matched_exchanged c.args.order.now c.args.places.now c.args.i c.args.j c.requires.matched c.requires.i_in c.requires.j_in)

pub returns-clause-moved : goal.returns-clause-moved
returns-clause-moved g c n i_below j_below =
    rw (c.requires.at_i, c.requires.at_j) (moved_set c.args.order.now c.args.places.now c.args.i c.args.j c.requires.matched c.requires.i_in c.requires.j_in n i_below j_below)
