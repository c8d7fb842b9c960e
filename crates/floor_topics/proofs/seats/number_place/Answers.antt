use Rattle.floor_topics.proofs.SeatNumbers.{number_place_of}
use Rattle.floor_topics.proofs.seats.number_place.Goals as goal

pub returns : goal.returns
returns c = number_place_of c.args.numbers.now c.args.number c.binary_search.result c.requires c.binary_search.ensures.position c.binary_search.ensures.bound
