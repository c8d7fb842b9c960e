use Rattle.http_wire.proofs.RequestLemmas.{stays}
use Rattle.http_wire.proofs.laws.requests_stay.Goals as goal

pub returns : goal.returns
returns c = stays
