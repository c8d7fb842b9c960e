use Rattle.http_wire.proofs.RequestLemmas.{one}
use Rattle.http_wire.proofs.laws.one_request.Goals as goal

pub returns : goal.returns
returns c = one
