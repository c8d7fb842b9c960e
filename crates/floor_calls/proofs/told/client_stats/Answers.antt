use Rattle.floor_calls.proofs.Telling.{number_told}
use Rattle.floor_calls.proofs.told.client_stats.Goals as goal

pub returns : goal.returns
returns c =
    number_told c.args.hall.now.clients.items c.args.stall.now c.args.number c.in-Some.client.now c.in_flight-flying.result c.in_ok-tells.field-0 c.in-Some.ensures c.in_flight-flying.ensures c.in_ok-tells.ensures
