use Rattle.std.proofs.Common.{true}
use Rattle.channel_copies.proofs.flights.Flights.has.Goals as goal

pub returns-in-Some : goal.returns-in-Some
returns-in-Some c = c.in-Some.ensures.only (λ f. true)
