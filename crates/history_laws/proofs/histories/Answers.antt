use Rattle.broker_history.proofs.Histories.{Legal-append, Legal-front, moment-Legal}
use Rattle.broker_history.proofs.Stops.{stops_once, faults_but_one}
use Rattle.history_laws.proofs.histories.Goals as goal

pub returns : goal.returns
returns c = record {
  join = λ s t u h k a b. Legal-append a b;
  fronts = Legal-front;
  moments = moment-Legal;
  stops = stops_once;
  faults = faults_but_one;
}
