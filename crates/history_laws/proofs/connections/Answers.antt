use Rattle.broker_history.proofs.Own.{own-append, common_none, stops_stay, gone_tells, others_gone, talk_stays, talk_without_gone, talk_with_gone}
use Rattle.history_laws.proofs.connections.Goals as goal

pub returns : goal.returns
returns c = record {
  own = own-append;
  common = common_none;
  only_gones = stops_stay;
  gones = gone_tells;
  others = others_gone;
  stay = talk_stays;
  without_gone = talk_without_gone;
  with_gone = talk_with_gone;
}
