use Rattle.floor_rooms.proofs.Putting.{put_standing, put_belonging, gone_standing, order_put, order_gone, found_put, found_gone, found_map}
use Rattle.floor_rooms.proofs.laws.places.Goals as goal

pub returns : goal.returns
returns c = record {
  exchanged = put_standing;
  inserted = put_belonging;
  goes = gone_standing;
  put_in_order = order_put;
  gone_in_order = order_gone;
  put_found = found_put;
  gone_not_found = found_gone;
  changed_found = found_map;
}
