use Rattle.std.proofs.Common.{◌∙◌, [], ◌∷◌, ◌++◌, List, refl, ap}
use Rattle.floor_rooms.specs.declared.stall.Stall.{Stall}
use Rattle.floor_calls.proofs.subscribing.peopled_room.Goals as goal

pub returns : goal.returns
returns c = λ d. record {
  bare = c.in_ok-room.room;
  fresh = c.in_ok-room.ensures.room;
  is_topic = c.in_ok-room.ensures.stands;
  is = refl;
  stall = c.in_ok-seated_stall.field-0;
  stalls = c.push_reserved.ensures.items ∙ ap (λ (xs : List Stall). xs ++ c.in_ok-seated_stall.field-0 ∷ []) (c.reserve.ensures.items ∙ c.new-stalls.ensures.items);
  seated = c.in_ok-seated_stall.ensures d;
}
