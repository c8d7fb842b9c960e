use Rattle.std.proofs.Common.{rules}
use Rattle.std.proofs.lemmas.List.Sorted.{answers_always}
use Rattle.nsq_base.proofs.PutBy.{place_found}
use Rattle.floor_rooms.specs.Rooms.{channel_name}
use Rattle.floor_rooms.proofs.room.Room.place_of.Goals as goal

pub returns : goal.returns
returns c =
    let facts = c.binary_search_by_key.ensures in
    let by_key = facts.position channel_name (answers_always _ _ _ (λ f a r g called. search rules)) in
    rw (← c.deref.ensures.value) (place_found channel_name _ _ _ (rw c.deref.ensures.value c.requires) facts.bound by_key)
