use Rattle.std.proofs.Common.{rules}
use Rattle.std.proofs.lemmas.List.Sorted.{answers_always}
use Rattle.broker_history.specs.State.{Client}
use Rattle.floor_rooms.proofs.ClientPlacing.{place_found}
use Rattle.floor_rooms.proofs.clients.place_of.Goals as goal

pub returns : goal.returns
returns c =
    let facts = c.binary_search_by_key.ensures in
    let by_key = facts.position (λ (d : Client). d.number) (answers_always _ _ _ (λ f a r g called. search rules)) in
    place_found _ _ _ c.requires facts.bound by_key
