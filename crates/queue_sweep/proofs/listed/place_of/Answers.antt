use Rattle.std.proofs.Common.{rules}
use Rattle.std.proofs.lemmas.List.Sorted.{answers_always}
use Rattle.nsq_base.proofs.PutBy.{place_found}
use Rattle.queue_sweep.specs.Swept.{topic_name}
use Rattle.queue_sweep.proofs.listed.place_of.Goals as goal

pub returns : goal.returns
returns c =
    let facts = c.binary_search_by_key.ensures in
    let by_key = facts.position topic_name (answers_always _ _ _ (λ f a r g called. search rules)) in
    place_found topic_name _ _ _ c.requires facts.bound by_key
