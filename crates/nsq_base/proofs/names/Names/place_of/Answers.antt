use Rattle.std.proofs.Common.{rules}
use Rattle.std.proofs.lemmas.List.Sorted.{answers_always}
use Rattle.nsq_base.specs.Names.{topic_of}
use Rattle.nsq_base.proofs.PutBy.{place_found}
use Rattle.nsq_base.proofs.names.Names.place_of.Goals as goal

pub returns-clause-place : goal.returns-clause-place
returns-clause-place c =
    let facts = c.binary_search_by_key.ensures in
    let by_key = facts.position topic_of (answers_always _ _ _ (λ f a r g called. search rules)) in
    rw (← c.self.view_is, ← c.deref.ensures.value, ← c.name.ensures.value) (place_found topic_of _ _ _ (rw c.deref.ensures.value c.self.invariant.ascending) facts.bound by_key)
