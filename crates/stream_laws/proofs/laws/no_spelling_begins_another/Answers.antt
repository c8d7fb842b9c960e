use Rattle.stream_laws.proofs.SpellingLemmas.{spells_unique}
use Rattle.stream_laws.proofs.laws.no_spelling_begins_another.Goals as goal

pub returns : goal.returns
returns c = λ limits a b x y f g s t e. let same = spells_unique limits a b x y f g s t e in (same.0, same.1)
