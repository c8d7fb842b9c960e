use Rattle.v2_frame.proofs.CanonicalLemmas.{canonical_spells}
use Rattle.stream_laws.proofs.laws.canonical_is_spelling.Goals as goal

pub returns : goal.returns
returns c = canonical_spells
