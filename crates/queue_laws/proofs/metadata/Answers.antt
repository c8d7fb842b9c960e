use Rattle.queue_image.proofs.MetaLemmas.{one_meta, reads_back}
use Rattle.queue_laws.proofs.metadata.Goals as goal

pub returns : goal.returns
returns c = record { unique = one_meta; reads_back = reads_back }
