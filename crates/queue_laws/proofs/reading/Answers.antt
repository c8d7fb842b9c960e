use Rattle.queue_image.proofs.Reading.{joined, keeps}
use Rattle.queue_image.proofs.Keeping.{good_is_read}
use Rattle.queue_laws.proofs.reading.Goals as goal

pub returns : goal.returns
returns c = record { joins = λ least limit bytes f a g b h c xs ys r s. joined least limit r s; keeps = λ least limit old new f a g b xs r same front. keeps least limit r same front; good = good_is_read }
