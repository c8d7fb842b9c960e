use Rattle.queue_image.proofs.Naming.{one_queue, one_channel, no_channel, one_number, metadata_apart, aside_apart, long_name}
use Rattle.queue_laws.proofs.names.Goals as goal

pub returns : goal.returns
returns c = record { files = one_queue; channels = one_channel; topics = no_channel; numbers = one_number; metadata = metadata_apart; aside = aside_apart; long = long_name }
