use Rattle.v2_frame.proofs.MessageLemmas.{message_same}
use Rattle.stream_laws.proofs.message_laws.message_bytes_are_one.Goals as goal

pub returns : goal.returns
returns c = message_same
