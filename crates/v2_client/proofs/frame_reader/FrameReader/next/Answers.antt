use Rattle.v2_client.proofs.FrameRowLemmas.{given_on}
use Rattle.v2_client.proofs.frame_reader.FrameReader.next.Goals as goal

pub returns-clause-given : goal.returns-clause-given
returns-clause-given c = given_on _ _ _ c.take_next.ensures
