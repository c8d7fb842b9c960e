use Rattle.v2_client.proofs.FrameRowLemmas.{rows_go_on}
use Rattle.v2_client.proofs.frame_laws.frames_go_on.Goals as goal

pub returns : goal.returns
returns c = rows_go_on
