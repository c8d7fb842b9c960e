use Rattle.v2_client.proofs.FrameRowLemmas.{one_row}
use Rattle.v2_client.proofs.frame_laws.one_row_of_frames.Goals as goal

pub returns : goal.returns
returns c = one_row
