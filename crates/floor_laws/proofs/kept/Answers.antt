use Rattle.floor_laws.proofs.Lifting.{same_kept, new_kept, emptied_kept, paused_kept}
use Rattle.floor_laws.proofs.kept.Goals as goal

pub returns : goal.returns
returns c = record { same = same_kept; new = new_kept; emptied = emptied_kept; paused = paused_kept }
