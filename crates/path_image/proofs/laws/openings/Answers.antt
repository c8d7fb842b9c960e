use Rattle.path_image.proofs.FindingOnce.{names_once, one_found}
use Rattle.path_image.proofs.laws.openings.Goals as goal

pub returns : goal.returns
returns c = record { names = names_once; finding = one_found }
