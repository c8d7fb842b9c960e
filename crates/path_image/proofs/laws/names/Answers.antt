use Rattle.path_image.proofs.NameTexts.{names_text-IsNames}
use Rattle.path_image.proofs.laws.names.Goals as goal

pub returns : goal.returns
returns c = names_text-IsNames
