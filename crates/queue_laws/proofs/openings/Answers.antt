use Rattle.std.proofs.Common.{[], refl}
use Rattle.queue_image.specs.Finds.{Records}
use Rattle.queue_image.proofs.Walking.{one_finding, list_is_found, found_is_list}
use Rattle.queue_image.proofs.Keeping.{finding_keeps, saved_is_found}
use Rattle.queue_laws.proofs.Mending.{found_up_to}
use Rattle.queue_laws.proofs.openings.Goals as goal

pub returns : goal.returns
returns c = record {
  unique = one_finding;
  keeps = finding_keeps;
  list = list_is_found;
  saved = saved_is_found;
  between = λ least limit files name text meta bodies e i inside f. found_is_list least limit files name text meta bodies (Records bodies []) e i inside f refl;
  kept = λ least limit p old new k bodies bad w past below mended same. found_up_to least limit p old new w past below mended same;
}
