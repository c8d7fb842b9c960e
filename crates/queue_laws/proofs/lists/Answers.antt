use Rattle.queue_image.proofs.Lists.{list_is_one, list_is_ordered, empty_is_at_end, first_goes, reading_turns, list_grows, list_turns}
use Rattle.queue_image.proofs.Keeping.{list_keeps}
use Rattle.queue_laws.proofs.lists.Goals as goal

pub returns : goal.returns
returns c = record { unique = list_is_one; ordered = list_is_ordered; empty = empty_is_at_end; keeps = list_keeps; first = first_goes; next_file = reading_turns; last = list_grows; new_file = list_turns }
