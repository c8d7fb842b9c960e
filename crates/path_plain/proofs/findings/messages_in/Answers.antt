use Rattle.path_plain.specs.Folders.{files_of}
use Rattle.path_plain.proofs.FindingLemmas.{found_least}
use Rattle.path_plain.proofs.findings.messages_in.Goals as goal

pub messages_of-requires : goal.messages_of-requires
messages_of-requires c = found_least (files_of c.args.files.now) c.args.name.now c.in-Records.listing.bodies c.in-Records.listing.bad.items (rw c.in-Records.is at c.in_ok-found_queue.ensures)
