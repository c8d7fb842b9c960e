use Rattle.std.proofs.Common.{◌∙◌, ap}
use Rattle.path_plain.specs.Folders.{files_of}
use Rattle.path_image.specs.Data.{KeptTopic}
use Rattle.path_plain.proofs.FindingLemmas.{bad_of_channel}
use Rattle.path_plain.proofs.findings.found_topic.Goals as goal

pub returns-in_default-2 : goal.returns-in_default-2
returns-in_default-2 c =
    bad_of_channel (files_of c.args.files.now) c.args.kept.now _ c.deref.result.now (ap (λ (t : KeptTopic). t.name) c.kept.view_is) (c.deref.ensures.value ∙ ap (λ (t : KeptTopic). t.channels) c.kept.view_is)
    (rw c.in_default-2.is at c.in_ok-channels.ensures)
