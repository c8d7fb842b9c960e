use Rattle.std.proofs.Common.{take}
use Rattle.path_plain.specs.Folders.{files_of}
use Rattle.path_image.specs.Found.{Pairwise, FindsTopic}
use Rattle.path_plain.proofs.findings.found_topics.Given as goal

abbrev pub invariant-loop-topic : goal.invariant-loop-topic
invariant-loop-topic l = Pairwise (FindsTopic (files_of l.files)) (take l.topic-index l.kept) l.topics.items
