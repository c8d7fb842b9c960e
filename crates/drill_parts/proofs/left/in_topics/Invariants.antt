use Rattle.std.proofs.Common.{take}
use Rattle.nsq_fakes.specs.MemFolders.{files_in}
use Rattle.drill_parts.specs.Left.{CountsTopics}
use Rattle.drill_parts.proofs.left.in_topics.Given as goal

abbrev pub invariant-loop-topic : goal.invariant-loop-topic
invariant-loop-topic l = CountsTopics (files_in l.folder) (take l.topic-index l.topics) l.sum
