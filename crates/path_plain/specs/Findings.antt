-- What the parts of the plain opening of a folder answer.
use Rattle.std.specs.Prelude.{ℕ, List, Contains}
use Rattle.nsq_outside.specs.Files.{Files}
use Rattle.queue_image.specs.Finds.{BadMeta}
use Rattle.path_plain.specs.declared.findings.Finding.{Finding as Answer}
use Rattle.path_plain.specs.declared.findings.Finding.TheVariants as answer
use Rattle.path_image.specs.Data.{KeptTopic}
use Rattle.path_image.specs.Found.{Finding, BadData, EpochSpent, Names, IsFoundQueue, queues_of}

-- one of these queues has bad metadata
pub record HasBadMeta (files : Files) (queues : List (List ℕ)) : Type 0 where
  pub name : List ℕ
  pub own : Contains queues name
  pub bad : IsFoundQueue files name BadMeta

-- a queue of one of these topics has bad metadata
pub record HasBadTopic (files : Files) (topics : List KeptTopic) : Type 0 where
  pub topic : KeptTopic
  pub listed : Contains topics topic
  pub bad : HasBadMeta files (queues_of topic)

-- the finding that the answer of an opening tells
abbrev pub finding_of : Answer → Finding
finding_of answer.BadData = BadData
finding_of answer.EpochSpent = EpochSpent
finding_of (answer.Names found) = Names found
