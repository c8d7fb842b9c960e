-- What the file of names can keep.
use Rattle.std.specs.Prelude.{List}
use Rattle.std.specs.List.{AllByRecursion}
use Rattle.path_image.specs.Data.{CanKeepTopic, IsKept, KeptTopic}

-- topics with good names, each once and in byte order, and so their channels
pub record CanKeepAll (kept : List KeptTopic) : Type 0 where
  pub topics : AllByRecursion CanKeepTopic kept
  pub keeps : IsKept (λ (t : KeptTopic). t.name) kept kept
