-- Topics and channels that are written to disk.
use Rattle.std.specs.Prelude.{◌≡◌, false, List, All}
use Rattle.nsq_base.specs.Name.{is_ephemeral}
use Rattle.path_image.specs.Data.{KeptChannel, KeptTopic}

-- no topic is ephemeral, and no channel of theirs
pub record AreDurable (these : List KeptTopic) : Type 0 where
  pub topics : All (λ (t : KeptTopic). is_ephemeral t.name ≡ false) these
  pub channels : All (λ (t : KeptTopic). All (λ (c : KeptChannel). is_ephemeral c.name ≡ false) t.channels) these
