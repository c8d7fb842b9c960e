-- How the files of unlisted queues are set aside, one after the other.
use Rattle.std.specs.Prelude.{ℕ, ◌≡◌, ◌⊎◌, List, None, Contains, map, String, string_bytes, Bool, true, false, Result, Ok, Err, OnOk}
use Rattle.std.specs.declared.alloc.Global.{Global}
use Rattle.nsq_outside.specs.Causes.{CountsFault}
use Rattle.nsq_outside.specs.Files.{Files, SameFiles, IsRenamed}
use Rattle.queue_image.specs.FileNames.{set_aside}
use Rattle.path_image.specs.Data.{KeptTopic}
use Rattle.queue_sweep.specs.Swept.{IsUnlisted}
use Rattle.queue_sweep.specs.declared.unswept.Unswept.{Unswept}
use Rattle.queue_sweep.specs.declared.unswept.Unswept.TheVariants.{Fault, Memory}

-- nothing changes, or a file that is unlisted is set aside; without a failure an unlisted one is
pub record SweepsOne (topics : List KeptTopic) (file : List ℕ) (old new : Files) (answer : Result Bool Unswept) : Type 0 where
  pub either : SameFiles old new ⊎ (IsUnlisted topics file × IsRenamed old new file (set_aside file))
  pub done : OnOk answer (IsUnlisted topics file → IsRenamed old new file (set_aside file))

-- those of these files that are unlisted are gone
abbrev pub AreGone : List KeptTopic → List (String Global) → Files → Type 0
AreGone topics names files = (file : List ℕ) → Contains (map string_bytes names) file → IsUnlisted topics file → files file ≡ None

-- a fault is counted, and nothing else
abbrev pub SweepCounts : {A : Type 0} → ℕ → ℕ → Result A Unswept → Type 0
SweepCounts before now (Ok done) = CountsFault before now false
SweepCounts before now (Err Fault) = CountsFault before now true
SweepCounts before now (Err Memory) = CountsFault before now false
