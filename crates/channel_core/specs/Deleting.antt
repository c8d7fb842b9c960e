-- What deleting a channel leaves.
use Rattle.std.specs.Prelude.{◌≡◌, ◌⊎◌, ℕ, List, Option, Some, None}
use Rattle.nsq_outside.specs.Files.{Files}
use Rattle.nsq_outside.specs.Causes.{Rose}
use Rattle.v2_frame.specs.declared.message.Message.{Message}
use Rattle.backlog.specs.Queues.{Seen as Queue}
use Rattle.backlog.specs.Emptying.{IsForgotten, IsGone}
use Rattle.backlog.specs.Seen.{SameQueue}
use Rattle.backlog.specs.Lists.{OnDisk, Stands}
use Rattle.channel_core.specs.declared.answers.DropChannel.{DropChannel}
use Rattle.channel_core.specs.declared.answers.DropChannel.TheVariants.{Done, Fault}
use Rattle.channel_core.specs.Seen.{Seen, queued_in}

-- a channel that could not be deleted is as it was, but for what is seen of its queue
pub record IsKeptBack (old back : Seen) : Type 0 where
  pub queue : SameQueue old.backlog.queue back.backlog.queue
  pub rest : back ≡ record old { backlog = record old.backlog { queue = back.backlog.queue } }

abbrev pub DeleteSeen : Seen → DropChannel → Type 0
DeleteSeen old Done = Unit {0}
DeleteSeen old (Fault back) = IsKeptBack old back

-- and has the copies that it had
pub record HasAll (old back : Seen) (disk : List Message) (files : Files) : Type 0 where
  pub on_disk : OnDisk back.backlog.queue files disk
  pub same : queued_in back disk ≡ queued_in old disk

abbrev pub Deletes : Seen → (disk : List Message) → Files → DropChannel → Type 0
Deletes old disk files Done = Unit {0}
Deletes old disk files (Fault back) = HasAll old back disk files

abbrev pub DeleteStands : Files → DropChannel → Type 0
DeleteStands files Done = Unit {0}
DeleteStands files (Fault back) = Stands back.backlog.queue files

-- after a deletion an opening finds nothing
abbrev pub DeleteFinds : Option Queue → Files → DropChannel → Type 0
DeleteFinds None files answer = Unit {0}
DeleteFinds (Some q) files Done = IsForgotten q files
DeleteFinds (Some q) files (Fault back) = Unit {0}

-- after one in which no removal failed the queue's files are gone
abbrev pub DeleteGone : Option Queue → Files → (before now : ℕ) → DropChannel → Type 0
DeleteGone None files before now answer = Unit {0}
DeleteGone (Some q) files before now Done = Rose before now ⊎ IsGone q files
DeleteGone (Some q) files before now (Fault back) = Unit {0}

-- a fault comes only with a rise
abbrev pub DeleteFails : (before now : ℕ) → DropChannel → Type 0
DeleteFails before now Done = Unit {0}
DeleteFails before now (Fault back) = Rose before now
