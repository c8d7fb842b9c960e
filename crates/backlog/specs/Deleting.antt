-- What deleting a backlog leaves.
use Rattle.std.specs.Prelude.{ℕ, ◌≡◌, ◌+◌, ◌≤◌, ◌⊎◌, List, Option, Some, None, true}
use Rattle.nsq_outside.specs.Causes.{Rose, CountsFault}
use Rattle.nsq_outside.specs.Files.{Files}
use Rattle.v2_frame.specs.declared.message.Message.{Message}
use Rattle.disk_queue.specs.Seen.{Seen as Queue}
use Rattle.disk_queue.specs.Emptying.{IsForgotten, IsGone as QueueIsGone}
use Rattle.disk_queue.specs.declared.answers.Emptied.TheVariants as emptying
use Rattle.backlog.specs.Seen.{Seen, EmptyQueueSeen}
use Rattle.backlog.specs.Lists.{OnDisk, Stands}
use Rattle.backlog.specs.declared.answers.Gone.{Gone}
use Rattle.backlog.specs.declared.answers.Gone.TheVariants.{Done as IsGone, Fault as NotGone}

-- a backlog that could not be deleted is as before, but that its queue's save failed
abbrev pub DeleteSeen : Seen → Gone → Type 0
DeleteSeen old IsGone = Unit {0}
DeleteSeen old (NotGone back) = (back ≡ record old { queue = back.queue }) × EmptyQueueSeen old.queue back.queue emptying.Fault

-- a backlog that could not be deleted has the messages that it had
abbrev pub DeleteLists : Files → List Message → Gone → Type 0
DeleteLists files disk IsGone = Unit {0}
DeleteLists files disk (NotGone back) = OnDisk back.queue files disk

abbrev pub DeleteStands : Files → Gone → Type 0
DeleteStands files IsGone = Unit {0}
DeleteStands files (NotGone back) = Stands back.queue files

-- after a deletion an opening finds nothing
abbrev pub DeleteFinds : Option Queue → Files → Gone → Type 0
DeleteFinds None files answer = Unit {0}
DeleteFinds (Some q) files IsGone = IsForgotten q files
DeleteFinds (Some q) files (NotGone back) = Unit {0}

-- after a deletion in which no removal failed the queue's files are gone
abbrev pub DeleteGone : Option Queue → Files → ℕ → ℕ → Gone → Type 0
DeleteGone None files before now answer = Unit {0}
DeleteGone (Some q) files before now IsGone = Rose before now ⊎ QueueIsGone q files
DeleteGone (Some q) files before now (NotGone back) = Unit {0}

-- a fault comes only with a rise
abbrev pub DeleteFails : ℕ → ℕ → Gone → Type 0
DeleteFails before now IsGone = Unit {0}
DeleteFails before now (NotGone back) = Rose before now

-- a fault is counted. In a deletion at most two removals failed
abbrev pub DeleteCounts : ℕ → ℕ → Gone → Type 0
DeleteCounts before now IsGone = now ≤ before + 2
DeleteCounts before now (NotGone back) = CountsFault before now true
