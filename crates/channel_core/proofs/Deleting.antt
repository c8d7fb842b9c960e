-- What a channel that could not be deleted keeps.
use Rattle.std.proofs.Common.{◌≡◌, ℕ, Option, Some, None, ap, subst}
use Rattle.nsq_outside.specs.Files.{Files}
use Rattle.backlog.specs.Queues.{Seen as Queue}
use Rattle.backlog.specs.Emptied.TheVariants as emptying
use Rattle.backlog.specs.Seen.{EmptyQueueSeen, SameQueue}
use Rattle.backlog.specs.Deleting.{DeleteFinds as BacklogFinds, DeleteGone as BacklogGone}
use Rattle.backlog.specs.declared.answers.Gone.TheVariants.{Done as WasDeleted}
use Rattle.channel_core.specs.Deleting.{DeleteFinds, DeleteGone, IsKeptBack}
use Rattle.channel_core.specs.declared.answers.DropChannel.TheVariants.{Done, Fault}
use Rattle.channel_core.specs.Seen.{Seen}
use Rattle.channel_core.proofs.Keeping.{queue_rest}

-- its queue has the same name
pub same_kept : (q r : Option Queue) → EmptyQueueSeen q r emptying.Fault → SameQueue q r
same_kept None None seen = tt
same_kept None (Some r) seen = absurd seen
same_kept (Some q) None seen = absurd seen
same_kept (Some q) (Some r) seen = record { name = ap (λ (x : Queue). x.name) seen; options = ap (λ (x : Queue). x.options) seen }

-- and all else is the same
pub kept_back : (v0 v w : Seen) → v0 ≡ v → SameQueue v0.backlog.queue w.backlog.queue → w.backlog ≡ record v0.backlog { queue = w.backlog.queue } → w ≡ record v0 { backlog = w.backlog } → IsKeptBack v w
kept_back v0 v w is queue backlog rest = record { queue = subst (λ (u : Seen). SameQueue u.backlog.queue w.backlog.queue) is queue; rest = queue_rest v0 v w is backlog rest }

-- what an opening finds after it
pub finds_nothing : (q : Option Queue) (files : Files) → BacklogFinds q files WasDeleted → DeleteFinds q files Done
finds_nothing None files found = tt
finds_nothing (Some q) files found = found

pub finds_kept : (q : Option Queue) (files : Files) (back : Seen) → DeleteFinds q files (Fault back)
finds_kept None files back = tt
finds_kept (Some q) files back = tt

pub gone_with : (q : Option Queue) (files : Files) (before now : ℕ) → BacklogGone q files before now WasDeleted → DeleteGone q files before now Done
gone_with None files before now gone = tt
gone_with (Some q) files before now gone = gone

pub gone_kept : (q : Option Queue) (files : Files) (before now : ℕ) (back : Seen) → DeleteGone q files before now (Fault back)
gone_kept None files before now back = tt
gone_kept (Some q) files before now back = tt
