-- What deleting a topic's queue leaves.
use Rattle.std.specs.Prelude.{◌≡◌}
use Rattle.nsq_outside.specs.Files.{Files}
use Rattle.backlog.specs.Deleting.{DeleteSeen}
use Rattle.backlog.specs.declared.answers.Gone.{Gone}
use Rattle.backlog.specs.declared.answers.Gone.TheVariants.{Done as IsGone, Fault as NotGone}
use Rattle.topic_core.specs.Seen.{Seen}
use Rattle.topic_core.specs.Rows.{Stays}
use Rattle.topic_core.specs.declared.answers.DropTopic.{DropTopic}
use Rattle.topic_core.specs.declared.answers.DropTopic.TheVariants.{Done, Fault}

-- the answer of the backlog
abbrev pub backlog_gone : DropTopic → Gone
backlog_gone Done = IsGone
backlog_gone (Fault back) = NotGone back.backlog

-- a topic's queue that could not be deleted is as before, but for what is seen of its backlog
abbrev pub DropSeen : Seen → DropTopic → Type 0
DropSeen old Done = Unit {0}
DropSeen old (Fault back) = (back ≡ record old { backlog = back.backlog }) × DeleteSeen old.backlog (NotGone back.backlog)

-- and it is the same topic still
abbrev pub DropStays : Seen → Files → Files → DropTopic → Type 0
DropStays old before after Done = Unit {0}
DropStays old before after (Fault back) = Stays old before back after
