-- What changes of a queue's files are changes of files of queues.
use Rattle.std.proofs.Common.{◌≡◌, ℕ, List, Option, Some, None, refl, sym, subst, ◌∙◌}
use Rattle.std.specs.Prelude.{IfSome}
use Rattle.nsq_base.specs.Name.{IsName}
use Rattle.nsq_outside.specs.Files.{Files}
use Rattle.queue_image.specs.FileNames.{IsQueueName}
use Rattle.queue_image.specs.FileNames.IsQueueName.{of_topic, of_channel}
use Rattle.channel_core.specs.Queues.{Seen as Queue}
use Rattle.channel_core.specs.Lists.{DiskChanges}
use Rattle.channel_core.specs.Seen.{queue_name}
use Rattle.floor_rooms.specs.Changes.{OnlyQueueFiles}

only_of : (name : List ℕ) (queue : Option Queue) (old new : Files) → IsQueueName name → IfSome queue (λ q. q.name ≡ name) → DiskChanges queue old new → OnlyQueueFiles old new
only_of name None old new named is change = λ file other. change file
only_of name (Some q) old new named is change = λ file other. change file (other q.name (subst IsQueueName (sym is) named))

pub only_of_topic : (name : List ℕ) (queue : Option Queue) (old new : Files) → IsName name → IfSome queue (λ q. q.name ≡ name) → DiskChanges queue old new → OnlyQueueFiles old new
only_of_topic name queue old new named is change = only_of name queue old new (of_topic named) is change

pub only_of_channel : (topic channel : List ℕ) (queue : Option Queue) (old new : Files) → IsName topic → IsName channel → IfSome queue (λ q. q.name ≡ queue_name topic channel) → DiskChanges queue old new → OnlyQueueFiles old new
only_of_channel topic channel queue old new nt nc is change = only_of (queue_name topic channel) queue old new (of_channel topic channel nt nc refl) is change

pub only_same : (old new : Files) → ((file : List ℕ) → new file ≡ old file) → OnlyQueueFiles old new
only_same old new same = λ file other. same file

pub only_then : (a b c : Files) → OnlyQueueFiles a b → OnlyQueueFiles b c → OnlyQueueFiles a c
only_then a b c x y = λ file other. y file other ∙ x file other
