-- What is said of a topic's queue stays where its own files do.
use Rattle.std.proofs.Common.{ℕ, ◌≡◌, ◌≢◌, Bool, true, false, List, [], map, Option, Some, None, refl, sym, ◌∙◌, subst}
use Rattle.std.specs.Prelude.{IfSome, MatchBool, is_some}
use Rattle.nsq_base.specs.Name.{is_ephemeral}
use Rattle.nsq_outside.specs.Files.{Files}
use Rattle.queue_image.specs.Finds.{Records}
use Rattle.queue_image.specs.FileNames.IsFileOf.{own}
use Rattle.queue_image.proofs.Naming.{one_queue}
use Rattle.queue_image.proofs.Keeping.{finding_keeps}
use Rattle.v2_frame.specs.declared.message.Message.{Message}
use Rattle.v2_frame.specs.Written.{message_bytes}
use Rattle.path_image.specs.Found.{HasMessages}
use Rattle.backlog.specs.Queues.{Seen as Queue}
use Rattle.backlog.specs.Seen.{Seen as Backlog, FitsLimit, SameQueue}
use Rattle.backlog.specs.declared.backlog.Lent.TheVariants.{Nothing}
use Rattle.backlog.specs.Opened.{FilesOfChange}
use Rattle.backlog.proofs.Others.{holding_keeps, standing_keeps}
use Rattle.backlog.specs.Lists.{OnDisk, Stands, DiskChanges}
use Rattle.broker_history.specs.State.{Topic}
use Rattle.topic_core.specs.Seen.{Seen}
use Rattle.topic_core.specs.Kept.{IsNamed, IsSound}
use Rattle.topic_core.specs.Rows.{IsTopicOf, FindsMessages, FindsLeft}
use Rattle.topic_core.specs.Laws.{OwnFilesStay, DiskStays}

-- the same messages are on disk
pub disk_stays : (queue : Option Queue) (old new : Files) (disk : List Message) → DiskStays queue old new → OnDisk queue old disk → OnDisk queue new disk
disk_stays None old new disk stays on = on
disk_stays (Some q) old new disk stays on = record { list = holding_keeps q old new (map message_bytes disk) [] stays on.list; stored = on.stored }

-- it is the same topic
pub topic_stays : (q : Seen) (old new : Files) (t : Topic) → DiskStays q.backlog.queue old new → IsTopicOf q old t → IsTopicOf q new t
topic_stays q old new t stays is = record {
  name = is.name;
  paused = is.paused;
  message_count = is.message_count;
  taken = is.taken;
  disk = is.disk;
  on_disk = disk_stays q.backlog.queue old new is.disk stays is.on_disk;
  waiting = is.waiting;
  first = is.first;
}

-- what the last save left stands
pub save_stays : (queue : Option Queue) (old new : Files) → DiskStays queue old new → Stands queue old → Stands queue new
save_stays None old new stays stands = stands
save_stays (Some q) old new stays stands = standing_keeps q old new stays stands

-- an opening finds the same messages
messages_stay : (name : List ℕ) (old new : Files) (messages : List Message) → OwnFilesStay name old new → HasMessages old name messages → HasMessages new name messages
messages_stay name old new messages stays has = record {
  bodies = has.bodies;
  bad = has.bad;
  queue = finding_keeps 26 16777242 old new name (Records has.bodies has.bad) stays has.queue;
  records = has.records;
}

pub finding_stays : (name : List ℕ) (old new : Files) (messages : List Message) → OwnFilesStay name old new → FindsMessages old name messages → FindsMessages new name messages
finding_stays name old new messages stays = go (is_ephemeral name)
  where
    go : (b : Bool) → MatchBool b (messages ≡ []) (HasMessages old name messages) → MatchBool b (messages ≡ []) (HasMessages new name messages)
    go true none = none
    go false has = messages_stay name old new messages stays has

pub left_stays : (old new : Files) (t : Topic) → OwnFilesStay t.name old new → FindsLeft old t → FindsLeft new t
left_stays old new t stays finds = record { messages = finds.messages; found = messages_stay t.name old new finds.messages stays finds.found; left = finds.left }

-- the files of its name are the topic's own
named_disk : (name : List ℕ) (queue : Option Queue) (old new : Files) → IfSome queue (λ q. q.name ≡ name) → OwnFilesStay name old new → DiskStays queue old new
named_disk name None old new is stays = tt
named_disk name (Some q) old new is stays = subst (λ (n : List ℕ). OwnFilesStay n old new) (sym is) stays

pub name_tells : (q : Seen) (old new : Files) → IsNamed q.name q.backlog → OwnFilesStay q.name old new → DiskStays q.backlog.queue old new
name_tells q old new named stays = named_disk q.name q.backlog.queue old new named.queue stays

-- no file is of two queues
pub opening_stays : (name other : List ℕ) (old new : Files) → other ≢ name → FilesOfChange other old new → OwnFilesStay name old new
opening_stays name other old new apart change = λ file its. change file (λ of. apart (one_queue other name file of (own its)))

pub change_stays : (name : List ℕ) (queue : Option Queue) (old new : Files) → IfSome queue (λ q. q.name ≢ name) → DiskChanges queue old new → OwnFilesStay name old new
change_stays name None old new apart change = λ file its. change file
change_stays name (Some q) old new apart change = λ file its. change file (λ of. apart (one_queue q.name name file (own of) (own its)))

-- the backlog is the topic's still where its queue has the same name and nothing is drawn
same_some : (q r : Option Queue) → SameQueue q r → is_some r ≡ is_some q
same_some None None same = refl
same_some None (Some r) same = absurd same
same_some (Some q) None same = absurd same
same_some (Some q) (Some r) same = refl

same_name : (q r : Option Queue) (name : List ℕ) → SameQueue q r → IfSome q (λ q. q.name ≡ name) → IfSome r (λ r. r.name ≡ name)
same_name None None name same h = h
same_name None (Some r) name same h = absurd same
same_name (Some q) None name same h = absurd same
same_name (Some q) (Some r) name same h = same.name ∙ h

pub still_sound : {name : List ℕ} {b : Backlog} {head : Option Message} {owed : List (List ℕ)} (b' : Backlog) → IsSound name b head owed → SameQueue b.queue b'.queue → b'.lent ≡ Nothing → IsSound name b' head owed
still_sound {name} {b} b' s same nothing = record {
  named = record { durable = same_some b.queue b'.queue same ∙ s.named.durable; queue = same_name b.queue b'.queue name same s.named.queue };
  owes = s.owes;
  drawn = λ lent. absurd (lent nothing);
}

-- so it is where a head was drawn, which is owed to these channels
pub drawn_sound : {name : List ℕ} {b : Backlog} {head : Option Message} {owed : List (List ℕ)} (b' : Backlog) (m : Message) (channels now : List (List ℕ)) → IsSound name b head owed → SameQueue b.queue b'.queue → FitsLimit m
    → now ≡ channels → channels ≢ [] → IsSound name b' (Some m) now
drawn_sound {name} {b} b' m channels now s same short is some = record {
  named = record { durable = same_some b.queue b'.queue same ∙ s.named.durable; queue = same_name b.queue b'.queue name same s.named.queue };
  owes = record { none = λ no. absurd cc; some = λ there none. some (sym is ∙ none); short = short };
  drawn = λ lent. refl;
}
