-- The file of names and its temporary are no queue's, and what an opening finds of queues stays where they change.
use Rattle.std.proofs.Common.{◌≡◌, ◌≢◌, ◌⊎◌, inl, inr, ℕ, List, length, ap, arith}
use Rattle.std.specs.Prelude.{Contains}
use Rattle.std.proofs.lemmas.List.Elements.{All-weaker}
use Rattle.nsq_outside.specs.Files.{Files}
use Rattle.v2_frame.specs.declared.message.Message.{Message}
use Rattle.queue_image.specs.FileNames.{IsOwnFile}
use Rattle.queue_image.specs.FileNames.IsFileOf.{own}
use Rattle.queue_image.specs.Finds.{Records}
use Rattle.queue_image.proofs.Naming.{long_name}
use Rattle.queue_image.proofs.Keeping.{finding_keeps}
use Rattle.queue_files.specs.Replaced.{OnlyTwoChange}
use Rattle.path_image.specs.Data.{data_name, temp_name}
use Rattle.path_image.specs.Found.{HasMessages, least_record, longest_record}
use Rattle.broker_history.specs.State.{Channel, State, Topic}
use Rattle.broker_history.specs.Left.{durable_channels, durable_topics, left_in_channel}
use Rattle.topic_core.specs.Laws.{OwnFilesStay}
use Rattle.topic_core.specs.Rows.{FindsLeft}
use Rattle.channel_core.specs.Seen.{queue_name}
use Rattle.floor_serving.specs.Flushing.{FindsQueue, LeavesAll, LeavesBut, LeavesChannel, LeavesTopic, LeavesTopicBut}

-- a file of a queue has another name than the file of names and its temporary, which are too short
no_names : (name file : List ℕ) → IsOwnFile name file → (file ≢ data_name) × (file ≢ temp_name)
no_names name file its =
    let long = long_name name file (own its) in
    (λ e. let short : length file ≡ 8 = ap length e in omega (arith, long, short), λ e. let short : length file ≡ 12 = ap length e in omega (arith, long, short))

pub names_apart : (queue : List ℕ) → IsOwnFile queue data_name → ⊥
names_apart queue its = let long = long_name queue data_name (own its) in omega (arith, long)

pub temp_apart : (queue : List ℕ) → IsOwnFile queue temp_name → ⊥
temp_apart queue its = let long = long_name queue temp_name (own its) in omega (arith, long)

module _ (mid new : Files) (two : OnlyTwoChange mid new data_name temp_name) where
  own_stays : (name : List ℕ) → OwnFilesStay name mid new
  own_stays name file its = let apart = no_names name file its in two file apart.0 apart.1

  messages_stay : (name : List ℕ) (messages : List Message) → HasMessages mid name messages → HasMessages new name messages
  messages_stay name messages has = record {
    bodies = has.bodies;
    bad = has.bad;
    queue = finding_keeps least_record longest_record mid new name (Records has.bodies has.bad) (own_stays name) has.queue;
    records = has.records;
  }

  topic_found : (t : Topic) → FindsLeft mid t → FindsLeft new t
  topic_found t found = record { messages = found.messages; found = messages_stay t.name found.messages found.found; left = found.left }

  queue_found : (left : List Message) (name : List ℕ) → FindsQueue left name mid → FindsQueue left name new
  queue_found left name found = record { messages = found.messages; found = messages_stay name found.messages found.found; same = found.same }

  topic_leaves : (t : Topic) → LeavesTopic mid t → LeavesTopic new t
  topic_leaves t leaves = record {
    own = topic_found t leaves.own;
    channels = All-weaker (LeavesChannel mid t.name) (LeavesChannel new t.name) (λ k found. queue_found (left_in_channel k) (queue_name t.name k.name) found) (durable_channels t) leaves.channels;
  }

  -- all that was left is found where the file of names changes
  pub all_behind : (s : State) → LeavesAll s mid → LeavesAll s new
  all_behind s leaves = All-weaker (LeavesTopic mid) (LeavesTopic new) topic_leaves (durable_topics s) leaves

  missed_or : {P Q R : Type 0} → (Q → R) → P ⊎ Q → P ⊎ R
  missed_or f (inl p) = inl p
  missed_or f (inr q) = inr (f q)

  topic_leaves_but : (missed : List (List ℕ)) (t : Topic) → LeavesTopicBut missed mid t → LeavesTopicBut missed new t
  topic_leaves_but missed t leaves = record {
    own = missed_or (topic_found t) leaves.own;
    channels =
        All-weaker (λ (k : Channel). Contains missed (queue_name t.name k.name) ⊎ LeavesChannel mid t.name k) (λ (k : Channel). Contains missed (queue_name t.name k.name) ⊎ LeavesChannel new t.name k)
        (λ k found. missed_or (queue_found (left_in_channel k) (queue_name t.name k.name)) found) (durable_channels t) leaves.channels;
  }

  -- and so is all but for a few queues
  pub but_behind : (missed : List (List ℕ)) (s : State) → LeavesBut missed s mid → LeavesBut missed s new
  but_behind missed s leaves = All-weaker (LeavesTopicBut missed mid) (LeavesTopicBut missed new) (topic_leaves_but missed) (durable_topics s) leaves
