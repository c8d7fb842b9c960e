-- What stays of a hall's rooms as one queue changes.
use Rattle.std.proofs.Common.{◌≡◌, ◌≢◌, ℕ, List, Option, Some, None, refl, sym, ap, subst, ◌∙◌}
use Rattle.std.specs.Prelude.{IfSome}
use Rattle.std.specs.List.{All}
use Rattle.nsq_base.specs.Name.{IsName}
use Rattle.nsq_outside.specs.Files.{Files}
use Rattle.queue_image.specs.FileNames.{meta_file}
use Rattle.queue_image.specs.FileNames.IsOwnFile.{metadata}
use Rattle.queue_image.specs.Metas.{IsIdle}
use Rattle.queue_image.proofs.Naming.{one_channel, no_channel}
use Rattle.channel_core.specs.Queues.{Seen as Queue}
use Rattle.channel_core.specs.Lists.{DiskChanges}
use Rattle.broker_history.specs.State.{Channel, Topic}
use Rattle.topic_core.specs.Rows.{IsTopicOf}
use Rattle.topic_core.specs.Laws.{OwnFilesStay, DiskStays}
use Rattle.topic_core.proofs.Keeping.{disk_stays, topic_stays, save_stays, change_stays}
use Rattle.channel_core.specs.Seen.{queue_name}
use Rattle.floor_laws.proofs.Pairs.{pairs_become}
use Rattle.floor_rooms.specs.declared.stall.Stall.{Stall}
use Rattle.floor_rooms.specs.declared.room.Room.{Room}
use Rattle.floor_rooms.specs.Rooms.{channel_name, topic_name}
use Rattle.floor_rooms.specs.Standing.{IsStallOf, IsRoomOf}
use Rattle.floor_rooms.specs.Changes.{OthersStay}

named_apart : (queue : Option Queue) (changed name : List ℕ) → IfSome queue (λ q. q.name ≡ changed) → name ≢ changed → IfSome queue (λ q. q.name ≢ name)
named_apart None changed name is apart = tt
named_apart (Some q) changed name is apart = λ e. apart (sym e ∙ is)

-- so it is where a call changes what is on the disk of that queue
pub others_stay : (queue : Option Queue) (changed : List ℕ) (old new : Files) → IfSome queue (λ q. q.name ≡ changed) → DiskChanges queue old new → OthersStay changed old new
others_stay queue changed old new is change = λ name apart. change_stays name queue old new (named_apart queue changed name is apart) change

-- the files of a queue's name are its own
disk_named : (name : List ℕ) (queue : Option Queue) (old new : Files) → IfSome queue (λ q. q.name ≡ name) → OwnFilesStay name old new → DiskStays queue old new
disk_named name None old new is stays = tt
disk_named name (Some q) old new is stays = subst (λ (n : List ℕ). OwnFilesStay n old new) (sym is) stays

pub stall_stays : (old new : Files) (topic : List ℕ) (s : Stall) (k : Channel) → IfSome s.channel.backlog.queue (λ q. q.name ≡ queue_name topic (channel_name s)) → OwnFilesStay (queue_name topic (channel_name s)) old new
    → IsStallOf old s k → IsStallOf new s k
stall_stays old new topic s k is stays h =
    let disk : DiskStays s.channel.backlog.queue old new = disk_named (queue_name topic (channel_name s)) s.channel.backlog.queue old new is stays in
    record {
      disk = h.disk;
      on_disk = disk_stays s.channel.backlog.queue old new h.disk disk h.on_disk;
      is_kept = h.is_kept;
      stands = save_stays s.channel.backlog.queue old new disk h.stands;
    }

-- a stall's queue has its name, which isn't that of the changed queue
abbrev pub IsElsewhere : (topic changed : List ℕ) → Stall → Type 0
IsElsewhere topic changed s = IfSome s.channel.backlog.queue (λ q. q.name ≡ queue_name topic (channel_name s)) × (queue_name topic (channel_name s) ≢ changed)

-- a topic's own queue, where it isn't the changed one
pub queue_disk : (old new : Files) (changed : List ℕ) (r : Room) → OthersStay changed old new → IfSome r.queue.backlog.queue (λ q. q.name ≡ topic_name r) → topic_name r ≢ changed → DiskStays r.queue.backlog.queue old new
queue_disk old new changed r others is apart = disk_named (topic_name r) r.queue.backlog.queue old new is (others (topic_name r) apart)

pub room_stays : (old new : Files) (changed : List ℕ) (r : Room) (t : Topic) → OthersStay changed old new → IfSome r.queue.backlog.queue (λ q. q.name ≡ topic_name r) → topic_name r ≢ changed
    → All (IsElsewhere (topic_name r) changed) r.stalls.items → IsRoomOf old r t → IsRoomOf new r t
room_stays old new changed r t others is apart elsewhere h =
    let disk : DiskStays r.queue.backlog.queue old new = queue_disk old new changed r others is apart in
    record {
      queue = topic_stays r.queue old new t disk h.queue;
      stands = save_stays r.queue.backlog.queue old new disk h.stands;
      channels = pairs_become (IsStallOf old) (IsStallOf new) (IsElsewhere (topic_name r) changed) r.stalls.items t.channels (λ s k e hk. stall_stays old new (topic_name r) s k e.0 (others (queue_name (topic_name r) (channel_name s)) e.1) hk) elsewhere h.channels;
      delays = h.delays;
      taken = h.taken;
    }

-- the topic stays the same for a queue whatever its channels become
pub other_channels : (files : Files) (r : Room) (t : Topic) (channels : List Channel) → IsTopicOf r.queue files t → IsTopicOf r.queue files (record t { channels = channels })
other_channels files r t channels h = record {
  name = h.name;
  paused = h.paused;
  message_count = h.message_count;
  taken = h.taken;
  disk = h.disk;
  on_disk = h.on_disk;
  waiting = h.waiting;
  first = h.first;
}

-- metadata that is idle stays so where its queue isn't the changed one
pub idle_stays : (old new : Files) (changed name : List ℕ) → OthersStay changed old new → name ≢ changed → IsIdle (old (meta_file name)) → IsIdle (new (meta_file name))
idle_stays old new changed name others apart idle = subst IsIdle (sym (others name apart (meta_file name) (metadata refl))) idle

-- the names of things that belong together
pub stall_named : (files : Files) (s : Stall) (k : Channel) → IsStallOf files s k → k.name ≡ channel_name s
stall_named files s k h = sym (ap (λ (c : Channel). c.name) h.is_kept.rest)

pub room_named : (files : Files) (r : Room) (t : Topic) → IsRoomOf files r t → t.name ≡ topic_name r
room_named files r t h = h.queue.name

-- queues of topics and channels have different names
pub topic_is_no_channel : (name topic channel : List ℕ) → IsName name → name ≢ queue_name topic channel
topic_is_no_channel name topic channel named = no_channel name topic channel named

pub other_topic : (topic channel topic' channel' : List ℕ) → IsName topic → IsName topic' → topic ≢ topic' → queue_name topic channel ≢ queue_name topic' channel'
other_topic topic channel topic' channel' n n' apart e = apart (one_channel topic channel topic' channel' n n' e).0

pub other_channel : (topic channel topic' channel' : List ℕ) → IsName topic → IsName topic' → channel ≢ channel' → queue_name topic channel ≢ queue_name topic' channel'
other_channel topic channel topic' channel' n n' apart e = apart (one_channel topic channel topic' channel' n n' e).1
