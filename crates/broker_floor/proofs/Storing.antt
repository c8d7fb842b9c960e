-- Files that are no queue's change nothing of what a hall stands for.
use Rattle.std.proofs.Common.{◌≡◌, ◌≢◌, ℕ, List, Option, Some, None, refl, sym, ap, subst, ◌∙◌}
use Rattle.std.specs.Prelude.{IfSome}
use Rattle.std.specs.List.{All}
use Rattle.std.proofs.lemmas.List.Elements.{All-weaker}
use Rattle.nsq_outside.specs.Files.{Files}
use Rattle.queue_image.specs.FileNames.{IsOwnFile, IsQueueName, meta_file}
use Rattle.queue_image.specs.FileNames.IsOwnFile.{metadata}
use Rattle.queue_image.specs.FileNames.IsQueueName.{of_channel, of_topic}
use Rattle.queue_image.specs.Metas.{IsIdle}
use Rattle.queue_files.specs.Replaced.{OnlyTwoChange}
use Rattle.disk_queue.specs.Seen.{Seen as Queue}
use Rattle.broker_history.specs.State.{Channel, State, Topic}
use Rattle.topic_core.specs.Laws.{DiskStays, OwnFilesStay}
use Rattle.topic_core.proofs.Keeping.{save_stays, topic_stays}
use Rattle.channel_core.specs.Seen.{queue_name}
use Rattle.floor_laws.proofs.Pairs.{pairs_become}
use Rattle.floor_rooms.specs.declared.hall.Hall.{Hall}
use Rattle.floor_rooms.specs.declared.room.Room.{Room}
use Rattle.floor_rooms.specs.declared.stall.Stall.{Stall}
use Rattle.floor_rooms.specs.Rooms.{channel_name, topic_name}
use Rattle.floor_rooms.specs.Sound.{IsRoomSound, IsSound, IsStallSound}
use Rattle.floor_rooms.specs.Standing.{HoldsFor, IsRoomOf, IsStallOf}
use Rattle.floor_rooms.proofs.Staying.{stall_stays}

-- the files of all queues stay
abbrev pub QueueFilesStay : Files → Files → Type 0
QueueFilesStay old new = (queue : List ℕ) → IsQueueName queue → OwnFilesStay queue old new

-- so they do where two files change that are no queue's
pub others_stay : (old new : Files) (name temp : List ℕ) → ((queue : List ℕ) → IsQueueName queue → IsOwnFile queue name → ⊥) → ((queue : List ℕ) → IsQueueName queue → IsOwnFile queue temp → ⊥) → OnlyTwoChange old new name temp → QueueFilesStay old new
others_stay old new name temp no_name no_temp two = λ queue named file own. two file (λ e. no_name queue named (subst (IsOwnFile queue) e own)) (λ e. no_temp queue named (subst (IsOwnFile queue) e own))

disk_named : (name : List ℕ) (queue : Option Queue) (old new : Files) → IfSome queue (λ q. q.name ≡ name) → OwnFilesStay name old new → DiskStays queue old new
disk_named name None old new is stays = tt
disk_named name (Some q) old new is stays = subst (λ (n : List ℕ). OwnFilesStay n old new) (sym is) stays

stall_stored : (h : Hall) (old new : Files) (r : Room) (s : Stall) (k : Channel) → QueueFilesStay old new → IsRoomSound h r → IsStallSound h.options (topic_name r) h.quiet_until h.unsaved_from s → IsStallOf old s k → IsStallOf new s k
stall_stored h old new r s k stay room sound is = stall_stays old new (topic_name r) s k sound.queue (stay (queue_name (topic_name r) (channel_name s)) (of_channel (topic_name r) (channel_name s) room.named sound.named refl)) is

room_stored : (h : Hall) (old new : Files) (r : Room) (t : Topic) → QueueFilesStay old new → IsRoomSound h r → IsRoomOf old r t → IsRoomOf new r t
room_stored h old new r t stay sound is =
    let disk : DiskStays r.queue.backlog.queue old new = disk_named (topic_name r) r.queue.backlog.queue old new sound.backlog.queue (stay (topic_name r) (of_topic sound.named)) in
    record {
      queue = topic_stays r.queue old new t disk is.queue;
      stands = save_stays r.queue.backlog.queue old new disk is.stands;
      channels =
          pairs_become (IsStallOf old) (IsStallOf new) (IsStallSound h.options (topic_name r) h.quiet_until h.unsaved_from) r.stalls.items t.channels (λ s k x y. stall_stored h old new r s k stay sound x y) sound.stalls is.channels;
      delays = is.delays;
      taken = is.taken;
    }

idle_stored : (old new : Files) (name : List ℕ) → IsQueueName name → QueueFilesStay old new → IsIdle (old (meta_file name)) → IsIdle (new (meta_file name))
idle_stored old new name named stay idle = subst IsIdle (sym (stay name named (meta_file name) (metadata refl))) idle

pub holds_stored : (h : Hall) (old new : Files) (s : State) → IsSound h → QueueFilesStay old new → HoldsFor h old s → HoldsFor h new s
holds_stored h old new s sound stay holds = record {
  stands = record {
    options = holds.stands.options;
    epoch = holds.stands.epoch;
    ids_used = holds.stands.ids_used;
    moment = holds.stands.moment;
    stopped = holds.stands.stopped;
    clients = holds.stands.clients;
    topics = pairs_become (IsRoomOf old) (IsRoomOf new) (IsRoomSound h) h.rooms.items s.topics (λ r t x y. room_stored h old new r t stay x y) sound.rooms holds.stands.topics;
  };
  idle = record {
    topics = λ name named none. idle_stored old new name (of_topic named.0) stay (holds.idle.topics name named none);
    channels = λ topic channel nt nc none. idle_stored old new (queue_name topic channel) (of_channel topic channel nt nc.0 refl) stay (holds.idle.channels topic channel nt nc none);
  };
}
