-- A channel and a topic as they are opened.
use Rattle.std.proofs.Common.{◌≡◌, ◌<◌, ◌≤◌, ℕ, Bool, true, false, not, ◌&&◌, List, [], ◌∷◌, ◌++◌, map, count_by, Option, Some, None, is_some, refl, sym, ap, subst, ◌∙◌, arith}
use Rattle.std.specs.Prelude.{IfSome, MatchBool}
use Rattle.std.specs.List.{All, AllPairs}
use Rattle.std.proofs.lemmas.Bool.{false≢true}
use Rattle.std.proofs.lemmas.List.{append-nil}
use Rattle.std.proofs.lemmas.List.Elements.{All-cons, All-nil}
use Rattle.nsq_base.specs.Name.{IsName, is_ephemeral}
use Rattle.nsq_base.specs.declared.options.Options.{Options}
use Rattle.nsq_outside.specs.Files.{Files}
use Rattle.queue_files.specs.declared.options.QueueOptions.{QueueOptions}
use Rattle.queue_image.proofs.Keeping.{finding_keeps}
use Rattle.queue_image.specs.Finds.{Records}
use Rattle.v2_frame.specs.declared.message.Message.{Message}
use Rattle.path_image.specs.Found.{HasMessages, IsRecordOf, Pairwise}
use Rattle.disk_queue.specs.Seen.{IsUnchanged, Seen as Queue}
use Rattle.backlog.specs.Seen.{IsOpenedAt, Seen as Backlog}
use Rattle.backlog.specs.Lists.{OnDisk, Stands}
use Rattle.broker_history.specs.Found.{started_channel}
use Rattle.broker_history.specs.State.{Channel, Copy, Waiting, is_ephemeral_channel, is_live}
use Rattle.broker_history.specs.Channels.{IsKept}
use Rattle.broker_history.proofs.Counting.{count-cons}
use Rattle.topic_core.specs.Laws.{OwnFilesStay}
use Rattle.topic_core.specs.Rows.{FindsMessages, IsTopicOf, found_topic, paused_in}
use Rattle.channel_core.specs.Answers.{all_due}
use Rattle.channel_core.specs.Backlogs.{QueueIsSaved}
use Rattle.channel_core.specs.Made.{IsOpenedAs, IsOpenedBacklog, about_of, fresh_of, made_channel, queue_options}
use Rattle.channel_core.specs.Seen.{Seen as ChannelSeen, channel_with, copies_of, queue_name, queued_copy, seen_channel}
use Rattle.floor_rooms.specs.declared.room.Room.{Room}
use Rattle.floor_rooms.specs.declared.stall.Stall.{Stall}
use Rattle.floor_rooms.specs.Rooms.{channel_name}
use Rattle.floor_rooms.specs.Sound.{HasOptions, IsMarked}
use Rattle.floor_rooms.specs.Standing.{IsRoomOf, IsStallOf, longest_delay}
use Rattle.floor_rooms.proofs.Forming.{none_of_none}
use Rattle.floor_files.specs.Opened.{IsOpenedStall}

-- an opening finds the same messages of a queue whose own files stay
pub messages_stay : (name : List ℕ) (old new : Files) (messages : List Message) → OwnFilesStay name old new → HasMessages old name messages → HasMessages new name messages
messages_stay name old new messages stays has = record {
  bodies = has.bodies;
  bad = has.bad;
  queue = finding_keeps 26 16777242 old new name (Records has.bodies has.bad) stays has.queue;
  records = has.records;
}

pub finds_messages : (files : Files) (name : List ℕ) (messages : List Message) → is_ephemeral name ≡ false → HasMessages files name messages → FindsMessages files name messages
finds_messages files name messages durable has = subst (λ e. MatchBool e (messages ≡ []) (HasMessages files name messages)) (sym durable) has

-- all is on disk
ring_of : (b : Backlog) (queue : Option Queue) (name : List ℕ) (capacity : ℕ) (o : QueueOptions) → is_some queue ≡ true → IfSome queue (IsOpenedAt name capacity o b) → b.ring ≡ []
ring_of b None name capacity o some at = absurd (false≢true some)
ring_of b (Some q) name capacity o some at = ap (λ (x : Backlog). x.ring) at.is

-- each copy that was found is queued
live_queued : (p : Copy → Bool) (ms : List Message) → count_by p (map queued_copy ms) ≡ count_by (λ (x : Copy). is_live x.place && p x) (map queued_copy ms)
live_queued p [] = refl
live_queued p (m ∷ ms) = omega (arith, count-cons p (queued_copy m) (map queued_copy ms), count-cons (λ (x : Copy). is_live x.place && p x) (queued_copy m) (map queued_copy ms), live_queued p ms)

abbrev opened_channel : (name : List ℕ) → (on : Bool) → (queued : List Message) → Channel
opened_channel name on queued = record { name = name; paused = on; message_count = 0; requeue_count = 0; timeout_count = 0; copies = copies_of queued [] [] }

started_kept : (name : List ℕ) (on : Bool) (ms : List Message) → IsKept (opened_channel name on ms) (started_channel (record { name = name; paused = on; messages = ms }))
started_kept name on ms = record { live = record { often = λ p. ap (count_by p) (append-nil (map queued_copy ms)) ∙ live_queued p ms }; rest = refl }

pub opened_stall_of : (files : Files) (topic name : List ℕ) (on : Bool) (o : Options) (v : ChannelSeen) (s : Stall) (ms : List Message) → s.channel ≡ record v { paused = on } → IsOpenedAs topic name o v → is_ephemeral_channel topic name ≡ false → OnDisk v.backlog.queue files ms
    → Stands v.backlog.queue files → IsStallOf files s (started_channel (record { name = name; paused = on; messages = ms }))
opened_stall_of files topic name on o v s ms is opened durable disk stands =
    let whole : s.channel ≡ record (made_channel topic name o v.backlog) { paused = on; spare = v.spare; deferred_spare = v.deferred_spare } = is ∙ ap (λ (x : ChannelSeen). record x { paused = on }) opened.made.is in
    let backlog : IsOpenedBacklog topic name o v.backlog = subst (λ e. MatchBool e (v.backlog ≡ fresh_of topic name o) (IsOpenedBacklog topic name o v.backlog)) durable opened.backlog in
    let ring : v.backlog.ring ≡ [] = ring_of v.backlog v.backlog.queue (queue_name topic name) o.mem_queue_size (queue_options o) backlog.durable backlog.queue in
    record {
      disk = ms;
      on_disk = subst (λ (x : ChannelSeen). OnDisk x.backlog.queue files ms) (sym is) disk;
      is_kept = subst (λ (x : ChannelSeen). IsKept (seen_channel x ms) (started_channel (record { name = name; paused = on; messages = ms }))) (sym whole)
          (subst (λ (front : List Message). IsKept (opened_channel name on (front ++ ms)) (started_channel (record { name = name; paused = on; messages = ms }))) (sym ring) (started_kept name on ms));
      stands = subst (λ (x : ChannelSeen). Stands x.backlog.queue files) (sym is) stands;
    }

-- no message that was found has a delay
delays_of : (bodies : List (List ℕ)) (ms : List Message) → Pairwise IsRecordOf bodies ms → All (λ (w : Waiting). w.message.delay ≤ longest_delay) (map (λ m. record { message = m; loose = false }) ms)
delays_of bodies [] h = All-nil (λ (w : Waiting). w.message.delay ≤ longest_delay)
delays_of [] (m ∷ ms) h = absurd h
delays_of (b ∷ bodies) (m ∷ ms) h =
    let one = h.0.delay in
    All-cons (λ (w : Waiting). w.message.delay ≤ longest_delay) (record { message = m; loose = false }) (map (λ n. record { message = n; loose = false }) ms) (omega (arith, one)) (delays_of bodies ms h.1)

pub opened_room_of : (before files : Files) (topic : List ℕ) (on : Bool) (ms : List Message) (r : Room) → HasMessages before topic ms → r.stalls.items ≡ [] → IsTopicOf r.queue files (paused_in on (found_topic topic ms)) → Stands r.queue.backlog.queue files
    → IsRoomOf files r (paused_in on (found_topic topic ms))
opened_room_of before files topic on ms r has empty is stands = record {
  queue = is;
  stands = stands;
  channels = subst (λ xs. Pairwise (IsStallOf files) xs []) (sym empty) tt;
  delays = delays_of has.bodies ms has.records;
  taken = tt;
}

-- what a queue as it is opened has
module _ (b : Backlog) (name : List ℕ) (capacity : ℕ) (o : QueueOptions) where
  opened_name : (queue : Option Queue) → IfSome queue (IsOpenedAt name capacity o b) → IfSome queue (λ (q : Queue). q.name ≡ name)
  opened_name None at = tt
  opened_name (Some q) at = ap (λ (x : Queue). x.name) at.queue

  opened_options : (queue : Option Queue) → IfSome queue (IsOpenedAt name capacity o b) → HasOptions o queue
  opened_options None at = tt
  opened_options (Some q) at = ap (λ (x : Queue). x.options) at.queue

  opened_saved : (queue : Option Queue) → IfSome queue (IsOpenedAt name capacity o b) → QueueIsSaved queue
  opened_saved None at = tt
  opened_saved (Some q) at = subst IsUnchanged (sym at.queue) (record { none = refl; positions = refl; sound = λ failed. absurd cc })

-- and a channel as it is opened
pub opened_stall_is : (topic name : List ℕ) (on : Bool) (o : Options) (v : ChannelSeen) (s : Stall) → IsName name → s.channel ≡ record v { paused = on } → s.since ≡ None → s.members.items ≡ [] → IsOpenedAs topic name o v → is_ephemeral_channel topic name ≡ false → IsOpenedStall o topic s
opened_stall_is topic name on o v s named is since members opened durable =
    let whole : s.channel ≡ record (made_channel topic name o v.backlog) { paused = on; spare = v.spare; deferred_spare = v.deferred_spare } = is ∙ ap (λ (x : ChannelSeen). record x { paused = on }) opened.made.is in
    let called : channel_name s ≡ name = ap (λ (x : ChannelSeen). x.about.name) whole in
    let queue : s.channel.backlog.queue ≡ v.backlog.queue = ap (λ (x : ChannelSeen). x.backlog.queue) is in
    let backlog : IsOpenedBacklog topic name o v.backlog = subst (λ e. MatchBool e (v.backlog ≡ fresh_of topic name o) (IsOpenedBacklog topic name o v.backlog)) durable opened.backlog in
    record {
      sound = λ quiet unsaved. record {
        about = ap (λ (x : ChannelSeen). x.about) whole ∙ ap (λ n. about_of topic n o) (sym called);
        named = subst IsName (sym called) named;
        settled = ap (λ (x : ChannelSeen). x.drawn) whole;
        durable = ap is_some queue ∙ backlog.durable ∙ sym (ap not durable) ∙ ap (λ n. not (is_ephemeral_channel topic n)) (sym called);
        queue = subst (λ n. IfSome s.channel.backlog.queue (λ (q : Queue). q.name ≡ queue_name topic n)) (sym called)
            (subst (λ (x : Option Queue). IfSome x (λ (q : Queue). q.name ≡ queue_name topic name)) (sym queue) (opened_name v.backlog (queue_name topic name) o.mem_queue_size (queue_options o) v.backlog.queue backlog.queue));
        limits = subst (HasOptions (queue_options o)) (sym queue) (opened_options v.backlog (queue_name topic name) o.mem_queue_size (queue_options o) v.backlog.queue backlog.queue);
        calm = λ now before. ap (λ (x : ChannelSeen). all_due now (channel_with x [])) whole;
        marked = subst (λ (m : Option ℕ). IsMarked unsaved m s.channel.backlog.queue) (sym since)
            (record { saved = λ none. subst QueueIsSaved (sym queue) (opened_saved v.backlog (queue_name topic name) o.mem_queue_size (queue_options o) v.backlog.queue backlog.queue); later = tt });
        members = subst (AllPairs (λ (a b : ℕ). a < b)) (sym members) (none_of_none (λ (a b : ℕ). a < b));
      };
      since = since;
      clients = ap (λ (x : ChannelSeen). x.clients) whole;
      members = members;
    }
