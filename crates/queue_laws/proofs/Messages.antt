-- What a sweep leaves of messages: those of listed queues, so that an opening finds what it found, and none of an unlisted one.
use Rattle.std.proofs.Common.{◌≡◌, ℕ, List, [], ◌∷◌, map, ◌∙◌, subst, arith}
use Rattle.std.specs.List.{Contains}
use Rattle.nsq_outside.specs.Files.{Files}
use Rattle.v2_frame.specs.declared.message.Message.{Message}
use Rattle.queue_image.specs.FileNames.{channel_queue, IsQueueName}
use Rattle.queue_image.specs.Finds as queue
use Rattle.queue_image.specs.Finds.IsFound.{fresh as no_queue}
use Rattle.path_image.specs.Data.{KeptTopic, KeptChannel, Kept, data_name}
use Rattle.path_image.specs.Found.{FoundTopic, FoundChannel, Pairwise, HasMessages, FindsChannel, FindsTopic, HasBadQueue, Finding, IsFound}
use Rattle.path_image.specs.Found.IsFound.{fresh, spoilt, spent, bad_queue, names}
use Rattle.queue_sweep.specs.Swept.{IsListedQueue, IsSweptTo, HasOnlyListed}
use Rattle.queue_laws.specs.Sweeps.{AreKept}
use Rattle.queue_sweep.proofs.Listing.{first_in, rest_in, made_in}
use Rattle.queue_sweep.proofs.Staying.{queue_stays, short_stays, no_files}

-- where one relation leads to another at the items of a list, it does for the whole list
module _ {X Y : Type 0} (R S : X → Y → Type 0) where
  pairwise_keeps : (xs : List X) (ys : List Y) → ((x : X) (y : Y) → Contains xs x → R x y → S x y) → Pairwise R xs ys → Pairwise S xs ys
  pairwise_keeps [] [] f h = tt
  pairwise_keeps [] (y ∷ ys) f h = absurd h
  pairwise_keeps (x ∷ xs) [] f h = absurd h
  pairwise_keeps (x ∷ xs) (y ∷ ys) f h = (f x y (first_in x xs) h.0, pairwise_keeps xs ys (λ z w its r. f z w (rest_in x xs z its) r) h.1)

pub messages_stay : (topics : List KeptTopic) (old new : Files) (name : List ℕ) (messages : List Message) → IsSweptTo topics old new → IsListedQueue topics name → HasMessages old name messages → HasMessages new name messages
messages_stay topics old new name messages s l h = record {
  bodies = h.bodies;
  bad = h.bad;
  queue = queue_stays topics old new name (queue.Records h.bodies h.bad) s l h.queue;
  records = h.records;
}

module _ (topics : List KeptTopic) (old new : Files) (s : IsSweptTo topics old new) where
  -- a topic of the list, and each of its channels, keeps its messages
  topic_listed : (t : KeptTopic) → Contains topics t → IsListedQueue topics t.name
  topic_listed t its = record { topic = t; listed = its; own = first_in t.name (map (λ (c : KeptChannel). channel_queue t.name c.name) t.channels) }

  channel_listed : (t : KeptTopic) (c : KeptChannel) → Contains topics t → Contains t.channels c → IsListedQueue topics (channel_queue t.name c.name)
  channel_listed t c its has = record {
    topic = t;
    listed = its;
    own = rest_in t.name (map (λ (d : KeptChannel). channel_queue t.name d.name) t.channels) (channel_queue t.name c.name) (made_in (λ (d : KeptChannel). channel_queue t.name d.name) t.channels c has);
  }

  channel_stays : (t : KeptTopic) (c : KeptChannel) (found : FoundChannel) → Contains topics t → Contains t.channels c → FindsChannel old t.name c found → FindsChannel new t.name c found
  channel_stays t c found its has h = record { name = h.name; paused = h.paused; messages = messages_stay topics old new (channel_queue t.name c.name) found.messages s (channel_listed t c its has) h.messages }

  topic_stays : (t : KeptTopic) (found : FoundTopic) → Contains topics t → FindsTopic old t found → FindsTopic new t found
  topic_stays t found its h = record {
    name = h.name;
    paused = h.paused;
    messages = messages_stay topics old new t.name found.messages s (topic_listed t its) h.messages;
    channels = pairwise_keeps (FindsChannel old t.name) (FindsChannel new t.name) t.channels found.channels (λ c f has. channel_stays t c f its has) h.channels;
  }

  bad_stays : (kept : Kept) → kept.topics ≡ topics → HasBadQueue old kept → HasBadQueue new kept
  bad_stays kept same h =
      let listed : IsListedQueue topics h.name = record { topic = h.topic; listed = subst (λ (ts : List KeptTopic). Contains ts h.topic) same h.listed; own = h.own } in
      record { topic = h.topic; name = h.name; listed = h.listed; own = h.own; bad = queue_stays topics old new h.name queue.BadMeta s listed h.bad }

  stays : new data_name ≡ old data_name
  stays = short_stays topics old new data_name s (omega arith)

  pub finding_stays : (finding : Finding) → AreKept topics old → IsFound old finding → IsFound new finding
  finding_stays _ kept_here (fresh e) = fresh (stays ∙ e)
  finding_stays _ kept_here (spoilt text e bad) = spoilt text (stays ∙ e) bad
  finding_stays _ kept_here (spent text kept e says last) = spent text kept (stays ∙ e) says last
  finding_stays _ kept_here (bad_queue text kept e says low h) = bad_queue text kept (stays ∙ e) says low (bad_stays kept (kept_here text kept e says) h)
  finding_stays _ kept_here (names {found = found} text kept e says low epoch h) =
      names text kept (stays ∙ e) says low epoch
      (pairwise_keeps (FindsTopic old) (FindsTopic new) kept.topics found.topics (λ t f its. topic_stays t f (subst (λ (ts : List KeptTopic). Contains ts t) (kept_here text kept e says) its)) h)

-- an unlisted queue has no message
pub no_messages : (topics : List KeptTopic) (files : Files) (name : List ℕ) → HasOnlyListed topics files → IsQueueName name → ¬ IsListedQueue topics name → HasMessages files name []
no_messages topics files name only named absent = record {
  bodies = [];
  bad = [];
  queue = no_queue (no_files topics files name only named absent).meta;
  records = tt;
}
