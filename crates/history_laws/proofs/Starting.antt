-- A run starts from what was found.
use Rattle.std.proofs.Common.{◌≡◌, ℕ, ◌+◌, false, List, [], ◌∷◌, map, refl, ap, ◌∙◌}
use Rattle.std.specs.List.{AllByRecursion, count_by, filter}
use Rattle.std.proofs.lemmas.List.{append-nil}
use Rattle.nsq_base.specs.Name.{is_ephemeral}
use Rattle.nsq_base.specs.declared.options.Options.{Options}
use Rattle.v2_frame.specs.declared.message.Message.{Message}
use Rattle.path_image.specs.Data.{durable}
use Rattle.path_image.specs.Found.{FoundChannel, FoundTopic, Found, Pairwise}
use Rattle.broker_history.specs.State.{Waiting, Queued, Copy, Channel, Topic, compared, is_live}
use Rattle.broker_history.specs.Channels.{copy_at}
use Rattle.broker_history.specs.Found.{started_channel, started, start}
use Rattle.broker_history.specs.Left.{IsLeftChannel, IsLeftTopic, IsAllLeft}
use Rattle.history_laws.specs.Laws.{IsDurable}

waits : (ms : List Message) → map (λ (w : Waiting). w.message) (map (λ m. record { message = m; loose = false }) ms) ≡ ms
waits [] = refl
waits (m ∷ ms) = ap (λ xs. m ∷ xs) (waits ms)

queue : (ms : List Message) → map (λ (x : Copy). x.message) (filter (λ (x : Copy). is_live x.place) (map (λ m. copy_at m Queued) ms)) ≡ map compared ms
queue [] = refl
queue (m ∷ ms) = ap (λ xs. compared m ∷ xs) (queue ms)

compared_once : (ms : List Message) → map compared (map compared ms) ≡ map compared ms
compared_once [] = refl
compared_once (m ∷ ms) = ap (λ xs. compared m ∷ xs) (compared_once ms)

left_channel : (c : FoundChannel) → IsLeftChannel (started_channel c) c
left_channel c = record { name = refl; paused = refl; messages = λ p. ap (λ ms. count_by p (map compared ms)) (queue c.messages) ∙ ap (count_by p) (compared_once c.messages) }

left_channels : (cs : List FoundChannel) → AllByRecursion (λ (c : FoundChannel). is_ephemeral c.name ≡ false) cs → Pairwise IsLeftChannel (durable (λ (k : Channel). k.name) (map started_channel cs)) cs
left_channels [] a = tt
left_channels (c ∷ cs) a = rw a.0 (left_channel c, left_channels cs a.1)

left_topic : (t : FoundTopic) → IsDurable t → IsLeftTopic (started t) t
left_topic t d = record {
  name = refl;
  paused = refl;
  messages = λ p. ap (λ ms. count_by p (map compared ms)) (append-nil _ ∙ waits t.messages);
  channels = left_channels t.channels d.channels;
}

left_topics : (ts : List FoundTopic) → AllByRecursion IsDurable ts → Pairwise IsLeftTopic (durable (λ (t : Topic). t.name) (map started ts)) ts
left_topics [] a = tt
left_topics (t ∷ ts) a = rw a.0.name (left_topic t a.0, left_topics ts a.1)

pub starts_found : (found : Found) (options : Options) (moment : ℕ) → AllByRecursion IsDurable found.topics → IsAllLeft (start found options moment) (record found { epoch = found.epoch + 1 })
starts_found found options moment a = record { epoch = refl; topics = left_topics found.topics a }
