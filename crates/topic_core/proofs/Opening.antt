-- What is seen of a topic's queue that was opened, and of an opening that was refused.
use Rattle.std.proofs.Common.{◌≡◌, ℕ, true, false, List, [], Result, Ok, Err, Some, None, refl, sym, ap, subst, ◌∙◌}
use Rattle.std.specs.Prelude.{IsSome, IfSome, IfOk, IsErr, IsErrAnd, MatchBool, not, if◌then◌else◌}
use Rattle.nsq_base.specs.Name.{is_ephemeral}
use Rattle.nsq_base.specs.declared.options.Options.{Options}
use Rattle.nsq_outside.specs.Files.{Files}
use Rattle.v2_frame.specs.declared.message.Message.{Message}
use Rattle.path_image.specs.Found.{HasMessages}
use Rattle.backlog.specs.QueueOptions.{QueueOptions}
use Rattle.backlog.specs.Queues.{Seen as Queue, fresh_queue}
use Rattle.backlog.specs.Seen.{Seen as Backlog, IsOpenedAt}
use Rattle.broker_history.specs.State.{new_topic}
use Rattle.topic_core.specs.Seen.{Seen, IsOpenedTopic, fresh_topic, queue_options}
use Rattle.topic_core.specs.Kept.{IsNamed}
use Rattle.topic_core.specs.Rows.{IsTopicOf, FindsMessages, found_topic}

-- what is seen of a topic that was opened
pub opened_seen : (name as_name : List ℕ) (options : Options) (ring : ℕ) (queue : QueueOptions) (b : Backlog) (q : Seen) → is_ephemeral name ≡ false → as_name ≡ name → ring ≡ options.mem_queue_size → queue ≡ queue_options options
    → IfSome b.queue (IsOpenedAt as_name ring queue b) → q ≡ record { name = name; paused = false; message_count = 0; backlog = b; head = None } → IsOpenedTopic name options q
opened_seen name as_name options ring queue b q durable named long with_options seen is = subst (IsOpenedTopic name options) (sym is) (record {
  is = refl;
  backlog = subst (λ e. MatchBool e (b ≡ (fresh_topic name options).backlog) (IfSome b.queue (IsOpenedAt name options.mem_queue_size (queue_options options) b))) (sym durable)
      (subst (λ n. IfSome b.queue (IsOpenedAt n options.mem_queue_size (queue_options options) b)) named
      (subst (λ r. IfSome b.queue (IsOpenedAt as_name r (queue_options options) b)) long (subst (λ o. IfSome b.queue (IsOpenedAt as_name ring o b)) with_options seen)));
})

-- its queue has its name
pub opened_named : (name as_name : List ℕ) (ring : ℕ) (queue : QueueOptions) (b : Backlog) → is_ephemeral name ≡ false → as_name ≡ name → IsSome b.queue → IfSome b.queue (IsOpenedAt as_name ring queue b) → IsNamed name b
opened_named name as_name ring queue b durable named there seen = record {
  durable = there ∙ ap not (sym durable);
  queue = elim b.queue as (λ q. IfSome q (IsOpenedAt as_name ring queue b) → IfSome q (λ k. k.name ≡ name)) [
    | None ↦ λ s. tt
    | Some q ↦ λ s. ap (λ (k : Queue). k.name) s.queue ∙ named
  ] seen;
}

-- and of an ephemeral one, which is made anew
pub made_seen : (name : List ℕ) (options : Options) (q : Seen) → is_ephemeral name ≡ true → q ≡ fresh_topic name options → IsOpenedTopic name options q
made_seen name options q passing is = subst (IsOpenedTopic name options) (sym is) (record {
  is = refl;
  backlog = subst (λ e. MatchBool e ((fresh_topic name options).backlog ≡ (fresh_topic name options).backlog) (IfSome (fresh_topic name options).backlog.queue (IsOpenedAt name options.mem_queue_size (queue_options options) (fresh_topic name options).backlog))) (sym passing) refl;
})

-- it has no queue on disk
pub made_none : (name : List ℕ) (options : Options) (q : Seen) → is_ephemeral name ≡ true → q ≡ fresh_topic name options → q.backlog.queue ≡ None
made_none name options q passing is = ap (λ (k : Seen). k.backlog.queue) is ∙ ap (λ e. (if not e then Some (fresh_queue name (queue_options options)) else None)) passing

-- and nothing is found of it
pub made_found : (name : List ℕ) (q : Seen) (before after : Files) (messages : List Message) → is_ephemeral name ≡ true → IsTopicOf q after (new_topic name) → FindsMessages before name messages → IsTopicOf q after (found_topic name messages)
made_found name q before after messages passing is finds =
    let none : messages ≡ [] = subst (λ e. MatchBool e (messages ≡ []) (HasMessages before name messages)) passing finds in
    subst (λ ms. IsTopicOf q after (found_topic name ms)) (sym none) is

-- an error is handed on
pub not_ok : {T E : Type 0} (r : Result T E) (P : T → Type 0) → IsErr r → IfOk r P
not_ok (Ok x) P is = absurd cc
not_ok (Err e) P is = tt

pub handed_on : {T E : Type 0} (r : Result T E) (e : E) → IsErrAnd r (λ f. f ≡ e) → r ≡ Err e
handed_on (Ok x) e is = absurd is
handed_on (Err f) e is = ap Err is
