-- A channel as it is made or opened.
use Rattle.std.proofs.Common.{◌≡◌, ℕ, Bool, true, false, not, if◌then◌else◌, List, Option, Some, None, refl, sym, ap, ◌∙◌, subst}
use Rattle.std.specs.Prelude.{is_some, IsSome, IfSome, MatchBool}
use Rattle.nsq_base.specs.declared.options.Options.{Options}
use Rattle.backlog.specs.Queues.{Seen as Queue}
use Rattle.backlog.specs.QueueOptions.{QueueOptions}
use Rattle.backlog.specs.Seen.{Seen as Backlog, IsOpenedAt, fresh_backlog}
use Rattle.backlog.specs.declared.backlog.Lent.TheVariants.{Nothing}
use Rattle.broker_history.specs.State.{is_ephemeral_channel}
use Rattle.channel_core.specs.Kept.{IsBacklogOf}
use Rattle.channel_core.specs.Made.{IsFresh, IsMadeWith, IsOpenedAs, IsOpenedBacklog, about_of, fresh_of, made_channel, queue_options}
use Rattle.channel_core.specs.Seen.{Seen, queue_name}

-- what holds of a queue, where there is none
pub none_holds : {X : Type 0} (P : X → Type 0) {o : Option X} → o ≡ None → IfSome o P
none_holds P h = subst (λ o. IfSome o P) (sym h) tt

-- a backlog that was made by these words is that of a channel as it is made
pub fresh_is : {text : List ℕ} {durable : Bool} {q : QueueOptions} {b : Backlog} (topic name : List ℕ) (options : Options) → text ≡ queue_name topic name → durable ≡ not (is_ephemeral_channel topic name) → q ≡ queue_options options → b ≡ fresh_backlog text options.mem_queue_size durable q → b ≡ fresh_of topic name options
fresh_is {text} {durable} {q} topic name options text_is durable_is q_is is =
    is
    ∙ (ap (λ n. fresh_backlog n options.mem_queue_size durable q) text_is
    ∙ (ap (λ d. fresh_backlog (queue_name topic name) options.mem_queue_size d q) durable_is
    ∙ ap (fresh_backlog (queue_name topic name) options.mem_queue_size (not (is_ephemeral_channel topic name))) q_is))

made_durable : (durable : Bool) (q : Queue) → is_some (if durable then Some q else None) ≡ durable
made_durable true q = refl
made_durable false q = refl

made_name : (durable : Bool) (q : Queue) (name : List ℕ) → q.name ≡ name → IfSome (if durable then Some q else None) (λ r. r.name ≡ name)
made_name true q name h = h
made_name false q name h = tt

-- it is the channel's own
pub fresh_named : (topic name : List ℕ) (options : Options) (b : Backlog) → b ≡ fresh_of topic name options → IsBacklogOf (about_of topic name options) b
fresh_named topic name options b is = subst (IsBacklogOf (about_of topic name options)) (sym is) (record {
  capacity = refl;
  durable = made_durable (not (is_ephemeral_channel topic name)) _;
  queue = made_name (not (is_ephemeral_channel topic name)) _ _ refl;
})

-- a channel with it
pub made_fresh : (topic name : List ℕ) (options : Options) (b : Backlog) (v : Seen) → v ≡ record (made_channel topic name options b) { spare = v.spare; deferred_spare = v.deferred_spare } → b ≡ fresh_of topic name options → IsFresh topic name options v
made_fresh topic name options b v made is = record { is = made ∙ ap (λ b. record (made_channel topic name options b) { spare = v.spare; deferred_spare = v.deferred_spare }) is }

-- an ephemeral one has no queue
none_made : (e : Bool) (q : Queue) → e ≡ true → (if not e then Some q else None) ≡ None
none_made e q is = ap (λ e. if not e then Some q else None) is

pub fresh_none : {topic name : List ℕ} {options : Options} {v : Seen} → IsFresh topic name options v → is_ephemeral_channel topic name ≡ true → v.backlog.queue ≡ None
fresh_none {topic} {name} f ephemeral = ap (λ (u : Seen). u.backlog.queue) f.is ∙ none_made (is_ephemeral_channel topic name) _ ephemeral

-- and is opened by being made
pub fresh_opened : {topic name : List ℕ} {options : Options} {v : Seen} → IsFresh topic name options v → is_ephemeral_channel topic name ≡ true → IsOpenedAs topic name options v
fresh_opened {topic} {name} {options} {v} f ephemeral =
    let same : v.backlog ≡ fresh_of topic name options = ap (λ (u : Seen). u.backlog) f.is in
    record {
      made = record { is = f.is ∙ ap (λ b. record (made_channel topic name options b) { spare = v.spare; deferred_spare = v.deferred_spare }) (sym same) };
      backlog = subst (λ e. MatchBool e (v.backlog ≡ fresh_of topic name options) (IsOpenedBacklog topic name options v.backlog)) (sym ephemeral) same;
    }

-- a backlog that was opened by these words
pub opened_backlog : {text : List ℕ} {q : QueueOptions} (topic name : List ℕ) (options : Options) (b : Backlog) → text ≡ queue_name topic name → q ≡ queue_options options → IsSome b.queue → IfSome b.queue (IsOpenedAt text options.mem_queue_size q b) → IsOpenedBacklog topic name options b
opened_backlog {text} {q} topic name options b text_is q_is there seen = record {
  durable = there;
  queue = subst (λ o. IfSome b.queue (IsOpenedAt (queue_name topic name) options.mem_queue_size o b)) q_is (subst (λ n. IfSome b.queue (IsOpenedAt n options.mem_queue_size q b)) text_is seen);
}

opened_at : (name : List ℕ) (capacity : ℕ) (q : QueueOptions) (b : Backlog) (queue : Option Queue) → b.queue ≡ queue → IsSome queue → IfSome queue (IsOpenedAt name capacity q b) → (r : Queue) × ((b.queue ≡ Some r) × IsOpenedAt name capacity q b r)
opened_at name capacity q b None is there seen = absurd (let no : ⊥ = cc in no)
opened_at name capacity q b (Some r) is there seen = (r, (is, seen))

-- is the channel's own too, and has lent nothing
pub opened_named : (topic name : List ℕ) (options : Options) (b : Backlog) → is_ephemeral_channel topic name ≡ false → IsOpenedBacklog topic name options b → IsBacklogOf (about_of topic name options) b
opened_named topic name options b durable o =
    let at = opened_at (queue_name topic name) options.mem_queue_size (queue_options options) b b.queue refl o.durable o.queue in
    record {
      capacity = ap (λ (b : Backlog). b.capacity) at.1.1.is;
      durable = ap is_some at.1.0 ∙ sym (ap not durable);
      queue = subst (λ (r : Option Queue). IfSome r (λ r. r.name ≡ queue_name topic name)) (sym at.1.0) (ap (λ (r : Queue). r.name) at.1.1.queue);
    }

pub opened_nothing : {topic name : List ℕ} {options : Options} (b : Backlog) → IsOpenedBacklog topic name options b → b.lent ≡ Nothing
opened_nothing {topic} {name} {options} b o = ap (λ (b : Backlog). b.lent) (opened_at (queue_name topic name) options.mem_queue_size (queue_options options) b b.queue refl o.durable o.queue).1.1.is

pub opened_seen : {topic name : List ℕ} {options : Options} {b : Backlog} {v : Seen} → is_ephemeral_channel topic name ≡ false → IsOpenedBacklog topic name options b → v ≡ record (made_channel topic name options b) { spare = v.spare; deferred_spare = v.deferred_spare } → IsOpenedAs topic name options v
opened_seen {topic} {name} {options} {b} {v} durable o made =
    let same : v.backlog ≡ b = ap (λ (u : Seen). u.backlog) made in
    record {
      made = record { is = made ∙ ap (λ b. record (made_channel topic name options b) { spare = v.spare; deferred_spare = v.deferred_spare }) (sym same) };
      backlog = subst (λ e. MatchBool e (v.backlog ≡ fresh_of topic name options) (IsOpenedBacklog topic name options v.backlog)) (sym durable) (subst (IsOpenedBacklog topic name options) (sym same) o);
    }
