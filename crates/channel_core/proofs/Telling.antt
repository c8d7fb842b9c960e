-- What a channel counts.
use Rattle.std.proofs.Common.{◌≡◌, ℕ, ◌+◌, ◌≤◌, ◌<◌, ◌≢◌, Bool, true, false, not, nat_eq, inl, inr, List, length, Option, Some, None, refl, sym, ap, subst, ◌∙◌, arith, length-append}
use Rattle.std.specs.Prelude.{is_some, MatchBool}
use Rattle.std.proofs.lemmas.List.{length-map}
use Rattle.std.proofs.lemmas.Bool.Decides.{eqb_tells}
use Rattle.nsq_outside.specs.Files.{Files}
use Rattle.v2_frame.specs.Written.{message_bytes}
use Rattle.v2_frame.specs.declared.message.Message.{Message}
use Rattle.backlog.specs.Queues.{Seen as Queue}
use Rattle.backlog.specs.Seen.{ring_depth, disk_depth, lent_of_ring}
use Rattle.backlog.specs.Lists.{OnDisk}
use Rattle.backlog.specs.declared.backlog.Lent.TheVariants.{Nothing}
use Rattle.broker_history.specs.State.{queued, is_ephemeral_channel}
use Rattle.channel_core.specs.declared.answers.Counts.{Counts}
use Rattle.channel_core.specs.Answers.{Tells}
use Rattle.channel_core.specs.Kept.{IsBacklogOf}
use Rattle.channel_core.specs.Seen.{Seen, queued_in, seen_channel}
use Rattle.channel_core.proofs.Copies.{queued_is, in_flight_is, deferred_is}

-- as many are on disk as the queue's depth says
disk_long : (queue : Option Queue) (files : Files) (disk : List Message) → OnDisk queue files disk → disk_depth queue ≡ length disk
disk_long None files disk on = sym (ap length on)
disk_long (Some q) files disk on = sym on.list.depth ∙ length-map disk message_bytes

-- the counts are those of the channel with what is on disk
told : (v : Seen) (files : Files) (disk : List Message) (counts : Counts) (ring : ℕ) → OnDisk v.backlog.queue files disk → v.backlog.lent ≡ Nothing → IsBacklogOf v.about v.backlog → ring ≡ ring_depth v.backlog → ring ≤ v.backlog.capacity → counts.backend_depth ≡ disk_depth v.backlog.queue
    → counts.depth ≡ ring + counts.backend_depth → counts.deferred_count ≡ length v.deferred → counts.in_flight_count ≡ length v.flights → counts.message_count ≡ v.message_count → counts.requeue_count ≡ v.requeue_count → counts.timeout_count ≡ v.timeout_count
    → Tells v.about.mem_queue_size (seen_channel v disk) counts
told v files disk counts ring on none named ring_is within behind depth deferred flying joined requeued timed_out = record {
  depth = omega (arith, queued_is (queued_in v disk) v.flights v.deferred, length-append v.backlog.ring disk, disk_long v.backlog.queue files disk on, ap lent_of_ring none, ring_is, behind, depth);
  least = omega (arith, depth, within, named.capacity);
  most = omega (arith, depth);
  deferred_count = deferred ∙ sym (deferred_is (queued_in v disk) v.flights v.deferred);
  in_flight_count = flying ∙ sym (in_flight_is (queued_in v disk) v.flights v.deferred);
  message_count = joined;
  requeue_count = requeued;
  timeout_count = timed_out;
}

pub tells : (files : Files) (disk : List Message) (counts : Counts) (ring : ℕ) {v0 : Seen} (v : Seen) → v0 ≡ v → OnDisk v.backlog.queue files disk → v0.backlog.lent ≡ Nothing → IsBacklogOf v0.about v0.backlog → ring ≡ ring_depth v0.backlog → ring ≤ v0.backlog.capacity → counts.backend_depth ≡ disk_depth v0.backlog.queue
    → counts.depth ≡ ring + counts.backend_depth → counts.deferred_count ≡ length v0.deferred → counts.in_flight_count ≡ length v0.flights → counts.message_count ≡ v0.message_count → counts.requeue_count ≡ v0.requeue_count → counts.timeout_count ≡ v0.timeout_count
    → Tells v.about.mem_queue_size (seen_channel v disk) counts
tells files disk counts ring {v0} v is on none named ring_is within behind depth deferred flying joined requeued timed_out =
    subst (λ (u : Seen). Tells u.about.mem_queue_size (seen_channel u disk) counts) is
    (told v0 files disk counts ring (subst (λ (u : Seen). OnDisk u.backlog.queue files disk) (sym is) on) none named ring_is within behind depth deferred flying joined requeued timed_out)

-- an ephemeral channel has none on disk
none_where : (queue : Option Queue) (e : Bool) → is_some queue ≡ not e → e ≡ true → disk_depth queue ≡ 0
none_where None e is ephemeral = refl
none_where (Some q) true is ephemeral = absurd (let no : ⊥ = cc in no)
none_where (Some q) false is ephemeral = absurd (let no : ⊥ = cc in no)

pub none_behind : (behind : ℕ) {v0 : Seen} (v : Seen) → v0 ≡ v → IsBacklogOf v0.about v0.backlog → behind ≡ disk_depth v0.backlog.queue → is_ephemeral_channel v.about.topic v.about.name ≡ true → behind ≡ 0
none_behind behind {v0} v same named is ephemeral = is ∙ none_where v0.backlog.queue _ named.durable (ap (λ (u : Seen). is_ephemeral_channel u.about.topic u.about.name) same ∙ ephemeral)

-- how many copies are queued, where nothing is drawn
depth_of : (v : Seen) (files : Files) (disk : List Message) (ring behind : ℕ) → OnDisk v.backlog.queue files disk → v.backlog.lent ≡ Nothing → ring ≡ ring_depth v.backlog → behind ≡ disk_depth v.backlog.queue → queued (seen_channel v disk).copies ≡ ring + behind
depth_of v files disk ring behind on none ring_is behind_is =
    omega (arith, queued_is (queued_in v disk) v.flights v.deferred, length-append v.backlog.ring disk, disk_long v.backlog.queue files disk on, ap lent_of_ring none, ring_is, behind_is)

pub queued_depth : (files : Files) (disk : List Message) (ring behind : ℕ) {v0 : Seen} (v : Seen) → v0 ≡ v → OnDisk v.backlog.queue files disk → v0.backlog.lent ≡ Nothing → ring ≡ ring_depth v0.backlog → behind ≡ disk_depth v0.backlog.queue → queued (seen_channel v disk).copies ≡ ring + behind
queued_depth files disk ring behind {v0} v is on none ring_is behind_is =
    ap (λ (u : Seen). queued (seen_channel u disk).copies) (sym is) ∙ depth_of v0 files disk ring behind (subst (λ (u : Seen). OnDisk u.backlog.queue files disk) (sym is) on) none ring_is behind_is

-- whether none is, by how many are in the ring and on disk
pub some_in_ring : (v : Seen) (disk : List Message) (ring behind : ℕ) → queued (seen_channel v disk).copies ≡ ring + behind → ring ≢ 0 → 0 < queued (seen_channel v disk).copies
some_in_ring v disk ring behind is some = omega (arith, is, some)

pub by_depths : (v : Seen) (disk : List Message) (ring behind : ℕ) → queued (seen_channel v disk).copies ≡ ring + behind → ring ≡ 0 → MatchBool (nat_eq behind 0) (queued (seen_channel v disk).copies ≡ 0) (0 < queued (seen_channel v disk).copies)
by_depths v disk ring behind is none = elim (eqb_tells behind 0) [
  | inl t ↦ subst (λ b. MatchBool b (queued (seen_channel v disk).copies ≡ 0) (0 < queued (seen_channel v disk).copies)) (sym t.0) (omega (arith, is, none, t.1))
  | inr t ↦ subst (λ b. MatchBool b (queued (seen_channel v disk).copies ≡ 0) (0 < queued (seen_channel v disk).copies)) (sym t.0) (omega (arith, is, none, t.1))
]

-- what a test's answer says
pub when_true : (P Q : Type 0) (b : Bool) → MatchBool b P Q → b ≡ true → P
when_true P Q true m e = m
when_true P Q false m e = absurd (let no : ⊥ = cc in no)

pub when_false : (P Q : Type 0) (b : Bool) → MatchBool b P Q → b ≡ false → Q
when_false P Q true m e = absurd (let no : ⊥ = cc in no)
when_false P Q false m e = m
