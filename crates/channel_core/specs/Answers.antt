-- What is told of a channel.
use Rattle.std.specs.Prelude.{◌≡◌, ℕ, ◌≤◌, ◌<◌, ◌-◌, min, Bool, true, false, ◌&&◌, List, Option, Some, None, count_by}
use Rattle.std.specs.Str.{bytes_eq}
use Rattle.nsq_outside.specs.Causes.{Rose}
use Rattle.v2_frame.specs.declared.message.Message.{Message}
use Rattle.broker_history.specs.State.{Channel, queued, in_flight, deferred, flying_of, flying_with, is_due, is_in_flight, is_deferred}
use Rattle.channel_core.specs.declared.answers.Counts.{Counts}
use Rattle.channel_core.specs.declared.answers.Look.{Look}
use Rattle.channel_core.specs.declared.answers.Look.TheVariants.{Yours, NotYours, NotInFlight}
use Rattle.channel_core.specs.declared.answers.Requeue.{Requeue}
use Rattle.channel_core.specs.declared.answers.Requeue.TheVariants.{Done, Fault}
use Rattle.channel_core.specs.Seen.{Seen, channel_with}

-- where the copy of an id is, as far as a client may know
abbrev pub Looks : (client : ℕ) → (id : List ℕ) → Channel → Look → Type 0
Looks client id k Yours = flying_with client id k.copies ≡ 1
Looks client id k NotYours = (flying_of id k.copies ≡ 1) × (flying_with client id k.copies ≡ 0)
Looks client id k NotInFlight = flying_of id k.copies ≡ 0

-- a copy of this id is in flight with this client, whatever is queued
pub record IsYours (client : ℕ) (id : List ℕ) (v : Seen) : Type 0 where
  pub flies : (waits : List Message) → 0 < flying_with client id (channel_with v waits).copies

-- how many copies of an id are in flight, or deferred, and due at this moment
abbrev pub flying_due : (now : ℕ) → (id : List ℕ) → Channel → ℕ
flying_due now id k = count_by (λ x. (is_in_flight x.place && is_due now x.place) && bytes_eq id x.message.id) k.copies

abbrev pub deferred_due : (now : ℕ) → (id : List ℕ) → Channel → ℕ
deferred_due now id k = count_by (λ x. (is_deferred x.place && is_due now x.place) && bytes_eq id x.message.id) k.copies

-- how many copies are due, and how many of those in flight
abbrev pub all_due : (now : ℕ) → Channel → ℕ
all_due now k = count_by (λ x. is_due now x.place) k.copies

abbrev pub all_flying_due : (now : ℕ) → Channel → ℕ
all_flying_due now k = count_by (λ x. is_in_flight x.place && is_due now x.place) k.copies

-- which copy is due: one of this id that is in flight; or a deferred one, where none in flight is due; or none at all
abbrev pub TellsDue : (now : ℕ) → Channel → Option (List ℕ × Bool) → Type 0
TellsDue now k None = all_due now k ≡ 0
TellsDue now k (Some (id, true)) = 0 < flying_due now id k
TellsDue now k (Some (id, false)) = (all_flying_due now k ≡ 0) × (0 < deferred_due now id k)

-- of two moments the sooner one, where there are two
abbrev pub sooner_of : Option ℕ → Option ℕ → Option ℕ
sooner_of None b = b
sooner_of (Some a) None = Some a
sooner_of (Some a) (Some b) = Some (min a b)

-- no copy is due before the moment, and one is from then on; none ever is where there is no moment
abbrev pub IsNextDue : Channel → Option ℕ → Type 0
IsNextDue k None = (now : ℕ) → all_due now k ≡ 0
IsNextDue k (Some moment) = ((now : ℕ) → now < moment → all_due now k ≡ 0) × (0 < all_due moment k)

-- what a channel counts, of which so many queued copies find room in memory: those beyond are on disk
pub record Tells (mem : ℕ) (k : Channel) (counts : Counts) : Type 0 where
  pub depth : counts.depth ≡ queued k.copies
  pub least : counts.depth - mem ≤ counts.backend_depth
  pub most : counts.backend_depth ≤ counts.depth
  pub deferred_count : counts.deferred_count ≡ deferred k.copies
  pub in_flight_count : counts.in_flight_count ≡ in_flight k.copies
  pub message_count : counts.message_count ≡ k.message_count
  pub requeue_count : counts.requeue_count ≡ k.requeue_count
  pub timeout_count : counts.timeout_count ≡ k.timeout_count

-- a fault comes only with a rise, and only where the copy is to be queued at once
abbrev pub RequeueFails : (delay before now : ℕ) → Requeue → Type 0
RequeueFails delay before now Done = Unit {0}
RequeueFails delay before now Fault = (delay ≡ 0) × Rose before now
