-- What is counted of a state's copies is counted of those that the program keeps.
use Rattle.std.specs.Prelude.{◌≡◌, ℕ, Bool, true, false, List, count_by}
use Rattle.std.specs.List.{list_any}
use Rattle.broker_history.specs.State.{Copy, Channel, is_live, is_due, queued, in_flight, deferred, flying, flying_of, flying_with}
use Rattle.broker_history.specs.Channels.{IsKept, has_credit, can_send}
use Rattle.broker_history.specs.Left.{SameMessages, left_in_channel}

-- what is told of a channel, and of what may be sent of it, is told of what is kept
pub record CountsAlike (kept k : Channel) : Type 0 where
  pub name : kept.name ≡ k.name
  pub paused : kept.paused ≡ k.paused
  pub message_count : kept.message_count ≡ k.message_count
  pub requeue_count : kept.requeue_count ≡ k.requeue_count
  pub timeout_count : kept.timeout_count ≡ k.timeout_count
  pub queued : queued kept.copies ≡ queued k.copies
  pub in_flight : in_flight kept.copies ≡ in_flight k.copies
  pub deferred : deferred kept.copies ≡ deferred k.copies
  pub flying : (number : ℕ) → flying number kept.copies ≡ flying number k.copies
  pub of_id : (id : List ℕ) → flying_of id kept.copies ≡ flying_of id k.copies
  pub with_client : (number : ℕ) (id : List ℕ) → flying_with number id kept.copies ≡ flying_with number id k.copies
  pub credit : (ready number : ℕ) → has_credit ready number kept ≡ has_credit ready number k
  pub can_send : can_send kept.copies ≡ can_send k.copies
  pub left : SameMessages (left_in_channel kept) (left_in_channel k)

abbrev pub KeptCountsAlike : Type 0
KeptCountsAlike = (kept k : Channel) → IsKept kept k → CountsAlike kept k

-- a test that only live copies pass counts as many of them
abbrev pub LiveTestsAlike : Type 0
LiveTestsAlike = (p : Copy → Bool) → ((x : Copy) → p x ≡ true → is_live x.place ≡ true) → (kept k : Channel) → IsKept kept k → count_by p kept.copies ≡ count_by p k.copies

-- where nothing is due of what is kept, nothing is of the state's channel
abbrev pub NoneIsDue : Type 0
NoneIsDue = (at : ℕ) (kept k : Channel) → IsKept kept k → count_by (λ x. is_due at x.place) kept.copies ≡ 0 → list_any (λ x. is_due at x.place) k.copies ≡ false

-- where none is queued, none can be sent
abbrev pub NoneCanBeSent : Type 0
NoneCanBeSent = (kept k : Channel) → IsKept kept k → queued kept.copies ≡ 0 → can_send k.copies ≡ false
