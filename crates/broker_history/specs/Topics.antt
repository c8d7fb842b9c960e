-- What the entries make of a topic's messages and of what its channels are owed.
use Rattle.std.specs.Prelude.{◌≡◌, ◌⊎◌, ℕ, ◌+◌, Bool, true, false, not, ◌&&◌, nat_le, if◌then◌else◌, List, [], ◌∷◌, ◌++◌, length, filter, Option, Some, None, is_none}
use Rattle.std.specs.List.{list_any}
use Rattle.std.specs.Str.{bytes_eq}
use Rattle.nsq_base.specs.MsgId.{id_of}
use Rattle.nsq_base.specs.Name.{is_ephemeral}
use Rattle.nsq_base.specs.Names.{TopicList}
use Rattle.v2_frame.specs.declared.message.Message.{Message}
use Rattle.path_image.specs.Found.{Pairwise}
use Rattle.broker_history.specs.State.{Waiting, Taken, Topic, IsSame, counted, is_empty, is_due, channel_names}
use Rattle.broker_history.specs.Channels.{AsOften}

-- the topic with one more message waiting at its end
abbrev pub with_waiting : Topic → Message → Bool → Topic
with_waiting t m loose = record t { message_count = counted t.message_count; waiting = t.waiting ++ record { message = m; loose = loose } ∷ [] }

-- whether at least so many messages wait in the topic
abbrev pub is_full : ℕ → Topic → Bool
is_full mem t = nat_le mem (length t.waiting)

-- the topic after a message was put, where so many messages find room in memory: an ephemeral topic drops what finds no room
abbrev pub put_message : ℕ → Topic → Message → Topic
put_message mem t m = if is_ephemeral t.name && is_full mem t then t else with_waiting t m (is_full mem t)

-- the n-th message of an epoch as it is published: no attempt was made to send it
abbrev pub published_message : (epoch n at delay : ℕ) (body : List ℕ) → Message
published_message epoch n at delay body = record { stamp = at; attempts = 0; id = id_of epoch n; body = body; delay = delay }

-- the topic after messages of these bodies were put in order, the first of them being the n-th of the epoch
abbrev pub put_bodies : (mem epoch n at delay : ℕ) → Topic → List (List ℕ) → Topic
put_bodies mem epoch n at delay t [] = t
put_bodies mem epoch n at delay t (body ∷ bodies) = put_bodies mem epoch (n + 1) at delay (put_message mem t (published_message epoch n at delay body)) bodies

-- a Took is due: the topic isn't paused, has a channel and a waiting message, and has taken none
abbrev pub takes : Topic → Bool
takes t = not t.paused && not (is_empty t.channels) && not (is_empty t.waiting) && is_none t.taken

-- a Copied is due: a channel is owed a copy
abbrev pub owes : Option Taken → Bool
owes None = false
owes (Some taken) = not (is_empty taken.owed)

-- a TimedOut or a CameDue is due in one of the topic's channels
abbrev pub has_due : (at : ℕ) → Topic → Bool
has_due at t = list_any (λ c. list_any (λ x. is_due at x.place) c.copies) t.channels

-- the message may be taken for the one that waits: the same, with its delay; where that is loose its delay may be forgotten
pub record Fits (w : Waiting) (m : Message) : Type 0 where
  pub same : IsSame w.message m
  pub delay : (m.delay ≡ w.message.delay) ⊎ ((w.loose ≡ true) × (m.delay ≡ 0))

-- Took: a waiting message is taken, and owed to all channels of the topic, which the entry lists
pub record Takes (m : Message) (names : TopicList) (old new : Topic) : Type 0 where
  pub due : takes old ≡ true
  pub before : List Waiting
  pub waits : Waiting
  pub after : List Waiting
  pub was : old.waiting ≡ before ++ waits ∷ after
  pub fits : Fits waits m
  pub listed : names ≡ (old.name, channel_names old) ∷ []
  pub is : new ≡ record old { waiting = before ++ after; taken = Some (record { message = m; owed = channel_names old }) }

-- the others of these names
abbrev pub without_name : List (List ℕ) → List ℕ → List (List ℕ)
without_name names name = filter (λ n. not (bytes_eq n name)) names

-- what is taken after a channel is owed no more: with the last owed channel it goes
abbrev pub still_owed : Message → List (List ℕ) → Option Taken
still_owed m [] = None
still_owed m (name ∷ names) = Some (record { message = m; owed = name ∷ names })

abbrev pub owed_no_more : Option Taken → List ℕ → Option Taken
owed_no_more None name = None
owed_no_more (Some taken) name = still_owed taken.message (without_name taken.owed name)

-- whether the channel of this name is owed a copy
abbrev pub is_owed : Option Taken → List ℕ → Bool
is_owed None name = false
is_owed (Some taken) name = list_any (λ n. bytes_eq n name) taken.owed

-- Copied, as far as the topic goes: a channel that was owed a copy of this message is owed none
pub record Pays (name : List ℕ) (m : Message) (old new : Option Taken) : Type 0 where
  pub taken : Taken
  pub was : old ≡ Some taken
  pub message : m ≡ taken.message
  pub owed : is_owed old name ≡ true
  pub is : new ≡ owed_no_more old name

-- what a topic of the program keeps is a state's: it has the waiting messages, each as often and with its delay, which may be forgotten of
-- those that are loose
pub record HasWaiting (kept : List Message) (waiting : List Waiting) : Type 0 where
  pub in_order : List Waiting
  pub often : AsOften waiting in_order
  pub fit : Pairwise Fits in_order kept

-- what a topic of the program keeps is taken as a state's is: where one of its messages goes, a waiting one that it fits may be taken
pub record TakenFrom (kept : List Message) (m : Message) (waiting : List Waiting) : Type 0 where
  pub before : List Waiting
  pub waits : Waiting
  pub after : List Waiting
  pub was : waiting ≡ before ++ waits ∷ after
  pub fits : Fits waits m
  pub left : HasWaiting kept (before ++ after)
