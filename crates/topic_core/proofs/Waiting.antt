-- The messages that a topic's queue has beside those that wait in a topic of a state.
use Rattle.std.proofs.Common.{◌≡◌, ◌≢◌, ◌+◌, Bool, true, List, [], ◌∷◌, ◌++◌, length, Option, Some, None, refl, sym, ap, subst, ◌∙◌, arith, suc}
use Rattle.std.specs.List.{count_by}
use Rattle.nsq_outside.specs.Files.{Files}
use Rattle.v2_frame.specs.declared.message.Message.{Message}
use Rattle.path_image.specs.Found.{Pairwise}
use Rattle.backlog.specs.Seen.{Seen as Backlog, with_lent}
use Rattle.backlog.specs.Lists.{OnDisk}
use Rattle.backlog.specs.declared.backlog.Lent.{Lent}
use Rattle.backlog.specs.declared.backlog.Lent.TheVariants.{Nothing}
use Rattle.broker_history.specs.State.{Waiting, Taken, Topic}
use Rattle.broker_history.specs.Channels.{one}
use Rattle.broker_history.specs.Topics.{Fits, HasWaiting}
use Rattle.broker_history.proofs.Counting.{count-cons, count-append}
use Rattle.topic_core.specs.Seen.{Seen, IsSettled}
use Rattle.topic_core.specs.Rows.{IsTopicOf, waiting_with, taken_where}

-- none waits
pub none_waiting : HasWaiting [] []
none_waiting = record { in_order = []; often = λ p. refl; fit = tt }

-- pairs with one more, where it fits
record Inserted (ws : List Waiting) (w : Waiting) (ms : List Message) : Type 0 where
  all : List Waiting
  often : (p : Waiting → Bool) → count_by p all ≡ count_by p ws + one (p w)
  fit : Pairwise Fits all ms

insert_pair : (ws : List Waiting) (w : Waiting) (m : Message) (xs ys : List Message) → Fits w m → Pairwise Fits ws (xs ++ ys) → Inserted ws w (xs ++ m ∷ ys)
insert_pair ws w m [] ys f p = record { all = w ∷ ws; often = λ q. omega (arith, count-cons q w ws); fit = (f, p) }
insert_pair [] w m (x ∷ xs) ys f p = absurd p
insert_pair (v ∷ ws) w m (x ∷ xs) ys f p =
    let i = insert_pair ws w m xs ys f p.1 in
    record { all = v ∷ i.all; often = λ q. omega (arith, count-cons q v i.all, count-cons q v ws, i.often q); fit = (p.0, i.fit) }

-- one more message anywhere, and one that it fits
pub inserted : (xs ys : List Message) (m : Message) (waiting : List Waiting) (w : Waiting) → Fits w m → HasWaiting (xs ++ ys) waiting → HasWaiting (xs ++ m ∷ ys) (waiting ++ w ∷ [])
inserted xs ys m waiting w f h =
    let i = insert_pair h.in_order w m xs ys f h.fit in
    record { in_order = i.all; often = λ q. omega (arith, h.often q, i.often q, count-append q waiting (w ∷ []), count-cons q w []); fit = i.fit }

count_all : {X : Type 0} (xs : List X) → count_by (λ (x : X). true) xs ≡ length xs
count_all [] = refl
count_all {X} (x ∷ xs) = omega (arith, count-cons (λ (y : X). true) x xs, count_all xs)

pairs_length : (ws : List Waiting) (ms : List Message) → Pairwise Fits ws ms → length ws ≡ length ms
pairs_length [] [] p = refl
pairs_length [] (m ∷ ms) p = absurd p
pairs_length (w ∷ ws) [] p = absurd p
pairs_length (w ∷ ws) (m ∷ ms) p = ap suc (pairs_length ws ms p.1)

-- as many wait as there are
pub as_many : (ms : List Message) (waiting : List Waiting) → HasWaiting ms waiting → length waiting ≡ length ms
as_many ms waiting h = sym (count_all waiting) ∙ (h.often (λ (w : Waiting). true) ∙ (count_all h.in_order ∙ pairs_length h.in_order ms h.fit))

no_length : {X : Type 0} (xs : List X) → length xs ≡ 0 → xs ≡ []
no_length [] e = refl
no_length (x ∷ xs) e = absurd (let no : ⊥ = omega (arith, e) in no)

-- so none waits exactly where there is none
pub none_waits : (ms : List Message) (waiting : List Waiting) → HasWaiting ms waiting → length ms ≡ 0 → waiting ≡ []
none_waits ms waiting h e = no_length waiting (as_many ms waiting h ∙ e)

pub some_wait : (ms : List Message) (waiting : List Waiting) → HasWaiting ms waiting → length ms ≢ 0 → waiting ≢ []
some_wait ms waiting h some e = some (sym (as_many ms waiting h) ∙ ap length e)

-- where nothing is drawn the messages are those of the ring and those on disk, and the head is taken
pub settled_list : (b : Backlog) (head : Option Taken) (disk : List Message) → b.lent ≡ Nothing → waiting_with b head disk ≡ b.ring ++ disk
settled_list b None disk e = refl
settled_list b (Some head) disk e = ap (λ l. with_lent l head.message b.ring ++ disk) e

pub settled_taken : (lent : Lent) (head : Option Taken) → lent ≡ Nothing → taken_where lent head ≡ head
settled_taken lent head e = ap (λ l. taken_where l head) e

-- a topic's queue of which nothing is drawn is this topic
pub record IsSettledTopic (q : Seen) (files : Files) (t : Topic) : Type 0 where
  pub name : t.name ≡ q.name
  pub paused : t.paused ≡ q.paused
  pub message_count : t.message_count ≡ q.message_count
  pub taken : t.taken ≡ q.head
  pub disk : List Message
  pub on_disk : OnDisk q.backlog.queue files disk
  pub waiting : HasWaiting (q.backlog.ring ++ disk) t.waiting

pub from_settled : (q : Seen) (files : Files) (t : Topic) → IsSettled q → IsTopicOf q files t → IsSettledTopic q files t
from_settled q files t settled is = record {
  name = is.name;
  paused = is.paused;
  message_count = is.message_count;
  taken = is.taken ∙ settled_taken q.backlog.lent q.head settled;
  disk = is.disk;
  on_disk = is.on_disk;
  waiting = subst (λ ms. HasWaiting ms t.waiting) (settled_list q.backlog q.head is.disk settled) is.waiting;
}

pub to_settled : (q : Seen) (files : Files) (t : Topic) → IsSettled q → IsSettledTopic q files t → IsTopicOf q files t
to_settled q files t settled is = record {
  name = is.name;
  paused = is.paused;
  message_count = is.message_count;
  taken = is.taken ∙ sym (settled_taken q.backlog.lent q.head settled);
  disk = is.disk;
  on_disk = is.on_disk;
  waiting = subst (λ ms. HasWaiting ms t.waiting) (sym (settled_list q.backlog q.head is.disk settled)) is.waiting;
  first = λ drawn. absurd (drawn settled);
}
