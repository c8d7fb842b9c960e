-- Where a name has its colon.
use Rattle.std.proofs.Common.{◌≡◌, ◌≢◌, Option, Some, None, IfSome, ℕ, ◌+◌, ◌==◌, List, [], ◌∷◌, ◌++◌, length, take, drop, refl, sym, ◌∙◌, ap, subst, inl, inr}
use Rattle.std.proofs.lemmas.List.{append_cancel_left, take_at}
use Rattle.std.specs.List.{position}
use Rattle.nsq_base.specs.Name.{IsName}
use Rattle.queue_image.specs.FileNames.{channel_queue, IsQueueName, IsOwnFile, IsQueueFile}
use Rattle.queue_image.specs.FileNames.IsQueueName.{of_topic, of_channel}
use Rattle.queue_image.specs.FileNames.IsOwnFile.{numbered, metadata}
use Rattle.queue_image.specs.FileNames.IsFileOf.{own}
use Rattle.queue_image.proofs.Naming.{Lacks, no_channel, one_queue}
use Rattle.queue_image.proofs.Digits.{position-at, around}
use Rattle.queue_sweep.specs.Forms.{HasForm}
use Rattle.queue_sweep.specs.Names.{ReadsName, FindsQueue, HasNames, spelled, queue_named}
use Rattle.queue_sweep.specs.declared.queue_name.QueueName.{QueueName}

-- a list that such a byte stands nowhere in lacks it
lacks_from : (c : ℕ) (xs : List ℕ) → ((front back : List ℕ) → xs ≢ front ++ c ∷ back) → Lacks c xs
lacks_from c [] nowhere = tt
lacks_from c (x ∷ xs) nowhere = (λ e. nowhere [] xs (ap (λ (z : ℕ). z ∷ xs) e), lacks_from c xs (λ front back e. nowhere (x ∷ front) back (ap (λ (zs : List ℕ). x ∷ zs) e)))

-- a name has no colon
pub name_lacks : (name : List ℕ) → IsName name → Lacks 58 name
name_lacks name named = lacks_from 58 name (λ front back. no_channel name front back named)

-- a channel's queue has its first colon behind the topic
colon_at : (name topic channel : List ℕ) → IsName topic → name ≡ channel_queue topic channel → position (λ b. b == 58) name ≡ Some (length topic)
colon_at name topic channel named e = position-at 58 topic channel name (name_lacks topic named) e

-- without a colon a queue's name is a topic's
pub no_colon : (name : List ℕ) → position (λ b. b == 58) name ≡ None → ¬ IsName name → ¬ IsQueueName name
no_colon name none bad (of_topic named) = bad named
no_colon name none bad (of_channel topic channel named named' e) = let at = colon_at name topic channel named e in let contra : None ≡ Some (length topic) = sym none ∙ at in cc

-- what stands around the first colon of a queue's name are names
pub around_colon : (name : List ℕ) (n : ℕ) → position (λ b. b == 58) name ≡ Some n → IsQueueName name → IsName (take n name) × IsName (drop (n + 1) name)
around_colon name n at (of_topic named) = absurd (no_channel name (take n name) (drop (n + 1) name) named (around name 58 n at))
around_colon name n at (of_channel topic channel named named' e) =
    let same : n ≡ length topic = let there = colon_at name topic channel named e in cc in
    let front : take n name ≡ topic = ap (take n) e ∙ take_at topic (58 ∷ channel) n (sym same) in
    let tails : 58 ∷ drop (n + 1) name ≡ 58 ∷ channel
    = append_cancel_left topic (58 ∷ drop (n + 1) name) (58 ∷ channel) (ap (λ (x : List ℕ). x ++ 58 ∷ drop (n + 1) name) (sym front) ∙ sym (around name 58 n at) ∙ e) in
    let back : drop (n + 1) name ≡ channel = cc in
    (subst (λ (x : List ℕ). IsName x) (sym front) named, subst (λ (x : List ℕ). IsName x) (sym back) named')

-- a file of this form is the queue's own
pub own_file : (name file : List ℕ) → HasForm name file → IsOwnFile name file
own_file name file (inl d) = numbered d.0 d.1 d.2
own_file name file (inr e) = metadata e

-- it has the form of one queue's files
pub one_form : (name other file : List ℕ) → HasForm name file → HasForm other file → name ≡ other
one_form name other file f g = one_queue name other file (own (own_file name file f)) (own (own_file other file g))

-- the queue of a file is that of the name in it
pub found_queue : (file stem : List ℕ) (found : Option QueueName) → HasForm stem file → ReadsName stem found → FindsQueue file found
found_queue file stem None form bad = λ q. bad (subst (λ (x : List ℕ). IsQueueName x) (one_form q.name stem file q.form form) q.queue)
found_queue file stem (Some queue) form read = (subst (λ (x : List ℕ). HasForm x file) read.0 form, read.1)

-- a file whose name has no such form is no queue's
pub no_form : (file : List ℕ) → ((name : List ℕ) → ¬ HasForm name file) → ¬ IsQueueFile file
no_form file none q = none q.name q.form

-- the parts around the first colon make the name
pub name_of_parts : (name topic channel back : List ℕ) (n : ℕ) → position (λ b. b == 58) name ≡ Some n → IsName (take n name) → topic ≡ take n name → IsName back → back ≡ drop (n + 1) name → channel ≡ back
    → (name ≡ channel_queue topic channel) × HasNames (record { topic = topic; channel = Some channel })
name_of_parts name topic channel back n at named is named' whole is' = (
  around name 58 n at ∙ ap (λ (x : List ℕ). x ++ 58 ∷ drop (n + 1) name) (sym is) ∙ ap (λ (x : List ℕ). topic ++ 58 ∷ x) (sym whole ∙ sym is'),
  record { of_topic = subst (λ (x : List ℕ). IsName x) (sym is) named; of_channel = subst (λ (x : List ℕ). IsName x) (sym is') named' },
)

-- such parts are the name of a queue
pub queue_name : (queue : QueueName) → HasNames queue → IsQueueName (spelled queue)
queue_name queue named = go queue.channel named.of_channel
  where
    go : (channel : Option (List ℕ)) → IfSome channel IsName → IsQueueName (queue_named queue.topic channel)
    go None h = of_topic named.of_topic
    go (Some channel) h = of_channel queue.topic channel named.of_topic h refl
