-- What a flush says of a channel's queue is what an opening of a data path finds there.
use Rattle.std.proofs.Common.{◌≡◌, ◌≤◌, ◌<◌, ◌+◌, ◌^◌, ◌&&◌, ℕ, Bool, true, false, not, nat_le, List, [], ◌∷◌, length, map, Option, Some, None, refl, sym, ap, subst, ◌∙◌, arith}
use Rattle.std.specs.List.{All, count_by}
use Rattle.std.proofs.lemmas.Bool.{false≢true, leb-true, le-leb}
use Rattle.std.proofs.lemmas.List.Elements.{All-cons, All-head, All-nil, All-tail}
use Rattle.nsq_outside.specs.Files.{Files}
use Rattle.queue_image.specs.Finds.{IsFound, Records}
use Rattle.v2_frame.specs.declared.message.Message.{Message}
use Rattle.v2_frame.specs.Messages.{FitsItsBytes}
use Rattle.v2_frame.specs.Written.{message_bytes}
use Rattle.disk_queue.specs.Seen.{Seen as Queue}
use Rattle.backlog.specs.Seen.{longest_body}
use Rattle.backlog.specs.Lists.{IsStored, OnDisk}
use Rattle.broker_history.specs.State.{compared}
use Rattle.broker_history.specs.Channels.{one}
use Rattle.broker_history.proofs.Counting.{count-cons}
use Rattle.topic_core.proofs.Saving.{has_messages}
use Rattle.channel_core.specs.Storing.{FindsAll, HasStored}
use Rattle.channel_core.specs.Seen.{Seen as ChannelSeen}
use Rattle.floor_files.specs.Flushing.{FindsQueue}

-- none of a list passes a test exactly where none is counted
count_none : {X : Type 0} (p : X → Bool) (xs : List X) → All (λ x. p x ≡ false) xs → count_by p xs ≡ 0
count_none p [] h = refl
count_none p (x ∷ xs) h = let here : one (p x) ≡ 0 = ap one (All-head (λ x. p x ≡ false) x xs h) in omega (arith, count-cons p x xs, here, count_none p xs (All-tail (λ x. p x ≡ false) x xs h))

one_none : (b : Bool) → one b ≡ 0 → b ≡ false
one_none true e = absurd (let no : ⊥ = omega (arith, e) in no)
one_none false e = refl

none_count : {X : Type 0} (p : X → Bool) (xs : List X) → count_by p xs ≡ 0 → All (λ x. p x ≡ false) xs
none_count p [] e = All-nil (λ x. p x ≡ false)
none_count p (x ∷ xs) e =
    let here : one (p x) ≡ 0 = omega (arith, count-cons p x xs, e) in
    let rest : count_by p xs ≡ 0 = omega (arith, count-cons p x xs, e) in
    All-cons (λ x. p x ≡ false) x xs (one_none (p x) here) (none_count p xs rest)

-- whether a message's numbers fit, and its id has so many bytes
fits_in : (stamps attempts size : ℕ) → Message → Bool
fits_in stamps attempts size m = nat_le (m.stamp + 1) stamps && (nat_le (m.attempts + 1) attempts && (nat_le (length m.id) size && nat_le size (length m.id)))

both_true : (a b : Bool) → a ≡ true → b ≡ true → (a && b) ≡ true
both_true true b e f = f
both_true false b e f = e

both_parts : (a b : Bool) → (a && b) ≡ true → (a ≡ true) × (b ≡ true)
both_parts true b e = (refl, e)
both_parts false b e = absurd (false≢true e)

fits_true : (stamps attempts size : ℕ) (m : Message) → m.stamp < stamps → m.attempts < attempts → length m.id ≡ size → fits_in stamps attempts size m ≡ true
unfolding fits_in
fits_true stamps attempts size m s a i =
    both_true (nat_le (m.stamp + 1) stamps) (nat_le (m.attempts + 1) attempts && (nat_le (length m.id) size && nat_le size (length m.id))) (le-leb (m.stamp + 1) stamps (omega (arith, s)))
    (both_true (nat_le (m.attempts + 1) attempts) (nat_le (length m.id) size && nat_le size (length m.id)) (le-leb (m.attempts + 1) attempts (omega (arith, a)))
    (both_true (nat_le (length m.id) size) (nat_le size (length m.id)) (le-leb (length m.id) size (omega (arith, i))) (le-leb size (length m.id) (omega (arith, i)))))

pub record Fits (stamps attempts size : ℕ) (m : Message) : Type 0 where
  pub stamp : m.stamp < stamps
  pub tries : m.attempts < attempts
  pub id : length m.id ≡ size

true_fits : (stamps attempts size : ℕ) (m : Message) → fits_in stamps attempts size m ≡ true → Fits stamps attempts size m
unfolding fits_in
true_fits stamps attempts size m e =
    let first = both_parts (nat_le (m.stamp + 1) stamps) (nat_le (m.attempts + 1) attempts && (nat_le (length m.id) size && nat_le size (length m.id))) e in
    let second = both_parts (nat_le (m.attempts + 1) attempts) (nat_le (length m.id) size && nat_le size (length m.id)) first.1 in
    let third = both_parts (nat_le (length m.id) size) (nat_le size (length m.id)) second.1 in
    let s : m.stamp + 1 ≤ stamps = leb-true (m.stamp + 1) stamps first.0 in
    let a : m.attempts + 1 ≤ attempts = leb-true (m.attempts + 1) attempts second.0 in
    let low : length m.id ≤ size = leb-true (length m.id) size third.0 in
    let high : size ≤ length m.id = leb-true size (length m.id) third.1 in
    record { stamp = omega (arith, s); tries = omega (arith, a); id = omega (arith, low, high) }

misfits : Message → Bool
misfits m = not (fits_in (2 ^ 64) (2 ^ 16) 16 m)

not_true : (b : Bool) → b ≡ true → not b ≡ false
not_true true e = refl
not_true false e = absurd (false≢true e)

not_false : (b : Bool) → not b ≡ false → b ≡ true
not_false true e = refl
not_false false e = absurd (false≢true (sym e))

fitting : (m : Message) → FitsItsBytes m → misfits (compared m) ≡ false
unfolding misfits
fitting m f = not_true (fits_in (2 ^ 64) (2 ^ 16) 16 (compared m)) (fits_true (2 ^ 64) (2 ^ 16) 16 (compared m) f.stamp f.attempts f.id)

fits_still : (m : Message) → misfits m ≡ false → FitsItsBytes m
unfolding misfits
fits_still m e = let f = true_fits (2 ^ 64) (2 ^ 16) 16 m (not_false (fits_in (2 ^ 64) (2 ^ 16) 16 m) e) in record { stamp = f.stamp; attempts = f.tries; id = f.id }

-- messages that fit, compared, and back
none_misfits : (ms : List Message) → All IsStored ms → All (λ m. misfits m ≡ false) (map compared ms)
none_misfits [] h = All-nil (λ m. misfits m ≡ false)
none_misfits (m ∷ ms) h = All-cons (λ m. misfits m ≡ false) (compared m) (map compared ms) (fitting m (All-head IsStored m ms h).fits) (none_misfits ms (All-tail IsStored m ms h))

all_stored : (ms : List Message) → All (λ m. misfits m ≡ false) (map compared ms) → All IsStored (map compared ms)
all_stored [] h = All-nil IsStored
all_stored (m ∷ ms) h =
    All-cons IsStored (compared m) (map compared ms) (record { fits = fits_still (compared m) (All-head (λ m. misfits m ≡ false) (compared m) (map compared ms) h); no_delay = refl })
    (all_stored ms (All-tail (λ m. misfits m ≡ false) (compared m) (map compared ms) h))

same_bytes : (ms : List Message) → map message_bytes (map compared ms) ≡ map message_bytes ms
same_bytes [] = refl
same_bytes (m ∷ ms) = ap (λ bs. message_bytes m ∷ bs) (same_bytes ms)

compared_twice : (ms : List Message) → map compared (map compared ms) ≡ map compared ms
compared_twice [] = refl
compared_twice (m ∷ ms) = ap (λ ns. compared m ∷ ns) (compared_twice ms)

-- what is on disk comes back as it is
stored_disk : (queue : Option Queue) (files : Files) (ms : List Message) → OnDisk queue files ms → All IsStored ms
stored_disk None files ms on = subst (All IsStored) (sym on) (All-nil IsStored)
stored_disk (Some q) files ms on = on.stored

-- as often as what is on disk, what is found has the messages that were left
pub finds_queue : (left : List Message) (name : List ℕ) (v : ChannelSeen) (files : Files) → FindsAll left name files → HasStored left v files → FindsQueue left name files
finds_queue left name v files found stored =
    let none : count_by misfits (map compared found.messages) ≡ 0 =
    sym (found.same misfits) ∙ stored.same misfits ∙ count_none misfits (map compared stored.messages) (none_misfits stored.messages (stored_disk v.backlog.queue files stored.messages stored.on_disk)) in
    record {
      messages = map compared found.messages;
      found = has_messages files name (map compared found.messages) (subst (λ bodies. IsFound 26 (26 + longest_body) files name (Records bodies [])) (sym (same_bytes found.messages)) found.found)
          (all_stored found.messages (none_count misfits (map compared found.messages) none));
      same = λ p. found.same p ∙ ap (count_by p) (sym (compared_twice found.messages));
    }
