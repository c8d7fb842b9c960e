-- What is counted of the live copies alone.
use Rattle.std.proofs.Common.{◌≡◌, ℕ, ◌≤◌, Bool, true, false, ◌&&◌, ◌||◌, not, ◌==◌, nat_lt, if◌then◌else◌, List, [], ◌∷◌, map, refl, sym, ap, ◌∙◌, arith}
use Rattle.std.specs.List.{count_by, list_any, filter}
use Rattle.std.specs.Str.{bytes_eq}
use Rattle.std.proofs.lemmas.Bool.{false≢true, lt-ltb}
use Rattle.v2_frame.specs.declared.message.Message.{Message}
use Rattle.broker_history.specs.State.{Place, Queued, InFlight, Deferred, Copy, Channel, compared, is_live, is_queued, is_in_flight, is_with, is_deferred, is_due, queued, flying, flying_of}
use Rattle.broker_history.specs.Channels.{IsKept, one, can_send, is_free}
use Rattle.broker_history.specs.Left.{SameMessages, left_in_channel}
use Rattle.broker_history.proofs.Counting.{count-cons}
use Rattle.floor_laws.specs.Counts.{CountsAlike}

pub parts : (a b : Bool) → (a && b) ≡ true → (a ≡ true) × (b ≡ true)
parts true b h = (refl, h)
parts false b h = absurd (false≢true h)

-- two tests that agree on each copy count as many
pub count_same : {X : Type 0} (p q : X → Bool) → ((x : X) → p x ≡ q x) → (xs : List X) → count_by p xs ≡ count_by q xs
count_same p q e [] = refl
count_same p q e (x ∷ xs) = omega (arith, count-cons p x xs, count-cons q x xs, ap one (e x), count_same p q e xs)

-- a test that only live ones pass
both_live : (live passes : Bool) → (passes ≡ true → live ≡ true) → (live && passes) ≡ passes
both_live true passes h = refl
both_live false true h = h refl
both_live false false h = refl

pub tests_alike : (p : Copy → Bool) → ((x : Copy) → p x ≡ true → is_live x.place ≡ true) → (kept k : Channel) → IsKept kept k → count_by p kept.copies ≡ count_by p k.copies
tests_alike p lives kept k h = h.live.often p ∙ count_same _ p (λ x. both_live (is_live x.place) (p x) (lives x)) k.copies

-- which places pass which tests
queued_lives : (a : Place) → is_queued a ≡ true → is_live a ≡ true
queued_lives Queued h = refl
queued_lives (InFlight client due sent) h = refl
queued_lives (Deferred due) h = refl
queued_lives a h = absurd (false≢true h)

flying_lives : (a : Place) → is_in_flight a ≡ true → is_live a ≡ true
flying_lives Queued h = refl
flying_lives (InFlight client due sent) h = refl
flying_lives (Deferred due) h = refl
flying_lives a h = absurd (false≢true h)

with_lives : (n : ℕ) (a : Place) → is_with n a ≡ true → is_live a ≡ true
with_lives n Queued h = refl
with_lives n (InFlight client due sent) h = refl
with_lives n (Deferred due) h = refl
with_lives n a h = absurd (false≢true h)

deferred_lives : (a : Place) → is_deferred a ≡ true → is_live a ≡ true
deferred_lives Queued h = refl
deferred_lives (InFlight client due sent) h = refl
deferred_lives (Deferred due) h = refl
deferred_lives a h = absurd (false≢true h)

pub due_lives : (at : ℕ) (a : Place) → is_due at a ≡ true → is_live a ≡ true
due_lives at Queued h = refl
due_lives at (InFlight client due sent) h = refl
due_lives at (Deferred due) h = refl
due_lives at a h = absurd (false≢true h)

-- whether one passes a test is whether one is counted
any_one : {X : Type 0} (p : X → Bool) (x : X) (xs : List X) (b : Bool) → p x ≡ b → list_any p xs ≡ nat_lt 0 (count_by p xs) → (b || list_any p xs) ≡ nat_lt 0 (count_by p (x ∷ xs))
any_one p x xs true e h = sym (lt-ltb 0 (count_by p (x ∷ xs)) (omega (arith, count-cons p x xs, ap one e)))
any_one p x xs false e h = h ∙ ap (nat_lt 0) (omega (arith, count-cons p x xs, ap one e))

pub any_counted : {X : Type 0} (p : X → Bool) (xs : List X) → list_any p xs ≡ nat_lt 0 (count_by p xs)
any_counted p [] = refl
any_counted p (x ∷ xs) = any_one p x xs (p x) refl (any_counted p xs)

-- a test that passes less counts no more
fewer_one : (a b : Bool) → (a ≡ true → b ≡ true) → one a ≤ one b
fewer_one true b h = omega (arith, ap one (h refl))
fewer_one false b h = omega arith

count_fewer : {X : Type 0} (p q : X → Bool) → ((x : X) → p x ≡ true → q x ≡ true) → (xs : List X) → count_by p xs ≤ count_by q xs
count_fewer p q h [] = omega arith
count_fewer p q h (x ∷ xs) = omega (arith, count-cons p x xs, count-cons q x xs, fewer_one (p x) (q x) (h x), count_fewer p q h xs)

-- whether a copy may be sent, in a channel of these copies
abbrev sendable : List Copy → Copy → Bool
sendable copies x = is_queued x.place && is_free x.message.id copies

sendable_same : (kept k : Channel) → ((id : List ℕ) → flying_of id kept.copies ≡ flying_of id k.copies) → (x : Copy) → sendable kept.copies x ≡ sendable k.copies x
sendable_same kept k of x = ap (λ n. is_queued x.place && (n == 0)) (of x.message.id)

sends_alike : (kept k : Channel) → IsKept kept k → ((id : List ℕ) → flying_of id kept.copies ≡ flying_of id k.copies) → can_send kept.copies ≡ can_send k.copies
sends_alike kept k h of =
    any_counted (sendable kept.copies) kept.copies
    ∙ ap (nat_lt 0) (count_same (sendable kept.copies) (sendable k.copies) (sendable_same kept k of) kept.copies ∙ tests_alike (sendable k.copies) (λ x e. queued_lives x.place (parts (is_queued x.place) (is_free x.message.id k.copies) e).0) kept k h)
    ∙ sym (any_counted (sendable k.copies) k.copies)

-- the messages that are left are those of the live copies
left_one : (p : Message → Bool) (x : Copy) (xs : List Copy) (b : Bool) → is_live x.place ≡ b
    → count_by p (map compared (map (λ (y : Copy). y.message) (filter (λ (y : Copy). is_live y.place) xs))) ≡ count_by (λ (y : Copy). is_live y.place && p (compared y.message)) xs
    → count_by p (map compared (map (λ (y : Copy). y.message) (if b then x ∷ filter (λ (y : Copy). is_live y.place) xs else filter (λ (y : Copy). is_live y.place) xs))) ≡ count_by (λ (y : Copy). is_live y.place && p (compared y.message)) (x ∷ xs)
left_one p x xs true e h =
    omega (arith, h, count-cons p (compared x.message) (map compared (map (λ (y : Copy). y.message) (filter (λ (y : Copy). is_live y.place) xs))), count-cons (λ (y : Copy). is_live y.place && p (compared y.message)) x xs, ap (λ b. one (b && p (compared x.message))) e)
left_one p x xs false e h =
    omega (arith, h, count-cons (λ (y : Copy). is_live y.place && p (compared y.message)) x xs, ap (λ b. one (b && p (compared x.message))) e)

left_count : (p : Message → Bool) (xs : List Copy) → count_by p (map compared (map (λ (y : Copy). y.message) (filter (λ (y : Copy). is_live y.place) xs))) ≡ count_by (λ (y : Copy). is_live y.place && p (compared y.message)) xs
left_count p [] = refl
left_count p (x ∷ xs) = left_one p x xs (is_live x.place) refl (left_count p xs)

left_alike : (kept k : Channel) → IsKept kept k → SameMessages (left_in_channel kept) (left_in_channel k)
left_alike kept k h p =
    left_count p kept.copies
    ∙ tests_alike (λ (y : Copy). is_live y.place && p (compared y.message)) (λ x e. (parts (is_live x.place) (p (compared x.message)) e).0) kept k h
    ∙ sym (left_count p k.copies)

pub counts_alike : (kept k : Channel) → IsKept kept k → CountsAlike kept k
counts_alike kept k h =
    let flies : (n : ℕ) → flying n kept.copies ≡ flying n k.copies = λ n. tests_alike (λ x. is_with n x.place) (λ x e. with_lives n x.place e) kept k h in
    let of : (id : List ℕ) → flying_of id kept.copies ≡ flying_of id k.copies = λ id. tests_alike (λ x. is_in_flight x.place && bytes_eq id x.message.id) (λ x e. flying_lives x.place (parts (is_in_flight x.place) (bytes_eq id x.message.id) e).0) kept k h in
    let pause : kept.paused ≡ k.paused = ap (λ (c : Channel). c.paused) h.rest in
    record {
      name = ap (λ (c : Channel). c.name) h.rest;
      paused = pause;
      message_count = ap (λ (c : Channel). c.message_count) h.rest;
      requeue_count = ap (λ (c : Channel). c.requeue_count) h.rest;
      timeout_count = ap (λ (c : Channel). c.timeout_count) h.rest;
      queued = tests_alike (λ x. is_queued x.place) (λ x e. queued_lives x.place e) kept k h;
      in_flight = tests_alike (λ x. is_in_flight x.place) (λ x e. flying_lives x.place e) kept k h;
      deferred = tests_alike (λ x. is_deferred x.place) (λ x e. deferred_lives x.place e) kept k h;
      flying = flies;
      of_id = of;
      with_client = λ n id. tests_alike (λ x. is_with n x.place && bytes_eq id x.message.id) (λ x e. with_lives n x.place (parts (is_with n x.place) (bytes_eq id x.message.id) e).0) kept k h;
      credit = λ ready n. ap (λ b. not b && nat_lt (flying n kept.copies) ready) pause ∙ ap (λ m. not k.paused && nat_lt m ready) (flies n);
      can_send = sends_alike kept k h of;
      left = left_alike kept k h;
    }

pub none_due : (at : ℕ) (kept k : Channel) → IsKept kept k → count_by (λ x. is_due at x.place) kept.copies ≡ 0 → list_any (λ x. is_due at x.place) k.copies ≡ false
none_due at kept k h none =
    any_counted (λ x. is_due at x.place) k.copies ∙ ap (nat_lt 0) (sym (tests_alike (λ x. is_due at x.place) (λ x e. due_lives at x.place e) kept k h) ∙ none)

pub none_sent : (kept k : Channel) → IsKept kept k → queued kept.copies ≡ 0 → can_send k.copies ≡ false
none_sent kept k h none =
    let all : queued k.copies ≡ 0 = sym (tests_alike (λ x. is_queued x.place) (λ x e. queued_lives x.place e) kept k h) ∙ none in
    let few : count_by (sendable k.copies) k.copies ≤ queued k.copies = count_fewer (sendable k.copies) (λ x. is_queued x.place) (λ x e. (parts (is_queued x.place) (is_free x.message.id k.copies) e).0) k.copies in
    any_counted (sendable k.copies) k.copies ∙ ap (nat_lt 0) (let no : count_by (sendable k.copies) k.copies ≡ 0 = omega (arith, few, all) in no)
