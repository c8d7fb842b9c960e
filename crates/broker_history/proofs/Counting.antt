-- Lists by how often each item stands in them: where one stands, and how live copies are counted.
use Rattle.std.proofs.Common.{◌≡◌, ℕ, ◌+◌, ◌<◌, Bool, true, false, nat_eq, ◌&&◌, not, List, [], ◌∷◌, ◌++◌, refl, sym, ap, ◌∙◌, arith}
use Rattle.std.specs.List.{count_by}
use Rattle.std.specs.Str.{bytes_eq}
use Rattle.std.proofs.lemmas.Bool.{eq-eqb, eqb-true, false≢true}
use Rattle.std.proofs.lemmas.List.Sums.{sum_by-append}
use Rattle.std.proofs.lemmas.Grind.{common_steps}
use Rattle.v2_frame.specs.declared.message.Message.{Message}
use Rattle.broker_history.specs.State.{Place, Queued, InFlight, Deferred, Copy, Waiting, is_live, is_queued, is_in_flight, is_with}
use Rattle.broker_history.specs.Channels.{one, Moves, MovesLive, JoinsLive, HasLive, CountsLive}
use Rattle.broker_history.specs.Topics.{Fits, HasWaiting, TakenFrom}
use Rattle.path_image.specs.Found.{Pairwise}
use Rattle.broker_history.proofs.Lists.{exact_bytes, same_bytes}

pub count-cons : {X : Type 0} (p : X → Bool) (x : X) (xs : List X) → count_by p (x ∷ xs) ≡ one (p x) + count_by p xs
count-cons p x xs = grind (arith, common_steps)

pub count-append : {X : Type 0} (p : X → Bool) (xs ys : List X) → count_by p (xs ++ ys) ≡ count_by p xs + count_by p ys
count-append p xs ys = sum_by-append _ xs ys

-- tests of places, messages, copies and waiting messages for equality
abbrev same_place : Place → Place → Bool
same_place Queued Queued = true
same_place (InFlight client due sent) (InFlight client' due' sent') = nat_eq client client' && (nat_eq due due' && nat_eq sent sent')
same_place (Deferred due) (Deferred due') = nat_eq due due'
same_place _ _ = false

abbrev same_message : Message → Message → Bool
same_message m n = nat_eq m.stamp n.stamp && (nat_eq m.attempts n.attempts && (bytes_eq m.id n.id && (bytes_eq m.body n.body && nat_eq m.delay n.delay)))

abbrev same_copy : Copy → Copy → Bool
same_copy c d = same_message c.message d.message && same_place c.place d.place

abbrev same_flag : Bool → Bool → Bool
same_flag true b = b
same_flag false b = not b

abbrev same_waiting : Waiting → Waiting → Bool
same_waiting v w = same_message v.message w.message && same_flag v.loose w.loose

parts : (a b : Bool) → (a && b) ≡ true → (a ≡ true) × (b ≡ true)
parts true b h = (refl, h)
parts false b h = absurd (false≢true h)

both : (a b : Bool) → a ≡ true → b ≡ true → (a && b) ≡ true
both true b h k = k
both false b h k = absurd (false≢true h)

exact_flag : (a b : Bool) → same_flag a b ≡ true → a ≡ b
exact_flag true b h = sym h
exact_flag false true h = absurd (false≢true h)
exact_flag false false h = refl

flag_itself : (a : Bool) → same_flag a a ≡ true
flag_itself true = refl
flag_itself false = refl

exact_place : (a b : Place) → same_place a b ≡ true → a ≡ b
exact_place Queued Queued h = refl
exact_place (InFlight client due sent) (InFlight client' due' sent') h =
    let p = parts _ _ h in let q = parts _ _ p.1 in
    let a = eqb-true client client' p.0 in let b = eqb-true due due' q.0 in let d = eqb-true sent sent' q.1 in cc
exact_place (Deferred due) (Deferred due') h = ap Deferred (eqb-true due due' h)
exact_place a b h = absurd (false≢true h)

place_itself : (a : Place) → is_live a ≡ true → same_place a a ≡ true
place_itself Queued h = refl
place_itself (InFlight client due sent) h = both _ _ (eq-eqb client client refl) (both _ _ (eq-eqb due due refl) (eq-eqb sent sent refl))
place_itself (Deferred due) h = eq-eqb due due refl
place_itself a h = absurd (false≢true h)

exact_message : (m n : Message) → same_message m n ≡ true → m ≡ n
exact_message m n h =
    let p = parts _ _ h in let q = parts _ _ p.1 in let r = parts _ _ q.1 in let t = parts _ _ r.1 in
    let a = eqb-true m.stamp n.stamp p.0 in
    let b = eqb-true m.attempts n.attempts q.0 in
    let c = exact_bytes m.id n.id r.0 in
    let d = exact_bytes m.body n.body t.0 in
    let e = eqb-true m.delay n.delay t.1 in
    let Of : ℕ → ℕ → List ℕ → List ℕ → ℕ → Message = λ s a i b d. record { stamp = s; attempts = a; id = i; body = b; delay = d } in
    ap (λ x. Of x m.attempts m.id m.body m.delay) a ∙ (ap (λ x. Of n.stamp x m.id m.body m.delay) b ∙ (ap (λ x. Of n.stamp n.attempts x m.body m.delay) c ∙ (ap (λ x. Of n.stamp n.attempts n.id x m.delay) d ∙ ap (λ x. Of n.stamp n.attempts n.id n.body x) e)))

message_itself : (m : Message) → same_message m m ≡ true
message_itself m = both _ _ (eq-eqb m.stamp m.stamp refl) (both _ _ (eq-eqb m.attempts m.attempts refl) (both _ _ (same_bytes m.id) (both _ _ (same_bytes m.body) (eq-eqb m.delay m.delay refl))))

exact_copy : (c d : Copy) → same_copy c d ≡ true → c ≡ d
exact_copy c d h =
    let p = parts _ _ h in
    ap (λ m. record { message = m; place = c.place }) (exact_message c.message d.message p.0) ∙ ap (λ q. record { message = d.message; place = q }) (exact_place c.place d.place p.1)

exact_waiting : (v w : Waiting) → same_waiting v w ≡ true → v ≡ w
exact_waiting v w h =
    let p = parts _ _ h in
    ap (λ m. record { message = m; loose = v.loose }) (exact_message v.message w.message p.0) ∙ ap (λ b. record { message = w.message; loose = b }) (exact_flag v.loose w.loose p.1)

-- an item stands in a list
record Standing {X : Type 0} (x : X) (xs : List X) : Type 0 where
  before : List X
  after : List X
  is : xs ≡ before ++ x ∷ after

-- one that is counted by a test for it stands there
standing : {X : Type 0} (p : X → Bool) (x : X) → ((y : X) → p y ≡ true → x ≡ y) → (xs : List X) → 0 < count_by p xs → Standing x xs
standing p x exact [] h = absurd (let no : ⊥ = omega arith in no)
standing p x exact (y ∷ ys) h =
    elim (p y) as (λ b. p y ≡ b → Standing x (y ∷ ys)) [
      | true ↦ λ e. record { before = []; after = ys; is = ap (λ z. z ∷ ys) (sym (exact y e)) }
      | false ↦ λ e.
          let s = standing p x exact ys (omega (arith, h, count-cons p y ys, ap one e)) in
          record { before = y ∷ s.before; after = s.after; is = ap (λ zs. y ∷ zs) s.is }
    ] refl

split : {X : Type 0} (p : X → Bool) (b a : List X) (c : X) → count_by p (b ++ c ∷ a) ≡ count_by p b + (one (p c) + count_by p a)
split p b a c = count-append p b (c ∷ a) ∙ ap (λ n. count_by p b + n) (count-cons p c a)

pub live_moves : (Row : Copy → Copy → Type 0) (kept kept' copies : List Copy) → ((x y : Copy) → Row x y → is_live x.place ≡ true) → HasLive kept copies → MovesLive Row kept kept'
    → (copies' : List Copy) × Moves Row copies copies' × HasLive kept' copies'
live_moves Row kept kept' copies lives s h =
    let live : is_live h.from.place ≡ true = lives h.from h.to h.row in
    let itself : same_copy h.from h.from ≡ true = both _ _ (message_itself h.from.message) (place_itself h.from.place live) in
    let at = standing (λ x. is_live x.place && same_copy h.from x) h.from (λ y e. exact_copy h.from y (parts (is_live y.place) (same_copy h.from y) e).1) copies (omega (arith, h.there (same_copy h.from), ap one itself, s.often (same_copy h.from))) in (
      at.before ++ h.to ∷ at.after,
      record { before = at.before; from = h.from; to = h.to; after = at.after; row = h.row; was = at.is; is = refl },
      record {
        often = λ p.
            let q : Copy → Bool = λ c. is_live c.place && p c in
            omega (arith, h.each p, s.often p, ap (count_by q) at.is, split q at.before at.after h.from, split q at.before at.after h.to, ap (λ b. one (b && p h.from)) live);
      },
    )

pub live_joins : (x : Copy) (kept kept' copies : List Copy) → HasLive kept copies → JoinsLive x kept kept' → HasLive kept' (copies ++ x ∷ [])
live_joins x kept kept' copies s j = record {
  often = λ p.
      let q : Copy → Bool = λ c. is_live c.place && p c in
      omega (arith, j.each p, s.often p, count-append q copies (x ∷ []), count-cons q x []);
}

-- what is counted of live copies alone
count_same : (p q : Copy → Bool) → ((x : Copy) → p x ≡ q x) → (xs : List Copy) → count_by p xs ≡ count_by q xs
count_same p q e [] = refl
count_same p q e (x ∷ xs) = omega (arith, count-cons p x xs, count-cons q x xs, ap one (e x), count_same p q e xs)

queued_live : (a : Place) → (is_live a && is_queued a) ≡ is_queued a
queued_live Queued = refl
queued_live (InFlight client due sent) = refl
queued_live (Deferred due) = refl
queued_live a = refl

with_live : (n : ℕ) (a : Place) → (is_live a && is_with n a) ≡ is_with n a
with_live n Queued = refl
with_live n (InFlight client due sent) = refl
with_live n (Deferred due) = refl
with_live n a = refl

of_live : (b : Bool) (a : Place) → (is_live a && (is_in_flight a && b)) ≡ (is_in_flight a && b)
of_live b Queued = refl
of_live b (InFlight client due sent) = refl
of_live b (Deferred due) = refl
of_live b a = refl

pub live_counts : (kept copies : List Copy) → HasLive kept copies → CountsLive kept copies
live_counts kept copies s = record {
  queues = s.often (λ x. is_queued x.place) ∙ count_same _ _ (λ x. queued_live x.place) copies;
  flies = λ n. s.often (λ x. is_with n x.place) ∙ count_same _ _ (λ x. with_live n x.place) copies;
  of = λ id. s.often (λ x. is_in_flight x.place && bytes_eq id x.message.id) ∙ count_same _ _ (λ x. of_live (bytes_eq id x.message.id) x.place) copies;
}

-- pairs, cut where an item of the second list stands
record CutPairs (ws : List Waiting) (front back : List Message) (m : Message) : Type 0 where
  before : List Waiting
  waits : Waiting
  after : List Waiting
  is : ws ≡ before ++ waits ∷ after
  fits : Fits waits m
  left : Pairwise Fits (before ++ after) (front ++ back)

cut_pairs : (ws : List Waiting) (front back : List Message) (m : Message) → Pairwise Fits ws (front ++ m ∷ back) → CutPairs ws front back m
cut_pairs [] [] back m p = absurd p
cut_pairs [] (f ∷ front) back m p = absurd p
cut_pairs (w ∷ ws) [] back m p = record { before = []; waits = w; after = ws; is = refl; fits = p.0; left = p.1 }
cut_pairs (w ∷ ws) (f ∷ front) back m p =
    let q = cut_pairs ws front back m p.1 in
    record { before = w ∷ q.before; waits = q.waits; after = q.after; is = ap (λ xs. w ∷ xs) q.is; fits = q.fits; left = (p.0, q.left) }

pub kept_taken : (m : Message) (front back : List Message) (waiting : List Waiting) → HasWaiting (front ++ m ∷ back) waiting → TakenFrom (front ++ back) m waiting
kept_taken m front back waiting h =
    let c = cut_pairs h.in_order front back m h.fit in
    let p : Waiting → Bool = same_waiting c.waits in
    let itself : p c.waits ≡ true = both _ _ (message_itself c.waits.message) (flag_itself c.waits.loose) in
    let at = standing p c.waits (λ y e. exact_waiting c.waits y e) waiting (omega (arith, h.often p, ap (count_by p) c.is, split p c.before c.after c.waits, ap one itself)) in
    record {
      before = at.before;
      waits = c.waits;
      after = at.after;
      was = at.is;
      fits = c.fits;
      left = record {
        in_order = c.before ++ c.after;
        often = λ q. omega (arith, h.often q, ap (count_by q) at.is, ap (count_by q) c.is, split q at.before at.after c.waits, split q c.before c.after c.waits, count-append q at.before at.after, count-append q c.before c.after);
        fit = c.left;
      };
    }
