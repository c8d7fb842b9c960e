-- Lemmas on sizes and on texts behind their sizes.
use Rattle.std.proofs.Common.{◌≡◌, ℕ, ◌+◌, ◌^◌, ◌<◌, ◌≤◌, List, [], ◌∷◌, ◌++◌, length, refl, sym, ap, ◌∙◌, subst, arith, append_assoc, length-append, ⊎_elim}
use Rattle.std.specs.Int.{from_be_bytes, w32}
use Rattle.std.specs.List.{flat_map, AllByRecursion}
use Rattle.std.proofs.lemmas.List.{append-nil, nil_from_length}
use Rattle.std.proofs.lemmas.Bool.{cases_lt}
use Rattle.std.proofs.lemmas.Nat.{from_be_bytes-to_be_bytes_4}
use Rattle.v2_frame.specs.declared.fault.FaultKind.{FaultKind}
use Rattle.v2_frame.specs.Command.{size4, sized, content_of, IsBody}
use Rattle.v2_frame.specs.Judging.{HasSize, HasBodies, IsBadMessage, no_size, bad_size, cut_body, IsBadContent, no_count, count_zero, bad_message, left_over, place_behind}
use Rattle.v2_frame.proofs.LineLemmas.{append_split}

pub length-size4 : (n : ℕ) → length (size4 n) ≡ 4
length-size4 n = refl

pub size4_split : (m n : ℕ) (x y : List ℕ) → m < 2 ^ 32 → n < 2 ^ 32 → size4 m ++ x ≡ size4 n ++ y → (m ≡ n) × (x ≡ y)
size4_split m n x y fits other e =
    let parts : (size4 m ≡ size4 n) × (x ≡ y) = append_split (size4 m) (size4 n) x y refl e in
    (sym (from_be_bytes-to_be_bytes_4 m fits) ∙ ap (from_be_bytes w32) parts.0 ∙ from_be_bytes-to_be_bytes_4 n other, parts.1)

-- bytes begin with one size
pub size_unique : {bytes x y : List ℕ} {m n : ℕ} → HasSize bytes m x → HasSize bytes n y → (m ≡ n) × (x ≡ y)
size_unique {x = x} {y = y} {m = m} {n = n} h k = size4_split m n x y h.fits k.fits (sym h.whole ∙ k.whole)

-- a size takes four bytes
pub size_long : {bytes rest : List ℕ} {n : ℕ} → HasSize bytes n rest → length bytes ≡ 4 + length rest
size_long {rest = rest} {n = n} h = ap length h.whole ∙ length-append (size4 n) rest

pub size_more : {bytes rest : List ℕ} {n : ℕ} (more : List ℕ) → HasSize bytes n rest → HasSize (bytes ++ more) n (rest ++ more)
size_more {rest = rest} {n = n} more h = record { whole = ap (λ x. x ++ more) h.whole; fits = h.fits }

-- a text behind its size has that size
pub sized_size : (text rest : List ℕ) → length text < 2 ^ 32 → HasSize (sized text ++ rest) (length text) (text ++ rest)
sized_size text rest fits = record { whole = refl; fits = fits }

pub sized_split : (a b x y : List ℕ) → length a < 2 ^ 32 → length b < 2 ^ 32 → sized a ++ x ≡ sized b ++ y → (a ≡ b) × (x ≡ y)
sized_split a b x y fits other e =
    let parts : (length a ≡ length b) × (a ++ x ≡ b ++ y) = size4_split (length a) (length b) (a ++ x) (b ++ y) fits other e in
    append_split a b x y parts.0 parts.1

-- where a good message stands, its size stands
good_size : (most : ℕ) (body rest bytes : List ℕ) → IsBody most body → bytes ≡ sized body ++ rest → HasSize bytes (length body) (body ++ rest)
good_size most body rest bytes good e = record { whole = e; fits = good.fits }

-- what is wrong with a message isn't wrong where a good message stands
pub good_message : (most : ℕ) (body rest bytes : List ℕ) (kind : FaultKind) → IsBody most body → bytes ≡ sized body ++ rest → IsBadMessage most bytes kind → ⊥
good_message most body rest bytes kind good e (no_size few) = let l : length bytes ≡ 4 + length (body ++ rest) = size_long (good_size most body rest bytes good e) in omega arith
good_message most body rest bytes kind good e (bad_size {size = size} {rest = after} h bad) =
    let same : (size ≡ length body) × (after ≡ body ++ rest) = size_unique h (good_size most body rest bytes good e) in
    omega (arith, good)
good_message most body rest bytes kind good e (cut_body {size = size} {rest = after} h fine cut) =
    let same : (size ≡ length body) × (after ≡ body ++ rest) = size_unique h (good_size most body rest bytes good e) in
    omega (arith, ap length same.1, length-append body rest)

-- a message is bad in one way
pub message_unique : {most : ℕ} {bytes : List ℕ} {a b : FaultKind} → IsBadMessage most bytes a → IsBadMessage most bytes b → a ≡ b
message_unique (no_size s) (no_size t) = refl
message_unique (no_size s) (bad_size h bad) = absurd (omega (arith, size_long h))
message_unique (no_size s) (cut_body h fine cut) = refl
message_unique (bad_size h bad) (no_size t) = absurd (omega (arith, size_long h))
message_unique (bad_size h bad) (bad_size k worse) = refl
message_unique (bad_size h bad) (cut_body k fine cut) = absurd (omega (arith, (size_unique h k).0))
message_unique (cut_body h fine cut) (no_size t) = refl
message_unique (cut_body h fine cut) (bad_size k bad) = absurd (omega (arith, (size_unique h k).0))
message_unique (cut_body h fine cut) (cut_body k good later) = refl

-- of two rows of good bodies at one front the shorter begins the longer
pub bodies_split : (most : ℕ) (bs cs : List (List ℕ)) (l m : List ℕ) → AllByRecursion (IsBody most) bs → AllByRecursion (IsBody most) cs
    → flat_map sized bs ++ l ≡ flat_map sized cs ++ m → length cs ≤ length bs
    → (tail : List (List ℕ)) × (bs ≡ cs ++ tail) × (m ≡ flat_map sized tail ++ l) × AllByRecursion (IsBody most) tail
bodies_split most bs [] l m good other e le = (bs, refl, sym e, good)
bodies_split most [] (c ∷ cs) l m good other e le = absurd (omega arith)
bodies_split most (b ∷ bs) (c ∷ cs) l m good other e le =
    let parts : (b ≡ c) × (flat_map sized bs ++ l ≡ flat_map sized cs ++ m) =
    sized_split b c (flat_map sized bs ++ l) (flat_map sized cs ++ m) good.0.fits other.0.fits
    (sym (append_assoc (sized b) (flat_map sized bs) l) ∙ e ∙ append_assoc (sized c) (flat_map sized cs) m) in
    let found = bodies_split most bs cs l m good.1 other.1 parts.1 (omega arith) in
    let front : b ∷ bs ≡ c ∷ (cs ++ found.0) = cc (parts.0, found.1) in
    (found.0, front, found.2, found.3)

-- no row of good bodies goes on behind what is wrong
pub not_longer : {most : ℕ} {bytes l m : List ℕ} {bs cs : List (List ℕ)} {kind : FaultKind} → HasBodies most bytes bs l → IsBadMessage most l kind → HasBodies most bytes cs m → length cs ≤ length bs
not_longer {most = most} {l = l} {m = m} {bs = bs} {cs = cs} {kind = kind} h bad k =
    ⊎_elim (λ (lt : length bs < length cs).
    let found = bodies_split most cs bs m l k.each h.each (sym k.whole ∙ h.whole) (omega arith) in
    absurd (behind found.0 (ap length found.1 ∙ length-append bs found.0) found.2 found.3 lt))
    (λ (le : length cs ≤ length bs). le) (cases_lt (length bs) (length cs))
  where
    behind : (tail : List (List ℕ)) → length cs ≡ length bs + length tail → l ≡ flat_map sized tail ++ m → AllByRecursion (IsBody most) tail → length bs < length cs → ⊥
    behind [] e f g lt = omega arith
    behind (b ∷ tail) e f g lt = good_message most b (flat_map sized tail ++ m) l kind g.0 (f ∙ append_assoc (sized b) (flat_map sized tail) m) bad

-- two rows of as many good bodies at one front are one
pub bodies_same : {most : ℕ} {bytes l m : List ℕ} {bs cs : List (List ℕ)} → HasBodies most bytes bs l → HasBodies most bytes cs m → length bs ≡ length cs → (bs ≡ cs) × (l ≡ m)
bodies_same {most = most} {l = l} {m = m} {bs = bs} {cs = cs} h k e =
    let found = bodies_split most bs cs l m h.each k.each (sym h.whole ∙ k.whole) (omega arith) in
    let none : found.0 ≡ [] = nil_from_length found.0 (omega (arith, ap length found.1, length-append cs found.0)) in
    (found.1 ∙ ap (λ (t : List (List ℕ)). cs ++ t) none ∙ append-nil cs, sym (found.2 ∙ ap (λ (t : List (List ℕ)). flat_map sized t ++ l) none))

-- the same where the bytes are equal
bodies_at : {most : ℕ} {bytes other m : List ℕ} {cs : List (List ℕ)} → bytes ≡ other → HasBodies most bytes cs m → HasBodies most other cs m
bodies_at {most = most} {m = m} {cs = cs} e h = subst (λ (x : List ℕ). HasBodies most x cs m) e h

-- a content has one first fault
pub content_unique : {most : ℕ} {content : List ℕ} {a b : FaultKind} {i j : ℕ} → IsBadContent most content a i → IsBadContent most content b j → (a ≡ b) × (i ≡ j)
content_unique (no_count s) (no_count t) = (refl, refl)
content_unique (no_count s) (count_zero k) = (refl, refl)
content_unique (no_count s) (bad_message k cs less bad j) = absurd (omega (arith, size_long k))
content_unique (no_count s) (left_over k some cs all more j) = absurd (omega (arith, size_long k))
content_unique (count_zero h) (no_count t) = (refl, refl)
content_unique (count_zero h) (count_zero k) = (refl, refl)
content_unique (count_zero h) (bad_message k cs less bad j) = absurd (omega (arith, (size_unique h k).0))
content_unique (count_zero h) (left_over k some cs all more j) = absurd (omega (arith, (size_unique h k).0))
content_unique (bad_message h bs less bad i) (no_count t) = absurd (omega (arith, size_long h))
content_unique (bad_message h bs less bad i) (count_zero k) = absurd (omega (arith, (size_unique h k).0))
content_unique {most = most} (bad_message {bodies = bodies} {left = left} {kind = kind} h bs less bad i) (bad_message {bodies = others} {left = after} {kind = other} k cs fewer worse j) =
    let there = bodies_at (sym (size_unique h k).1) cs in
    let same : (bodies ≡ others) × (left ≡ after) = bodies_same bs there (omega (arith, not_longer bs bad there, not_longer there worse bs)) in
    let kinds : kind ≡ other = message_unique bad (subst (λ (x : List ℕ). IsBadMessage most x other) (sym same.1) worse) in
    (kinds, i ∙ ap place_behind same.0 ∙ sym j)
content_unique (bad_message h bs less bad i) (left_over k some cs all more j) = absurd (omega (arith, (size_unique h k).0, not_longer bs bad (bodies_at (sym (size_unique h k).1) cs)))
content_unique (left_over h some bs all more i) (no_count t) = absurd (omega (arith, size_long h))
content_unique (left_over h some bs all more i) (count_zero k) = absurd (omega (arith, (size_unique h k).0))
content_unique (left_over h some bs all more i) (bad_message k cs less bad j) = absurd (omega (arith, (size_unique h k).0, not_longer cs bad (bodies_at (size_unique h k).1 bs)))
content_unique (left_over h some bs all more i) (left_over k any cs whole after j) =
    let same = bodies_same bs (bodies_at (sym (size_unique h k).1) cs) (omega (arith, (size_unique h k).0)) in (refl, i ∙ ap place_behind same.0 ∙ sym j)

-- the bodies are at most as many as their bytes
pub count_le : (bodies : List (List ℕ)) → length bodies ≤ length (flat_map sized bodies)
count_le [] = omega arith
count_le (body ∷ bodies) = omega (arith, count_le bodies, length-append (sized body) (flat_map sized bodies), length-append (size4 (length body)) body)

-- a good content has no fault
pub good_content : (most : ℕ) (bodies : List (List ℕ)) {kind : FaultKind} {at : ℕ} → 0 < length bodies → AllByRecursion (IsBody most) bodies → length (content_of bodies) < 2 ^ 32
    → IsBadContent most (content_of bodies) kind at → ⊥
good_content most bodies some good fits bad =
    let count : length bodies < 2 ^ 32 = omega (arith, count_le bodies, length-append (size4 (length bodies)) (flat_map sized bodies)) in
    let size : HasSize (content_of bodies) (length bodies) (flat_map sized bodies) = record { whole = refl; fits = count } in
    let whole : HasBodies most (flat_map sized bodies) bodies [] = record { whole = sym (append-nil (flat_map sized bodies)); each = good } in
    refused size whole bad
  where
    refused : {kind : FaultKind} {at : ℕ} → HasSize (content_of bodies) (length bodies) (flat_map sized bodies) → HasBodies most (flat_map sized bodies) bodies [] → IsBadContent most (content_of bodies) kind at → ⊥
    refused size whole (no_count few) = omega (arith, size_long size)
    refused size whole (count_zero k) = omega (arith, (size_unique size k).0)
    refused size whole (bad_message k cs less wrong j) = omega (arith, (size_unique size k).0, not_longer cs wrong (bodies_at (size_unique size k).1 whole))
    refused size whole (left_over k any cs all more j) = omega (arith, ap length (bodies_same whole (bodies_at (sym (size_unique size k).1) cs) (omega (arith, (size_unique size k).0))).1)
