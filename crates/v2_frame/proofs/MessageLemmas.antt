-- Lemmas on the bytes of a message.
use Rattle.std.proofs.Common.{◌≡◌, ℕ, ◌+◌, ◌<◌, ◌≤◌, List, ◌++◌, length, take, drop, get_or, refl, sym, ap, subst, ◌∙◌, arith, append_assoc, length-append, length-take, take-append-drop, ⊎_elim}
use Rattle.std.specs.Int.{to_be_bytes, from_be_bytes, w16, w64}
use Rattle.std.proofs.lemmas.Bool.{cases_lt}
use Rattle.std.proofs.lemmas.List.{take_at, drop_at, drop-drop, get_or-take, get_or-drop, get_or_past}
use Rattle.std.proofs.lemmas.Nat.{be_bytes_2, be_bytes_8, from_be_bytes-to_be_bytes_2, from_be_bytes-to_be_bytes_8}
use borrow.Rule.Slice.PartMut.{put_mid}
use Rattle.v2_frame.specs.declared.message.Message.{Message}
use Rattle.v2_frame.specs.Written.{message_bytes}
use Rattle.v2_frame.specs.Messages.{MessageBytesAreOne}
use Rattle.v2_frame.proofs.LineLemmas.{append_split}

-- one more part written behind a front
put_next : (now front part old : List ℕ) (at size : ℕ) → now ≡ front ++ drop at old → length front ≡ at → put_mid at size now part ≡ (front ++ part) ++ drop (at + size) old
put_next now front part old at size e long =
    let before : take at now ≡ front = ap (take at) e ∙ take_at front (drop at old) at long in
    let behind : drop size (drop at now) ≡ drop (at + size) old = ap (λ (x : List ℕ). drop size (drop at x)) e ∙ ap (drop size) (drop_at front (drop at old) at long) ∙ drop-drop size at old in
    ap (λ (x : List ℕ). x ++ (part ++ drop size (drop at now))) before ∙ ap (λ (x : List ℕ). front ++ (part ++ x)) behind ∙ sym (append_assoc front part (drop (at + size) old))

-- the four parts written one behind another
pub put_whole : (old stamp attempts id body : List ℕ) (size : ℕ) (message : Message) → stamp ≡ to_be_bytes w64 message.stamp → attempts ≡ to_be_bytes w16 message.attempts → id ≡ message.id → length id ≡ 16 → body ≡ message.body
    → size ≡ length message.body
    → put_mid 26 size (put_mid 10 16 (put_mid 8 2 (stamp ++ drop 8 old) attempts) id) body ≡ message_bytes message ++ drop (26 + length message.body) old
put_whole old stamp attempts id body size message s a i long b n =
    let two = put_next (stamp ++ drop 8 old) stamp attempts old 8 2 refl (ap length s) in
    let head : length (stamp ++ attempts) ≡ 10 = omega (arith, length-append stamp attempts, ap length s, ap length a) in
    let three = put_next (put_mid 8 2 (stamp ++ drop 8 old) attempts) (stamp ++ attempts) id old 10 16 two head in
    let front : length ((stamp ++ attempts) ++ id) ≡ 26 = omega (arith, length-append (stamp ++ attempts) id, head, long) in
    let four = put_next (put_mid 10 16 (put_mid 8 2 (stamp ++ drop 8 old) attempts) id) ((stamp ++ attempts) ++ id) body old 26 size three front in
    let whole : ((stamp ++ attempts) ++ id) ++ body ≡ message_bytes message = ap (λ (x : List ℕ). ((x ++ attempts) ++ id) ++ body) s
    ∙ ap (λ (x : List ℕ). ((to_be_bytes w64 message.stamp ++ x) ++ id) ++ body) a
    ∙ ap (λ (x : List ℕ). ((to_be_bytes w64 message.stamp ++ to_be_bytes w16 message.attempts) ++ x) ++ body) i
    ∙ ap (λ (x : List ℕ). ((to_be_bytes w64 message.stamp ++ to_be_bytes w16 message.attempts) ++ message.id) ++ x) b in
    four ∙ ap (λ (x : List ℕ). x ++ drop (26 + size) old) whole ∙ ap (λ (m : ℕ). message_bytes message ++ drop (26 + m) old) n

-- each of the list is a byte
abbrev pub AreBytes : List ℕ → Type 0
AreBytes bytes = (i : ℕ) → get_or bytes i 0 < 256

bytes_take : (n : ℕ) (bytes : List ℕ) → AreBytes bytes → AreBytes (take n bytes)
bytes_take n bytes small i =
    ⊎_elim (λ (lt : i < n). subst (λ (m : ℕ). m < 256) (sym (get_or-take n bytes i 0 lt)) (small i))
    (λ (ge : n ≤ i). omega (arith, get_or_past (take n bytes) i 0 (simp length-take (omega arith)))) (cases_lt i n)

bytes_drop : (n : ℕ) (bytes : List ℕ) → AreBytes bytes → AreBytes (drop n bytes)
bytes_drop n bytes small i = subst (λ (m : ℕ). m < 256) (sym (get_or-drop n bytes i 0)) (small (n + i))

-- a list is its front and its rest
split_here : (n : ℕ) (bytes front rest : List ℕ) → front ≡ take n bytes → rest ≡ drop n bytes → bytes ≡ front ++ rest
split_here n bytes front rest f r = sym (take-append-drop n bytes) ∙ ap (λ (x : List ℕ). x ++ drop n bytes) (sym f) ∙ ap (λ (x : List ℕ). front ++ x) (sym r)

-- the bytes are those of the message that was read from them
pub take_whole : (bytes stamp rest attempts tail id body : List ℕ) (message : Message) → AreBytes bytes
    → stamp ≡ take 8 bytes → rest ≡ drop 8 bytes → length rest + 8 ≡ length bytes
    → attempts ≡ take 2 rest → tail ≡ drop 2 rest → length tail + 2 ≡ length rest
    → id ≡ take 16 tail → body ≡ drop 16 tail
    → message.stamp ≡ from_be_bytes w64 stamp → message.attempts ≡ from_be_bytes w16 attempts → message.id ≡ id → message.body ≡ body
    → bytes ≡ message_bytes message
take_whole bytes stamp rest attempts tail id body message small s r n a t m i b stamped tried named kept =
    let eight : length stamp ≡ 8 = ap length s ∙ simp length-take (omega arith) in
    let two : length attempts ≡ 2 = ap length a ∙ simp length-take (omega arith) in
    let first : to_be_bytes w64 message.stamp ≡ stamp = be_bytes_8 stamp message.stamp eight (subst AreBytes (sym s) (bytes_take 8 bytes small)) stamped in
    let rests : AreBytes rest = subst AreBytes (sym r) (bytes_drop 8 bytes small) in
    let second : to_be_bytes w16 message.attempts ≡ attempts = be_bytes_2 attempts message.attempts two (subst AreBytes (sym a) (bytes_take 2 rest rests)) tried in
    let parts : bytes ≡ ((stamp ++ attempts) ++ id) ++ body = split_here 8 bytes stamp rest s r
    ∙ ap (λ (x : List ℕ). stamp ++ x) (split_here 2 rest attempts tail a t ∙ ap (λ (x : List ℕ). attempts ++ x) (split_here 16 tail id body i b))
    ∙ sym (append_assoc stamp attempts (id ++ body)) ∙ sym (append_assoc (stamp ++ attempts) id body) in
    parts ∙ ap (λ (x : List ℕ). ((x ++ attempts) ++ id) ++ body) (sym first)
    ∙ ap (λ (x : List ℕ). ((to_be_bytes w64 message.stamp ++ x) ++ id) ++ body) (sym second)
    ∙ ap (λ (x : List ℕ). ((to_be_bytes w64 message.stamp ++ to_be_bytes w16 message.attempts) ++ x) ++ body) (sym named)
    ∙ ap (λ (x : List ℕ). ((to_be_bytes w64 message.stamp ++ to_be_bytes w16 message.attempts) ++ message.id) ++ x) (sym kept)

-- messages of equal bytes are equal but for their delays
pub message_same : MessageBytesAreOne
message_same a b f g e =
    let bodies = append_split ((to_be_bytes w64 a.stamp ++ to_be_bytes w16 a.attempts) ++ a.id) ((to_be_bytes w64 b.stamp ++ to_be_bytes w16 b.attempts) ++ b.id) a.body b.body
    (omega (arith, length-append (to_be_bytes w64 a.stamp ++ to_be_bytes w16 a.attempts) a.id, length-append (to_be_bytes w64 b.stamp ++ to_be_bytes w16 b.attempts) b.id, f.id, g.id)) e in
    let ids = append_split (to_be_bytes w64 a.stamp ++ to_be_bytes w16 a.attempts) (to_be_bytes w64 b.stamp ++ to_be_bytes w16 b.attempts) a.id b.id refl bodies.0 in
    let heads = append_split (to_be_bytes w64 a.stamp) (to_be_bytes w64 b.stamp) (to_be_bytes w16 a.attempts) (to_be_bytes w16 b.attempts) refl ids.0 in
    record {
      stamp = sym (from_be_bytes-to_be_bytes_8 a.stamp f.stamp) ∙ ap (from_be_bytes w64) heads.0 ∙ from_be_bytes-to_be_bytes_8 b.stamp g.stamp;
      attempts = sym (from_be_bytes-to_be_bytes_2 a.attempts f.attempts) ∙ ap (from_be_bytes w16) heads.1 ∙ from_be_bytes-to_be_bytes_2 b.attempts g.attempts;
      id = ids.1;
      body = bodies.1;
    }
