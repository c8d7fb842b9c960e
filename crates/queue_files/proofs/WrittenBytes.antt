-- What stands in a file after a cut and after writes.
use Rattle.std.proofs.Common.{◌≡◌, ℕ, ◌+◌, ◌-◌, ◌≤◌, min, List, ◌++◌, length, take, drop, replicate, refl, sym, ◌∙◌, ap, arith, append_assoc, length-append, length-take}
use Rattle.std.proofs.lemmas.List.{take_at, drop_at, drop-drop, take-take, append-nil, length-replicate}
use Rattle.nsq_outside.specs.Files.{cut_to, written_at, IsTorn}
use Rattle.queue_image.specs.Records.{HasRecord, record_bytes, IsSize}

pub length-cut_to : (bytes : List ℕ) (to : ℕ) → length (cut_to bytes to) ≡ to
length-cut_to bytes to =
    omega (arith, length-take to (bytes ++ replicate (to - length bytes) 0), length-append bytes (replicate (to - length bytes) 0), length-replicate {A = ℕ} (to - length bytes) 0)

-- a cut inside a file keeps what stands before it
pub cut-inside : (bytes : List ℕ) (to : ℕ) → to ≤ length bytes → cut_to bytes to ≡ take to bytes
cut-inside bytes to inside =
    let none : to - length bytes ≡ 0 = omega arith in
    ap (λ (n : ℕ). take to (bytes ++ replicate n 0)) none ∙ ap (take to) (append-nil bytes)

pub take-cut : (bytes : List ℕ) (to : ℕ) → to ≤ length bytes → take to (cut_to bytes to) ≡ take to bytes
take-cut bytes to inside = ap (take to) (cut-inside bytes to inside) ∙ take-take to to bytes (omega arith)

-- and so does a write there
pub take-written : (bytes : List ℕ) (at : ℕ) (from : List ℕ) → at ≤ length bytes → take at (written_at bytes at from) ≡ take at bytes
take-written bytes at from inside =
    let front = cut_to bytes at in
    ap (take at) (append_assoc front from (drop (at + length from) bytes)) ∙ take_at front (from ++ drop (at + length from) bytes) at (length-cut_to bytes at)
    ∙ cut-inside bytes at inside

pub length-written : (bytes : List ℕ) (at : ℕ) (from : List ℕ) → at + length from ≤ length (written_at bytes at from)
length-written bytes at from =
    omega (arith, length-append (cut_to bytes at ++ from) (drop (at + length from) bytes), length-append (cut_to bytes at) from, length-cut_to bytes at)

-- a record that is written stands at its place
pub has-written : (least limit : ℕ) (bytes : List ℕ) (at : ℕ) (body : List ℕ) → IsSize least limit (length body) → HasRecord least limit (written_at bytes at (record_bytes body)) at body
has-written least limit bytes at body size = record {
  front = cut_to bytes at;
  back = drop (at + length (record_bytes body)) bytes;
  whole = refl;
  here = sym (length-cut_to bytes at);
  size = size;
}

-- two writes, one behind the other, are one
pub written-both : (bytes : List ℕ) (at : ℕ) (size from : List ℕ) → written_at (written_at bytes at size) (at + length size) from ≡ written_at bytes at (size ++ from)
written-both bytes at size from =
    let front = cut_to bytes at ++ size in
    let rest = drop (at + length size) bytes in
    let place = at + length size in
    let upto : length front ≡ place = omega (arith, length-append (cut_to bytes at) size, length-cut_to bytes at) in
    let inside : place ≤ length (front ++ rest) = omega (arith, upto, length-append front rest) in
    let head : cut_to (front ++ rest) place ≡ front = cut-inside (front ++ rest) place inside ∙ take_at front rest place upto in
    let tail : drop (place + length from) (front ++ rest) ≡ drop (at + length (size ++ from)) bytes
    = ap (λ (n : ℕ). drop n (front ++ rest)) (omega arith) ∙ sym (drop-drop (length from) place (front ++ rest)) ∙ ap (drop (length from)) (drop_at front rest place upto)
    ∙ drop-drop (length from) place bytes ∙ ap (λ (n : ℕ). drop n bytes) (omega (arith, length-append size from)) in
    ap (λ (x : List ℕ). x ++ from ++ drop (place + length from) (front ++ rest)) head ∙ ap (λ (x : List ℕ). front ++ from ++ x) tail
    ∙ ap (λ (x : List ℕ). x ++ drop (at + length (size ++ from)) bytes) (append_assoc (cut_to bytes at) size from)

-- a write that failed keeps what stood before its place
pub torn-keeps : (old new : List ℕ) (at n : ℕ) → IsTorn old new at n → at ≤ length old → take at new ≡ take at old
torn-keeps old new at n torn inside =
    let least : min at (length old) ≡ at = omega arith in
    ap (λ (k : ℕ). take k new) (sym least) ∙ torn.before

-- what is the same before a place is so before an earlier one
pub take-less : (old new : List ℕ) (at to : ℕ) → at ≤ to → take to new ≡ take to old → take at new ≡ take at old
take-less old new at to less same = sym (take-take at to new less) ∙ ap (take at) same ∙ take-take at to old less

-- a list that begins as one that is long enough is long enough
pub as-long : (old new : List ℕ) (at : ℕ) → at ≤ length old → take at new ≡ take at old → at ≤ length new
as-long old new at inside same = omega (arith, ap length same, length-take at new, length-take at old)
