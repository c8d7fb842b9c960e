-- Lemmas on the messages of a body.
use Rattle.std.proofs.Common.{◌≡◌, ℕ, zero, suc, ◌+◌, ◌-◌, ◌<◌, ◌≤◌, List, [], ◌∷◌, ◌++◌, length, take, drop, Result, Ok, Err, refl, sym, ap, ◌∙◌, arith, append_assoc, append-nil, length-append, length-drop}
use Rattle.std.proofs.lemmas.List.{drop-drop}
use Rattle.http_calls.specs.declared.refusal.Refusal.{Refusal}
use Rattle.http_calls.specs.declared.refusal.Refusal.TheVariants.{BadBody}
use Rattle.http_calls.specs.Arguments.{unless}
use Rattle.http_calls.specs.Messages.{message_size_in, messages_in}

-- messages that were read before these
abbrev pub behind : List (List ℕ) → Result (List (List ℕ)) Refusal → Result (List (List ℕ)) Refusal
behind done (Ok more) = Ok (done ++ more)
behind done (Err refusal) = Err refusal

-- none was read before
pub at_front : (found : Result (List (List ℕ)) Refusal) → found ≡ behind [] found
at_front (Ok more) = refl
at_front (Err refusal) = refl

-- so all is found behind the front, while nothing was read
pub first_found : (most count : ℕ) (bytes : List ℕ) (none : List (List ℕ)) → none ≡ [] → messages_in most count bytes ≡ behind none (messages_in most (count - length none) (drop 0 bytes))
first_found most count bytes none is =
    let whole : count ≡ count - length none = omega (arith, ap length is) in
    at_front (messages_in most count bytes) ∙ ap (λ (x : List (List ℕ)). behind x (messages_in most count bytes)) (sym is) ∙ ap (λ (n : ℕ). behind none (messages_in most n (drop 0 bytes))) whole

-- nothing was read yet
pub from_start : (bytes : List ℕ) → 0 ≤ length bytes
from_start bytes = omega arith

-- none of none
pub none_yet : (count : ℕ) (none : List (List ℕ)) → none ≡ [] → length none ≤ count
none_yet count none is = omega (arith, ap length is)

-- fewer are left behind one more
pub fewer_left : (count done new : ℕ) → done < count → new ≡ done + 1 → count - new < count - done
fewer_left count done new some more = omega (arith, some, more)

refused : (most left : ℕ) (rest : List ℕ) (done : List (List ℕ)) (refusal : Refusal) → 0 < left → Err refusal ≡ message_size_in most rest → Err refusal ≡ behind done (messages_in most left rest)
refused most zero rest done refusal some e = absurd (omega arith)
refused most (suc k) rest done refusal some e =
    ap (λ (size : Result ℕ Refusal). behind done (unless size (λ n. unless (messages_in most k (drop (4 + n) rest)) (λ (more : List (List ℕ)). Ok (take n (drop 4 rest) ∷ more))))) e

-- a refused message ends it
pub refused_here : (most left at : ℕ) (bytes rest : List ℕ) (done : List (List ℕ)) (refusal : Refusal) → 0 < left → rest ≡ drop at bytes → Err refusal ≡ message_size_in most rest → Err refusal ≡ behind done (messages_in most left (drop at bytes))
refused_here most left at bytes rest done refusal some r e = refused most left rest done refusal some e ∙ ap (λ (x : List ℕ). behind done (messages_in most left x)) r

push : (done : List (List ℕ)) (x : List ℕ) (found : Result (List (List ℕ)) Refusal) → behind done (unless found (λ (more : List (List ℕ)). Ok (x ∷ more))) ≡ behind (done ++ x ∷ []) found
push done x (Ok more) = ap Ok (sym (append_assoc done (x ∷ []) more))
push done x (Err refusal) = refl

-- one more message
pub one_more : (most left later at size : ℕ) (bytes rest message : List ℕ) (done : List (List ℕ)) → left ≡ later + 1 → rest ≡ drop at bytes → Ok size ≡ message_size_in most rest → message ≡ take size (drop (at + 4) bytes)
    → behind done (messages_in most left (drop at bytes)) ≡ behind (done ++ message ∷ []) (messages_in most later (drop (at + (4 + size)) bytes))
one_more most left later at size bytes rest message done l r s m =
    let whole : left ≡ suc later = omega arith in
    let text : take size (drop 4 rest) ≡ message = ap (λ (x : List ℕ). take size (drop 4 x)) r ∙ ap (take size) (drop-drop 4 at bytes) ∙ sym m in
    let next : drop (4 + size) rest ≡ drop (at + (4 + size)) bytes = ap (drop (4 + size)) r ∙ drop-drop (4 + size) at bytes in
    ap (λ (x : List ℕ). behind done (messages_in most left x)) (sym r) ∙ ap (λ (n : ℕ). behind done (messages_in most n rest)) whole
    ∙ ap (λ (j : Result ℕ Refusal). behind done (unless j (λ n. unless (messages_in most later (drop (4 + n) rest)) (λ (more : List (List ℕ)). Ok (take n (drop 4 rest) ∷ more))))) (sym s)
    ∙ push done (take size (drop 4 rest)) (messages_in most later (drop (4 + size) rest))
    ∙ ap (λ (x : List ℕ). behind (done ++ x ∷ []) (messages_in most later (drop (4 + size) rest))) text
    ∙ ap (λ (x : List ℕ). behind (done ++ message ∷ []) (messages_in most later x)) next

-- the round that reads it
pub one_read : (most count at size : ℕ) (bytes rest message : List ℕ) (done new : List (List ℕ)) → rest ≡ drop at bytes → 4 + size ≤ length rest → Ok size ≡ message_size_in most rest → message ≡ take (at + 4 + size - (at + 4)) (drop (at + 4) bytes)
    → new ≡ done ++ message ∷ [] → length done < count → messages_in most count bytes ≡ behind done (messages_in most (count - length done) (drop at bytes))
    → (at + (4 + size) ≤ length bytes) × (length new ≤ count) × (messages_in most count bytes ≡ behind new (messages_in most (count - length new) (drop (at + (4 + size)) bytes)))
one_read most count at size bytes rest message done new slice whole value text pushed some found =
    let longer : length new ≡ length done + 1 = ap length pushed ∙ length-append done (message ∷ []) in
    let short : at + 4 + size - (at + 4) ≡ size = omega arith in
    let left : count - length done ≡ count - length new + 1 = omega (arith, longer, some) in (
      omega (arith, whole, ap length slice, length-drop at bytes),
      omega (arith, longer, some),
      found
          ∙ one_more most (count - length done) (count - length new) at size bytes rest message done left slice value (text ∙ ap (λ (n : ℕ). take n (drop (at + 4) bytes)) short)
          ∙ ap (λ (x : List (List ℕ)). behind x (messages_in most (count - length new) (drop (at + (4 + size)) bytes))) (sym pushed),
    )

nothing_left : (most left : ℕ) (rest : List ℕ) (done : List (List ℕ)) → left ≡ 0 → length rest ≡ 0 → Ok done ≡ behind done (messages_in most left rest)
nothing_left most zero [] done l e = ap Ok (sym (append-nil done))
nothing_left most zero (b ∷ bytes) done l e = absurd (omega arith)
nothing_left most (suc k) rest done l e = absurd (omega arith)

some_left : (most left : ℕ) (rest : List ℕ) (done : List (List ℕ)) → left ≡ 0 → 0 < length rest → Err BadBody ≡ behind done (messages_in most left rest)
some_left most zero [] done l e = absurd (omega arith)
some_left most zero (b ∷ bytes) done l e = refl
some_left most (suc k) rest done l e = absurd (omega arith)

-- all were read
pub all_read : (most left : ℕ) (rest : List ℕ) (done : List (List ℕ)) (all : Result (List (List ℕ)) Refusal) → all ≡ behind done (messages_in most left rest) → left ≡ 0 → length rest ≡ 0 → Ok done ≡ all
all_read most left rest done all same l e = nothing_left most left rest done l e ∙ sym same

-- all were read, and bytes stand behind them
pub left_over : (most left : ℕ) (rest : List ℕ) (done : List (List ℕ)) (all : Result (List (List ℕ)) Refusal) → all ≡ behind done (messages_in most left rest) → left ≡ 0 → 0 < length rest → Err BadBody ≡ all
left_over most left rest done all same l e = some_left most left rest done l e ∙ sym same
