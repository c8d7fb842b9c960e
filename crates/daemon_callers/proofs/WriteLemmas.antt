-- Bytes that are written in several goes.
use Rattle.std.proofs.Common.{ℕ, ◌≤◌, Bool, true, false, ◌≡◌, ◌++◌, ◌+◌, ◌-◌, List, sym, ◌∙◌, ap, arith, take, drop, length, take-add, append_assoc, length-drop, take_all, refl, subst, inl, inr, [], Result, Ok, Err, OnOk, is_err}
use Rattle.nsq_core.specs.declared.memory.Memory.{Memory as NoMemory}
use Rattle.nsq_outside.specs.Causes.{Rose}
use Rattle.http_wire.specs.Answer.{answer_bytes}
use Rattle.http_calls.specs.declared.answer.HttpAnswer.{HttpAnswer}
use Rattle.daemon_callers.specs.declared.http.ended.EndedHttp.{EndedHttp}
use Rattle.daemon_callers.specs.declared.http.ended.EndedHttp.TheVariants.{Memory as OutOfMemory}
use Rattle.daemon_callers.specs.Exchange.{HasCause, written_of}
use Rattle.daemon_callers.specs.Written.{WritesFirst, WritesAll, WritesUnlessFault}

-- a front of what was left to write joins what was written
pub one_more : (at n : ℕ) (s old mid new : List ℕ) → mid ≡ old ++ take at s → new ≡ mid ++ take n (take (length s - at) (drop at s)) → new ≡ old ++ take (at + n) s
one_more at n s old mid new e p =
    let whole : take (length s - at) (drop at s) ≡ drop at s = take_all (length s - at) (drop at s) (omega (arith, length-drop at s)) in
    p ∙ ap (λ x. mid ++ take n x) whole ∙ ap (λ x. x ++ take n (drop at s)) e ∙ append_assoc old (take at s) (take n (drop at s)) ∙ ap (λ x. old ++ x) (sym (take-add at n s))

-- a front that is as long as the bytes is all of them
pub all_written : (at : ℕ) (s old new : List ℕ) → new ≡ old ++ take at s → length s ≤ at → new ≡ old ++ s
all_written at s old new e all = e ∙ ap (λ x. old ++ x) (take_all at s all)

-- a rise since a later count is one since an earlier
pub rose_since : (before now later : ℕ) → before ≤ now → Rose now later → Rose before later
rose_since before now later more rose = omega (arith, more, rose)

-- all the bytes, or the first of them, are some of the first
pub some_first : (bytes written written' : List ℕ) (all : Bool) → WritesAll bytes written written' all → WritesFirst bytes written written'
some_first bytes written written' true w = (length bytes, w ∙ ap (λ x. written ++ x) (sym (take_all (length bytes) bytes (omega arith))))
some_first bytes written written' false w = w

-- where not all were, a write failed
pub all_unless_fault : (bytes written written' : List ℕ) (all : Bool) (before now : ℕ) → WritesAll bytes written written' all → (all ≡ false → Rose before now) → WritesUnlessFault bytes written written' before now
all_unless_fault bytes written written' true before now w rose = inl w
all_unless_fault bytes written written' false before now w rose = inr (rose refl)

-- what was made of an answer is its bytes
pub made_whole : (r : Result (Unit {0}) NoMemory) (answer : HttpAnswer) (body front items : List ℕ) → body ≡ answer.body → front ≡ [] → OnOk r (items ≡ front ++ answer_bytes answer.status answer.json body) → is_err r ≡ false
    → items ≡ written_of answer
made_whole (Ok done) answer body front items same none made ok = made ∙ ap (λ x. x ++ answer_bytes answer.status answer.json body) none ∙ ap (λ x. answer_bytes answer.status answer.json x) same
made_whole (Err e) answer body front items same none made ok = absurd (let c : true ≡ false = ok in cc)

-- an answer was written whole, or in part
pub sends_whole : (answer : HttpAnswer) (items written written' : List ℕ) (all : Bool) → items ≡ written_of answer → WritesAll items written written' all → all ≡ true → written' ≡ written ++ written_of answer
sends_whole answer items written written' true same w is = w ∙ ap (λ x. written ++ x) same
sends_whole answer items written written' false same w is = absurd (let c : false ≡ true = is in cc)

pub sends_part : (answer : HttpAnswer) (items written written' : List ℕ) (all : Bool) → items ≡ written_of answer → WritesAll items written written' all → WritesFirst (written_of answer) written written'
sends_part answer items written written' all same w = subst (λ x. WritesFirst x written written') same (some_first items written written' all w)

-- want of memory has no cause in a count
pub given_up_cause : (ended : EndedHttp) (at_end : Bool) (r r' w w' : ℕ) → ended ≡ OutOfMemory → HasCause ended at_end r r' w w'
given_up_cause ended at_end r r' w w' is = subst (λ (x : EndedHttp). HasCause x at_end r r' w w') (sym is) tt
