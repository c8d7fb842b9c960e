-- Bytes that are written in several goes.
use Rattle.std.proofs.Common.{ℕ, Bool, true, false, Some, ◌≡◌, ◌++◌, ◌+◌, ◌-◌, List, sym, ◌∙◌, ap, arith, take, drop, length, take-add, append_assoc, length-drop, take_all}
use Rattle.v2_frame.specs.declared.frame.Frame.{Frame}
use Rattle.broker_history.specs.declared.ended.Ended.{Ended}
use Rattle.broker_history.specs.declared.ended.Ended.TheVariants.{EndOfInput, Closed, ReadFault, WriteFault, Memory}
use Rattle.daemon_callers.specs.Outputs.{WritesFirst, WritesAll, WritesFrame, WritesReply}

-- a front of what was left to write joins what was written
pub one_more : (at n : ℕ) (s old mid new : List ℕ) → mid ≡ old ++ take at s → new ≡ mid ++ take n (take (length s - at) (drop at s)) → new ≡ old ++ take (at + n) s
one_more at n s old mid new e p =
    let whole : take (length s - at) (drop at s) ≡ drop at s = take_all (length s - at) (drop at s) (omega (arith, length-drop at s)) in
    p ∙ ap (λ x. mid ++ take n x) whole ∙ ap (λ x. x ++ take n (drop at s)) e ∙ append_assoc old (take at s) (take n (drop at s)) ∙ ap (λ x. old ++ x) (sym (take-add at n s))

-- all the bytes, or the first of them, are some of the first
pub some_first : (bytes written written' : List ℕ) (all : Bool) → WritesAll bytes written written' all → WritesFirst bytes written written'
some_first bytes written written' true w = (length bytes, w ∙ ap (λ x. written ++ x) (sym (take_all (length bytes) bytes (omega arith))))
some_first bytes written written' false w = w

-- a reply that wasn't written whole ends the connection as its writing did
pub reply_told : (frame : Frame) (closing : Bool) (written written' : List ℕ) (ended : Ended) → WritesFrame frame written written' (Some ended) → WritesReply frame closing written written' (Some ended)
reply_told frame closing written written' Closed told = absurd told
reply_told frame closing written written' EndOfInput told = told
reply_told frame closing written written' ReadFault told = told
reply_told frame closing written written' WriteFault told = told
reply_told frame closing written written' Memory told = told
