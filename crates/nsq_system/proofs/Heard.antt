-- What a read leaves behind what was sent first, and whose turn it is behind a caller.
use Rattle.std.proofs.Common.{◌≡◌, ◌≢◌, ◌⊎◌, ◌<◌, List, [], ℕ, Bool, true, false, refl, sym, ◌∙◌, subst, inl, inr, arith}
use Rattle.std.proofs.lemmas.Bool.{false≢true}
use Rattle.std.specs.declared.net.TcpStream.{TcpStream}
use Rattle.nsq_outside.specs.Causes.{DidCounts, CountsFault}
use Rattle.nsq_outside.specs.declared.conn.Read.TheVariants.{End, Failed as NotRead}
use Rattle.nsq_outside.specs.declared.conn.Write.{Write}
use Rattle.nsq_outside.specs.declared.conn.Write.TheVariants.{Took, Failed as NotTaken}
use Rattle.nsq_outside.specs.declared.did.Did.{Did}
use Rattle.nsq_outside.specs.declared.did.Did.TheVariants.{Done, Failed}
use Rattle.nsq_outside.specs.declared.host.Kind.{Kind}
use Rattle.nsq_outside.specs.declared.host.Kind.TheVariants.{Http, Tcp}
use Rattle.nsq_outside.specs.declared.host.Accept.TheVariants.{Caller}
use Rattle.nsq_system.specs.Listeners.{TakesTurns, kind_behind}
use Rattle.nsq_system.specs.Outboxes.{is_broken, TakesOrBreaks, BreaksAtError}
use Rattle.nsq_system.specs.Sendings.{SendsErrors}
use Rattle.nsq_system.specs.TcpConns.{broken_of, write_faults_of, TookBreaks, BreaksAtErrors}
use Rattle.nsq_system.specs.declared.listeners.Tried.TheVariants.{Stream}
use Rattle.nsq_system.specs.declared.outbox.Outbox.{Outbox}
use Rattle.nsq_system.specs.declared.tcp_conn.TcpConn.{TcpConn}

-- behind a caller it is the other kind's turn
pub in_turn : (old new kind : Kind) (stream : TcpStream) (conn : TcpConn) → new ≡ kind_behind old (Stream kind stream) → TakesTurns old new (Caller kind conn)
in_turn old new Tcp stream conn turns = turns
in_turn old new Http stream conn turns = turns

-- an end isn't a failure, and what was sent isn't a failure either
pub end_not_failed : End ≢ NotRead
end_not_failed same = cc

pub failed_not_done : Failed ≢ Done
failed_not_done same = cc

-- what a call that sends first tells of its faults, and of whether it broke
abbrev pub SentFirst : List ℕ → ℕ → ℕ → Bool → Bool → Type 0 → Type 0
SentFirst waiting before now was is failed =
    ((waiting ≢ []) × CountsFault before now true × (is ≡ true)) ⊎ (CountsFault before now false × (is ≡ true → (was ≡ true) ⊎ failed))

-- a read that doesn't fail leaves it as the sending did
pub sends_first : (did : Did) (waiting : List ℕ) (before now : ℕ) (was is : Bool) (failed : Type 0) → DidCounts before now did → (did ≡ Done → is ≡ was) → (did ≡ Failed → is ≡ true) → (waiting ≡ [] → did ≡ Done) → SentFirst waiting before now was is failed
sends_first Done waiting before now was is failed counts done broke none = inr (counts, λ broken. inl (sym (done refl) ∙ broken))
sends_first Failed waiting before now was is failed counts done broke none = inl (λ nothing. failed_not_done (none nothing), counts, broke refl)

-- one that fails breaks it
pub sends_fails : (did : Did) (waiting : List ℕ) (before now : ℕ) (was : Bool) (failed : Type 0) → failed → DidCounts before now did → (waiting ≡ [] → did ≡ Done) → SentFirst waiting before now was true failed
sends_fails Done waiting before now was failed fails counts none = inr (counts, λ _. inr fails)
sends_fails Failed waiting before now was failed fails counts none = inl (λ nothing. failed_not_done (none nothing), counts, refl)

-- a count that rose shows a call that broke
pub rise_breaks : (before now : ℕ) (broken : Bool) → CountsFault before now broken → before < now → broken ≡ true
rise_breaks before now true counted rose = refl
rise_breaks before now false counted rose = absurd (omega (arith, counted, rose))

-- and so it does whatever a write answers
pub took_breaks : (old new : TcpConn) (answer : Write) → (write_faults_of old < write_faults_of new → broken_of new ≡ true) → TookBreaks old new answer
took_breaks old new (Took n) breaks = breaks
took_breaks old new NotTaken breaks = tt

-- what an outbox tells of an error frame its connection tells too
pub breaks_so : (from : List ℕ) (conn : TcpConn) (answer : Write) → BreaksAtError from conn.outbox answer → BreaksAtErrors from conn answer
breaks_so from conn (Took n) breaks = breaks
breaks_so from conn NotTaken breaks = tt

-- bytes that went through leave it whole
pub whole_so : (from : List ℕ) (conn : TcpConn) (answer : Write) → TakesOrBreaks conn.outbox answer → BreaksAtErrors from conn answer
whole_so from conn (Took n) whole = λ broken. absurd (false≢true (sym whole ∙ broken))
whole_so from conn NotTaken whole = tt

-- where they didn't it is broken
pub failed_breaks : {W : Type 0} (outbox : Outbox W) (answer : Write) → TakesOrBreaks outbox answer → answer ≡ NotTaken → is_broken outbox ≡ true
failed_breaks outbox answer takes failed = subst (λ (a : Write). TakesOrBreaks outbox a) failed takes

-- nothing waits any more, whatever was sent
pub none_waits : (from now : List ℕ) (answer : Write) → now ≡ [] → SendsErrors from now answer
none_waits from now (Took n) none = λ _. none
none_waits from now NotTaken none = tt

-- a connection speaks one language
pub tcp_not_http : Tcp ≢ Http
tcp_not_http same = cc
