-- What was drawn, as it is settled or put back.
use Rattle.std.proofs.Common.{◌≡◌, ℕ, ◌<◌, true, List, [], ◌++◌, length, Some, IsSome, Ok, Err, refl, sym, ap, ◌∙◌, subst}
use Rattle.v2_frame.specs.declared.message.Message.{Message}
use Rattle.backlog.specs.Answers.{DrawFails as BacklogFails}
use Rattle.backlog.specs.Seen.{Seen as Backlog, DrawLends, DrawSeen, FindsNone, no_queue, no_record}
use Rattle.backlog.specs.Lists.{DrawGives, IsFirstMessage, list_with}
use Rattle.backlog.specs.declared.answers.Drawn.{Drawn as FromBacklog}
use Rattle.backlog.specs.declared.answers.Drawn.TheVariants as drawing
use Rattle.backlog.specs.declared.backlog.Lent.{Lent}
use Rattle.backlog.specs.declared.backlog.Lent.TheVariants as lending
use Rattle.broker_history.specs.State.{Channel, queued, raised}
use Rattle.broker_history.specs.Channels.{has_credit, is_free}
use Rattle.channel_copies.specs.Flights.{flights_of_id}
use Rattle.channel_core.specs.declared.answers.Next.{Next}
use Rattle.channel_core.specs.declared.answers.Next.TheVariants as next
use Rattle.channel_core.specs.declared.drawn.Drawn.{Drawn}
use Rattle.channel_core.specs.declared.drawn.Drawn.TheVariants.{Nothing, ToSend, ToHold}
use Rattle.channel_core.specs.Drawn.{attempts_of, held_of}
use Rattle.channel_core.specs.Drawing.{DrawFails, Draws, DrawsToHold, DrawsToSend, Drew, IsDrawnFor, IsFirstDrawn, IsHeld, IsOfDrawing, NextLeaves, NextWhere, first_drawn, message_of}
use Rattle.channel_core.specs.Seen.{Seen, drawn_in, queued_in, channel_with}
use Rattle.channel_core.proofs.Copies.{queued_is}
use Rattle.channel_core.proofs.Looking.{is_free_now, isn't_free}

some_same : {X : Type 0} (a b : X) → Some a ≡ Some b → a ≡ b
some_same a b h = cc

-- the message as it was before it was to be sent
pub unraised : {client now : ℕ} (message : Message) (d : Drawn) → IsDrawnFor client message now d → record message { attempts = attempts_of d message.attempts } ≡ first_drawn d message
unraised message d h =
    ap (λ x. record message { attempts = attempts_of x message.attempts }) h.is ∙ sym (ap (λ x. first_drawn x message) h.is)

-- the message that is held is there
pub is_held : {now : ℕ} {d : Drawn} → IsHeld now d → IsSome (held_of d)
is_held h = subst (λ d. IsSome (held_of d)) (sym h.is) refl

-- and it is the one that is spoken of
pub held_is : (message held : Message) (now : ℕ) (d : Drawn) → held_of d ≡ Some message → d ≡ ToHold held now → message ≡ held
held_is message held now d is at = some_same message held (sym is ∙ ap held_of at)

-- put back, it is the first of what is queued
pub back_first : (message held : Message) (now : ℕ) (disk ring : List Message) {v0 v : Seen} → v0 ≡ v → held_of v0.drawn ≡ Some message → v.drawn ≡ ToHold held now → ring ++ disk ≡ list_with v0.backlog message disk → ring ++ disk ≡ drawn_in held v disk
back_first message held now disk ring {v0} {v} is of at back =
    back ∙ (ap (λ m. list_with v0.backlog m disk) (held_is message held now v0.drawn of (ap (λ (v : Seen). v.drawn) is ∙ at)) ∙ ap (λ (v : Seen). drawn_in held v disk) is)

pub back_unsent : {client now : ℕ} (message back : Message) (disk ring : List Message) {v0 v : Seen} → v0 ≡ v → IsDrawnFor client message now v.drawn → back ≡ record message { attempts = attempts_of v0.drawn message.attempts } → ring ++ disk ≡ list_with v0.backlog back disk → ring ++ disk ≡ drawn_in (first_drawn v.drawn message) v disk
back_unsent message back disk ring {v0} {v} is d at put =
    let first = first_drawn v.drawn message in
    let same : back ≡ first = at ∙ (ap (λ (u : Seen). record message { attempts = attempts_of u.drawn message.attempts }) is ∙ unraised message v.drawn d) in
    put ∙ (ap (λ m. list_with v0.backlog m disk) same ∙ ap (λ (u : Seen). drawn_in first u disk) is)

-- nothing is queued where the list is empty
pub none_queued : (v : Seen) (disk : List Message) → queued_in v disk ≡ [] → queued (channel_with v (queued_in v disk)).copies ≡ 0
none_queued v disk empty = queued_is (queued_in v disk) v.flights v.deferred ∙ ap length empty

-- the first of what is queued was drawn to be sent
pub drew_to_send : {client now : ℕ} (m message : Message) (disk : List Message) {v0 v w : Seen} → v0 ≡ v → IsFirstMessage (queued_in v0 disk) m → list_with w.backlog m disk ≡ queued_in v0 disk → flights_of_id m.id v0.flights ≡ 0 → message ≡ raised m → w.drawn ≡ ToSend (record { client = client; id = m.id; attempts = m.attempts; now = now }) → DrawsToSend v w disk message
drew_to_send {client} {now} m message disk {v0} {v} {w} is first same free more drawn = subst (λ v. DrawsToSend v w disk message) is (
    let back : first_drawn w.drawn message ≡ m = ap (λ d. first_drawn d message) drawn ∙ ap (λ (x : Message). record x { attempts = m.attempts }) more in
    record {
      first = subst (λ x. IsFirstDrawn x w disk) (sym back) (subst (λ l. IsFirstMessage l m) (sym same) first);
      raised = more ∙ ap raised (sym back);
      free = subst (λ (x : Message). is_free x.id (channel_with v0 (queued_in v0 disk)).copies ≡ true) (sym more) (is_free_now m.id v0 (queued_in v0 disk) free);
      same = ap (λ x. drawn_in x w disk) back ∙ same;
    })

-- or to be held back
pub drew_to_hold : {now : ℕ} (held : Message) (disk : List Message) {v0 v w : Seen} → v0 ≡ v → IsFirstMessage (queued_in v0 disk) held → list_with w.backlog held disk ≡ queued_in v0 disk → flights_of_id held.id v0.flights ≡ 1 → w.drawn ≡ ToHold held now → DrawsToHold v w disk held.id
drew_to_hold {now} held disk {v0} {v} {w} is first same flies drawn = subst (λ v. DrawsToHold v w disk held.id) is (record {
  held = held;
  now = now;
  is = drawn;
  of = refl;
  first = subst (λ l. IsFirstMessage l held) (sym same) first;
  flies = isn't_free held.id v0 (queued_in v0 disk) flies;
  same = same;
})

-- nothing was drawn: what waits stays
pub none_ring : (old new : Backlog) → FindsNone old new → new.ring ≡ old.ring
none_ring old new (no_queue ring queue is) = ap (λ (b : Backlog). b.ring) is
none_ring old new (no_record p) = ap (λ (b : Backlog). b.ring) p.is

pub waits_same : (disk ring : List Message) {v0 v : Seen} → v0 ≡ v → ring ≡ v0.backlog.ring → ring ++ disk ≡ queued_in v disk
waits_same disk ring is same = ap (λ (ms : List Message). ms ++ disk) same ∙ ap (λ (u : Seen). queued_in u disk) is

pub drew_none : (disk ring : List Message) {v0 v : Seen} → v0 ≡ v → queued_in v0 disk ≡ [] → ring ≡ v0.backlog.ring → (queued (channel_with v (queued_in v disk)).copies ≡ 0) × (ring ++ disk ≡ queued_in v disk)
drew_none disk ring {v0} {v} is empty same = (none_queued v disk (ap (λ (u : Seen). queued_in u disk) (sym is) ∙ empty), waits_same disk ring is same)

-- the message of what a backlog drew
pub got_is : (d : FromBacklog) (message : Message) → Ok message ≡ message_of d → d ≡ drawing.Got message
got_is (drawing.Got m) message is = let same : m ≡ message = cc in ap drawing.Got same
got_is drawing.Empty message is = absurd (let no : ⊥ = cc in no)
got_is drawing.Fault message is = absurd (let no : ⊥ = cc in no)
got_is drawing.Damaged message is = absurd (let no : ⊥ = cc in no)
got_is drawing.Memory message is = absurd (let no : ⊥ = cc in no)

-- where it drew none: it has lent nothing
pub none_lent : (d : FromBacklog) (answer : Next) (lent : Lent) → Err answer ≡ message_of d → DrawLends lent d → lent ≡ lending.Nothing
none_lent (drawing.Got m) answer lent is lends = absurd (let no : ⊥ = cc in no)
none_lent drawing.Empty answer lent is lends = lends
none_lent drawing.Fault answer lent is lends = lends
none_lent drawing.Damaged answer lent is lends = lends
none_lent drawing.Memory answer lent is lends = lends

-- what the answer says, and what it leaves
pub none_drawing : (d : FromBacklog) (answer : Next) → Err answer ≡ message_of d → IsOfDrawing answer
none_drawing (drawing.Got m) answer is = absurd (let no : ⊥ = cc in no)
none_drawing drawing.Empty answer is = let same : next.NoneQueued ≡ answer = cc in subst IsOfDrawing same tt
none_drawing drawing.Fault answer is = let same : next.Fault ≡ answer = cc in subst IsOfDrawing same tt
none_drawing drawing.Damaged answer is = let same : next.Damaged ≡ answer = cc in subst IsOfDrawing same tt
none_drawing drawing.Memory answer is = let same : next.Memory ≡ answer = cc in subst IsOfDrawing same tt

pub none_leaves : (client now : ℕ) (d : FromBacklog) (answer : Next) (was : Drawn) → Err answer ≡ message_of d → was ≡ Nothing → NextLeaves client now was answer
none_leaves client now (drawing.Got m) answer was is nothing = absurd (let no : ⊥ = cc in no)
none_leaves client now drawing.Empty answer was is nothing = let same : next.NoneQueued ≡ answer = cc in subst (NextLeaves client now was) same nothing
none_leaves client now drawing.Fault answer was is nothing = let same : next.Fault ≡ answer = cc in subst (NextLeaves client now was) same nothing
none_leaves client now drawing.Damaged answer was is nothing = let same : next.Damaged ≡ answer = cc in subst (NextLeaves client now was) same nothing
none_leaves client now drawing.Memory answer was is nothing = let same : next.Memory ≡ answer = cc in subst (NextLeaves client now was) same nothing

pub none_fails : (before now : ℕ) (d : FromBacklog) (answer : Next) → Err answer ≡ message_of d → BacklogFails before now d → DrawFails before now answer
none_fails before now (drawing.Got m) answer is fails = absurd (let no : ⊥ = cc in no)
none_fails before now drawing.Empty answer is fails = let same : next.NoneQueued ≡ answer = cc in subst (DrawFails before now) same fails
none_fails before now drawing.Fault answer is fails = let same : next.Fault ≡ answer = cc in subst (DrawFails before now) same fails
none_fails before now drawing.Damaged answer is fails = let same : next.Damaged ≡ answer = cc in subst (DrawFails before now) same fails
none_fails before now drawing.Memory answer is fails = let same : next.Memory ≡ answer = cc in subst (DrawFails before now) same fails

-- what waits stays
pub none_gives : (disk : List Message) (d : FromBacklog) (answer : Next) (w : Seen) {v0 v : Seen} → v0 ≡ v → Err answer ≡ message_of d → DrawGives v0.backlog w.backlog disk d → DrawSeen v0.backlog w.backlog d → Drew v w disk answer
none_gives disk (drawing.Got m) answer w {v0} {v} at is gives seen = absurd (let no : ⊥ = cc in no)
none_gives disk drawing.Empty answer w {v0} {v} at is gives seen = let same : next.NoneQueued ≡ answer = cc in subst (Drew v w disk) same (drew_none disk w.backlog.ring at gives (none_ring v0.backlog w.backlog seen))
none_gives disk drawing.Fault answer w {v0} {v} at is gives seen = let same : next.Fault ≡ answer = cc in subst (Drew v w disk) same (waits_same disk w.backlog.ring at (ap (λ (b : Backlog). b.ring) seen.is))
none_gives disk drawing.Damaged answer w {v0} {v} at is gives seen = absurd gives
none_gives disk drawing.Memory answer w {v0} {v} at is gives seen = let same : next.Memory ≡ answer = cc in subst (Drew v w disk) same (waits_same disk w.backlog.ring at (ap (λ (b : Backlog). b.ring) seen.peeks.is))

-- what a drawing gave, after room was made for it, is given of the channel as it was before
pub draws_all : (v0 v w : Seen) (disk : List Message) (answer : Next) → v0 ≡ record v { spare = v0.spare; deferred_spare = v0.deferred_spare } → 0 < queued (channel_with v (queued_in v disk)).copies → IsOfDrawing answer → Drew v0 w disk answer → Draws v w disk answer
draws_all v0 v w disk (next.Send m) is some of d = record {
  first = d.first;
  raised = d.raised;
  free = ap (λ (u : Seen). is_free m.id (channel_with u (queued_in u disk)).copies) (sym is) ∙ d.free;
  same = d.same ∙ ap (λ (u : Seen). queued_in u disk) is;
}
draws_all v0 v w disk (next.Held id) is some of d = record {
  held = d.held;
  now = d.now;
  is = d.is;
  of = d.of;
  first = d.first;
  flies = ap (λ (u : Seen). is_free id (channel_with u (queued_in u disk)).copies) (sym is) ∙ d.flies;
  same = d.same ∙ ap (λ (u : Seen). queued_in u disk) is;
}
draws_all v0 v w disk next.NoCredit is some of d = absurd of
draws_all v0 v w disk next.Paused is some of d = absurd of
draws_all v0 v w disk next.NoneQueued is some of d = (ap (λ (u : Seen). queued (channel_with u (queued_in u disk)).copies) (sym is) ∙ d.0, d.1 ∙ ap (λ (u : Seen). queued_in u disk) is)
draws_all v0 v w disk next.Fault is some of d = (some, d ∙ ap (λ (u : Seen). queued_in u disk) is)
draws_all v0 v w disk next.Damaged is some of d = absurd d
draws_all v0 v w disk next.Memory is some of d = (some, d ∙ ap (λ (u : Seen). queued_in u disk) is)

-- a drawing was made where the client has credit
pub next_where : (client ready : ℕ) (k : Channel) (answer : Next) → IsOfDrawing answer → has_credit ready client k ≡ true → NextWhere client ready k answer
next_where client ready k (next.Send m) of credit = credit
next_where client ready k (next.Held id) of credit = credit
next_where client ready k next.NoCredit of credit = absurd of
next_where client ready k next.Paused of credit = absurd of
next_where client ready k next.NoneQueued of credit = credit
next_where client ready k next.Fault of credit = credit
next_where client ready k next.Damaged of credit = credit
next_where client ready k next.Memory of credit = credit

-- what changed, after room was made and a drawing
pub next_rest : (v r w : Seen) → r ≡ record v { spare = r.spare; deferred_spare = r.deferred_spare } → w ≡ record r { backlog = w.backlog; drawn = w.drawn } → w ≡ record v { backlog = w.backlog; drawn = w.drawn; spare = w.spare; deferred_spare = w.deferred_spare }
next_rest v r w made drew =
    drew
    ∙ (ap (λ (u : Seen). record u { backlog = w.backlog; drawn = w.drawn }) made
    ∙ (ap (λ n. record v { backlog = w.backlog; drawn = w.drawn; spare = n; deferred_spare = r.deferred_spare }) (sym (ap (λ (u : Seen). u.spare) drew))
    ∙ ap (λ n. record v { backlog = w.backlog; drawn = w.drawn; spare = w.spare; deferred_spare = n }) (sym (ap (λ (u : Seen). u.deferred_spare) drew))))
