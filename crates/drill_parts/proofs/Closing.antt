-- That a caller which sends commands is closed by what its entries say, or by a Stop.
use Rattle.std.proofs.Common.{◌≡◌, ◌⊎◌, inl, inr, ℕ, Bool, true, false, List, [], ◌∷◌, ◌++◌, refl, sym, ap, subst, ◌∙◌, arith, append_assoc, Option, Some, flat_map}
use Rattle.std.specs.List.{AllByRecursion}
use Rattle.std.proofs.lemmas.Bool.{false≢true}
use Rattle.std.proofs.lemmas.List.{append-nil}
use Rattle.std.proofs.lemmas.Grind.{flat_map-append}
use Rattle.nsq_outside.specs.declared.journal.End.{End}
use Rattle.v2_frame.specs.declared.command.Command.{Command}
use Rattle.v2_frame.specs.declared.fault.Fault.{Fault}
use Rattle.v2_frame.specs.declared.fault.FaultKind.{FaultKind}
use Rattle.v2_frame.specs.declared.fault.Limits.{Limits}
use Rattle.v2_frame.specs.declared.frame.Frame.{Frame}
use Rattle.v2_frame.specs.Command.{IsWritable, canonical}
use Rattle.v2_frame.specs.Judging.{Begins, Faulty, IsFault, Unfinished, Whole, open_line}
use Rattle.v2_frame.specs.Script.{magic, Row, none}
use Rattle.v2_frame.proofs.LineLemmas.{front_more, front_unique}
use Rattle.v2_frame.proofs.ScriptLemmas.{has_magic, row_more, row_push}
use Rattle.v2_frame.proofs.VerdictLemmas.{begins_judged, fault_more, judged_unique}
use Rattle.broker_history.specs.declared.entry.Act.{Act}
use Rattle.broker_history.specs.declared.entry.Act.TheVariants.{Began, Did, Refused, Sent, Beat, Idle, Silent, Dropped, Stuck}
use Rattle.broker_history.specs.declared.ended.Ended.TheVariants.{Closed, Memory}
use Rattle.broker_history.specs.declared.entry.Entry.{Entry}
use Rattle.broker_history.specs.Entries.{History}
use Rattle.broker_history.specs.Reply.{answered}
use Rattle.broker_history.specs.Talk.{Round, Sending, Reading, Doing, Going, began, sent, rested, spent, nothing, read, greet, did, done, HasFault, IsSending, IsRest, IsDid, ClosesBy, ClosesSending, ClosesDoing, IsClosed, IsOpen, WithGone, IsTalk, bytes_of, command_in, commands_of, place_of}
use Rattle.drill_parts.specs.Staying.{AnswersOpen, ClosedByStop, LeavesOpen, StaysOpen}
use Rattle.drill_parts.specs.Talking.{Spell}
use Rattle.drill_parts.proofs.Talking.{after_magic, begins_first, row_front}

-- the commands of entries and of one more
commands_next : (h : History) (e : Entry × End) → commands_of (h ++ e ∷ []) ≡ commands_of h ++ command_in e.0.act
commands_next h e = flat_map-append (λ x. command_in x.0.act) h (e ∷ []) ∙ ap (λ x. commands_of h ++ x) (append-nil (command_in e.0.act))

-- the bytes of pieces and of one more
bytes_next : (pieces : List (List ℕ)) (piece : List ℕ) → bytes_of (pieces ++ piece ∷ []) ≡ bytes_of pieces ++ piece
bytes_next [] piece = append-nil piece
bytes_next (p ∷ ps) piece = ap (λ x. p ++ x) (bytes_next ps piece) ∙ sym (append_assoc p (bytes_of ps) piece)

sent_none : (act : Act) → IsSending act → command_in act ≡ []
sent_none (Sent m) s = refl
sent_none Beat s = refl
sent_none act s = absurd s

rest_none : (act : Act) → IsRest act → command_in act ≡ []
rest_none Idle s = refl
rest_none (Stuck topic (Some channel)) s = refl
rest_none act s = absurd s

-- what isn't done stands behind the commands that were taken
unfoldable Stands : Limits → (bytes : List ℕ) → (taken : List Command) → (greeted : Bool) → (pending : List ℕ) → Type 0
Stands limits bytes taken false pending = (bytes ≡ pending) × (taken ≡ [])
Stands limits bytes taken true pending = (after : List ℕ) × (bytes ≡ magic ++ after) × Row limits after taken pending

stands_same : (limits : Limits) (bytes : List ℕ) (h : History) (e : Entry × End) (greeted : Bool) (pending : List ℕ) → command_in e.0.act ≡ [] → Stands limits bytes (commands_of h) greeted pending → Stands limits bytes (commands_of (h ++ e ∷ [])) greeted pending
stands_same limits bytes h e greeted pending is s = subst (λ x. Stands limits bytes x greeted pending) (sym (commands_next h e ∙ ap (λ x. commands_of h ++ x) is ∙ append-nil (commands_of h))) s

stands_read : (limits : Limits) (pieces : List (List ℕ)) (piece : List ℕ) (taken : List Command) (greeted : Bool) (pending : List ℕ) → Stands limits (bytes_of pieces) taken greeted pending → Stands limits (bytes_of (pieces ++ piece ∷ [])) taken greeted (pending ++ piece)
unfolding Stands
stands_read limits pieces piece taken false pending s = (bytes_next pieces piece ∙ ap (λ x. x ++ piece) s.0, s.1)
stands_read limits pieces piece taken true pending s = (s.0 ++ piece, bytes_next pieces piece ∙ ap (λ x. x ++ piece) s.1 ∙ append_assoc magic s.0 piece, row_more piece s.2)

stands_greet : (limits : Limits) (bytes : List ℕ) (taken : List Command) (pending rest : List ℕ) → Stands limits bytes taken false pending → pending ≡ magic ++ rest → Stands limits bytes taken true rest
unfolding Stands
stands_greet limits bytes taken pending rest s e = (rest, s.0 ∙ e, subst (λ x. Row limits rest x rest) (sym s.1) none)

stands_did : (limits : Limits) (bytes : List ℕ) (h : History) (e : Entry × End) (pending rest : List ℕ) (command : Command) → Begins limits pending command rest → IsDid command e.0.act → Stands limits bytes (commands_of h) true pending
    → Stands limits bytes (commands_of (h ++ e ∷ [])) true rest
unfolding Stands
stands_did limits bytes h e pending rest command b d s = (s.0, s.1, subst (λ x. Row limits s.0 x rest) (sym (commands_next h e ∙ ap (λ a. commands_of h ++ command_in a) d.1)) (row_push s.2 b))

stands_began : (limits : Limits) (e : Entry × End) → e.0.act ≡ Began → Stands limits [] (commands_of (e ∷ [])) false []
unfolding Stands
stands_began limits e is = (refl, ap (λ x. command_in x ++ []) is)

stands : {limits : Limits} {pieces : List (List ℕ)} {h : History} {greeted : Bool} {pending : List ℕ} {round : Round} → Going limits pieces h greeted pending round → Stands limits (bytes_of pieces) (commands_of h) greeted pending
stands {limits = limits} (began e is) = stands_began limits e is
stands {limits = limits} (sent {pieces = ps} {h = h} {greeted = g} {pending = p} e going few is) = stands_same limits (bytes_of ps) h e g p (sent_none e.0.act is) (stands going)
stands {limits = limits} (rested {pieces = ps} {h = h} {greeted = g} {pending = p} e going few is) = stands_same limits (bytes_of ps) h e g p (rest_none e.0.act is) (stands going)
stands (spent going all) = stands going
stands (nothing going) = stands going
stands {limits = limits} (read {pieces = ps} {h = h} {greeted = g} {pending = p} piece going some few) = stands_read limits ps piece (commands_of h) g p (stands going)
stands {limits = limits} (greet {pieces = ps} {h = h} {pending = p} {rest = rest} going e) = stands_greet limits (bytes_of ps) (commands_of h) p rest (stands going) e
stands {limits = limits} (did {pieces = ps} {h = h} {pending = p} {rest = rest} {command = command} e going b d stays) = stands_did limits (bytes_of ps) h e p rest command b d (stands going)
stands (done going needs) = stands going

-- behind canonical spellings no fault stands
no_fault : (limits : Limits) (bytes : List ℕ) (behind : List Command) (kind : FaultKind) (at : ℕ) → bytes ≡ flat_map canonical behind → AllByRecursion (IsWritable limits) behind → IsFault limits bytes kind at → ⊥
no_fault limits bytes [] kind at e w f =
    let same : Unfinished ≡ Faulty kind at = judged_unique limits (open_line tt (omega arith)) (subst (λ x. IsFault limits x kind at) e f) in cc
no_fault limits bytes (c ∷ cs) kind at e w f =
    let same : Whole c (flat_map canonical cs) ≡ Faulty kind at = judged_unique limits (begins_judged (begins_first limits c (flat_map canonical cs) w.0)) (subst (λ x. IsFault limits x kind at) e f) in cc

no_refusal : (limits : Limits) (bytes : List ℕ) (taken commands : List Command) (left : List ℕ) (place : ℕ) (greeted : Bool) (pending : List ℕ) (fault : Fault) → Stands limits bytes taken greeted pending → Spell limits commands bytes left
    → HasFault limits place greeted pending fault → ⊥
unfolding Stands
no_refusal limits bytes taken commands left place false pending fault s spell f =
    let bad = f.0 in
    let whole : pending ++ left ≡ magic ++ flat_map canonical commands = ap (λ x. x ++ left) (sym s.0) ∙ spell.whole in
    bad.other (front_unique (front_more left bad.has) (has_magic (pending ++ left) (flat_map canonical commands) whole)).0
no_refusal limits bytes taken commands left place true pending fault s spell f =
    let front = row_front limits commands (row_more left s.2) (after_magic bytes left s.0 (flat_map canonical commands) spell.whole s.1) spell.writable in
    no_fault limits (pending ++ left) front.behind fault.kind f.0 front.left_is front.writable (fault_more left f.1)

-- an act that ends a conversation in no such way
sending_open : {A : Type 0} (k : ℕ) (act : Act) → ClosesSending k act → StaysOpen act → A
sending_open k Silent c o = absurd o
sending_open k Dropped c o = absurd o
sending_open k act c o = absurd c

module _ (limits : Limits) (bytes : List ℕ) (taken commands : List Command) (left : List ℕ) (place : ℕ) (greeted : Bool) (pending : List ℕ) (s : Stands limits bytes taken greeted pending) (spell : Spell limits commands bytes left) where
  doing_open : (act : Act) (answer : Option Frame) → ClosesDoing limits place greeted pending act answer → StaysOpen act → AnswersOpen act answer → ⊥
  doing_open (Did command r) answer c o e = false≢true (sym e ∙ c.3)
  doing_open (Refused fault frame) answer c o e = no_refusal limits bytes taken commands left place greeted pending fault s spell c
  doing_open Dropped answer c o e = o
  doing_open act answer c o e = absurd c

  closes_open : (round : Round) (act : Act) (answer : Option Frame) → ClosesBy limits place greeted pending round act answer → StaysOpen act → AnswersOpen act answer → ⊥
  closes_open (Sending k) act answer c o e = sending_open k act c o
  closes_open Reading act answer c o e = absurd c
  closes_open Doing act answer c o e = doing_open act answer c o e

-- one of a list in which all are so
pub within : {X : Type 0} (P : X → Type 0) (xs : List X) (x : X) (ys : List X) → AllByRecursion P (xs ++ x ∷ ys) → P x
within P [] x ys all = all.0
within P (y ∷ xs) x ys all = within P xs x ys all.1

-- the last entry before the Gone
last_open : (h own before : History) (last : Entry × End) → WithGone h own → h ≡ before ++ last ∷ [] → AllByRecursion LeavesOpen own → LeavesOpen last
last_open h own before last gone whole all =
    let is : own ≡ before ++ last ∷ gone.gone ∷ [] = gone.whole ∙ ap (λ x. x ++ gone.gone ∷ []) whole ∙ append_assoc before (last ∷ []) (gone.gone ∷ []) in
    within LeavesOpen before last (gone.gone ∷ []) (subst (λ x. AllByRecursion LeavesOpen x) is all)

stopped_alone : (limits : Limits) (stopped : Bool) (pieces : List (List ℕ)) (h own : History) (commands : List Command) (left : List ℕ) → IsClosed limits pieces h ⊎ (IsOpen limits pieces h × (stopped ≡ true)) → WithGone h own
    → Spell limits commands (bytes_of pieces) left → AllByRecursion LeavesOpen own → stopped ≡ true
stopped_alone limits stopped pieces h own commands left (inr o) gone spell all = o.1
stopped_alone limits stopped pieces h own commands left (inl k) gone spell all =
    let last = last_open h own k.before k.last gone k.whole all in
    absurd (closes_open limits (bytes_of pieces) (commands_of k.before) commands left (place_of pieces k.pending) k.greeted k.pending (stands k.going) spell k.round k.last.0.act (answered k.last) k.closes_by last.stays last.answer)

pub closed_by : (limits : Limits) (stopped : Bool) (wanted : ℕ) (pieces : List (List ℕ)) (own : History) (out : List ℕ) (commands : List Command) (left : List ℕ) → IsTalk limits stopped wanted pieces own out Closed
    → Spell limits commands (bytes_of pieces) left → AllByRecursion LeavesOpen own → stopped ≡ true
closed_by limits stopped wanted pieces own out commands left (inl t) spell all = stopped_alone limits stopped pieces t.entries own commands left t.reached t.leaves spell all
closed_by limits stopped wanted pieces own out commands left (inr n) spell all = let e : Closed ≡ Memory = n.memory in cc

pub closed_by_stop : ClosedByStop
closed_by_stop = closed_by
