-- What the entries of a conversation are, and which commands it takes.
use Rattle.std.proofs.Common.{◌≡◌, ◌⊎◌, inl, inr, ℕ, ◌<◌, Bool, true, List, [], ◌∷◌, ◌++◌, length, refl, sym, ap, subst, ◌∙◌, arith, append_assoc, length-append, Option, Some, flat_map}
use Rattle.std.specs.List.{AllByRecursion}
use Rattle.std.proofs.lemmas.List.{append-nil}
use Rattle.v2_frame.specs.declared.command.Command.{Command}
use Rattle.v2_frame.specs.declared.fault.Limits.{Limits}
use Rattle.v2_frame.specs.declared.fault.Rest.TheVariants.{Unfinished}
use Rattle.v2_frame.specs.declared.frame.Frame.{Frame}
use Rattle.v2_frame.specs.Command.{IsWritable, bytes_behind, canonical}
use Rattle.v2_frame.specs.Judging.{Begins, IsUnfinished, Whole, Unfinished as NotYet}
use Rattle.v2_frame.specs.Script.{magic, Row, none, more, IsScript, open_magic, bad_magic, good_magic}
use Rattle.v2_frame.proofs.CanonicalLemmas.{canonical_spells}
use Rattle.v2_frame.proofs.LineLemmas.{append_split}
use Rattle.v2_frame.proofs.ScriptLemmas.{row_more}
use Rattle.v2_frame.proofs.VerdictLemmas.{begins_judged, begins_unique, judged_unique}
use Rattle.broker_history.specs.declared.entry.Act.{Act}
use Rattle.broker_history.specs.declared.entry.Act.TheVariants.{Began, Did, Refused, Sent, Beat, Idle, Silent, Dropped, Gone, Stuck}
use Rattle.broker_history.specs.declared.ended.Ended.{Ended}
use Rattle.broker_history.specs.declared.ended.Ended.TheVariants.{EndOfInput, Closed, ReadFault, WriteFault, Memory}
use Rattle.broker_history.specs.Entries.{History}
use Rattle.broker_history.specs.Scripts.{StandAtFront, no_commands, in_row}
use Rattle.broker_history.specs.Talk.{Round, Sending, Reading, Doing, Going, began, sent, rested, spent, nothing, read, greet, did, done, IsSending, IsRest, ClosesBy, ClosesSending, ClosesDoing, IsOpen, IsWaiting, IsClosed, WithGone, Reaches, Leaves, bytes_of, commands_of}
use Rattle.broker_history.proofs.Scripting.{talk_at_front, talk_script}
use Rattle.drill_parts.specs.Talking.{CallersGiveTheirCommands, ConversationsTalk, FinishedCallersGiveAll, IsTalking, Spell, Talks}

is_so : (P : Act → Type 0) (a b : Act) → a ≡ b → P b → P a
is_so P a b e h = subst P (sym e) h

-- all of a list and of one more
pub all_push : {X : Type 0} (P : X → Type 0) (xs : List X) (x : X) → AllByRecursion P xs → P x → AllByRecursion P (xs ++ x ∷ [])
all_push P [] x all here = (here, tt)
all_push P (y ∷ xs) x all here = (all.0, all_push P xs x all.1 here)

sending_talks : (act : Act) → IsSending act → IsTalking act
sending_talks (Sent m) s = tt
sending_talks Beat s = tt
sending_talks act s = absurd s

rest_talks : (act : Act) → IsRest act → IsTalking act
rest_talks Idle s = tt
rest_talks (Stuck topic (Some channel)) s = tt
rest_talks act s = absurd s

closing_talks : (k : ℕ) (act : Act) → ClosesSending k act → IsTalking act
closing_talks k Silent s = tt
closing_talks k Dropped s = tt
closing_talks k act s = absurd s

doing_talks : (limits : Limits) (place : ℕ) (greeted : Bool) (pending : List ℕ) (act : Act) (answer : Option Frame) → ClosesDoing limits place greeted pending act answer → IsTalking act
doing_talks limits place greeted pending (Did command r) answer s = tt
doing_talks limits place greeted pending (Refused fault frame) answer s = tt
doing_talks limits place greeted pending Dropped answer s = tt
doing_talks limits place greeted pending act answer s = absurd s

closes_talks : (limits : Limits) (place : ℕ) (greeted : Bool) (pending : List ℕ) (round : Round) (act : Act) (answer : Option Frame) → ClosesBy limits place greeted pending round act answer → IsTalking act
closes_talks limits place greeted pending (Sending k) act answer s = closing_talks k act s
closes_talks limits place greeted pending Reading act answer s = absurd s
closes_talks limits place greeted pending Doing act answer s = doing_talks limits place greeted pending act answer s

going_talks : {limits : Limits} {pieces : List (List ℕ)} {h : History} {greeted : Bool} {pending : List ℕ} {round : Round} → Going limits pieces h greeted pending round → AllByRecursion Talks h
going_talks (began e is) = (is_so IsTalking e.0.act Began is tt, tt)
going_talks (sent {h = h} e going few is) = all_push Talks h e (going_talks going) (sending_talks e.0.act is)
going_talks (rested {h = h} e going few is) = all_push Talks h e (going_talks going) (rest_talks e.0.act is)
going_talks (spent going all) = going_talks going
going_talks (nothing going) = going_talks going
going_talks (read piece going some few) = going_talks going
going_talks (greet going e) = going_talks going
going_talks (did {h = h} {command = command} e going b d stays) = all_push Talks h e (going_talks going) (is_so IsTalking e.0.act (Did command d.0) d.1 tt)
going_talks (done going needs) = going_talks going

module _ (limits : Limits) (pieces : List (List ℕ)) where
  open_talks : (h : History) → IsOpen limits pieces h → AllByRecursion Talks h
  open_talks h o = going_talks o.going

  waiting_talks : (h : History) → IsWaiting limits pieces h → AllByRecursion Talks h
  waiting_talks h w = going_talks w.going

  closed_talks : (h : History) → IsClosed limits pieces h → AllByRecursion Talks h
  closed_talks h k = subst (λ x. AllByRecursion Talks x) (sym k.whole) (all_push Talks k.before k.last (going_talks k.going) (closes_talks limits _ k.greeted k.pending k.round k.last.0.act _ k.closes_by))

  either_talks : (h : History) → IsClosed limits pieces h ⊎ IsOpen limits pieces h → AllByRecursion Talks h
  either_talks h (inl k) = closed_talks h k
  either_talks h (inr o) = open_talks h o

  stopped_talks : (stopped : Bool) (h : History) → IsClosed limits pieces h ⊎ (IsOpen limits pieces h × (stopped ≡ true)) → AllByRecursion Talks h
  stopped_talks stopped h (inl k) = closed_talks h k
  stopped_talks stopped h (inr o) = open_talks h o.0

  reached_talks : (ended : Ended) (stopped : Bool) (h : History) → Reaches ended limits stopped pieces h → AllByRecursion Talks h
  reached_talks EndOfInput stopped h r = waiting_talks h r
  reached_talks Closed stopped h r = stopped_talks stopped h r
  reached_talks ReadFault stopped h r = waiting_talks h r
  reached_talks WriteFault stopped h r = either_talks h r
  reached_talks Memory stopped h r = either_talks h r

with_gone : (h own : History) → WithGone h own → AllByRecursion Talks h → AllByRecursion Talks own
with_gone h own w all = subst (λ x. AllByRecursion Talks x) (sym w.whole) (all_push Talks h w.gone all (is_so IsTalking w.gone.0.act Gone w.is_gone tt))

or_gone : (wanted : ℕ) (h own : History) → WithGone h own ⊎ ((own ≡ h) × (0 < wanted)) → AllByRecursion Talks h → AllByRecursion Talks own
or_gone wanted h own (inl w) all = with_gone h own w all
or_gone wanted h own (inr e) all = subst (λ x. AllByRecursion Talks x) (sym e.0) all

left_talks : (ended : Ended) (wanted : ℕ) (h own : History) → Leaves ended wanted h own → AllByRecursion Talks h → AllByRecursion Talks own
left_talks EndOfInput wanted h own l all = or_gone wanted h own l all
left_talks Closed wanted h own l all = with_gone h own l all
left_talks ReadFault wanted h own l all = or_gone wanted h own l all
left_talks WriteFault wanted h own l all = or_gone wanted h own l all
left_talks Memory wanted h own l all = or_gone wanted h own l all

pub talk_talks : ConversationsTalk
talk_talks limits stopped wanted pieces own out ended (inl t) = left_talks ended wanted t.entries own t.leaves (reached_talks limits pieces ended stopped t.entries t.reached)
talk_talks limits stopped wanted pieces own out ended (inr n) = subst (λ x. AllByRecursion Talks x) (sym n.no_own) tt

-- canonical spellings in a row begin with the first of them
pub begins_first : (limits : Limits) (c : Command) (rest : List ℕ) → IsWritable limits c → Begins limits (canonical c ++ rest) c rest
begins_first limits c rest w = record { front = canonical c; whole = refl; spells = canonical_spells limits c w }

-- no command stands in no bytes
nothing_begins : (limits : Limits) (command : Command) (rest : List ℕ) → Begins limits [] command rest → ⊥
nothing_begins limits command rest b =
    let s = b.spells in
    let whole = ap length b.whole in
    let parts = length-append b.front rest in
    let front = ap length s.whole in
    let line = length-append s.line (10 ∷ bytes_behind command) in
    absurd (omega (arith, whole, parts, front, line))

-- a row of commands in such spellings is the first of them
pub record IsFront (limits : Limits) (commands taken : List Command) (left : List ℕ) : Type 0 where
  pub behind : List Command
  pub whole : commands ≡ taken ++ behind
  pub left_is : left ≡ flat_map canonical behind
  pub writable : AllByRecursion (IsWritable limits) behind

pub row_front : (limits : Limits) {bytes left : List ℕ} {taken : List Command} (commands : List Command) → Row limits bytes taken left → bytes ≡ flat_map canonical commands → AllByRecursion (IsWritable limits) commands → IsFront limits commands taken left
row_front limits commands none e w = record { behind = commands; whole = refl; left_is = e; writable = w }
row_front limits [] (more {rest = rest} {command = d} b r) e w = absurd (nothing_begins limits d rest (subst (λ x. Begins limits x d rest) e b))
row_front limits (c ∷ cs) (more {rest = rest} {left = left} {command = d} {commands = ds} b r) e w =
    let here = begins_unique limits (subst (λ x. Begins limits x d rest) e b) (begins_first limits c (flat_map canonical cs) w.0) in
    let front = row_front limits cs r here.1 w.1 in
    record { behind = front.behind; whole = ap (λ x. c ∷ x) front.whole ∙ ap (λ x. x ∷ (ds ++ front.behind)) (sym here.0); left_is = front.left_is; writable = front.writable }

-- what stands behind the magic
pub behind_magic : (a b : List ℕ) → magic ++ a ≡ magic ++ b → a ≡ b
behind_magic a b e = (append_split magic magic a b refl e).1

pub after_magic : (bytes left after all : List ℕ) → bytes ++ left ≡ magic ++ all → bytes ≡ magic ++ after → after ++ left ≡ all
after_magic bytes left after all e f = behind_magic (after ++ left) all (sym (append_assoc magic after left) ∙ ap (λ x. x ++ left) (sym f) ∙ e)

from_front : (limits : Limits) (bytes : List ℕ) (taken commands : List Command) (left : List ℕ) → StandAtFront limits bytes taken → Spell limits commands bytes left → (behind : List Command) × (commands ≡ taken ++ behind)
from_front limits bytes taken commands left (no_commands e) s = (commands, ap (λ x. x ++ commands) (sym e))
from_front limits bytes taken commands left (in_row after rest e r) s =
    let f = row_front limits commands (row_more left r) (after_magic bytes left after (flat_map canonical commands) s.whole e) s.writable in (f.behind, f.whole)

pub gives_commands : CallersGiveTheirCommands
gives_commands limits stopped wanted pieces own out ended commands left talk s = from_front limits (bytes_of pieces) (commands_of own) commands left (talk_at_front limits stopped wanted pieces own out ended talk) s

-- where no more can be done, none stands behind
none_behind : (limits : Limits) (behind : List Command) (left : List ℕ) → AllByRecursion (IsWritable limits) behind → left ≡ flat_map canonical behind → IsUnfinished limits left → behind ≡ []
none_behind limits [] left w e u = refl
none_behind limits (c ∷ cs) left w e u =
    let same : Whole c (flat_map canonical cs) ≡ NotYet = judged_unique limits (begins_judged (begins_first limits c (flat_map canonical cs) w.0)) (subst (λ x. IsUnfinished limits x) e u) in
    absurd cc

from_script : (limits : Limits) (bytes : List ℕ) (taken commands : List Command) → IsScript limits bytes taken Unfinished → Spell limits commands bytes [] → taken ≡ commands
from_script limits bytes taken commands (open_magic few e f) s =
    let whole = ap length s.whole in
    let short = length-append bytes [] in
    let long = length-append magic (flat_map canonical commands) in
    absurd (omega (arith, few, whole, short, long))
from_script limits bytes taken commands (bad_magic h wrong e f) s = absurd cc
from_script limits bytes taken commands (good_magic {after = after} e t) s =
    let all : after ≡ flat_map canonical commands = sym (append-nil after) ∙ after_magic bytes [] after (flat_map canonical commands) s.whole e in
    let f = row_front limits commands t.row all s.writable in
    let none : f.behind ≡ [] = none_behind limits f.behind t.left f.writable f.left_is t.ends in
    sym (append-nil taken) ∙ ap (λ x. taken ++ x) (sym none) ∙ sym f.whole

pub gives_all : FinishedCallersGiveAll
gives_all limits stopped wanted pieces own out commands talk s = from_script limits (bytes_of pieces) (commands_of own) commands (talk_script limits stopped wanted pieces own out talk) s
