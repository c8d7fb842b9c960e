-- Conversations in rounds against the scripts of their bytes.
use Rattle.std.proofs.Common.{◌≡◌, ◌⊎◌, inl, inr, ℕ, ◌<◌, Bool, true, false, List, [], ◌∷◌, ◌++◌, length, refl, sym, ap, subst, ◌∙◌, arith, append_assoc, Option, Some, None}
use Rattle.std.proofs.lemmas.List.{append-nil}
use Rattle.std.proofs.lemmas.Grind.{flat_map-append}
use Rattle.nsq_outside.specs.declared.journal.End.{End}
use Rattle.v2_frame.specs.declared.command.Command.{Command}
use Rattle.v2_frame.specs.declared.fault.Limits.{Limits}
use Rattle.v2_frame.specs.declared.fault.Rest.TheVariants.{Unfinished}
use Rattle.v2_frame.specs.declared.frame.Frame.{Frame}
use Rattle.v2_frame.specs.Judging.{Begins}
use Rattle.v2_frame.specs.Script.{magic, Row, none, more, IsScript, open_magic, good_magic}
use Rattle.v2_frame.proofs.VerdictLemmas.{begins_more}
use Rattle.broker_history.specs.declared.entry.Act.{Act}
use Rattle.broker_history.specs.declared.entry.Act.TheVariants.{Began, Did, Refused, Sent, Beat, Idle, Silent, Dropped, Gone, Asked, Listed, Ticked, Stop, Took, Copied, TimedOut, CameDue, HeldBack, Stuck}
use Rattle.broker_history.specs.declared.ended.Ended.{Ended}
use Rattle.broker_history.specs.declared.ended.Ended.TheVariants.{EndOfInput, Closed, ReadFault, WriteFault, Memory}
use Rattle.broker_history.specs.declared.entry.Entry.{Entry}
use Rattle.broker_history.specs.Entries.{History}
use Rattle.broker_history.specs.Talk.{Round, Sending, Reading, Doing, Going, began, sent, rested, spent, nothing, read, greet, did, done, NeedsMore, IsSending, IsRest, IsDid, ClosesBy, ClosesSending, ClosesDoing, IsOpen, IsWaiting, IsClosed, WithGone, Reaches, Leaves, Finishes, NeverBegins, IsTalk, bytes_of, command_in, commands_of}
use Rattle.broker_history.specs.Scripts.{StandAtFront, no_commands, in_row}

-- a row of commands stands at the front of more bytes too
Row-more : {limits : Limits} {bytes left : List ℕ} {commands : List Command} (after : List ℕ) → Row limits bytes commands left → Row limits (bytes ++ after) commands (left ++ after)
Row-more after none = none
Row-more after (more b r) = more (begins_more after b) (Row-more after r)

-- a row of commands and the one that stands behind it
Row-next : {limits : Limits} {bytes left rest : List ℕ} {commands : List Command} {command : Command} → Row limits bytes commands left → Begins limits left command rest → Row limits bytes (commands ++ command ∷ []) rest
Row-next none b = more b none
Row-next (more a r) b = more a (Row-next r b)

-- the commands of entries and of one more
commands_of-next : (h : History) (e : Entry × End) → commands_of (h ++ e ∷ []) ≡ commands_of h ++ command_in e.0.act
commands_of-next h e = flat_map-append (λ x. command_in x.0.act) h (e ∷ []) ∙ ap (λ x. commands_of h ++ x) (append-nil (command_in e.0.act))

-- the bytes of pieces and of one more
bytes_of-next : (pieces : List (List ℕ)) (piece : List ℕ) → bytes_of (pieces ++ piece ∷ []) ≡ bytes_of pieces ++ piece
bytes_of-next [] piece = append-nil piece
bytes_of-next (p ∷ ps) piece = ap (λ x. p ++ x) (bytes_of-next ps piece) ∙ sym (append_assoc p (bytes_of ps) piece)

-- what is sent, or rests, takes no command
sent_takes_none : (act : Act) → IsSending act → command_in act ≡ []
sent_takes_none (Sent m) s = refl
sent_takes_none Beat s = refl
sent_takes_none act s = absurd s

rest_takes_none : (act : Act) → IsRest act → command_in act ≡ []
rest_takes_none Idle s = refl
rest_takes_none (Stuck topic (Some channel)) s = refl
rest_takes_none act s = absurd s

-- entries and one that takes no command
same_commands : (h : History) (e : Entry × End) → command_in e.0.act ≡ [] → commands_of (h ++ e ∷ []) ≡ commands_of h
same_commands h e is = commands_of-next h e ∙ ap (λ x. commands_of h ++ x) is ∙ append-nil (commands_of h)

-- the commands of entries and of a Did
did_commands : (h : History) (e : Entry × End) (command : Command) (r : Option Frame) → e.0.act ≡ Did command r → commands_of (h ++ e ∷ []) ≡ commands_of h ++ command ∷ []
did_commands h e command r is = commands_of-next h e ∙ ap (λ x. commands_of h ++ command_in x) is

-- before the magic no command was taken, and all bytes are still there; behind it the commands taken stand in a row
unfoldable Tracks : Limits → List (List ℕ) → History → Bool → List ℕ → Type 0
Tracks limits pieces h false pending = (bytes_of pieces ≡ pending) × (commands_of h ≡ [])
Tracks limits pieces h true pending = (after : List ℕ) × (bytes_of pieces ≡ magic ++ after) × Row limits after (commands_of h) pending

tracks_same : (limits : Limits) (pieces : List (List ℕ)) (h : History) (greeted : Bool) (pending : List ℕ) (e : Entry × End) → command_in e.0.act ≡ [] → Tracks limits pieces h greeted pending → Tracks limits pieces (h ++ e ∷ []) greeted pending
unfolding Tracks
tracks_same limits pieces h false pending e is t = (t.0, same_commands h e is ∙ t.1)
tracks_same limits pieces h true pending e is t = (t.0, t.1, subst (λ x. Row limits t.0 x pending) (sym (same_commands h e is)) t.2)

tracks_read : (limits : Limits) (pieces : List (List ℕ)) (h : History) (greeted : Bool) (pending piece : List ℕ) → Tracks limits pieces h greeted pending → Tracks limits (pieces ++ piece ∷ []) h greeted (pending ++ piece)
unfolding Tracks
tracks_read limits pieces h false pending piece t = (bytes_of-next pieces piece ∙ ap (λ x. x ++ piece) t.0, t.1)
tracks_read limits pieces h true pending piece t = (t.0 ++ piece, bytes_of-next pieces piece ∙ ap (λ x. x ++ piece) t.1 ∙ append_assoc magic t.0 piece, Row-more piece t.2)

tracks_did : (limits : Limits) (pieces : List (List ℕ)) (h : History) (pending rest : List ℕ) (command : Command) (e : Entry × End) → Tracks limits pieces h true pending → Begins limits pending command rest → IsDid command e.0.act
    → Tracks limits pieces (h ++ e ∷ []) true rest
unfolding Tracks
tracks_did limits pieces h pending rest command e t b d = (t.0, t.1, subst (λ x. Row limits t.0 x rest) (sym (did_commands h e command d.0 d.1)) (Row-next t.2 b))

tracks_greet : (limits : Limits) (pieces : List (List ℕ)) (h : History) (pending rest : List ℕ) → Tracks limits pieces h false pending → pending ≡ magic ++ rest → Tracks limits pieces h true rest
unfolding Tracks
tracks_greet limits pieces h pending rest t e = (rest, t.0 ∙ e, subst (λ x. Row limits rest x rest) (sym t.1) none)

tracks_began : (limits : Limits) (e : Entry × End) → e.0.act ≡ Began → Tracks limits [] (e ∷ []) false []
unfolding Tracks
tracks_began limits e is = (refl, ap (λ x. command_in x ++ []) is)

-- what a conversation took stands in a row
tracks : {limits : Limits} {pieces : List (List ℕ)} {h : History} {greeted : Bool} {pending : List ℕ} {round : Round} → Going limits pieces h greeted pending round → Tracks limits pieces h greeted pending
tracks {limits = limits} (began e is) = tracks_began limits e is
tracks {limits = limits} (sent {pieces = ps} {h = h} {greeted = g} {pending = p} e going few is) = tracks_same limits ps h g p e (sent_takes_none e.0.act is) (tracks going)
tracks {limits = limits} (rested {pieces = ps} {h = h} {greeted = g} {pending = p} e going few is) = tracks_same limits ps h g p e (rest_takes_none e.0.act is) (tracks going)
tracks (spent going all) = tracks going
tracks (nothing going) = tracks going
tracks {limits = limits} (read {pieces = ps} {h = h} {greeted = g} {pending = p} piece going some few) = tracks_read limits ps h g p piece (tracks going)
tracks {limits = limits} (greet {pieces = ps} {h = h} {pending = p} {rest = rest} going e) = tracks_greet limits ps h p rest (tracks going) e
tracks {limits = limits} (did {pieces = ps} {h = h} {pending = p} {rest = rest} {command = command} e going b d stays) = tracks_did limits ps h p rest command e (tracks going) b d
tracks (done going needs) = tracks going

-- unless its round does what was read, nothing more can be done
abbrev Rests : Limits → Bool → List ℕ → Round → Type 0
Rests limits greeted pending (Sending k) = NeedsMore limits greeted pending
Rests limits greeted pending Reading = NeedsMore limits greeted pending
Rests limits greeted pending Doing = Unit {0}

rests : {limits : Limits} {pieces : List (List ℕ)} {h : History} {greeted : Bool} {pending : List ℕ} {round : Round} → Going limits pieces h greeted pending round → Rests limits greeted pending round
rests (began e is) = omega arith
rests (sent e going few is) = rests going
rests (rested e going few is) = rests going
rests (spent going all) = rests going
rests (nothing going) = rests going
rests (read piece going some few) = tt
rests (greet going e) = tt
rests (did e going b d stays) = tt
rests (done going needs) = needs

-- what is taken stands at the front
at_front : (limits : Limits) (pieces : List (List ℕ)) (h : History) (greeted : Bool) (pending : List ℕ) → Tracks limits pieces h greeted pending → StandAtFront limits (bytes_of pieces) (commands_of h)
unfolding Tracks
at_front limits pieces h false pending t = no_commands t.1
at_front limits pieces h true pending t = in_row t.0 pending t.1 t.2

open_at_front : (limits : Limits) (pieces : List (List ℕ)) (h : History) → IsOpen limits pieces h → StandAtFront limits (bytes_of pieces) (commands_of h)
open_at_front limits pieces h o = at_front limits pieces h o.greeted o.pending (tracks o.going)

waiting_open : {limits : Limits} {pieces : List (List ℕ)} {h : History} → IsWaiting limits pieces h → IsOpen limits pieces h
waiting_open w = record { greeted = w.greeted; pending = w.pending; round = Reading; going = w.going }

-- the entry that closes takes the command at the front, or none
doing_at_front : (limits : Limits) (pieces : List (List ℕ)) (h : History) (place : ℕ) (greeted : Bool) (pending : List ℕ) (e : Entry × End) (act : Act) (answer : Option Frame) → e.0.act ≡ act → Tracks limits pieces h greeted pending
    → ClosesDoing limits place greeted pending act answer → StandAtFront limits (bytes_of pieces) (commands_of (h ++ e ∷ []))
doing_at_front limits pieces h place greeted pending e (Did command r) answer is t c =
    let u : Tracks limits pieces h true pending = subst (λ x. Tracks limits pieces h x pending) c.0 t in
    at_front limits pieces (h ++ e ∷ []) true c.1 (tracks_did limits pieces h pending c.1 command e u c.2 (r, is))
doing_at_front limits pieces h place greeted pending e (Refused fault frame) answer is t c = at_front limits pieces (h ++ e ∷ []) greeted pending (tracks_same limits pieces h greeted pending e (ap command_in is) t)
doing_at_front limits pieces h place greeted pending e Dropped answer is t c = at_front limits pieces (h ++ e ∷ []) greeted pending (tracks_same limits pieces h greeted pending e (ap command_in is) t)
doing_at_front limits pieces h place greeted pending e act answer is t c = absurd c

closing_takes_none : (k : ℕ) (act : Act) → ClosesSending k act → command_in act ≡ []
closing_takes_none k Silent c = refl
closing_takes_none k Dropped c = refl
closing_takes_none k act c = absurd c

closing : (limits : Limits) (pieces : List (List ℕ)) (h : History) (place : ℕ) (greeted : Bool) (pending : List ℕ) (round : Round) (e : Entry × End) (answer : Option Frame) → Tracks limits pieces h greeted pending
    → ClosesBy limits place greeted pending round e.0.act answer → StandAtFront limits (bytes_of pieces) (commands_of (h ++ e ∷ []))
closing limits pieces h place greeted pending (Sending k) e answer t c = at_front limits pieces (h ++ e ∷ []) greeted pending (tracks_same limits pieces h greeted pending e (closing_takes_none k e.0.act c) t)
closing limits pieces h place greeted pending Reading e answer t c = absurd c
closing limits pieces h place greeted pending Doing e answer t c = doing_at_front limits pieces h place greeted pending e e.0.act answer refl t c

closed_at_front : (limits : Limits) (pieces : List (List ℕ)) (h : History) → IsClosed limits pieces h → StandAtFront limits (bytes_of pieces) (commands_of h)
closed_at_front limits pieces h k =
    subst (λ x. StandAtFront limits (bytes_of pieces) (commands_of x)) (sym k.whole) (closing limits pieces k.before _ k.greeted k.pending k.round k.last _ (tracks k.going) k.closes_by)

either_at_front : (limits : Limits) (pieces : List (List ℕ)) (h : History) → IsClosed limits pieces h ⊎ IsOpen limits pieces h → StandAtFront limits (bytes_of pieces) (commands_of h)
either_at_front limits pieces h (inl k) = closed_at_front limits pieces h k
either_at_front limits pieces h (inr o) = open_at_front limits pieces h o

stopped_at_front : (limits : Limits) (stopped : Bool) (pieces : List (List ℕ)) (h : History) → IsClosed limits pieces h ⊎ (IsOpen limits pieces h × (stopped ≡ true)) → StandAtFront limits (bytes_of pieces) (commands_of h)
stopped_at_front limits stopped pieces h (inl k) = closed_at_front limits pieces h k
stopped_at_front limits stopped pieces h (inr o) = open_at_front limits pieces h o.0

reached_at_front : (ended : Ended) (limits : Limits) (stopped : Bool) (pieces : List (List ℕ)) (h : History) → Reaches ended limits stopped pieces h → StandAtFront limits (bytes_of pieces) (commands_of h)
reached_at_front EndOfInput limits stopped pieces h r = open_at_front limits pieces h (waiting_open r)
reached_at_front Closed limits stopped pieces h r = stopped_at_front limits stopped pieces h r
reached_at_front ReadFault limits stopped pieces h r = open_at_front limits pieces h (waiting_open r)
reached_at_front WriteFault limits stopped pieces h r = either_at_front limits pieces h r
reached_at_front Memory limits stopped pieces h r = either_at_front limits pieces h r

-- a Gone takes no command
gone_commands : (h own : History) → WithGone h own → commands_of own ≡ commands_of h
gone_commands h own w = ap commands_of w.whole ∙ same_commands h w.gone (ap command_in w.is_gone)

or_gone : (wanted : ℕ) (h own : History) → WithGone h own ⊎ ((own ≡ h) × (0 < wanted)) → commands_of own ≡ commands_of h
or_gone wanted h own (inl w) = gone_commands h own w
or_gone wanted h own (inr e) = ap commands_of e.0

left_commands : (ended : Ended) (wanted : ℕ) (h own : History) → Leaves ended wanted h own → commands_of own ≡ commands_of h
left_commands EndOfInput wanted h own l = or_gone wanted h own l
left_commands Closed wanted h own l = gone_commands h own l
left_commands ReadFault wanted h own l = or_gone wanted h own l
left_commands WriteFault wanted h own l = or_gone wanted h own l
left_commands Memory wanted h own l = or_gone wanted h own l

-- the commands of a conversation are the first ones of its bytes
pub talk_at_front : (limits : Limits) (stopped : Bool) (wanted : ℕ) (pieces : List (List ℕ)) (own : History) (out : List ℕ) (ended : Ended) → IsTalk limits stopped wanted pieces own out ended → StandAtFront limits (bytes_of pieces) (commands_of own)
talk_at_front limits stopped wanted pieces own out ended (inl t) =
    subst (λ x. StandAtFront limits (bytes_of pieces) x) (sym (left_commands ended wanted t.entries own t.leaves)) (reached_at_front ended limits stopped pieces t.entries t.reached)
talk_at_front limits stopped wanted pieces own out ended (inr n) = no_commands (ap commands_of n.no_own)

-- a conversation that needs more took the whole script
waiting_script : (limits : Limits) (pieces : List (List ℕ)) (h : History) (greeted : Bool) (pending : List ℕ) → Tracks limits pieces h greeted pending → NeedsMore limits greeted pending → IsScript limits (bytes_of pieces) (commands_of h) Unfinished
unfolding Tracks
waiting_script limits pieces h false pending t few = open_magic (subst (λ x. length x < 4) (sym t.0) few) t.1 refl
waiting_script limits pieces h true pending t needs = good_magic t.1 (record { left = pending; row = t.2; ends = needs })

-- at the end of the input all commands of the bytes were taken
pub talk_script : (limits : Limits) (stopped : Bool) (wanted : ℕ) (pieces : List (List ℕ)) (own : History) (out : List ℕ) → IsTalk limits stopped wanted pieces own out EndOfInput → IsScript limits (bytes_of pieces) (commands_of own) Unfinished
talk_script limits stopped wanted pieces own out (inl t) =
    let w = t.reached in
    subst (λ x. IsScript limits (bytes_of pieces) x Unfinished) (sym (left_commands EndOfInput wanted t.entries own t.leaves)) (waiting_script limits pieces t.entries w.greeted w.pending (tracks w.going) (rests w.going))
talk_script limits stopped wanted pieces own out (inr n) = let e : EndOfInput ≡ Memory = n.memory in cc
