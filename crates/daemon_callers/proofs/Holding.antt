-- A reader beside the bytes of a conversation that aren't done.
use Rattle.std.proofs.Common.{◌≡◌, ℕ, ◌+◌, ◌-◌, ◌<◌, ◌≤◌, Bool, true, false, List, [], ◌∷◌, ◌++◌, length, refl, sym, ap, subst, ◌∙◌, arith, append_assoc, length-append}
use Rattle.std.proofs.lemmas.List.{append-nil, append_cancel_left}
use Rattle.v2_frame.specs.declared.command.Command.{Command}
use Rattle.v2_frame.specs.declared.fault.Fault.{Fault}
use Rattle.v2_frame.specs.declared.fault.Limits.{Limits}
use Rattle.v2_frame.specs.declared.fault.Rest.{Rest}
use Rattle.v2_frame.specs.declared.fault.Rest.TheVariants as rest
use Rattle.v2_frame.specs.declared.got.Stage.{Stage}
use Rattle.v2_frame.specs.declared.got.Stage.TheVariants.{Opening, Commands, Failed}
use Rattle.v2_frame.specs.Judging.{IsUnfinished}
use Rattle.v2_frame.specs.declared.fault.FaultKind.TheVariants.{BadMagic}
use Rattle.v2_frame.specs.Script.{magic, told_place, Row, none, more, Ends, HasScript, open_magic, bad_magic, good_magic}
use Rattle.v2_frame.specs.Reading.{Reading, fed, LeftAt}
use Rattle.v2_frame.proofs.LineLemmas.{front_unique}
use Rattle.v2_frame.proofs.ScriptLemmas.{has_magic}
use Rattle.broker_history.specs.Entries.{History}
use Rattle.broker_history.specs.Talk.{Round, Doing, Going, began, sent, rested, spent, nothing, read, greet, did, done, NeedsMore, HasBadMagic, HasFault, bytes_of, place_of}
use Rattle.daemon_callers.specs.Sessions.{Holds}

-- the bytes of pieces and of one more
pub bytes_of-next : (pieces : List (List ℕ)) (piece : List ℕ) → bytes_of (pieces ++ piece ∷ []) ≡ bytes_of pieces ++ piece
bytes_of-next [] piece = append-nil piece
bytes_of-next (p ∷ ps) piece = ap (λ x. p ++ x) (bytes_of-next ps piece) ∙ sym (append_assoc p (bytes_of ps) piece)

-- a piece more leaves the place where it is
pub place_next : (pieces : List (List ℕ)) (pending piece : List ℕ) → place_of (pieces ++ piece ∷ []) (pending ++ piece) ≡ place_of pieces pending
place_next pieces pending piece = omega (arith, ap length (bytes_of-next pieces piece), length-append (bytes_of pieces) piece, length-append pending piece)

-- before the magic is read all bytes are still pending; behind it those at the end
abbrev pub Tracks : (greeted : Bool) → (bytes pending : List ℕ) → Type 0
Tracks false bytes pending = bytes ≡ pending
Tracks true bytes pending = (front : List ℕ) × (bytes ≡ front ++ pending)

tracks_read : (greeted : Bool) (pieces : List (List ℕ)) (pending piece : List ℕ) → Tracks greeted (bytes_of pieces) pending → Tracks greeted (bytes_of (pieces ++ piece ∷ [])) (pending ++ piece)
tracks_read false pieces pending piece t = bytes_of-next pieces piece ∙ ap (λ x. x ++ piece) t
tracks_read true pieces pending piece t = (t.0, bytes_of-next pieces piece ∙ ap (λ x. x ++ piece) t.1 ∙ append_assoc t.0 pending piece)

pub tracks : {limits : Limits} {pieces : List (List ℕ)} {h : History} {greeted : Bool} {pending : List ℕ} {round : Round} → Going limits pieces h greeted pending round → Tracks greeted (bytes_of pieces) pending
tracks (began e is) = refl
tracks (sent e going few is) = tracks going
tracks (rested e going few is) = tracks going
tracks (spent going all) = tracks going
tracks (nothing going) = tracks going
tracks (read {pieces = ps} {greeted = g} {pending = p} piece going some few) = tracks_read g ps p piece (tracks going)
tracks (greet going e) = (magic, tracks going ∙ e)
tracks (did {rest = rest} e going b is stays) = let t = tracks going in (t.0 ++ b.front, t.1 ∙ ap (λ x. t.0 ++ x) b.whole ∙ sym (append_assoc t.0 b.front rest))
tracks (done going needs) = tracks going

tracked_within : (greeted : Bool) (bytes pending : List ℕ) → Tracks greeted bytes pending → length pending ≤ length bytes
tracked_within false bytes pending t = omega (arith, ap length t)
tracked_within true bytes pending t = omega (arith, ap length t.1, length-append t.0 pending)

-- the bytes that aren't done are some of those that were read
pub pending_within : {limits : Limits} {pieces : List (List ℕ)} {h : History} {greeted : Bool} {pending : List ℕ} {round : Round} → Going limits pieces h greeted pending round → length pending ≤ length (bytes_of pieces)
pending_within {pieces = pieces} {greeted = greeted} {pending = pending} going = tracked_within greeted (bytes_of pieces) pending (tracks going)

-- the magic is done, and stands before the place
greet_place : (limits : Limits) (pieces : List (List ℕ)) (h : History) (pending rest : List ℕ) → Going limits pieces h false pending Doing → pending ≡ magic ++ rest → place_of pieces rest ≡ 4
greet_place limits pieces h pending rest going e = omega (arith, ap length (tracks going), ap length e, length-append magic rest)

holds_fed_at : (stage : Stage) (limits : Limits) (told place place' : ℕ) (held pending piece : List ℕ) (greeted : Bool) → Holds stage told held place greeted pending → place' ≡ place
    → let r = fed stage (record { limits = limits; stage = stage; place = told; pending = held }) piece in Holds r.stage r.place r.pending place' greeted (pending ++ piece)
holds_fed_at Opening limits told place place' held pending piece false h e = ap (λ x. x ++ piece) h
holds_fed_at Opening limits told place place' held pending piece true h e = (ap (λ x. x ++ piece) h.0 ∙ append_assoc magic pending piece, e ∙ h.1)
holds_fed_at Commands limits told place place' held pending piece greeted h e = (h.0, ap (λ x. x ++ piece) h.1, h.2 ∙ ap told_place (sym e))
holds_fed_at (Failed fault) limits told place place' held pending piece greeted h e = absurd h

-- a piece that is fed stands behind the bytes that aren't done
pub holds_fed : (reader : Reading) (place place' : ℕ) (pending piece : List ℕ) (greeted : Bool) → Holds reader.stage reader.place reader.pending place greeted pending → place' ≡ place
    → let r = fed reader.stage reader piece in Holds r.stage r.place r.pending place' greeted (pending ++ piece)
holds_fed reader place place' pending piece greeted h e = holds_fed_at reader.stage reader.limits reader.place place place' reader.pending pending piece greeted h e

-- where a conversation stands once the magic is read
pub record Greeted (limits : Limits) (pieces : List (List ℕ)) (h : History) (rest : List ℕ) : Type 0 where
  pub going : Going limits pieces h true rest Doing
  pub place : place_of pieces rest ≡ 4

-- the magic that stands at the front can be read
pub greeted : (limits : Limits) (pieces : List (List ℕ)) (h : History) (told : ℕ) (held pending rest : List ℕ) (known : Bool) → Going limits pieces h known pending Doing → Holds Opening told held (place_of pieces pending) known pending
    → held ≡ magic ++ rest → Greeted limits pieces h rest
greeted limits pieces h told held pending rest false going holds e =
    let there : pending ≡ magic ++ rest = sym holds ∙ e in
    record { going = greet going there; place = greet_place limits pieces h pending rest going there }
greeted limits pieces h told held pending rest true going holds e =
    let same : pending ≡ rest = append_cancel_left magic pending rest (sym holds.0 ∙ e) in
    record { going = subst (λ x. Going limits pieces h true x Doing) same going; place = ap (λ x. place_of pieces x) (sym same) ∙ holds.1 }

row_here : {limits : Limits} {bytes left : List ℕ} {commands : List Command} → Row limits bytes commands left → commands ≡ [] → left ≡ bytes
row_here none e = refl
row_here (more b r) e = absurd cc

ends_here : (limits : Limits) (told place : ℕ) (bytes : List ℕ) (end : Rest) → told ≡ told_place place → Ends limits told bytes end → Ends limits place bytes end
ends_here limits told place bytes rest.Unfinished t e = e
ends_here limits told place bytes (rest.Faulty fault) t e = (e.0, e.1, omega (arith, e.2, t))

-- the script of no commands ends where it begins
script_here : (limits : Limits) (told place : ℕ) (bytes : List ℕ) (end : Rest) → told ≡ told_place place → HasScript limits told bytes [] end → Ends limits place bytes end
script_here limits told place bytes end t s =
    let all : s.left ≡ bytes = row_here s.row refl in
    let here : told + (length bytes - length s.left) ≡ told = omega (arith, ap length all) in
    ends_here limits told place bytes end t (subst (λ x. Ends limits told x end) all (subst (λ n. Ends limits n s.left end) here s.ends))

-- the bytes that aren't done have this fault
pub record HasFaulty (limits : Limits) (pieces : List (List ℕ)) (h : History) (fault : Fault) : Type 0 where
  pub known : Bool
  pub pending : List ℕ
  pub going : Going limits pieces h known pending Doing
  pub faulty : HasFault limits (place_of pieces pending) known pending fault

greeted_fault : (limits : Limits) (pieces : List (List ℕ)) (h : History) (left : List ℕ) (fault : Fault) → Greeted limits pieces h left → HasScript limits 4 left [] (rest.Faulty fault) → HasFaulty limits pieces h fault
greeted_fault limits pieces h left fault g s =
    record { known = true; pending = left; going = g.going; faulty = script_here limits 4 (place_of pieces left) left (rest.Faulty fault) (omega (arith, g.place)) s }

magic_fault : (limits : Limits) (pieces : List (List ℕ)) (h : History) (told : ℕ) (held pending : List ℕ) (known : Bool) (fault : Fault) → Going limits pieces h known pending Doing
    → Holds Opening told held (place_of pieces pending) known pending → HasBadMagic held → fault ≡ record { kind = BadMagic; at = 0 } → HasFaulty limits pieces h fault
magic_fault limits pieces h told held pending false fault going holds bad is =
    record { known = false; pending = pending; going = going; faulty = (subst HasBadMagic holds bad, is) }
magic_fault limits pieces h told held pending true fault going holds bad is = absurd (bad.other (front_unique bad.has (has_magic held pending holds.0)).0)

-- a fault that is all that is left stands in the bytes that aren't done
pub fault_at : (stage : Stage) (limits : Limits) (pieces : List (List ℕ)) (h : History) (told : ℕ) (held pending : List ℕ) (known : Bool) (fault : Fault) → Going limits pieces h known pending Doing
    → Holds stage told held (place_of pieces pending) known pending → LeftAt stage limits told held [] (rest.Faulty fault) → HasFaulty limits pieces h fault
fault_at Opening limits pieces h told held pending known fault going holds (open_magic few e f) = absurd cc
fault_at Opening limits pieces h told held pending known fault going holds (bad_magic {front = front} {after = after} has wrong e f) =
    magic_fault limits pieces h told held pending known fault going holds (record { front = front; after = after; has = has; other = wrong }) cc
fault_at Opening limits pieces h told held pending known fault going holds (good_magic {after = after} e s) = greeted_fault limits pieces h after fault (greeted limits pieces h told held pending after known going holds e) s
fault_at Commands limits pieces h told held pending known fault going holds left =
    let ends : Ends limits (place_of pieces pending) held (rest.Faulty fault) = script_here limits told (place_of pieces pending) held (rest.Faulty fault) holds.2 left in
    record {
      known = true;
      pending = pending;
      going = subst (λ x. Going limits pieces h x pending Doing) holds.0 going;
      faulty = subst (λ x. Ends limits (place_of pieces pending) x (rest.Faulty fault)) holds.1 ends;
    }
fault_at (Failed other) limits pieces h told held pending known fault going holds left = absurd holds

-- nothing can be done with the bytes that aren't done
pub record Waits (stage : Stage) (limits : Limits) (pieces : List (List ℕ)) (h : History) (told : ℕ) (held : List ℕ) : Type 0 where
  pub known : Bool
  pub pending : List ℕ
  pub going : Going limits pieces h known pending Doing
  pub holds : Holds stage told held (place_of pieces pending) known pending
  pub needs_more : NeedsMore limits known pending

few_wait : (limits : Limits) (pieces : List (List ℕ)) (h : History) (told : ℕ) (held pending : List ℕ) (known : Bool) → Going limits pieces h known pending Doing → Holds Opening told held (place_of pieces pending) known pending
    → length held < 4 → Waits Opening limits pieces h told held
few_wait limits pieces h told held pending false going holds few = record { known = false; pending = pending; going = going; holds = holds; needs_more = subst (λ x. length x < 4) holds few }
few_wait limits pieces h told held pending true going holds few = absurd (omega (arith, ap length holds.0, length-append magic pending))

-- where nothing whole and no fault is left nothing can be done
pub waits_at : (stage : Stage) (limits : Limits) (pieces : List (List ℕ)) (h : History) (told : ℕ) (held pending : List ℕ) (known : Bool) → Going limits pieces h known pending Doing → Holds stage told held (place_of pieces pending) known pending
    → LeftAt stage limits told held [] rest.Unfinished → Waits stage limits pieces h told held
waits_at Opening limits pieces h told held pending known going holds (open_magic few e f) = few_wait limits pieces h told held pending known going holds few
waits_at Opening limits pieces h told held pending known going holds (bad_magic has wrong e f) = absurd cc
waits_at Opening limits pieces h told held pending known going holds (good_magic {after = after} e s) =
    let g = greeted limits pieces h told held pending after known going holds e in
    record { known = true; pending = after; going = g.going; holds = (e, g.place); needs_more = script_here limits 4 (place_of pieces after) after rest.Unfinished (omega (arith, g.place)) s }
waits_at Commands limits pieces h told held pending known going holds left =
    let ends = script_here limits told (place_of pieces pending) held rest.Unfinished holds.2 left in
    record {
      known = true;
      pending = pending;
      going = subst (λ x. Going limits pieces h x pending Doing) holds.0 going;
      holds = (refl, holds.1, holds.2);
      needs_more = subst (λ x. IsUnfinished limits x) holds.1 ends;
    }
waits_at (Failed other) limits pieces h told held pending known going holds left = absurd holds
