-- The steps of a conversation that goes on.
use Rattle.std.proofs.Common.{◌≡◌, ◌⊎◌, ℕ, ◌<◌, ◌≤◌, Bool, true, false, List, [], ◌∷◌, ◌++◌, length, take, refl, sym, ap, subst, ◌∙◌, arith, length-append, inl, inr, Option, Some, None, IsSome}
use Rattle.std.proofs.lemmas.List.{append-nil}
use Rattle.std.proofs.lemmas.Grind.{flat_map-append}
use Rattle.nsq_outside.specs.declared.journal.End.{End}
use Rattle.v2_frame.specs.declared.command.Command.{Command}
use Rattle.v2_frame.specs.declared.fault.Fault.{Fault}
use Rattle.v2_frame.specs.declared.fault.Limits.{Limits}
use Rattle.v2_frame.specs.declared.fault.Rest.TheVariants as rest
use Rattle.v2_frame.specs.declared.frame.Frame.{Frame}
use Rattle.v2_frame.specs.declared.got.Stage.TheVariants.{Commands}
use Rattle.v2_frame.specs.Judging.{Begins}
use Rattle.v2_frame.specs.Script.{told_place}
use Rattle.v2_frame.specs.Reading.{Reading, fresh, fed, LeftAt, IsLeft, Starts, ReadsMagic, Takes, Fails}
use Rattle.v2_frame.proofs.ReadLemmas.{fed_limits}
use Rattle.broker_history.specs.declared.entry.Act.{Act}
use Rattle.broker_history.specs.declared.entry.Act.TheVariants.{Began, Refused, Dropped, Idle, Stuck}
use Rattle.broker_history.specs.declared.entry.Entry.{Entry}
use Rattle.broker_history.specs.Entries.{History}
use Rattle.broker_history.specs.Reply.{answered, act_answered, answer_bytes, written_by, frames, closes_answer}
use Rattle.broker_history.specs.Talk.{Round, Sending, Reading as ToRead, Doing, Going, began, spent, nothing, read, did, done, IsDid, IsRest, ClosesBy, IsOpen, IsWaiting, IsClosed, IsCutShort, IsGivenUp, place_of, longest_piece, most_sent}
use Rattle.daemon_callers.specs.Outputs.{memory_bytes, WritesFirst}
use Rattle.daemon_callers.specs.Sessions.{Holds, InTalk}
use Rattle.daemon_callers.proofs.Holding.{place_next, pending_within, holds_fed, Greeted, greeted, HasFaulty, fault_at, Waits, waits_at}

-- the frames of entries and of one more
pub frames_next : (h : History) (e : Entry × End) → frames (h ++ e ∷ []) ≡ frames h ++ written_by e
frames_next h e = flat_map-append written_by h (e ∷ []) ∙ ap (λ x. frames h ++ x) (append-nil (written_by e))

-- what an entry that answers nothing adds: nothing
pub frames_same : (h : History) (e : Entry × End) → answered e ≡ None → frames (h ++ e ∷ []) ≡ frames h
frames_same h e none = frames_next h e ∙ ap (λ x. frames h ++ answer_bytes x) none ∙ append-nil (frames h)

-- a rest answers nothing
pub rest_answers : (act : Act) (end : End) → IsRest act → act_answered act end ≡ None
rest_answers Idle end is = refl
rest_answers (Stuck topic (Some channel)) end is = refl
rest_answers act end is = absurd is

-- a conversation in other words
pub moved : (limits : Limits) {pieces pieces' : List (List ℕ)} {own own' : History} {out out' : List ℕ} {reader reader' : Reading} {round : Round} → pieces' ≡ pieces → own' ≡ own → out' ≡ out → reader' ≡ reader
    → InTalk limits pieces own out reader round → InTalk limits pieces' own' out' reader' round
moved limits {pieces} {pieces'} {own} {own'} {out} {out'} {reader} {reader'} {round} p h o r i =
    subst (λ x. InTalk limits x own' out' reader' round) (sym p)
    (subst (λ x. InTalk limits pieces x out' reader' round) (sym h) (subst (λ x. InTalk limits pieces own x reader' round) (sym o) (subst (λ x. InTalk limits pieces own out x round) (sym r) i)))

-- it begins
pub began_talk : (limits : Limits) (e : Entry × End) → e.0.act ≡ Began → answered e ≡ None → InTalk limits [] (e ∷ []) [] (fresh limits) (Sending 0)
began_talk limits e is none = record { greeted = false; pending = []; going = began e is; limits_are = refl; holds = refl; all_out = sym (ap (λ x. answer_bytes x ++ []) none) }

-- the round's sendings are all made
pub spent_talk : (limits : Limits) {pieces : List (List ℕ)} {own : History} {out : List ℕ} {reader : Reading} (k : ℕ) → InTalk limits pieces own out reader (Sending k) → k ≡ most_sent → InTalk limits pieces own out reader ToRead
spent_talk limits k i all = record { greeted = i.greeted; pending = i.pending; going = spent i.going all; limits_are = i.limits_are; holds = i.holds; all_out = i.all_out }

-- nothing came
pub nothing_talk : (limits : Limits) {pieces : List (List ℕ)} {own : History} {out : List ℕ} {reader : Reading} → InTalk limits pieces own out reader ToRead → InTalk limits pieces own out reader (Sending 0)
nothing_talk limits i = record { greeted = i.greeted; pending = i.pending; going = nothing i.going; limits_are = i.limits_are; holds = i.holds; all_out = i.all_out }

-- a piece is read
pub fed_talk : (limits : Limits) (pieces : List (List ℕ)) (own : History) (out : List ℕ) (reader : Reading) (piece : List ℕ) → InTalk limits pieces own out reader ToRead → 0 < length piece → length piece ≤ longest_piece
    → InTalk limits (pieces ++ piece ∷ []) own out (fed reader.stage reader piece) Doing
fed_talk limits pieces own out reader piece i some few = record {
  greeted = i.greeted;
  pending = i.pending ++ piece;
  going = read piece i.going some few;
  limits_are = fed_limits reader piece ∙ i.limits_are;
  holds = holds_fed reader (place_of pieces i.pending) (place_of (pieces ++ piece ∷ []) (i.pending ++ piece)) i.pending piece i.greeted i.holds (place_next pieces i.pending piece);
  all_out = i.all_out;
}

magic_talk : (limits : Limits) (pieces : List (List ℕ)) (own : History) (out : List ℕ) (old begun : Reading) → InTalk limits pieces own out old Doing → ReadsMagic old begun → InTalk limits pieces own out begun Doing
magic_talk limits pieces own out old begun i m =
    let holds = subst (λ x. Holds x old.place old.pending (place_of pieces i.pending) i.greeted i.pending) m.opening i.holds in
    let g : Greeted limits pieces own begun.pending = greeted limits pieces own old.place old.pending i.pending begun.pending i.greeted i.going holds m.whole in
    let told : begun.place ≡ told_place (place_of pieces begun.pending) = omega (arith, m.place, g.place) in
    record {
      greeted = true;
      pending = begun.pending;
      going = g.going;
      limits_are = m.limits ∙ i.limits_are;
      holds = subst (λ x. Holds x begun.place begun.pending (place_of pieces begun.pending) true begun.pending) (sym m.begun) (refl, refl, told);
      all_out = i.all_out;
    }

-- the magic is read, or nothing changes
pub starts_talk : (limits : Limits) (pieces : List (List ℕ)) (own : History) (out : List ℕ) (old begun : Reading) → InTalk limits pieces own out old Doing → Starts old begun → InTalk limits pieces own out begun Doing
starts_talk limits pieces own out old begun i (inl e) = subst (λ x. InTalk limits pieces own out x Doing) (sym e) i
starts_talk limits pieces own out old begun i (inr m) = magic_talk limits pieces own out old begun i m

-- where the reader has read the magic, all that it holds isn't done, and it knows the place
record AtCommands (limits : Limits) (pieces : List (List ℕ)) (own : History) (reader : Reading) : Type 0 where
  going : Going limits pieces own true reader.pending Doing
  told : reader.place ≡ told_place (place_of pieces reader.pending)

at_commands : (limits : Limits) (pieces : List (List ℕ)) (own : History) (out : List ℕ) (reader : Reading) → InTalk limits pieces own out reader Doing → reader.stage ≡ Commands → AtCommands limits pieces own reader
at_commands limits pieces own out reader i stands =
    let h = subst (λ x. Holds x reader.place reader.pending (place_of pieces i.pending) i.greeted i.pending) stands i.holds in
    record {
      going = subst (λ x. Going limits pieces own true x Doing) (sym h.1) (subst (λ x. Going limits pieces own x i.pending Doing) h.0 i.going);
      told = h.2 ∙ ap (λ x. told_place (place_of pieces x)) (sym h.1);
    }

module _ (limits : Limits) (pieces : List (List ℕ)) (own : History) (out : List ℕ) (begun new : Reading) (command : Command) (i : InTalk limits pieces own out begun Doing) (t : Takes begun new command) where
  at : AtCommands limits pieces own begun
  at = at_commands limits pieces own out begun i t.stands

  begins : Begins limits begun.pending command new.pending
  begins = subst (λ x. Begins x begun.pending command new.pending) i.limits_are t.begins

  told : new.place ≡ told_place (place_of pieces new.pending)
  told = omega (arith, t.place, at.told, pending_within at.going, ap length t.begins.whole, length-append t.begins.front new.pending)

  -- a command is done, and its answer doesn't close
  pub did_open : (e : Entry × End) → IsDid command e.0.act → closes_answer (answered e) ≡ false → InTalk limits pieces (own ++ e ∷ []) (out ++ written_by e) new Doing
  did_open e is stays = record {
    greeted = true;
    pending = new.pending;
    going = did e at.going begins is stays;
    limits_are = t.limits ∙ i.limits_are;
    holds = subst (λ x. Holds x new.place new.pending (place_of pieces new.pending) true new.pending) (sym t.goes_on) (refl, refl, told);
    all_out = ap (λ x. x ++ written_by e) i.all_out ∙ sym (frames_next own e);
  }

  -- a command is done, and its answer closes
  pub did_closed : (e : Entry × End) → IsDid command e.0.act → closes_answer (answered e) ≡ true → IsClosed limits pieces (own ++ e ∷ [])
  did_closed e is closes = record {
    greeted = true;
    pending = begun.pending;
    round = Doing;
    before = own;
    last = e;
    whole = refl;
    going = at.going;
    closes_by = subst (λ x. ClosesBy limits (place_of pieces begun.pending) true begun.pending Doing x (answered e)) (sym is.1) (refl, new.pending, begins, closes);
  }

  -- in either case it is open or closed
  pub did_reached : (e : Entry × End) → IsDid command e.0.act → (b : Bool) → closes_answer (answered e) ≡ b → IsClosed limits pieces (own ++ e ∷ []) ⊎ IsOpen limits pieces (own ++ e ∷ [])
  did_reached e is true c = inl (did_closed e is c)
  did_reached e is false c = let o = did_open e is c in inr (record { greeted = o.greeted; pending = o.pending; round = Doing; going = o.going })

  -- a command met a deleted channel
  pub dropped_doing : (e : Entry × End) → e.0.act ≡ Dropped → IsClosed limits pieces (own ++ e ∷ [])
  dropped_doing e is = record {
    greeted = true;
    pending = begun.pending;
    round = Doing;
    before = own;
    last = e;
    whole = refl;
    going = at.going;
    closes_by = subst (λ x. ClosesBy limits (place_of pieces begun.pending) true begun.pending Doing x (answered e)) (sym is) (refl, command, new.pending, begins);
  }

-- it goes on
pub talk_open : {limits : Limits} {pieces : List (List ℕ)} {own : History} {out : List ℕ} {reader : Reading} {round : Round} → InTalk limits pieces own out reader round → IsOpen limits pieces own
talk_open {round = round} i = record { greeted = i.greeted; pending = i.pending; round = round; going = i.going }

-- it is to read
pub talk_waits : {limits : Limits} {pieces : List (List ℕ)} {own : History} {out : List ℕ} {reader : Reading} → InTalk limits pieces own out reader ToRead → IsWaiting limits pieces own
talk_waits i = record { greeted = i.greeted; pending = i.pending; going = i.going }

-- nothing whole and no fault is left: the next round begins
pub done_talk : (limits : Limits) (pieces : List (List ℕ)) (own : History) (out : List ℕ) (reader : Reading) → InTalk limits pieces own out reader Doing → IsLeft reader [] rest.Unfinished → InTalk limits pieces own out reader (Sending 0)
done_talk limits pieces own out reader i left =
    let here = subst (λ x. LeftAt reader.stage x reader.place reader.pending [] rest.Unfinished) i.limits_are left in
    let w : Waits reader.stage limits pieces own reader.place reader.pending = waits_at reader.stage limits pieces own reader.place reader.pending i.pending i.greeted i.going i.holds here in
    record { greeted = w.known; pending = w.pending; going = done w.going w.needs_more; limits_are = i.limits_are; holds = w.holds; all_out = i.all_out }

-- a fault is all that is left, and is refused
pub refused_closed : (limits : Limits) (pieces : List (List ℕ)) (own : History) (out : List ℕ) (begun new : Reading) (fault : Fault) (frame : Frame) (e : Entry × End) → InTalk limits pieces own out begun Doing → Fails begun new fault
    → e.0.act ≡ Refused fault frame → IsClosed limits pieces (own ++ e ∷ [])
refused_closed limits pieces own out begun new fault frame e i f is =
    let here = subst (λ x. LeftAt begun.stage x begun.place begun.pending [] (rest.Faulty fault)) i.limits_are f.left in
    let h : HasFaulty limits pieces own fault = fault_at begun.stage limits pieces own begun.place begun.pending i.pending i.greeted fault i.going i.holds here in
    record {
      greeted = h.known;
      pending = h.pending;
      round = Doing;
      before = own;
      last = e;
      whole = refl;
      going = h.going;
      closes_by = subst (λ x. ClosesBy limits (place_of pieces h.pending) h.known h.pending Doing x (answered e)) (sym is) h.faulty;
    }

-- the frame for want of memory, in part, behind all answers
pub given_up : (own : History) (out out' : List ℕ) → out ≡ frames own → WritesFirst memory_bytes out out' → IsGivenUp own out'
given_up own out out' all w = record { written = own; whole = inl refl; count = w.0; out_is = w.1 ∙ ap (λ x. x ++ take w.0 memory_bytes) all }

-- or in the place of the last one
pub given_up_last : (own : History) (e : Entry × End) (out out' : List ℕ) → out ≡ frames own → WritesFirst memory_bytes out out' → IsGivenUp (own ++ e ∷ []) out'
given_up_last own e out out' all w = record { written = own; whole = inr (e, refl); count = w.0; out_is = w.1 ∙ ap (λ x. x ++ take w.0 memory_bytes) all }

-- the last answer in part
pub cut_short : (own : History) (e : Entry × End) (frame : Frame) (out out' : List ℕ) → out ≡ frames own → answered e ≡ Some frame → WritesFirst (answer_bytes (Some frame)) out out' → IsCutShort (own ++ e ∷ []) out'
cut_short own e frame out out' all is w = record {
  before = own;
  last = e;
  whole = refl;
  is_answer = subst (λ (x : Option Frame). IsSome x) (sym is) refl;
  count = w.0;
  written = w.1 ∙ ap (λ x. x ++ take w.0 (answer_bytes (Some frame))) all ∙ ap (λ x. frames own ++ take w.0 (answer_bytes x)) (sym is);
}
