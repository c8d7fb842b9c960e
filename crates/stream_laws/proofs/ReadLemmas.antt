-- A reader's answers and the script of all bytes that were fed.
use Rattle.std.proofs.Common.{◌≡◌, ℕ, ◌+◌, ◌-◌, ◌≤◌, List, [], ◌∷◌, ◌++◌, length, refl, sym, ap, ◌∙◌, subst, arith, append_assoc, length-append, inl, inr, ◌↔◌}
use Rattle.std.proofs.lemmas.List.{append-nil}
use Rattle.v2_frame.specs.declared.command.Command.{Command}
use Rattle.v2_frame.specs.declared.fault.Fault.{Fault}
use Rattle.v2_frame.specs.declared.fault.Limits.{Limits}
use Rattle.v2_frame.specs.declared.fault.Rest.{Rest}
use Rattle.v2_frame.specs.declared.fault.Rest.TheVariants as rest
use Rattle.v2_frame.specs.declared.got.Got.{Got}
use Rattle.v2_frame.specs.declared.got.Got.TheVariants as got
use Rattle.v2_frame.specs.declared.got.Stage.{Stage}
use Rattle.v2_frame.specs.declared.got.Stage.TheVariants.{Opening, Commands, Failed}
use Rattle.v2_frame.specs.Judging.{Begins}
use Rattle.v2_frame.specs.Script.{magic, Row, none, more, told_place, Ends, HasScript, IsScript, open_magic, bad_magic, good_magic}
use Rattle.v2_frame.specs.Reading.{Reading, LeftAt, IsLeft, fed, Starts, ReadsMagic, Takes, Fails, Gives, GivesNext}
use Rattle.stream_laws.specs.ReaderLaws.{HasReadAt, HasRead, given, Tells}
use Rattle.v2_frame.proofs.LineLemmas.{front_unique, front_more}
use Rattle.v2_frame.proofs.VerdictLemmas.{begins_unique, fault_more}
use Rattle.v2_frame.proofs.ScriptLemmas.{row_more, row_push, has_magic}
use Rattle.v2_frame.proofs.ReadLemmas.{starts_limits}
use Rattle.stream_laws.proofs.ScriptLemmas.{script_more, has_script_more}

row_le : {limits : Limits} {bytes left : List ℕ} {commands : List Command} → Row limits bytes commands left → length left ≤ length bytes
row_le none = omega arith
row_le (more {bytes = bytes} {rest = x} b r) = omega (arith, row_le r, ap length b.whole, length-append b.front x)

row_join : {limits : Limits} {bytes left end : List ℕ} {commands others : List Command} → Row limits bytes commands left → Row limits left others end → Row limits bytes (commands ++ others) end
row_join none q = q
row_join (more b r) q = more b (row_join r q)

-- where a fault is left, nothing else is
fault_alone : (stage : Stage) (limits : Limits) (place : ℕ) (pending : List ℕ) (fault : Fault) (commands : List Command) (end : Rest) → LeftAt stage limits place pending [] (rest.Faulty fault) → LeftAt stage limits place pending commands end
    → (commands ≡ []) × (end ≡ rest.Faulty fault)
fault_alone Opening limits place pending fault commands end f s =
    (script_more limits pending [] [] commands (rest.Faulty fault) end f (subst (λ (x : List ℕ). IsScript limits x commands end) (sym (append-nil pending)) s)).stays fault refl
fault_alone Commands limits place pending fault commands end f s =
    (has_script_more limits place pending [] [] commands (rest.Faulty fault) end f (subst (λ (x : List ℕ). HasScript limits place x commands end) (sym (append-nil pending)) s)).stays fault refl
fault_alone (Failed other) limits place pending fault commands end f s = (s.0, s.1 ∙ sym f.1)

-- the ending at a place, where the place is told
ends_told : (limits : Limits) (told place behind : ℕ) (bytes : List ℕ) (end : Rest) → told ≡ told_place place → Ends limits (told + behind) bytes end → Ends limits (place + behind) bytes end
ends_told limits told place behind bytes rest.Unfinished t e = e
ends_told limits told place behind bytes (rest.Faulty fault) t e = (e.0, e.1, omega (arith, e.2))

ends_back : (limits : Limits) (told place behind : ℕ) (bytes : List ℕ) (end : Rest) → told ≡ told_place place → Ends limits (place + behind) bytes end → Ends limits (told + behind) bytes end
ends_back limits told place behind bytes rest.Unfinished t e = e
ends_back limits told place behind bytes (rest.Faulty fault) t e = (e.0, e.1, omega (arith, e.2))

-- a fault of a script stays
faulty_more : (limits : Limits) (bytes piece : List ℕ) (commands : List Command) (fault : Fault) → IsScript limits bytes commands (rest.Faulty fault) → IsScript limits (bytes ++ piece) commands (rest.Faulty fault)
faulty_more limits bytes piece commands fault (open_magic few e f) = cc
faulty_more limits bytes piece commands fault (bad_magic h wrong e f) = bad_magic (front_more piece h) wrong e f
faulty_more limits bytes piece commands fault (good_magic {after = after} e s) =
    good_magic (ap (λ (x : List ℕ). x ++ piece) e ∙ append_assoc magic after piece) (record {
      left = s.left ++ piece;
      row = row_more piece s.row;
      ends = (s.ends.0, fault_more piece s.ends.1, omega (arith, s.ends.2, length-append after piece, length-append s.left piece, row_le s.row));
    })

fed_at : (stage : Stage) (limits : Limits) (place : ℕ) (pending bytes piece : List ℕ) (commands : List Command) → HasReadAt stage limits place pending bytes commands
    → HasRead (fed stage (record { limits = limits; stage = stage; place = place; pending = pending }) piece) (bytes ++ piece) commands
fed_at Opening limits place pending bytes piece commands h = (ap (λ (x : List ℕ). x ++ piece) h.0, h.1)
fed_at Commands limits place pending bytes piece commands h =
    record {
      after = h.after ++ piece;
      whole = ap (λ (x : List ℕ). x ++ piece) h.whole ∙ append_assoc magic h.after piece;
      row = row_more piece h.row;
      at = omega (arith, h.at, length-append h.after piece, length-append pending piece, row_le h.row);
    }
fed_at (Failed fault) limits place pending bytes piece commands h = faulty_more limits bytes piece commands fault h

-- a piece that is fed stands behind the bytes read so far
pub fed_read : (reader : Reading) (bytes piece : List ℕ) (commands : List Command) → HasRead reader bytes commands → HasRead (fed reader.stage reader piece) (bytes ++ piece) commands
fed_read reader bytes piece commands h = fed_at reader.stage reader.limits reader.place reader.pending bytes piece commands h

script_at : (stage : Stage) (limits : Limits) (place : ℕ) (pending bytes : List ℕ) (commands others : List Command) (end : Rest) → HasReadAt stage limits place pending bytes commands → LeftAt stage limits place pending others end
    → IsScript limits bytes (commands ++ others) end
script_at Opening limits place pending bytes commands others end h s =
    subst (λ (x : List Command). IsScript limits bytes (x ++ others) end) (sym h.1) (subst (λ (x : List ℕ). IsScript limits x others end) h.0 s)
script_at Commands limits place pending bytes commands others end h s =
    let told : Ends limits (4 + (length h.after - length pending) + (length pending - length s.left)) s.left end =
    ends_told limits place (4 + (length h.after - length pending)) (length pending - length s.left) s.left end h.at s.ends in
    let here : 4 + (length h.after - length pending) + (length pending - length s.left) ≡ 4 + (length h.after - length s.left) = omega (arith, row_le h.row, row_le s.row) in
    good_magic h.whole (record { left = s.left; row = row_join h.row s.row; ends = subst (λ (n : ℕ). Ends limits n s.left end) here told })
script_at (Failed fault) limits place pending bytes commands others end h s =
    let all : commands ≡ commands ++ others = sym (append-nil commands) ∙ ap (λ (x : List Command). commands ++ x) (sym s.0) in
    subst (λ (x : Rest). IsScript limits bytes (commands ++ others) x) (sym s.1) (subst (λ (x : List Command). IsScript limits bytes x (rest.Faulty fault)) all h)

-- the commands given so far and what is left are the script of all bytes that were fed
pub read_script : (reader : Reading) (bytes : List ℕ) (commands others : List Command) (end : Rest) → HasRead reader bytes commands → IsLeft reader others end → IsScript reader.limits bytes (commands ++ others) end
read_script reader bytes commands others end h s = script_at reader.stage reader.limits reader.place reader.pending bytes commands others end h s

-- reading the magic changes nothing of what was read
magic_read : (old new : Reading) (bytes : List ℕ) (commands : List Command) → ReadsMagic old new → HasRead old bytes commands → HasRead new bytes commands
magic_read old new bytes commands m h =
    let before : HasReadAt Opening old.limits old.place old.pending bytes commands = subst (λ (x : Stage). HasReadAt x old.limits old.place old.pending bytes commands) m.opening h in
    let row : Row new.limits new.pending commands new.pending = subst (λ (x : List Command). Row new.limits new.pending x new.pending) (sym before.1) none in
    let after : HasReadAt Commands new.limits new.place new.pending bytes commands = record { after = new.pending; whole = sym before.0 ∙ m.whole; row = row; at = omega (arith, m.place) } in
    subst (λ (x : Stage). HasReadAt x new.limits new.place new.pending bytes commands) (sym m.begun) after

starts_read : (old new : Reading) (bytes : List ℕ) (commands : List Command) → Starts old new → HasRead old bytes commands → HasRead new bytes commands
starts_read old new bytes commands (inl e) h = subst (λ (x : Reading). HasRead x bytes commands) (sym e) h
starts_read old new bytes commands (inr m) h = magic_read old new bytes commands m h

takes_read : (old new : Reading) (command : Command) (bytes : List ℕ) (commands : List Command) → Takes old new command → HasRead old bytes commands → HasRead new bytes (commands ++ command ∷ [])
takes_read old new command bytes commands t h =
    let before : HasReadAt Commands old.limits old.place old.pending bytes commands = subst (λ (x : Stage). HasReadAt x old.limits old.place old.pending bytes commands) t.stands h in
    let row : Row old.limits before.after (commands ++ command ∷ []) new.pending = row_push before.row t.begins in
    let shorter : length new.pending ≤ length old.pending = omega (arith, ap length t.begins.whole, length-append t.begins.front new.pending) in
    let after : HasReadAt Commands new.limits new.place new.pending bytes (commands ++ command ∷ []) = record {
      after = before.after;
      whole = before.whole;
      row = subst (λ (x : Limits). Row x before.after (commands ++ command ∷ []) new.pending) (sym t.limits) row;
      at = omega (arith, t.place, before.at, shorter, row_le before.row);
    } in
    subst (λ (x : Stage). HasReadAt x new.limits new.place new.pending bytes (commands ++ command ∷ [])) (sym t.goes_on) after

-- what an answer tells, where the limits are equal
pub tells_at : (limits other : Limits) (bytes : List ℕ) (commands : List Command) (got : Got) → limits ≡ other → Tells limits bytes commands got → Tells other bytes commands got
tells_at limits other bytes commands got e t = subst (λ (x : Limits). Tells x bytes commands got) e t

next_read : (old new : Reading) (answer : Got) (bytes : List ℕ) (commands : List Command) → GivesNext old new answer → HasRead old bytes commands → HasRead new bytes (commands ++ given answer) × Tells old.limits bytes commands answer
next_read old new (got.Whole command) bytes commands t h = (takes_read old new command bytes commands t h, tt)
next_read old new got.More bytes commands t h = (
  subst (λ (x : List Command). HasRead new bytes x) (sym (append-nil commands)) (subst (λ (x : Reading). HasRead x bytes commands) (sym t.1) h),
  subst (λ (x : List Command). IsScript old.limits bytes x rest.Unfinished) (append-nil commands) (read_script old bytes commands [] rest.Unfinished h t.0),
)
next_read old new (got.Fault fault) bytes commands t h =
    let script : IsScript old.limits bytes (commands ++ []) (rest.Faulty fault) = read_script old bytes commands [] (rest.Faulty fault) h t.left in
    let there : HasReadAt (Failed fault) new.limits new.place new.pending bytes (commands ++ []) = subst (λ (x : Limits). IsScript x bytes (commands ++ []) (rest.Faulty fault)) (sym t.limits) script in (
      subst (λ (x : Stage). HasReadAt x new.limits new.place new.pending bytes (commands ++ [])) (sym t.failed) there,
      subst (λ (x : List Command). IsScript old.limits bytes x (rest.Faulty fault)) (append-nil commands) script,
    )
next_read old new got.Memory bytes commands t h =
    (subst (λ (x : List Command). HasRead new bytes x) (sym (append-nil commands)) (subst (λ (x : Reading). HasRead x bytes commands) (sym t.2) h), tt)

-- what an answer does to what was read and given, and what it tells
pub given_read : (old new : Reading) (answer : Got) (bytes : List ℕ) (commands : List Command) → Gives old new answer → HasRead old bytes commands → HasRead new bytes (commands ++ given answer) × Tells old.limits bytes commands answer
given_read old new answer bytes commands g h =
    let both = next_read g.begun new answer bytes commands g.next (starts_read old g.begun bytes commands g.starts h) in
    (both.0, tells_at g.begun.limits old.limits bytes commands answer (starts_limits old g.begun g.starts) both.1)

-- what is left behind the magic is left before it
magic_left : (old new : Reading) (commands : List Command) (end : Rest) → ReadsMagic old new → IsLeft old commands end ↔ IsLeft new commands end
magic_left old new commands end m = (λ s. there (subst (λ (x : Stage). LeftAt x old.limits old.place old.pending commands end) m.opening s), back)
  where
    began : HasScript old.limits 4 new.pending commands end → IsLeft new commands end
    began s = subst (λ (x : Stage). LeftAt x new.limits new.place new.pending commands end) (sym m.begun)
        (subst (λ (n : ℕ). HasScript new.limits n new.pending commands end) (sym m.place) (subst (λ (x : Limits). HasScript x 4 new.pending commands end) (sym m.limits) s))

    there : IsScript old.limits old.pending commands end → IsLeft new commands end
    there (open_magic few e f) = absurd (omega (arith, ap length m.whole, length-append magic new.pending))
    there (bad_magic h wrong e f) = absurd (wrong (front_unique h (has_magic old.pending new.pending m.whole)).0)
    there (good_magic {after = after} e s) =
        began (subst (λ (x : List ℕ). HasScript old.limits 4 x commands end) (front_unique (has_magic old.pending after e) (has_magic old.pending new.pending m.whole)).1 s)

    back : IsLeft new commands end → IsLeft old commands end
    back s =
        let t : HasScript new.limits new.place new.pending commands end = subst (λ (x : Stage). LeftAt x new.limits new.place new.pending commands end) m.begun s in
        let u : HasScript old.limits 4 new.pending commands end = subst (λ (n : ℕ). HasScript old.limits n new.pending commands end) m.place (subst (λ (x : Limits). HasScript x new.place new.pending commands end) m.limits t) in
        subst (λ (x : Stage). LeftAt x old.limits old.place old.pending commands end) (sym m.opening) (good_magic m.whole u)

starts_left : (old new : Reading) (commands : List Command) (end : Rest) → Starts old new → IsLeft old commands end ↔ IsLeft new commands end
starts_left old new commands end (inl e) = (λ s. subst (λ (x : Reading). IsLeft x commands end) (sym e) s, λ s. subst (λ (x : Reading). IsLeft x commands end) e s)
starts_left old new commands end (inr m) = magic_left old new commands end m

-- a command at the front and what is left behind it
taken_left : (limits : Limits) (place told : ℕ) (bytes left : List ℕ) (command : Command) (commands : List Command) (end : Rest) → Begins limits bytes command left → told ≡ told_place (place + (length bytes - length left))
    → HasScript limits place bytes (command ∷ commands) end ↔ HasScript limits told left commands end
taken_left limits place told bytes left command commands end b t = (λ s. there s.left s.row s.ends, back)
  where
    shorter : length left ≤ length bytes
    shorter = omega (arith, ap length b.whole, length-append b.front left)

    there : (last : List ℕ) → Row limits bytes (command ∷ commands) last → Ends limits (place + (length bytes - length last)) last end → HasScript limits told left commands end
    there last (more {rest = x} d r) e =
        let row : Row limits left commands last = subst (λ (y : List ℕ). Row limits y commands last) (begins_unique limits d b).1 r in
        let here : place + (length bytes - length last) ≡ place + (length bytes - length left) + (length left - length last) = omega (arith, shorter, row_le row) in
        record { left = last; row = row; ends = ends_back limits told (place + (length bytes - length left)) (length left - length last) last end t (subst (λ (n : ℕ). Ends limits n last end) here e) }

    back : HasScript limits told left commands end → HasScript limits place bytes (command ∷ commands) end
    back s =
        let here : place + (length bytes - length left) + (length left - length s.left) ≡ place + (length bytes - length s.left) = omega (arith, shorter, row_le s.row) in
        record { left = s.left; row = more b s.row; ends = subst (λ (n : ℕ). Ends limits n s.left end) here (ends_told limits told (place + (length bytes - length left)) (length left - length s.left) s.left end t s.ends) }

takes_left : (old new : Reading) (command : Command) (commands : List Command) (end : Rest) → Takes old new command → IsLeft old (command ∷ commands) end ↔ IsLeft new commands end
takes_left old new command commands end t =
    let both = taken_left old.limits old.place new.place old.pending new.pending command commands end t.begins t.place in (
      λ s. subst (λ (x : Stage). LeftAt x new.limits new.place new.pending commands end) (sym t.goes_on) (subst (λ (x : Limits). HasScript x new.place new.pending commands end) (sym t.limits)
          (both.0 (subst (λ (x : Stage). LeftAt x old.limits old.place old.pending (command ∷ commands) end) t.stands s))),
      λ s. subst (λ (x : Stage). LeftAt x old.limits old.place old.pending (command ∷ commands) end) (sym t.stands)
          (both.1 (subst (λ (x : Limits). HasScript x new.place new.pending commands end) t.limits (subst (λ (x : Stage). LeftAt x new.limits new.place new.pending commands end) t.goes_on s))),
    )

fails_left : (old new : Reading) (fault : Fault) (commands : List Command) (end : Rest) → Fails old new fault → IsLeft old commands end ↔ IsLeft new commands end
fails_left old new fault commands end f =
    (λ s. subst (λ (x : Stage). LeftAt x new.limits new.place new.pending commands end) (sym f.failed) (fault_alone old.stage old.limits old.place old.pending fault commands end f.left s), back)
  where
    back : IsLeft new commands end → IsLeft old commands end
    back s =
        let both : LeftAt (Failed fault) new.limits new.place new.pending commands end = subst (λ (x : Stage). LeftAt x new.limits new.place new.pending commands end) f.failed s in
        subst (λ (x : List Command). IsLeft old x end) (sym both.0) (subst (λ (x : Rest). IsLeft old [] x) (sym both.1) f.left)

next_left : (old new : Reading) (answer : Got) (commands : List Command) (end : Rest) → GivesNext old new answer → IsLeft old (given answer ++ commands) end ↔ IsLeft new commands end
next_left old new (got.Whole command) commands end t = takes_left old new command commands end t
next_left old new got.More commands end t = (λ s. subst (λ (x : Reading). IsLeft x commands end) (sym t.1) s, λ s. subst (λ (x : Reading). IsLeft x commands end) t.1 s)
next_left old new (got.Fault fault) commands end t = fails_left old new fault commands end t
next_left old new got.Memory commands end t = (λ s. subst (λ (x : Reading). IsLeft x commands end) (sym t.2) s, λ s. subst (λ (x : Reading). IsLeft x commands end) t.2 s)

-- what was left is what is given and what is left then
pub given_left : (old new : Reading) (answer : Got) (commands : List Command) (end : Rest) → Gives old new answer → IsLeft old (given answer ++ commands) end ↔ IsLeft new commands end
given_left old new answer commands end g =
    let first = starts_left old g.begun (given answer ++ commands) end g.starts in
    let second = next_left g.begun new answer commands end g.next in
    (λ s. second.0 (first.0 s), λ s. first.1 (second.1 s))

-- after a fault each answer is that fault
starts_failed : (old new : Reading) (fault : Fault) → old.stage ≡ Failed fault → Starts old new → new.stage ≡ Failed fault
starts_failed old new fault f (inl e) = ap (λ (x : Reading). x.stage) e ∙ f
starts_failed old new fault f (inr m) = let opening : old.stage ≡ Opening = m.opening in cc

next_stays : (old new : Reading) (answer : Got) (fault : Fault) → old.stage ≡ Failed fault → GivesNext old new answer → (answer ≡ got.Fault fault) × (new.stage ≡ Failed fault)
next_stays old new (got.Whole command) fault f t = let stands : old.stage ≡ Commands = t.stands in cc
next_stays old new got.More fault f t =
    let left : LeftAt (Failed fault) old.limits old.place old.pending [] rest.Unfinished = subst (λ (x : Stage). LeftAt x old.limits old.place old.pending [] rest.Unfinished) f t.0 in
    let wrong : rest.Unfinished ≡ rest.Faulty fault = left.1 in cc
next_stays old new (got.Fault other) fault f t =
    let left : LeftAt (Failed fault) old.limits old.place old.pending [] (rest.Faulty other) = subst (λ (x : Stage). LeftAt x old.limits old.place old.pending [] (rest.Faulty other)) f t.left in
    let told : rest.Faulty other ≡ rest.Faulty fault = left.1 in
    let same : other ≡ fault = cc in
    (ap got.Fault same, t.failed ∙ ap Failed same)
next_stays old new got.Memory fault f t = let stands : old.stage ≡ Commands = t.0 in cc

pub fault_stays : (old new : Reading) (answer : Got) (fault : Fault) → old.stage ≡ Failed fault → Gives old new answer → (answer ≡ got.Fault fault) × (new.stage ≡ Failed fault)
fault_stays old new answer fault f g = next_stays g.begun new answer fault (starts_failed old g.begun fault f g.starts) g.next
