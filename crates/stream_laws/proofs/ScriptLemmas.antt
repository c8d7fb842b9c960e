-- Scripts of a stream and of more bytes of it.
use Rattle.std.proofs.Common.{◌≡◌, ℕ, ◌+◌, ◌-◌, List, [], ◌∷◌, ◌++◌, length, refl, sym, ap, ◌∙◌, subst, arith, length-append}
use Rattle.std.proofs.lemmas.List.{append-nil, nil_from_length}
use Rattle.v2_frame.specs.declared.command.Command.{Command}
use Rattle.v2_frame.specs.declared.fault.FaultKind.{FaultKind}
use Rattle.v2_frame.specs.declared.fault.Fault.{Fault}
use Rattle.v2_frame.specs.declared.fault.Limits.{Limits}
use Rattle.v2_frame.specs.declared.fault.Rest.{Rest}
use Rattle.v2_frame.specs.declared.fault.Rest.TheVariants as rest
use Rattle.v2_frame.specs.Judging.{Whole, Faulty, Unfinished, Begins}
use Rattle.v2_frame.specs.Script.{magic, Row, none, more, told_place, Ends, HasScript, IsScript, open_magic, bad_magic, good_magic}
use Rattle.stream_laws.specs.Laws.{GoesOn}
use Rattle.v2_frame.proofs.LineLemmas.{front_unique, front_more}
use Rattle.v2_frame.proofs.VerdictLemmas.{judged_unique, begins_judged, begins_unique, fault_more}
use Rattle.v2_frame.proofs.ScriptLemmas.{row_more, has_magic}

-- no whole command stands at the front
IsStopped : Limits → List ℕ → Type 0
IsStopped limits bytes = (command : Command) (left : List ℕ) → Begins limits bytes command left → ⊥

stopped : (limits : Limits) (place : ℕ) (bytes : List ℕ) (end : Rest) → Ends limits place bytes end → IsStopped limits bytes
unfolding IsStopped
stopped limits place bytes rest.Unfinished e command left b = let same : Unfinished ≡ Whole command left = judged_unique limits e (begins_judged b) in cc
stopped limits place bytes (rest.Faulty fault) e command left b = let same : Faulty fault.kind e.0 ≡ Whole command left = judged_unique limits e.1 (begins_judged b) in cc

-- one row goes on where another stops
record Onward (limits : Limits) (left : List ℕ) (commands longer : List Command) (end : List ℕ) : Type 0 where
  behind : List Command
  whole : longer ≡ commands ++ behind
  row : Row limits left behind end

onward : {limits : Limits} {bytes left end : List ℕ} {commands longer : List Command} → Row limits bytes commands left → Row limits bytes longer end → IsStopped limits end → Onward limits left commands longer end
unfolding IsStopped
onward none r s = record { behind = _; whole = refl; row = r }
onward (more b r) none s = absurd (s _ _ b)
onward {limits = limits} {end = end} (more {command = c} {commands = cs} b r) (more {command = d} {commands = ds} e q) s =
    let same = begins_unique limits b e in
    let next = onward r (subst (λ (x : List ℕ). Row limits x ds end) (sym same.1) q) s in
    record { behind = next.behind; whole = ap (λ (x : Command). x ∷ ds) (sym same.0) ∙ ap (λ (x : List Command). c ∷ x) next.whole; row = next.row }

-- where no command stands a row is empty
record IsNone (bytes : List ℕ) (commands : List Command) (end : List ℕ) : Type 0 where
  nothing : commands ≡ []
  all : end ≡ bytes

row_none : {limits : Limits} {bytes end : List ℕ} {commands : List Command} → IsStopped limits bytes → Row limits bytes commands end → IsNone bytes commands end
unfolding IsStopped
row_none s none = record { nothing = refl; all = refl }
row_none s (more b r) = absurd (s _ _ b)

same_fault : (f g : Fault) → f.kind ≡ g.kind → f.at ≡ g.at → f ≡ g
same_fault f g kind at =
    let make : FaultKind → ℕ → Fault = λ k n. record { kind = k; at = n } in
    ap (λ (k : FaultKind). make k f.at) kind ∙ ap (λ (n : ℕ). make g.kind n) at

ends_unique : (limits : Limits) (place : ℕ) (bytes : List ℕ) (a b : Rest) → Ends limits place bytes a → Ends limits place bytes b → a ≡ b
ends_unique limits place bytes rest.Unfinished rest.Unfinished d e = refl
ends_unique limits place bytes rest.Unfinished (rest.Faulty g) d e = let same : Unfinished ≡ Faulty g.kind e.0 = judged_unique limits d e.1 in cc
ends_unique limits place bytes (rest.Faulty f) rest.Unfinished d e = let same : Unfinished ≡ Faulty f.kind d.0 = judged_unique limits e d.1 in cc
ends_unique limits place bytes (rest.Faulty f) (rest.Faulty g) d e =
    let same : Faulty f.kind d.0 ≡ Faulty g.kind e.0 = judged_unique limits d.1 e.1 in
    let kind : f.kind ≡ g.kind = cc in
    let at : d.0 ≡ e.0 = cc in
    let told : f.at ≡ g.at = d.2 ∙ ap (λ (n : ℕ). told_place (place + n)) at ∙ sym e.2 in
    ap rest.Faulty (same_fault f g kind told)

-- a fault stands in more bytes too, at the same place of the stream
ends_more : (limits : Limits) (place : ℕ) (bytes after : List ℕ) (end : Rest) (fault : Fault) → end ≡ rest.Faulty fault → Ends limits place bytes end → Ends limits place (bytes ++ after) end
ends_more limits place bytes after rest.Unfinished fault e d = cc
ends_more limits place bytes after (rest.Faulty f) fault e d = (d.0, fault_more after d.1, d.2)

pub has_script_more : (limits : Limits) (place : ℕ) (bytes after : List ℕ) (commands longer : List Command) (end later : Rest) → HasScript limits place bytes commands end → HasScript limits place (bytes ++ after) longer later
    → GoesOn commands end longer later
has_script_more limits place bytes after commands longer end later s t =
    let o = onward (row_more after s.row) t.row (stopped limits (place + (length (bytes ++ after) - length t.left)) t.left later t.ends) in
    record { behind = o.behind; whole = o.whole; stays = λ fault e. still o fault e }
  where
    still : Onward limits (s.left ++ after) commands longer t.left → (fault : Fault) → end ≡ rest.Faulty fault → (longer ≡ commands) × (later ≡ end)
    still o fault e =
        let there : ℕ = place + (length bytes - length s.left) in
        let now : Ends limits there (s.left ++ after) end = ends_more limits there s.left after end fault e s.ends in
        let none = row_none (stopped limits there (s.left ++ after) end now) o.row in
        let here : there ≡ place + (length (bytes ++ after) - length t.left) = omega (arith, ap length none.all, length-append bytes after, length-append s.left after) in
        let same : Ends limits (place + (length (bytes ++ after) - length t.left)) t.left end =
        subst (λ (n : ℕ). Ends limits n t.left end) here (subst (λ (x : List ℕ). Ends limits there x end) (sym none.all) now) in
        (o.whole ∙ ap (λ (x : List Command). commands ++ x) none.nothing ∙ append-nil commands, ends_unique limits (place + (length (bytes ++ after) - length t.left)) t.left later end t.ends same)

-- the script of more bytes begins with the script of fewer, and a fault stays
pub script_more : (limits : Limits) (bytes after : List ℕ) (commands longer : List Command) (end later : Rest) → IsScript limits bytes commands end → IsScript limits (bytes ++ after) longer later → GoesOn commands end longer later
script_more limits bytes after commands longer end later (open_magic few e f) t =
    record { behind = longer; whole = ap (λ (x : List Command). x ++ longer) (sym e); stays = λ fault g. cc }
script_more limits bytes after commands longer end later (bad_magic {front = front} {after = x} h wrong e f) (open_magic few g k) =
    absurd (omega (arith, ap length h.whole, length-append front x, h.long, length-append bytes after))
script_more limits bytes after commands longer end later (bad_magic h wrong e f) (bad_magic k bad g i) =
    record { behind = []; whole = cc; stays = λ fault j. (g ∙ sym e, i ∙ sym f) }
script_more limits bytes after commands longer end later (bad_magic h wrong e f) (good_magic {after = y} g t) =
    absurd (wrong (front_unique (front_more after h) (has_magic (bytes ++ after) y g)).0)
script_more limits bytes after commands longer end later (good_magic {after = x} e s) (open_magic few g k) =
    absurd (omega (arith, ap length e, length-append magic x, length-append bytes after))
script_more limits bytes after commands longer end later (good_magic {after = x} e s) (bad_magic h wrong g k) =
    absurd (wrong (sym (front_unique (front_more after (has_magic bytes x e)) h).0))
script_more limits bytes after commands longer end later (good_magic {after = x} e s) (good_magic {after = y} g t) =
    let same : x ++ after ≡ y = (front_unique (front_more after (has_magic bytes x e)) (has_magic (bytes ++ after) y g)).1 in
    has_script_more limits 4 x after commands longer end later s (subst (λ (z : List ℕ). HasScript limits 4 z longer later) (sym same) t)

-- a stream has one script
pub script_unique : (limits : Limits) (bytes : List ℕ) (commands others : List Command) (end other : Rest) → IsScript limits bytes commands end → IsScript limits bytes others other → (commands ≡ others) × (end ≡ other)
script_unique limits bytes commands others end other s t =
    let more = script_more limits bytes [] commands others end other s (subst (λ (x : List ℕ). IsScript limits x others other) (sym (append-nil bytes)) t) in
    let less = script_more limits bytes [] others commands other end t (subst (λ (x : List ℕ). IsScript limits x commands end) (sym (append-nil bytes)) s) in
    let none : more.behind ≡ [] = nil_from_length more.behind (omega (arith, ap length more.whole, ap length less.whole, length-append commands more.behind, length-append others less.behind)) in
    (sym (append-nil commands) ∙ ap (λ (x : List Command). commands ++ x) (sym none) ∙ sym more.whole, same end other (λ f e. (more.stays f e).1) (λ f e. (less.stays f e).1))
  where
    same : (a b : Rest) → ((f : Fault) → a ≡ rest.Faulty f → b ≡ a) → ((f : Fault) → b ≡ rest.Faulty f → a ≡ b) → a ≡ b
    same rest.Unfinished rest.Unfinished p q = refl
    same rest.Unfinished (rest.Faulty g) p q = q g refl
    same (rest.Faulty f) b p q = sym (p f refl)
