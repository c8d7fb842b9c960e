-- Lemmas for the reader: what is left at a place, and what is remembered.
use Rattle.std.proofs.Common.{◌≡◌, ◌≢◌, ℕ, ◌+◌, ◌-◌, ◌<◌, ◌≤◌, true, List, [], ◌∷◌, ◌++◌, length, take, drop, get_or, refl, sym, ap, ◌∙◌, subst, arith, length-append, length-drop, length-take, take-append-drop, ⊎_elim}
use Rattle.std.specs.Prelude.{◌==◌, zero, suc, slice_index}
use Rattle.std.proofs.lemmas.Bool.Decides.{nat_tests}
use Rattle.std.proofs.lemmas.List.{append-nil, drop-drop, get_or-drop, get_or-take, take_all}
use Rattle.std.proofs.lemmas.Bool.{cases_lt}
use Rattle.memchr.specs.Find.{Nowhere, NoneBefore, Passes, is_byte}
use Rattle.v2_frame.specs.declared.command.Command.{Command}
use Rattle.v2_frame.specs.declared.fault.Fault.{Fault}
use Rattle.v2_frame.specs.declared.fault.FaultKind.{FaultKind}
use Rattle.v2_frame.specs.declared.fault.FaultKind.TheVariants.{BadMagic, LineTooLong}
use Rattle.v2_frame.specs.declared.fault.Limits.{Limits}
use Rattle.v2_frame.specs.declared.fault.Rest.TheVariants as rest
use Rattle.v2_frame.specs.declared.got.Stage.{Stage}
use Rattle.v2_frame.specs.declared.got.Stage.TheVariants.{Opening, Commands, Failed}
use Rattle.v2_frame.specs.declared.judge.Found.TheVariants as found
use Rattle.v2_frame.specs.Heading.{Heading, IsWellNamed}
use Rattle.v2_frame.specs.Line.{HasNo, HasLine}
use Rattle.v2_frame.specs.Judging.{Unfinished, Judged, good_line, open_line, endless_line, Behind, open_size, open_body, HasHeading, HasSize, IsFault, IsUnfinished, Begins}
use Rattle.v2_frame.specs.Script.{magic, told_place, none, HasScript}
use Rattle.v2_frame.specs.Parts.{EndsLine, TakesSome, verdict_of}
use Rattle.v2_frame.specs.Reading.{LeftAt, ReadsMagic, Takes, Remembers}
use Rattle.v2_frame.proofs.LineLemmas.{no_line, line_unique, line_more}
use Rattle.v2_frame.proofs.SizeLemmas.{size_unique, size_long, size_more}
use Rattle.v2_frame.proofs.PlaceLemmas.{cut_at, HasNo_take}
use Rattle.v2_frame.proofs.VerdictLemmas.{judged_begins}
use Rattle.v2_frame.proofs.ScriptLemmas.{no_magic}

-- what is left where nothing more can be given yet
pub left_open : (stage : Stage) (limits : Limits) (place : ℕ) (pending : List ℕ) → stage ≡ Commands → IsUnfinished limits pending → LeftAt stage limits place pending [] rest.Unfinished
left_open stage limits place pending s unfinished =
    let there : HasScript limits place pending [] rest.Unfinished = record { left = pending; row = none; ends = unfinished } in
    subst (λ (x : Stage). LeftAt x limits place pending [] rest.Unfinished) (sym s) there

-- what is left where a fault stands
pub left_fault : (stage : Stage) (limits : Limits) (place : ℕ) (pending : List ℕ) (kind : FaultKind) (at told : ℕ) → stage ≡ Commands → IsFault limits pending kind at → told ≡ told_place (place + at)
    → LeftAt stage limits place pending [] (rest.Faulty (record { kind = kind; at = told }))
left_fault stage limits place pending kind at told s fault t =
    let there : HasScript limits place pending [] (rest.Faulty (record { kind = kind; at = told })) = record { left = pending; row = none; ends = (at, fault, omega arith) } in
    subst (λ (x : Stage). LeftAt x limits place pending [] (rest.Faulty (record { kind = kind; at = told }))) (sym s) there

-- what is left where another magic stands
pub left_magic : (stage : Stage) (limits : Limits) (place : ℕ) (pending : List ℕ) → stage ≡ Opening → 4 ≤ length pending → take 4 pending ≢ magic → LeftAt stage limits place pending [] (rest.Faulty (record { kind = BadMagic; at = 0 }))
left_magic stage limits place pending s long wrong =
    subst (λ (x : Stage). LeftAt x limits place pending [] (rest.Faulty (record { kind = BadMagic; at = 0 }))) (sym s) (no_magic limits pending [] long wrong refl)

-- what is left after a fault
pub left_failed : (stage : Stage) (limits : Limits) (place : ℕ) (pending : List ℕ) (fault : Fault) → stage ≡ Failed fault → LeftAt stage limits place pending [] (rest.Faulty fault)
left_failed stage limits place pending fault s =
    let there : LeftAt (Failed fault) limits place pending [] (rest.Faulty fault) = (refl, refl) in
    subst (λ (x : Stage). LeftAt x limits place pending [] (rest.Faulty fault)) (sym s) there

-- the magic at the front is read
pub reads_magic : (limits : Limits) (stage : Stage) (place start : ℕ) (slice items : List ℕ) → stage ≡ Opening → slice ≡ drop start items → take 4 slice ≡ magic
    → ReadsMagic (record { limits = limits; stage = stage; place = place; pending = drop start items }) (record { limits = limits; stage = Commands; place = 4; pending = drop (start + 4) items })
reads_magic limits stage place start slice items s e right =
    record {
      opening = s;
      begun = refl;
      limits = refl;
      place = refl;
      whole = sym (take-append-drop 4 (drop start items)) ∙ ap (λ (x : List ℕ). x ++ drop 4 (drop start items)) (ap (take 4) (sym e) ∙ right) ∙ ap (λ (x : List ℕ). magic ++ x) (drop-drop 4 start items);
    }

-- a command at the front is taken
pub takes_front : (limits : Limits) (stage : Stage) (place told taken start : ℕ) (slice items : List ℕ) (command : Command) → stage ≡ Commands → slice ≡ drop start items → Judged limits slice (verdict_of slice (found.Whole command taken))
    → TakesSome slice (found.Whole command taken) → told ≡ told_place (place + taken)
    → Takes (record { limits = limits; stage = stage; place = place; pending = drop start items }) (record { limits = limits; stage = stage; place = told; pending = drop (start + taken) items }) command
takes_front limits stage place told taken start slice items command s e judged some t =
    let after : drop taken slice ≡ drop (start + taken) items = ap (drop taken) e ∙ drop-drop taken start items in
    let begins : Begins limits slice command (drop taken slice) = judged_begins judged in
    record {
      stands = s;
      goes_on = s;
      limits = refl;
      begins = subst (λ (x : List ℕ). Begins limits x command (drop (start + taken) items)) e (subst (λ (x : List ℕ). Begins limits slice command x) after begins);
      place = omega (arith, some, ap length e, length-drop start items, length-drop (start + taken) items);
    }

-- what is unfinished as long as too few bytes are there is unfinished now
pub waited : (limits : Limits) (pending : List ℕ) (needed : ℕ) → ((more : List ℕ) → length (pending ++ more) < needed → IsUnfinished limits (pending ++ more)) → length pending < needed → IsUnfinished limits pending
waited limits pending needed waits few =
    subst (λ (x : List ℕ). IsUnfinished limits x) (append-nil pending) (waits [] (omega (arith, ap length (append-nil pending))))

-- a front without a line feed
pub no_first : (xs : List ℕ) (n : ℕ) → ((k : ℕ) → k < n → k < length xs → get_or xs k 0 ≢ 10) → HasNo 10 (take n xs)
no_first xs zero h = tt
no_first [] (suc n) h = tt
no_first (x ∷ xs) (suc n) h = (h 0 (omega arith) (omega arith), no_first xs n (λ k l m. h (suc k) (omega arith) (omega arith)))

no_at : (xs : List ℕ) (k d : ℕ) → HasNo 10 xs → k < length xs → get_or xs k d ≢ 10
no_at [] k d free l = absurd (omega arith)
no_at (x ∷ xs) zero d free l = free.0
no_at (x ∷ xs) (suc k) d free l = no_at xs k d free.1 (omega arith)

passes : (n : ℕ) → n ≡ 10 → (n == 10) ≡ true
passes n e = grind (arith, nat_tests)

passed : (n : ℕ) → (n == 10) ≡ true → n ≡ 10
passed n e = grind (arith, nat_tests)

-- the first line feed behind the bytes that were scanned
module _ (bytes slice : List ℕ) (scanned : ℕ) (within : scanned ≤ length bytes) (free : HasNo 10 (take scanned bytes)) (slice_is : slice ≡ drop scanned bytes) where
  scanned_at : (k : ℕ) → k < scanned → get_or bytes k 0 ≢ 10
  scanned_at k l e =
      no_at (take scanned bytes) k 0 free (simp length-take (omega arith)) (get_or-take scanned bytes k 0 l ∙ e)

  behind_at : (n : ℕ) → Nowhere (Passes (is_byte 10) slice) 0 n → (k : ℕ) → k < scanned + n → k < length bytes → get_or bytes k 0 ≢ 10
  behind_at n nowhere k l m e =
      ⊎_elim (λ (lt : k < scanned). scanned_at k lt e) (λ (le : scanned ≤ k). nowhere (k - scanned) (omega arith) (omega arith) (passes (slice_index slice (k - scanned)) (at k le ∙ e))) (cases_lt k scanned)
    where
      at : (k : ℕ) → scanned ≤ k → get_or slice (k - scanned) 0 ≡ get_or bytes k 0
      at k le = ap (λ (x : List ℕ). get_or x (k - scanned) 0) slice_is ∙ get_or-drop scanned bytes (k - scanned) 0 ∙ ap (λ (i : ℕ). get_or bytes i 0) (omega arith)

  pub first_some : (place : ℕ) → NoneBefore (Passes (is_byte 10) slice) 0 (length slice) place → Passes (is_byte 10) slice place → EndsLine bytes (scanned + place)
  first_some place before there =
      let l : scanned + place < length bytes = omega (arith, before.high, ap length slice_is, length-drop scanned bytes) in
      let same : get_or slice place 0 ≡ get_or bytes (scanned + place) 0 = ap (λ (x : List ℕ). get_or x place 0) slice_is ∙ get_or-drop scanned bytes place 0 in
      record { within = l; first = no_first bytes (scanned + place) (behind_at place before.before); whole = cut_at bytes (scanned + place) 10 l (sym same ∙ passed (get_or slice place 0) there) }

  pub first_none : Nowhere (Passes (is_byte 10) slice) 0 (length slice) → HasNo 10 bytes
  first_none nowhere =
      subst (λ (x : List ℕ). HasNo 10 x) (take_all (scanned + length slice) bytes (omega (arith, ap length slice_is, length-drop scanned bytes))) (no_first bytes (scanned + length slice) (behind_at (length slice) nowhere))

-- what is judged behind the first line of an unfinished command
record OpenBehind (limits : Limits) (bytes line rest : List ℕ) : Type 0 where
  heading : Heading
  is : HasHeading bytes line heading rest
  named : IsWellNamed heading
  behind : Behind limits heading rest Unfinished

open_behind : {limits : Limits} {bytes line rest : List ℕ} → HasLine bytes line rest → Judged limits bytes Unfinished → OpenBehind limits bytes line rest
open_behind h (open_line n few) = absurd (no_line n h)
open_behind {limits = limits} {bytes = bytes} {rest = r} h (good_line {line = l} {rest = x} {heading = heading} {verdict = Unfinished} k n b e) =
    let same = line_unique k.line_is h in
    subst (λ (y : List ℕ). OpenBehind limits bytes y r) same.0 (subst (λ (y : List ℕ). OpenBehind limits bytes l y) same.1 (record { heading = heading; is = k; named = n; behind = b }))
open_behind h (good_line k n b e) = cc

size_waits : {limits : Limits} {heading : Heading} {rest : List ℕ} (more : List ℕ) → length rest < 4 → length (rest ++ more) < 4 → Behind limits heading rest Unfinished → Behind limits heading (rest ++ more) Unfinished
size_waits more few less (open_size s l) = open_size s less
size_waits more few less (open_body s k fine cut) = absurd (omega (arith, size_long k))

body_waits : {limits : Limits} {heading : Heading} {rest after : List ℕ} {size : ℕ} (more : List ℕ) → HasSize rest size after → length (rest ++ more) < 4 + size → Behind limits heading rest Unfinished → Behind limits heading (rest ++ more) Unfinished
body_waits more h less (open_size s l) = absurd (omega (arith, size_long h))
body_waits more h less (open_body s k fine cut) = open_body s (size_more more k) fine (omega (arith, (size_unique h k).0, size_long (size_more more k)))

-- the command is unfinished as long as too few bytes stand behind its line
module _ (bytes : List ℕ) (end : ℕ) (ends : EndsLine bytes end) where
  line : HasLine bytes (take end bytes) (drop (end + 1) bytes)
  line = record { whole = ends.whole; first = ends.first }

  long : (more : List ℕ) → length (bytes ++ more) ≡ end + 1 + length (drop (end + 1) bytes ++ more)
  long more = omega (arith, ends.within, length-append bytes more, length-append (drop (end + 1) bytes) more, length-drop (end + 1) bytes)

  goes_on : {limits : Limits} (more : List ℕ) (o : OpenBehind limits bytes (take end bytes) (drop (end + 1) bytes)) → Behind limits o.heading (drop (end + 1) bytes ++ more) Unfinished → IsUnfinished limits (bytes ++ more)
  goes_on more o b = good_line (record { line_is = line_more more o.is.line_is; says = o.is.says }) o.named b refl

  pub waits_size : (slice : List ℕ) → slice ≡ drop (end + 1) bytes → length slice < 4 → (limits : Limits) → IsUnfinished limits bytes → (more : List ℕ) → length (bytes ++ more) < end + 5 → IsUnfinished limits (bytes ++ more)
  waits_size slice e few limits unfinished more less =
      let o = open_behind line unfinished in
      goes_on more o (size_waits more (omega (arith, ap length e)) (omega (arith, long more)) o.behind)

  pub waits_body : (slice after : List ℕ) (size : ℕ) → slice ≡ drop (end + 1) bytes → HasSize slice size after → (limits : Limits) → IsUnfinished limits bytes → (more : List ℕ) → length (bytes ++ more) < end + 5 + size → IsUnfinished limits (bytes ++ more)
  waits_body slice after size e h limits unfinished more less =
      let o = open_behind line unfinished in
      goes_on more o (body_waits more (subst (λ (x : List ℕ). HasSize x size after) e h) (omega (arith, long more)) o.behind)

-- bytes without a line feed: too few for a line that is too long, or enough
pub open_few : (limits : Limits) {bytes : List ℕ} → HasNo 10 bytes → length bytes < 16386 → IsUnfinished limits bytes
open_few limits n few = open_line n few

pub endless : (limits : Limits) (bytes slice : List ℕ) → slice ≡ bytes → HasNo 10 slice → 16386 ≤ length slice → IsFault limits bytes LineTooLong 0
endless limits bytes slice e n many =
    subst (λ (x : List ℕ). IsFault limits x LineTooLong 0) e
    (endless_line (record { whole = sym (take-append-drop 16386 slice); long = simp length-take (omega arith) }) (HasNo_take 10 16386 slice n))

-- what is remembered of an unfinished command whose line ends here
pub remembers_line : (limits : Limits) (items slice : List ℕ) (start end needed : ℕ) → slice ≡ drop start items → start ≤ length items → EndsLine slice end → IsUnfinished limits slice
    → ((limits : Limits) → IsUnfinished limits slice → (more : List ℕ) → length (slice ++ more) < needed → IsUnfinished limits (slice ++ more)) → Remembers limits items start end needed
remembers_line limits items slice start end needed e done line unfinished waits = record {
  done = done;
  scan = omega (arith, done, line.within, ap length e, length-drop start items);
  none = subst (λ (x : List ℕ). HasNo 10 (take end x)) e line.first;
  waits = subst (λ (x : List ℕ). (more : List ℕ) → length (x ++ more) < needed → IsUnfinished limits (x ++ more)) e (waits limits unfinished);
}

-- nothing is remembered behind a command that is done
pub remembers_none : (limits : Limits) (items : List ℕ) (start : ℕ) → start ≤ length items → Remembers limits items start 0 0
remembers_none limits items start done = record { done = done; scan = omega (arith, done); none = tt; waits = λ more few. absurd (omega (arith, few)) }
