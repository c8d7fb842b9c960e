-- What every queue keeps when reading moves.
use Rattle.std.proofs.Common.{◌≡◌, ◌∙◌, ℕ, ◌+◌, ◌^◌, ◌<◌, ◌≤◌, ◌⊎◌, ◌↔◌, Bool, IsTrue, true, false, nat_le, nat_lt, List, Option, Some, None, IfSome, refl, sym, ap, subst, inl, inr, arith}
use Rattle.std.proofs.lemmas.Bool.{cases_lt, false≢true}
use Rattle.std.proofs.lemmas.Bool.Decides.{nat_tests}
use Rattle.queue_image.specs.Places.{IsOrdered}
use Rattle.queue_image.specs.declared.positions.Positions.{Positions}
use Rattle.disk_queue.specs.Seen.{Seen, next_file, behind, passed_over}
use Rattle.disk_queue.specs.Parts.{IsSound, IsAhead}
use Rattle.disk_queue.specs.Peeking.{PeekMakes, HeadFails}
use Rattle.disk_queue.specs.declared.queue.reading.Head.{Head}
use Rattle.disk_queue.specs.declared.queue.reading.Head.TheVariants.{Size, Short, Fault as HeadFault}
use Rattle.disk_queue.specs.declared.answers.Peek.{Peek}
use Rattle.disk_queue.specs.declared.answers.Peek.TheVariants.{Damaged}

-- the files came back from a call as they were
pub named_as : (q r : Seen) (name : List ℕ) → name ≡ q.name → q ≡ r → record q { name = name } ≡ r
named_as q r name same e = ap (λ (n : List ℕ). record q { name = n }) same ∙ e

pub sound_named : (q : Seen) (name : List ℕ) → IsSound q → IsSound (record q { name = name })
sound_named q name i = record {
  ordered = i.ordered;
  range = i.range;
  ahead = i.ahead;
  staged_file = i.staged_file;
  staged_at = i.staged_at;
  records = i.records;
  more = i.more;
  saved_range = i.saved_range;
  saved_read = i.saved_read;
  making = i.making;
  marked = i.marked;
  limit = i.limit;
}

-- a record that was read is marked
pub sound_marked : (q r : Seen) (name : List ℕ) (size n : ℕ) → q ≡ r → IsOrdered (behind r.positions size) → r.positions.read_at + 4 ≤ 2 ^ 62
    → (n ≡ 0) ⊎ (q.positions.read_at + 4 + n ≤ 2 ^ 62) → size ≤ n → IsSound q → IsSound (record q { name = name; mark = Some size })
sound_marked q r name size n e order place within all i =
    let start : q.positions.read_at + 4 ≤ 2 ^ 62 = subst (λ (x : Seen). x.positions.read_at + 4 ≤ 2 ^ 62) (sym e) place in
    record {
      ordered = i.ordered;
      range = i.range;
      ahead = i.ahead;
      staged_file = i.staged_file;
      staged_at = i.staged_at;
      records = i.records;
      more = i.more;
      saved_range = i.saved_range;
      saved_read = i.saved_read;
      making = i.making;
      marked = record {
        order = subst (λ (x : Seen). IsOrdered (behind x.positions size)) (sym e) order;
        range = elim within [ inl none ↦ omega (arith, none, all, start) | inr some ↦ omega (arith, some, all) ];
      };
      limit = i.limit;
    }

-- a file was passed over
pub passed_makes : (q p r : Seen) (answer : Peek) (size : ℕ) → p ≡ q → r ≡ passed_over p → answer ≡ Damaged p.positions.read_file p.positions.read_at size → PeekMakes q r answer
passed_makes q p r answer size e d is =
    subst (λ (x : Seen). PeekMakes x r answer) e (subst (λ (a : Peek). PeekMakes p r a) (sym is) (d, refl, refl))

-- four bytes that were read end in range
pub ends_within : (q r : Seen) (n : ℕ) → q ≡ r → n ≡ 4 → (n ≡ 0) ⊎ (q.positions.read_at + n ≤ 2 ^ 62) → r.positions.read_at + 4 ≤ 2 ^ 62
ends_within q r n e four within =
    subst (λ (x : Seen). x.positions.read_at + 4 ≤ 2 ^ 62) e (elim within [ inl none ↦ absurd (omega (arith, none, four)) | inr fits ↦ omega (arith, fits, four) ])

-- a fault in a later part is one in the call
pub head_later : (before mid now : ℕ) (head : Option Head) → before ≤ mid → IfSome head (HeadFails mid now) → IfSome head (HeadFails before now)
head_later before mid now None low fails = tt
head_later before mid now (Some (Size size)) low fails = tt
head_later before mid now (Some Short) low fails = tt
head_later before mid now (Some HeadFault) low fails = omega (arith, low, fails)

-- the next file is not above the write file
next_in_order : (p : Positions) → p.read_file < p.write_file → IsOrdered (next_file p)
next_in_order p lt =
    elim (cases_lt (p.read_file + 1) p.write_file) [ inl below ↦ inl below | inr past ↦ inr (omega (arith, lt, past), omega arith) ]

pub sound_turned : (q r : Seen) (name : List ℕ) → q ≡ r → r.mark ≡ None → r.positions.read_file < r.positions.write_file → IsSound q
    → IsSound (record q { name = name; positions = next_file q.positions })
sound_turned q r name e none lt i =
    let before : q.positions.read_file < q.positions.write_file = subst (λ (x : Seen). x.positions.read_file < x.positions.write_file) (sym e) lt in
    let unmarked : q.mark ≡ None = ap (λ (x : Seen). x.mark) e ∙ none in
    let range = i.range in
    let high = range.write_file in
    let saved = i.saved_read in
    record {
      ordered = next_in_order q.positions before;
      range = record { read_file = omega (arith, before, high); read_at = omega arith; write_file = range.write_file; write_at = range.write_at };
      ahead = i.ahead;
      staged_file = i.staged_file;
      staged_at = i.staged_at;
      records = i.records;
      more = i.more;
      saved_range = i.saved_range;
      saved_read = omega (arith, saved);
      making = i.making;
      marked = subst (λ (m : Option ℕ). IfSome m (IsAhead (next_file q.positions))) (sym unmarked) tt;
      limit = i.limit;
    }

-- a size that the queue takes, with room for its record
abbrev pub Takes : Seen → ℕ → Type 0
Takes q size = ((q.options.least ≤ size) × (size ≤ q.options.limit)) × IsOrdered (behind q.positions size)

leads : (a b : ℕ) → IsTrue (nat_le a b) → a ≤ b
leads a b h = grind (arith, nat_tests)

comes : (a b : ℕ) → a ≤ b → IsTrue (nat_le a b)
comes a b h = grind (arith, nat_tests)

runs : (a b : ℕ) → a < b → IsTrue (nat_lt a b)
runs a b h = grind (arith, nat_tests)

passes : (a b : ℕ) → nat_le b a ≡ false → a < b
passes a b h = grind (arith, nat_tests)

-- what two tests tell of a size
pub takes_size : (least limit size : ℕ) (v : Bool) → least ≤ size → v ≡ nat_le size limit → v ≡ true → (least ≤ size) × (size ≤ limit)
takes_size least limit size v low is told = (low, leads size limit (sym is ∙ told))

pub takes_low : (least size : ℕ) (v : Bool) → size < least → v ≡ nat_le least size → v ≡ true → ⊥
takes_low least size v low is told = let h = leads least size (sym is ∙ told) in omega arith

pub takes_great : (limit size : ℕ) (v : Bool) → v ≡ nat_le size limit → v ≡ false → limit < size
takes_great limit size v is told = passes limit size (sym is ∙ told)

-- in a file below the write file each does
pub takes_earlier : (p q : Seen) (size : ℕ) → p ≡ q → (p.options.least ≤ size) × (size ≤ p.options.limit) → p.positions.read_file < p.positions.write_file → IsTrue (nat_lt p.positions.read_file p.positions.write_file) ↔ Takes q size
takes_earlier p q size e sized earlier = subst (λ (x : Seen). IsTrue (nat_lt p.positions.read_file p.positions.write_file) ↔ Takes x size) e ((λ told. (sized, inl earlier)), (λ so. runs p.positions.read_file p.positions.write_file earlier))

-- in the write file one that ends before the write position
pub takes_here : (p q : Seen) (size : ℕ) → p ≡ q → (p.options.least ≤ size) × (size ≤ p.options.limit) → p.positions.write_file ≤ p.positions.read_file → IsOrdered p.positions
    → IsTrue (nat_le (p.positions.read_at + 4 + size) p.positions.write_at) ↔ Takes q size
takes_here p q size e sized last order = subst (λ (x : Seen). IsTrue (nat_le (p.positions.read_at + 4 + size) p.positions.write_at) ↔ Takes x size) e (
  (λ told. (sized, inr (same order, omega (arith, leads (p.positions.read_at + 4 + size) p.positions.write_at told)))),
  (λ so. comes (p.positions.read_at + 4 + size) p.positions.write_at (ends so.1)),
)
  where
    same : IsOrdered p.positions → p.positions.read_file ≡ p.positions.write_file
    same (inl earlier) = absurd (omega arith)
    same (inr at) = at.0

    ends : IsOrdered (behind p.positions size) → p.positions.read_at + 4 + size ≤ p.positions.write_at
    ends (inl earlier) = absurd (omega arith)
    ends (inr at) = omega (arith, at.1)

-- and none of another size
pub takes_none : (p q : Seen) (size : ℕ) → p ≡ q → (size < p.options.least) ⊎ (p.options.limit < size) → IsTrue false ↔ Takes q size
takes_none p q size e out = subst (λ (x : Seen). IsTrue false ↔ Takes x size) e ((λ told. absurd (false≢true told)), (λ so. absurd (never out so.0.0 so.0.1)))
  where
    never : (size < p.options.least) ⊎ (p.options.limit < size) → p.options.least ≤ size → size ≤ p.options.limit → ⊥
    never (inl small) least limit = omega arith
    never (inr great) least limit = omega arith
