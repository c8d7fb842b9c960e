-- What a peek changes and gives.
use Rattle.std.proofs.Common.{◌≡◌, ◌∙◌, ℕ, ◌+◌, ◌-◌, ◌^◌, ◌<◌, ◌≤◌, Bool, true, false, nat_lt, if◌then◌else◌, List, [], ◌∷◌, ◌++◌, length, take, drop, Option, Some, None, IfSome, sym, ap, subst, refl, inl, inr, arith, append_assoc, length-append, length-take, take-append-drop}
use Rattle.std.proofs.lemmas.List.{drop_at, nil_from_length}
use Rattle.nsq_outside.specs.Files.{Files, SameFiles}
use Rattle.queue_image.specs.FileNames.{data_file, meta_file}
use Rattle.queue_image.specs.Records.{HasRecord, record_bytes, IsSize, size_read}
use Rattle.queue_image.specs.Places.{IsOrdered, part_end}
use Rattle.queue_image.specs.Between.{content, Between, Reads}
use Rattle.queue_image.specs.Between.Reads.{arrives, takes, turns}
use Rattle.queue_image.specs.declared.positions.Positions.{Positions}
use Rattle.queue_image.proofs.RowLemmas.{length-record, size_read-record}
use Rattle.queue_image.proofs.Reading.{in_order, same_at, record_ends}
use Rattle.queue_image.proofs.Lists.{empty_at_end, list_is_ordered}
use Rattle.disk_queue.specs.Seen.{Seen, unmarked, next_file, behind, reading_at, marked, emptied, passed_over}
use Rattle.disk_queue.specs.Holding.{Holds, IsNext, SaveStands}
use Rattle.disk_queue.specs.Reading.{Turns, left_of, IsDamage, IsUnreadable, PeekSeen, PeekSize, PeekReads, PeekGives, PeekFails, stood}
use Rattle.disk_queue.specs.Reading.IsUnreadable.{short, wrong, passing}
use Rattle.disk_queue.specs.Peeking.{PeekMakes, HeadFinds, FileFinds, FindCounts, HeadCounts, HeadEnds, HeadFails}
use Rattle.disk_queue.specs.Parts.{IsSound}
use Rattle.disk_queue.specs.declared.queue.reading.Head.{Head}
use Rattle.queue_opening.specs.QueueOptions.{QueueOptions}
use Rattle.disk_queue.specs.declared.answers.Peek.{Peek}
use Rattle.disk_queue.specs.declared.answers.Peek.TheVariants.{Got, Empty, Fault, Damaged}
use Rattle.disk_queue.proofs.Kept.{stands_kept}
use Rattle.disk_queue.proofs.Others.{holding_keeps}
use Rattle.disk_queue.proofs.Peeks.{left_begins, left_before, left_most}
use Rattle.disk_queue.proofs.Turning.{between_turned, finds_same, reads_same}

-- the value that reading, and then the answer, made of the queue
pub peek_seen : (q u f r : Seen) (answer : Peek) → u ≡ unmarked q → f ≡ reading_at u f.positions.read_file f.positions.read_at → PeekMakes f r answer → PeekSeen q r answer
peek_seen q u f r answer e d made = go f.positions.read_file f.positions.read_at (d ∙ ap (λ (x : Seen). reading_at x f.positions.read_file f.positions.read_at) e) answer made
  where
    go : (a b : ℕ) → f ≡ reading_at (unmarked q) a b → (answer : Peek) → PeekMakes f r answer → PeekSeen q r answer
    go a b is (Got n) made =
        subst (λ (x : Seen). x ≡ marked (reading_at q x.positions.read_file x.positions.read_at) n) (sym (made ∙ ap (λ (x : Seen). marked x n) is)) refl
    go a b is Empty made =
        subst (λ (x : Seen). x ≡ record (unmarked (reading_at q x.positions.read_file x.positions.read_at)) { depth = 0 }) (sym (made ∙ ap (λ (x : Seen). record x { depth = 0 }) is)) refl
    go a b is Fault made = subst (λ (x : Seen). x ≡ unmarked (reading_at q x.positions.read_file x.positions.read_at)) (sym (made ∙ is)) refl
    go a b is (Damaged file at size) made =
        made.0 ∙ ap (λ (x : Seen). passed_over x) is
        ∙ ap (λ (k : ℕ). passed_over (reading_at q k b)) (sym (made.1 ∙ ap (λ (x : Seen). x.positions.read_file) is))
        ∙ ap (λ (k : ℕ). passed_over (reading_at q file k)) (sym (made.2 ∙ ap (λ (x : Seen). x.positions.read_at) is))

-- where reading stood
pub peek_stood : (f r : Seen) (answer : Peek) → PeekMakes f r answer → stood r.positions answer ≡ f.positions
peek_stood f r (Got n) made = ap (λ (x : Seen). x.positions) made
peek_stood f r Empty made = ap (λ (x : Seen). x.positions) made
peek_stood f r Fault made = ap (λ (x : Seen). x.positions) made
peek_stood f r (Damaged file at size) made =
    ap (λ (x : Seen). record (x.positions) { read_file = file; read_at = at }) made.0 ∙ ap (λ (k : ℕ). record ((passed_over f).positions) { read_file = k; read_at = at }) made.1
    ∙ ap (λ (k : ℕ). record ((passed_over f).positions) { read_file = f.positions.read_file; read_at = k }) made.2 ∙ go (nat_lt f.positions.read_file f.positions.write_file)
  where
    go : (b : Bool)
        → record ((if b then record f { positions = next_file f.positions; mark = None } else emptied f).positions) { read_file = f.positions.read_file; read_at = f.positions.read_at } ≡ f.positions
    go true = refl
    go false = refl

-- what a peek leaves as it was
pub record Keeps (q r : Seen) : Type 0 where
  pub name : r.name ≡ q.name
  pub options : r.options ≡ q.options
  pub staged : r.staged ≡ q.staged
  pub saved : r.saved ≡ q.saved

pub peek_keeps : (q r : Seen) (answer : Peek) → PeekSeen q r answer → Keeps q r
peek_keeps q r (Got n) e = record { name = ap (λ (x : Seen). x.name) e; options = ap (λ (x : Seen). x.options) e; staged = ap (λ (x : Seen). x.staged) e; saved = ap (λ (x : Seen). x.saved) e }
peek_keeps q r Empty e = record { name = ap (λ (x : Seen). x.name) e; options = ap (λ (x : Seen). x.options) e; staged = ap (λ (x : Seen). x.staged) e; saved = ap (λ (x : Seen). x.saved) e }
peek_keeps q r Fault e = record { name = ap (λ (x : Seen). x.name) e; options = ap (λ (x : Seen). x.options) e; staged = ap (λ (x : Seen). x.staged) e; saved = ap (λ (x : Seen). x.saved) e }
peek_keeps q r (Damaged file at size) e = go (nat_lt file q.positions.write_file) e
  where
    go : (b : Bool) → r ≡ (if b then record (reading_at q file at) { positions = next_file (reading_at q file at).positions; mark = None } else emptied (reading_at q file at)) → Keeps q r
    go true e = record { name = ap (λ (x : Seen). x.name) e; options = ap (λ (x : Seen). x.options) e; staged = ap (λ (x : Seen). x.staged) e; saved = ap (λ (x : Seen). x.saved) e }
    go false e = record { name = ap (λ (x : Seen). x.name) e; options = ap (λ (x : Seen). x.options) e; staged = ap (λ (x : Seen). x.staged) e; saved = ap (λ (x : Seen). x.saved) e }

-- what the last save left stands where nothing of it changed
pub stands_read : (q r : Seen) (old new : Files) → Keeps q r → SameFiles old new → SaveStands q old → SaveStands r new
stands_read q r old new k same s =
    let kept = stands_kept q old new (same (meta_file q.name)) (λ n _. same (data_file q.name n)) s in
    subst (λ (x : Seen). SaveStands x new) (ap (λ (n : List ℕ). record r { name = n; saved = q.saved }) (sym k.name) ∙ ap (λ v. record r { saved = v }) (sym k.saved))
    (record { saved = kept.saved; unsaved = kept.unsaved; within = kept.within; removed = kept.removed })

-- a record at the head of what is left stands in the file
pub record_in_file : (least limit : ℕ) (p : Positions) (bytes body : List ℕ) → IsOrdered p → HasRecord least limit (left_of p bytes) 0 body
    → HasRecord least limit bytes p.read_at body × IsOrdered (behind p (length body))
record_in_file least limit p bytes body order r =
    let left = left_of p bytes in
    let m = part_end p p.read_file (length bytes) - p.read_at in
    let rest = drop p.read_at bytes in
    let front : r.front ≡ [] = nil_from_length r.front (sym r.here) in
    let whole : left ≡ record_bytes body ++ r.back = r.whole ∙ ap (λ (x : List ℕ). (x ++ record_bytes body) ++ r.back) front in
    let long : 4 + length body ≤ length left = omega (arith, ap length whole, length-append (record_bytes body) r.back, length-record body) in
    let back = drop m rest in
    let whole_rest : rest ≡ record_bytes body ++ (r.back ++ back)
    = sym (take-append-drop m rest) ∙ ap (λ (x : List ℕ). x ++ back) whole ∙ append_assoc (record_bytes body) r.back back in (
      record {
        front = take p.read_at bytes;
        back = r.back ++ back;
        whole = sym (take-append-drop p.read_at bytes) ∙ ap (λ (x : List ℕ). take p.read_at bytes ++ x) whole_rest ∙ sym (append_assoc (take p.read_at bytes) (record_bytes body) (r.back ++ back));
        here = omega (arith, length-take p.read_at bytes, left_most p bytes, long);
        size = r.size;
      },
      elim order [ inl lt ↦ inl lt | inr same ↦ inr (same.0, omega (arith, same.1, left_before p bytes same.0, long)) ],
    )

-- where a record stands in the file and ends before the write position, something can be read
not_unreadable : (least limit : ℕ) (body rest bytes : List ℕ) (size : ℕ) → limit < 2 ^ 32 → IsSize least limit (length body) → bytes ≡ record_bytes body ++ rest → IsUnreadable least limit bytes size → ⊥
not_unreadable least limit body rest bytes size small s e (short few none) = omega (arith, ap length e, length-append (record_bytes body) rest, length-record body, few)
not_unreadable least limit body rest bytes size small s e (wrong enough read out) =
    let small' : length body < 2 ^ 32 = omega (arith, s.1, small) in
    let is : size ≡ length body = read ∙ ap size_read e ∙ size_read-record body rest small' in
    elim out [ inl low ↦ omega (arith, low, is, s.0) | inr high ↦ omega (arith, high, is, s.1) ]
not_unreadable least limit body rest bytes size small s e (passing enough read past) =
    let small' : length body < 2 ^ 32 = omega (arith, s.1, small) in
    let is : size ≡ length body = read ∙ ap size_read e ∙ size_read-record body rest small' in
    omega (arith, is, past, ap length e, length-append (record_bytes body) rest, length-record body)

module _ (least limit : ℕ) (bytes : ℕ → List ℕ) (p : Positions) where
  -- the first of the list is the record that stands at the read position
  pub first_is : (bodies : List (List ℕ)) (body : List ℕ) → limit < 2 ^ 32 → Reads least limit bytes p.write_file p.write_at p.read_file p.read_at bodies → HasRecord least limit (bytes p.read_file) p.read_at body
      → IsOrdered (behind p (length body)) → (rest : List (List ℕ)) × (bodies ≡ body ∷ rest) × Reads least limit bytes p.write_file p.write_at p.read_file (p.read_at + (4 + length body)) rest
  first_is [] body small (arrives e d) r order = absurd (elim order [ inl lt ↦ omega (arith, lt, e) | inr same ↦ omega (arith, same.1, d) ])
  first_is (x ∷ rest) body small (takes _ q more) r order =
      let same : x ≡ body = same_at least limit (bytes p.read_file) p.read_at x body small q r in (
        rest,
        ap (λ (y : List ℕ). y ∷ rest) same,
        subst (λ (y : List ℕ). Reads least limit bytes p.write_file p.write_at p.read_file (p.read_at + (4 + length y)) rest) same more,
      )
  first_is bodies body small (turns e more) r order = absurd (omega (arith, e, record_ends least limit (bytes p.read_file) p.read_at body r))

  -- where a list is read no file is damaged
  pub no_damage : (bodies : List (List ℕ)) (size : ℕ) → limit < 2 ^ 32 → Reads least limit bytes p.write_file p.write_at p.read_file p.read_at bodies → IsDamage least limit bytes p size → ⊥
  no_damage [] size small (arrives e d) x = x.not_end (e, d)
  no_damage (y ∷ rest) size small (takes _ r more) x =
      let order : IsOrdered (behind p (length y)) = in_order least limit more in
      let behind_it : drop p.read_at (bytes p.read_file) ≡ record_bytes y ++ r.back
      = ap (drop p.read_at) (r.whole ∙ append_assoc r.front (record_bytes y) r.back) ∙ drop_at r.front (record_bytes y ++ r.back) p.read_at (sym r.here) in
      let first = left_begins p (bytes p.read_file) y r.back order behind_it in
      not_unreadable least limit y first.0 (left_of p (bytes p.read_file)) size small r.size first.1 x.unreadable
  no_damage bodies size small (turns e more) x = x.not_out (record { earlier = elim (in_order least limit more) [ inl lt ↦ omega (arith, lt) | inr same ↦ omega (arith, same.0) ]; out = e })

-- what a peek gives is the first of the list
pub gives : (least limit : ℕ) (files : Files) (name : List ℕ) (p : Positions) (bodies : List (List ℕ)) (into : List ℕ) (answer : Peek) → limit < 2 ^ 32 → Between least limit files name p bodies
    → PeekReads least limit (content files name) p into answer → PeekGives bodies into answer
gives least limit files name p bodies into (Got n) small b r =
    let h = record_in_file least limit p (content files name p.read_file) (take n into) (list_is_ordered least limit files name p bodies b) r.1 in
    let first = first_is least limit (content files name) p bodies (take n into) small b.reads h.0 h.1 in
    record { rest = first.0; whole = first.1 }
gives least limit files name p bodies into Empty small b r = empty_at_end least limit b.reads r.0 r.1
gives least limit files name p bodies into Fault small b r = tt
gives least limit files name p bodies into (Damaged file at size) small b r = no_damage least limit (content files name) p bodies size small b.reads r

-- what a queue holds where reading goes on at other positions with the same list
holds_there : (q : Seen) (p : Positions) (mark : Option ℕ) (files : Files) (bodies waiting : List (List ℕ)) → p.write_file ≡ q.positions.write_file → p.write_at ≡ q.positions.write_at
    → Between q.options.least q.options.limit files q.name p bodies → IfSome mark (IsNext q.options.least q.options.limit (content files q.name) p) → Holds q files bodies waiting
    → Holds (record q { positions = p; mark = mark }) files bodies waiting
holds_there q p mark files bodies waiting e d b next h = record {
  list = b;
  depth = h.depth;
  staged = subst (λ (k : ℕ). Between q.options.least q.options.limit files q.name (record { read_file = k; read_at = p.write_at; write_file = q.staged.file; write_at = q.staged.at }) waiting) (sym e)
      (subst (λ (k : ℕ). Between q.options.least q.options.limit files q.name (record { read_file = q.positions.write_file; read_at = k; write_file = q.staged.file; write_at = q.staged.at }) waiting) (sym d) h.staged);
  count = h.count;
  within = h.within;
  mark = next;
}

pub peek_holds : (q r : Seen) (files : Files) (bodies waiting : List (List ℕ)) (into : List ℕ) (answer : Peek) → q.options.limit < 2 ^ 32 → PeekSeen q r answer
    → Turns (content files q.name) q.positions (stood r.positions answer) → PeekReads q.options.least q.options.limit (content files q.name) (stood r.positions answer) into answer
    → Holds q files bodies waiting → Holds r files bodies waiting
peek_holds q r files bodies waiting into (Got n) small e t reads h =
    let least = q.options.least in
    let limit = q.options.limit in
    let b = between_turned least limit files q.name q.positions r.positions bodies t h.list in
    let found = record_in_file least limit r.positions (content files q.name r.positions.read_file) (take n into) (list_is_ordered least limit files q.name r.positions bodies b) reads.1 in
    let len : n ≡ length (take n into) = omega (arith, reads.0, length-take n into) in
    let next : IsNext least limit (content files q.name) r.positions n
    = record { body = take n into; there = found.0; size = len; order = subst (λ (k : ℕ). IsOrdered (behind r.positions k)) (sym len) found.1 } in
    let is = ap (λ (x : Seen). x.positions) e in
    subst (λ (x : Seen). Holds x files bodies waiting) (ap (λ (x : Positions). record q { positions = x; mark = Some n }) is ∙ sym e)
    (holds_there q r.positions (Some n) files bodies waiting (ap (λ (x : Positions). x.write_file) is) (ap (λ (x : Positions). x.write_at) is) b next h)
peek_holds q r files bodies waiting into Empty small e t reads h =
    let b = between_turned q.options.least q.options.limit files q.name q.positions r.positions bodies t h.list in
    let is = ap (λ (x : Seen). x.positions) e in
    let none : bodies ≡ [] = empty_at_end q.options.least q.options.limit b.reads reads.0 reads.1 in
    let zero : q.depth ≡ 0 = sym h.depth ∙ ap length none in
    subst (λ (x : Seen). Holds x files bodies waiting)
    (ap (λ (x : Positions). record q { positions = x; mark = None }) is ∙ ap (λ (k : ℕ). record q { positions = record (q.positions) { read_file = r.positions.read_file; read_at = r.positions.read_at }; mark = None; depth = k }) zero ∙ sym e)
    (holds_there q r.positions None files bodies waiting (ap (λ (x : Positions). x.write_file) is) (ap (λ (x : Positions). x.write_at) is) b tt h)
peek_holds q r files bodies waiting into Fault small e t reads h =
    let b = between_turned q.options.least q.options.limit files q.name q.positions r.positions bodies t h.list in
    let is = ap (λ (x : Seen). x.positions) e in
    subst (λ (x : Seen). Holds x files bodies waiting) (ap (λ (x : Positions). record q { positions = x; mark = None }) is ∙ sym e)
    (holds_there q r.positions None files bodies waiting (ap (λ (x : Positions). x.write_file) is) (ap (λ (x : Positions). x.write_at) is) b tt h)
peek_holds q r files bodies waiting into (Damaged file at size) small e t reads h =
    let p = record (r.positions) { read_file = file; read_at = at } in
    let b = between_turned q.options.least q.options.limit files q.name q.positions p bodies t h.list in
    absurd (no_damage q.options.least q.options.limit (content files q.name) p bodies size small b.reads reads)

-- the same in files that are as they were
pub peek_kept : (q r : Seen) (old new : Files) (bodies waiting : List (List ℕ)) → SameFiles old new → Holds r old bodies waiting → Holds r new bodies waiting
peek_kept q r old new bodies waiting same h = holding_keeps r old new bodies waiting (λ file _. same file) h

-- where a peek ends, of the value before it
pub stood_turns : (q u f r : Seen) (old : Files) (answer : Peek) → u ≡ unmarked q → PeekMakes f r answer → Turns (content old u.name) u.positions f.positions
    → Turns (content old q.name) q.positions (stood r.positions answer)
stood_turns q u f r old answer e made t =
    subst (λ (p : Positions). Turns (content old q.name) q.positions p) (sym (peek_stood f r answer made)) (subst (λ (x : Seen). Turns (content old x.name) x.positions f.positions) e t)

-- and what stands there
pub stood_reads : (q u f r : Seen) (old mid : Files) (head : Option Head) (into : List ℕ) (answer : Peek) → u ≡ unmarked q → f ≡ reading_at u f.positions.read_file f.positions.read_at
    → PeekMakes f r answer → SameFiles old mid → HeadFinds (content old u.name) f.positions head
    → (HeadFinds (content mid f.name) f.positions head → PeekReads f.options.least f.options.limit (content mid f.name) f.positions into answer)
    → PeekReads q.options.least q.options.limit (content old q.name) (stood r.positions answer) into answer
stood_reads q u f r old mid head into answer e d made same found reads =
    let is = d ∙ ap (λ (x : Seen). reading_at x f.positions.read_file f.positions.read_at) e in
    let name : f.name ≡ q.name = ap (λ (x : Seen). x.name) is in
    let options = ap (λ (x : Seen). x.options) is in
    let here : HeadFinds (content mid f.name) f.positions head
    = finds_same mid old f.name f.positions head (λ file. sym (same file)) (subst (λ (n : List ℕ). HeadFinds (content old n) f.positions head) (ap (λ (x : Seen). x.name) e ∙ sym name) found) in
    subst (λ (p : Positions). PeekReads q.options.least q.options.limit (content old q.name) p into answer) (sym (peek_stood f r answer made))
    (subst (λ (o : QueueOptions). PeekReads o.least o.limit (content old q.name) f.positions into answer) options
    (subst (λ (n : List ℕ). PeekReads f.options.least f.options.limit (content old n) f.positions into answer) name (reads_same f.options.least f.options.limit old mid f.name f.positions into answer same (reads here))))

-- the options are those of the value before it
pub found_limit : (q u f : Seen) → u ≡ unmarked q → f ≡ reading_at u f.positions.read_file f.positions.read_at → IsSound f → q.options.limit < 2 ^ 32
found_limit q u f e d i =
    subst (λ (n : ℕ). n < 2 ^ 32) (ap (λ (x : Seen). x.options.limit) (d ∙ ap (λ (x : Seen). reading_at x f.positions.read_file f.positions.read_at) e)) i.limit

pub found_size : (q u f : Seen) (answer : Peek) → u ≡ unmarked q → f ≡ reading_at u f.positions.read_file f.positions.read_at → PeekSize f.options.least f.options.limit answer
    → PeekSize q.options.least q.options.limit answer
found_size q u f answer e d size =
    subst (λ (o : QueueOptions). PeekSize o.least o.limit answer) (ap (λ (x : Seen). x.options) (d ∙ ap (λ (x : Seen). reading_at x f.positions.read_file f.positions.read_at) e)) size

pub same_join : (old mid new : Files) → SameFiles old mid → SameFiles mid new → SameFiles old new
same_join old mid new a b file = b file ∙ a file

-- an answer that raised the count since a call raised it since an earlier one
pub peek_since : (before mid now : ℕ) (answer : Peek) → before ≤ mid → PeekFails mid now answer → PeekFails before now answer
peek_since before mid now (Got n) low fails = tt
peek_since before mid now Empty low fails = tt
peek_since before mid now Fault low fails = omega arith
peek_since before mid now (Damaged file at size) low fails = tt

-- what is known of a head that was found holds of it by its name
module _ (head : Option Head) where
  pub head_ends : (h : Head) (at : ℕ) → head ≡ Some h → IfSome head (HeadEnds at) → HeadEnds at h
  head_ends h at is ends = subst (λ (x : Option Head). IfSome x (HeadEnds at)) is ends

  pub head_finds : (h : Head) (bytes : ℕ → List ℕ) (p : Positions) → head ≡ Some h → HeadFinds bytes p head → FileFinds bytes p h
  head_finds h bytes p is finds = subst (HeadFinds bytes p) is finds

  pub head_fails : (h : Head) (before now : ℕ) → head ≡ Some h → IfSome head (HeadFails before now) → HeadFails before now h
  head_fails h before now is fails = subst (λ (x : Option Head). IfSome x (HeadFails before now)) is fails

  pub head_counts : (h : Head) (before now : ℕ) → head ≡ Some h → FindCounts before now head → HeadCounts before now h
  head_counts h before now is counts = subst (FindCounts before now) is counts
