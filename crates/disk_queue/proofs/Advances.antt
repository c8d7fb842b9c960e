-- The first record goes.
use Rattle.std.proofs.Common.{◌≡◌, ◌∙◌, ℕ, ◌+◌, ◌-◌, ◌^◌, ◌<◌, min, true, false, List, length, drop, Option, Some, None, IfSome, IsSome, unwrap_or, sym, ap, subst, refl, inl, inr, arith}
use Rattle.nsq_outside.specs.Files.{Files, SameFiles}
use Rattle.queue_image.specs.Places.{IsOrdered}
use Rattle.queue_image.specs.Between.{content}
use Rattle.queue_image.specs.FileNames.{data_file, meta_file}
use Rattle.disk_queue.specs.Seen.{Seen, behind, advanced, marked, reading_at, after_save}
use Rattle.disk_queue.specs.Holding.{Holds, IsNext, SaveStands, OwnChange}
use Rattle.disk_queue.specs.Parts.{IsSound, IsAhead, OnlySaveChanges}
use Rattle.disk_queue.specs.Answers.{Saves}
use Rattle.disk_queue.specs.Reading.{Turns, PeekSeen, PeekReads, TakeChanges, stood_taking}
use Rattle.disk_queue.specs.declared.answers.Sync.{Sync}
use Rattle.disk_queue.specs.declared.answers.Sync.TheVariants.{NotDue, Done, Failed}
use Rattle.disk_queue.specs.declared.answers.Peek.TheVariants.{Got}
use Rattle.disk_queue.specs.declared.answers.Take.TheVariants.{Got as Taken}
use Rattle.queue_image.specs.declared.positions.Positions.{Positions}
use Rattle.disk_queue.proofs.Peeked.{first_is}

-- the length of the marked record
pub marked_length : (m : Option ℕ) → IsSome m → (n : ℕ) × (m ≡ Some n)
marked_length None h = (let f : false ≡ true = h in cc)
marked_length (Some n) h = (n, refl)

-- the queue without a first record of k bytes
abbrev pub without_first : Seen → ℕ → Seen
without_first q k = record q { depth = q.depth - 1; positions = behind q.positions k; saved = record (q.saved) { since = min (q.saved.since + 1) (2 ^ 64 - 1) }; mark = None }

pub holds_advanced : (q : Seen) (files : Files) (bodies waiting : List (List ℕ)) → q.options.limit < 2 ^ 32 → IsSome q.mark → Holds q files bodies waiting → Holds (advanced q) files (drop 1 bodies) waiting
holds_advanced q files bodies waiting small some h =
    let least = q.options.least in
    let limit = q.options.limit in
    let bytes = content files q.name in
    let p = q.positions in
    let mark = marked_length q.mark some in
    let next : IsNext least limit bytes p mark.0 = subst (λ (m : Option ℕ). IfSome m (IsNext least limit bytes p)) mark.1 h.mark in
    let first = first_is least limit bytes p bodies next.body small h.list.reads next.there (subst (λ (k : ℕ). IsOrdered (behind p k)) next.size next.order) in
    let len : length next.body ≡ unwrap_or q.mark 0 = sym next.size ∙ sym (ap (λ (m : Option ℕ). unwrap_or m 0) mark.1) in
    let depth = h.depth in
    subst (λ (bs : List (List ℕ)). Holds (advanced q) files bs waiting) (sym (ap (drop 1) first.1))
    (subst (λ (k : ℕ). Holds (without_first q k) files first.0 waiting) len
    (record {
      list = record { reads = first.2; inside = h.list.inside };
      depth = omega (arith, depth, ap length first.1);
      staged = h.staged;
      count = h.count;
      within = h.within;
      mark = tt;
    }))

-- the same of the value that is known to be that
pub holds_without : (q r : Seen) (files : Files) (bodies waiting : List (List ℕ)) → IsSound q → r ≡ advanced q → IsSome q.mark → Holds q files bodies waiting → Holds r files (drop 1 bodies) waiting
holds_without q r files bodies waiting i e some h =
    subst (λ (x : Seen). Holds x files (drop 1 bodies) waiting) (sym e) (holds_advanced q files bodies waiting i.limit some h)

pub stands_without : (q r : Seen) (files : Files) → r ≡ advanced q → SaveStands q files → SaveStands r files
stands_without q r files e s =
    subst (λ (x : Seen). SaveStands x files) (sym e) (record { saved = s.saved; unsaved = s.unsaved; within = s.within; removed = s.removed })

-- what every queue keeps when the marked record goes
pub sound_advanced : (q : Seen) → IsSound q → IsSome q.mark → IsSound (advanced q)
sound_advanced q i some =
    let mark = marked_length q.mark some in
    let p = q.positions in
    let ahead : IsAhead p mark.0 = subst (λ (m : Option ℕ). IfSome m (IsAhead p)) mark.1 i.marked in
    let len : mark.0 ≡ unwrap_or q.mark 0 = sym (ap (λ (m : Option ℕ). unwrap_or m 0) mark.1) in
    let ends = ahead.range in
    let range = i.range in
    let records = i.records in
    record {
      ordered = subst (λ (k : ℕ). IsOrdered (behind p k)) len ahead.order;
      range = record { read_file = range.read_file; read_at = omega (arith, ends, len); write_file = range.write_file; write_at = range.write_at };
      ahead = i.ahead;
      staged_file = i.staged_file;
      staged_at = i.staged_at;
      records = omega (arith, records);
      more = i.more;
      saved_range = i.saved_range;
      saved_read = i.saved_read;
      making = i.making;
      marked = tt;
      limit = i.limit;
    }

-- what a save in a taking does is told of the files before it
pub saves_from : (q : Seen) (old mid new : Files) (sync : Sync) → SameFiles old mid → Saves q mid new sync → Saves q old new sync
saves_from q old mid new NotDue same s = λ file. s file ∙ same file
saves_from q old mid new Done same s = s
saves_from q old mid new Failed same (inl kept) = inl (kept.0 ∙ same (meta_file q.name), λ k low. kept.1 k low ∙ same (data_file q.name k))
saves_from q old mid new Failed same (inr e) = inr e

pub take_changes : (q p r : Seen) (n : ℕ) (sync : Sync) (old mid new : Files) → PeekSeen q p (Got n) → r ≡ after_save (advanced p) sync → SameFiles old mid → OnlySaveChanges p mid new → TakeChanges q r old new
take_changes q p r n sync old mid new e d same only file meta temp below =
    let only' : OnlySaveChanges (marked (reading_at q p.positions.read_file p.positions.read_at) n) mid new = subst (λ (x : Seen). OnlySaveChanges x mid new) e only in
    let reads : r.positions.read_file ≡ p.positions.read_file = ap (λ (x : Seen). x.positions.read_file) d in
    only' file meta temp (λ k low high. below k low (omega (arith, reads, high))) ∙ same file

pub take_own : (q p : Seen) (old mid new : Files) → p.name ≡ q.name → SameFiles old mid → OwnChange p.name mid new → OwnChange q.name old new
take_own q p old mid new e same own file other = subst (λ (n : List ℕ). OwnChange n mid new) e own file other ∙ same file

-- where reading stood as a record was taken
taken_stood : (q p r : Seen) (n : ℕ) (sync : Sync) → PeekSeen q p (Got n) → r ≡ after_save (advanced p) sync → stood_taking r.positions (Taken n sync) ≡ p.positions
taken_stood q p r n sync e d =
    let mark : p.mark ≡ Some n = ap (λ (x : Seen). x.mark) e in
    let place : r.positions ≡ behind p.positions n = ap (λ (x : Seen). x.positions) d ∙ ap (λ (m : Option ℕ). behind p.positions (unwrap_or m 0)) mark in
    let back : (p.positions.read_at + (4 + n)) - (4 + n) ≡ p.positions.read_at = omega arith in
    ap (λ (x : Positions). record x { read_at = x.read_at - (4 + n) }) place ∙ ap (λ (k : ℕ). record (p.positions) { read_at = k }) back

pub take_moves : (bytes : ℕ → List ℕ) (from : Positions) (q p r : Seen) (n : ℕ) (sync : Sync) → PeekSeen q p (Got n) → r ≡ after_save (advanced p) sync → Turns bytes from p.positions
    → Turns bytes from (stood_taking r.positions (Taken n sync))
take_moves bytes from q p r n sync e d t = subst (λ (x : Positions). Turns bytes from x) (sym (taken_stood q p r n sync e d)) t

pub take_reads : (least limit : ℕ) (bytes : ℕ → List ℕ) (into : List ℕ) (q p r : Seen) (n : ℕ) (sync : Sync) → PeekSeen q p (Got n) → r ≡ after_save (advanced p) sync
    → PeekReads least limit bytes p.positions into (Got n) → PeekReads least limit bytes (stood_taking r.positions (Taken n sync)) into (Got n)
take_reads least limit bytes into q p r n sync e d t = subst (λ (x : Positions). PeekReads least limit bytes x into (Got n)) (sym (taken_stood q p r n sync e d)) t
