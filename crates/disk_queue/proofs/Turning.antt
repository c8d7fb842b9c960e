-- Reading goes past files that are read out.
use Rattle.std.proofs.Common.{◌≡◌, ◌∙◌, ℕ, ◌+◌, ◌<◌, ◌≤◌, List, [], length, take, Option, Some, None, unwrap_or, sym, ap, subst, refl}
use Rattle.nsq_outside.specs.Files.{Files, SameFiles}
use Rattle.queue_image.specs.FileNames.{data_file}
use Rattle.queue_image.specs.Records.{HasRecord}
use Rattle.queue_image.specs.Between.{content, Between}
use Rattle.queue_image.specs.declared.positions.Positions.{Positions}
use Rattle.queue_image.proofs.Lists.{reading_turns}
use Rattle.disk_queue.specs.Seen.{Seen, next_file, reading_at}
use Rattle.disk_queue.specs.Reading.{IsReadOut, Turns, left_of, IsUnreadable, PeekReads}
use Rattle.disk_queue.specs.Reading.Turns.{stays, turns}
use Rattle.disk_queue.specs.Peeking.{BeginsWithSize, FileFinds, HeadFinds}
use Rattle.disk_queue.specs.declared.queue.reading.Head.{Head}
use Rattle.disk_queue.specs.declared.queue.reading.Head.TheVariants.{Size, Short, Fault}
use Rattle.disk_queue.specs.declared.answers.Peek.{Peek}
use Rattle.disk_queue.specs.declared.answers.Peek.TheVariants as peek

-- a data file as it was
same_bytes : (old new : Files) (name : List ℕ) (k : ℕ) → SameFiles old new → content new name k ≡ content old name k
same_bytes old new name k same = ap (λ (o : Option (List ℕ)). unwrap_or o []) (same (data_file name k))

out_same : (old new : Files) (name : List ℕ) (p : Positions) → SameFiles old new → IsReadOut (content new name) p → IsReadOut (content old name) p
out_same old new name p same o = record { earlier = o.earlier; out = o.out ∙ ap length (same_bytes old new name p.read_file same) }

out_back : (old new : Files) (name : List ℕ) (p : Positions) → SameFiles old new → IsReadOut (content old name) p → IsReadOut (content new name) p
out_back old new name p same o = record { earlier = o.earlier; out = o.out ∙ sym (ap length (same_bytes old new name p.read_file same)) }

-- what is found in files that are as they were
pub finds_same : (old new : Files) (name : List ℕ) (p : Positions) (head : Option Head) → SameFiles old new → HeadFinds (content new name) p head → HeadFinds (content old name) p head
finds_same old new name p None same found = found
finds_same old new name p (Some (Size size)) same found = subst (λ (bytes : List ℕ). BeginsWithSize (left_of p bytes) size) (same_bytes old new name p.read_file same) found
finds_same old new name p (Some Short) same found = record {
  not_out = λ o. found.not_out (out_back old new name p same o);
  not_end = found.not_end;
  few = subst (λ (bytes : List ℕ). length (left_of p bytes) < 4) (same_bytes old new name p.read_file same) found.few;
}
finds_same old new name p (Some Fault) same found = tt

-- the same of the value that reading made of the queue
pub finds_known : (q r : Seen) (old new : Files) (head : Option Head) → r ≡ reading_at q r.positions.read_file r.positions.read_at → SameFiles old new → HeadFinds (content new r.name) r.positions head
    → HeadFinds (content old q.name) r.positions head
finds_known q r old new head e same found =
    subst (λ (n : List ℕ). HeadFinds (content old n) r.positions head) (ap (λ (x : Seen). x.name) e) (finds_same old new r.name r.positions head same found)

pub some_known : (q r s : Seen) (old new : Files) (head : Head) → r ≡ reading_at q r.positions.read_file r.positions.read_at → s ≡ r → SameFiles old new → FileFinds (content new r.name) r.positions head
    → FileFinds (content old q.name) s.positions head
some_known q r s old new head e d same found =
    subst (λ (x : Seen). FileFinds (content old q.name) x.positions head) (sym d) (finds_known q r old new (Some head) e same found)

-- one more file
pub turn_more : (q r s : Seen) (old new : Files) → r ≡ reading_at q r.positions.read_file r.positions.read_at → s ≡ record r { positions = next_file r.positions } → SameFiles old new
    → Turns (content old q.name) q.positions r.positions → IsReadOut (content new r.name) r.positions → Turns (content old q.name) q.positions s.positions
turn_more q r s old new e d same t out =
    turns t (subst (λ (n : List ℕ). IsReadOut (content old n) r.positions) (ap (λ (x : Seen). x.name) e) (out_same old new r.name r.positions same out)) (ap (λ (x : Seen). x.positions) d)

pub turn_seen : (q r s : Seen) → r ≡ reading_at q r.positions.read_file r.positions.read_at → s ≡ record r { positions = next_file r.positions }
    → s ≡ reading_at q s.positions.read_file s.positions.read_at
turn_seen q r s e d =
    let is : s ≡ reading_at q (r.positions.read_file + 1) 0 = d ∙ ap (λ (x : Seen). record x { positions = next_file x.positions }) e in
    subst (λ (x : Seen). x ≡ reading_at q x.positions.read_file x.positions.read_at) (sym is) refl

-- the list is read from there
pub between_turned : (least limit : ℕ) (files : Files) (name : List ℕ) (p r : Positions) (bodies : List (List ℕ)) → Turns (content files name) p r → Between least limit files name p bodies
    → Between least limit files name r bodies
between_turned least limit files name p r bodies (stays e) b = subst (λ (x : Positions). Between least limit files name x bodies) (sym e) b
between_turned least limit files name p r bodies (turns {r = m} t out e) b =
    subst (λ (x : Positions). Between least limit files name x bodies) (sym e)
    (reading_turns least limit files name m bodies (between_turned least limit files name p m bodies t b) out.earlier out.out)

-- what a peek reads in files that are as they were
pub reads_same : (least limit : ℕ) (old new : Files) (name : List ℕ) (p : Positions) (into : List ℕ) (answer : Peek) → SameFiles old new → PeekReads least limit (content new name) p into answer
    → PeekReads least limit (content old name) p into answer
reads_same least limit old new name p into (peek.Got n) same r =
    subst (λ (bytes : List ℕ). (n ≤ length into) × HasRecord least limit (left_of p bytes) 0 (take n into)) (same_bytes old new name p.read_file same) r
reads_same least limit old new name p into peek.Empty same r = r
reads_same least limit old new name p into peek.Fault same r = tt
reads_same least limit old new name p into (peek.Damaged file at size) same r = record {
  not_out = λ o. r.not_out (out_back old new name p same o);
  not_end = r.not_end;
  unreadable = subst (λ (bytes : List ℕ). IsUnreadable least limit (left_of p bytes) size) (same_bytes old new name p.read_file same) r.unreadable;
}
