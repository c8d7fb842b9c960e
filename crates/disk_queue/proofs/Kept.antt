-- What a change of the files leaves of a queue's lists.
use Rattle.std.proofs.Common.{◌≡◌, ℕ, ◌+◌, ◌^◌, ◌<◌, ◌≤◌, ◌⊎◌, List, [], ◌∷◌, ◌++◌, length, take, drop, Option, Some, None, unwrap_or, IfSome, Bool, true, false, if◌then◌else◌, refl, sym, ◌∙◌, ap, subst, inl, inr, arith, length-append}
use Rattle.std.proofs.lemmas.Bool.{cases_lt}
use Rattle.std.proofs.lemmas.Bool.Decides.{nat_tests}
use Rattle.std.proofs.lemmas.List.{append-nil, take_all, drop_all}
use Rattle.std.proofs.lemmas.Grind.{common_steps}
use Rattle.nsq_outside.specs.Files.{Files, Cuts, OnlyChanges, cut_to, written_at}
use Rattle.nsq_outside.specs.declared.did.Did.{Did}
use Rattle.nsq_outside.specs.declared.did.Did.TheVariants.{Done, Failed}
use Rattle.queue_image.specs.FileNames.{data_file, meta_file}
use Rattle.queue_image.specs.FileNames.IsOwnFile.{numbered}
use Rattle.queue_image.specs.Records.{HasRecord, record_bytes, IsSize}
use Rattle.queue_image.specs.Places.{IsOrdered, rolls}
use Rattle.queue_image.specs.Between.{content}
use Rattle.queue_image.specs.Between.Reads.{arrives}
use Rattle.queue_image.proofs.Reading.{in_order, keeps, record_keeps}
use Rattle.queue_image.proofs.Lists.{list_grows, list_turns}
use Rattle.queue_image.proofs.Naming.{one_number, metadata_apart}
use Rattle.disk_queue.specs.Seen.{Seen, unmarked, forgotten, fresh_queue, after_stage}
use Rattle.disk_queue.specs.Holding.{Holds, IsNext, staged_part, SaveStands, OwnChange}
use Rattle.queue_image.specs.Metas.{Says, IsIdle}
use Rattle.disk_queue.specs.Parts.{IsSound, WritesPlace, StageWrites, place_for, base_for, first_base, with_record}
use Rattle.queue_opening.specs.FileCalls.{WritesRecord}
use Rattle.disk_queue.specs.Answers.{StageTooLong, StaysWhereTooLong}
use Rattle.queue_opening.specs.Replaced.{OnlyTwoChange}
use Rattle.disk_queue.specs.declared.standing.Staged.{Staged}
use Rattle.queue_opening.specs.QueueOptions.{QueueOptions}
use Rattle.disk_queue.specs.declared.answers.Stage.{Stage}
use Rattle.disk_queue.specs.declared.answers.Stage.TheVariants.{Staged as IsStaged, Fault, TooLong}
use Rattle.queue_image.specs.declared.positions.Positions.{Positions}
use Rattle.disk_queue.specs.declared.standing.LastSave.{LastSave}
use Rattle.queue_opening.proofs.WrittenBytes.{take-cut, cut-inside, length-cut_to, take-written, has-written, take-less, as-long}

-- nothing changed that is read before a place in a file, from the file on that is read first
pub record Before (bytes bytes' : ℕ → List ℕ) (from file at : ℕ) : Type 0 where
  pub earlier : (k : ℕ) → from ≤ k → k < file → bytes' k ≡ bytes k
  pub here : at ≤ length (bytes file) → take at (bytes' file) ≡ take at (bytes file)

-- what holds of a mark's length holds in the files as they are now
pub if_next : (m : Option ℕ) (P Q : ℕ → Type 0) → ((n : ℕ) → P n → Q n) → IfSome m P → IfSome m Q
if_next None P Q step h = tt
if_next (Some n) P Q step h = step n h

-- the lists of a queue are the same where nothing changed before the staged end
pub holds_kept : (q : Seen) (old new : Files) (bodies waiting : List (List ℕ)) → Before (content old q.name) (content new q.name) q.positions.read_file q.staged.file q.staged.at
    → Holds q old bodies waiting → Holds q new bodies waiting
holds_kept q old new bodies waiting b h =
    let least = q.options.least in
    let limit = q.options.limit in
    let p = q.positions in
    let s = q.staged in
    let inside : s.at ≤ length (content old q.name s.file) = h.staged.inside in
    let front : take s.at (content new q.name s.file) ≡ take s.at (content old q.name s.file) = b.here inside in
    let long : s.at ≤ length (content new q.name s.file) = as-long (content old q.name s.file) (content new q.name s.file) s.at inside front in
    let reads : (p.read_file < p.write_file) ⊎ ((p.read_file ≡ p.write_file) × (p.read_at ≤ p.write_at)) = in_order least limit h.list.reads in
    let low : p.read_file ≤ p.write_file = elim reads [ inl lt ↦ omega arith | inr same ↦ omega (arith, same.0) ] in
    let ahead : (p.write_file < s.file) ⊎ ((p.write_file ≡ s.file) × (p.write_at ≤ s.at)) = in_order least limit h.staged.reads in
    let high : p.write_file ≤ s.file = elim ahead [ inl lt ↦ omega arith | inr same ↦ omega (arith, same.0) ] in
    let fits : p.write_at ≤ length (content old q.name p.write_file) = h.list.inside in
    let write_front : take p.write_at (content new q.name p.write_file) ≡ take p.write_at (content old q.name p.write_file)
    = elim ahead [
      | inl lt ↦ ap (take p.write_at) (b.earlier p.write_file low lt)
      | inr same ↦ take-less (content old q.name p.write_file) (content new q.name p.write_file) p.write_at s.at same.1
          (subst (λ (k : ℕ). take s.at (content new q.name k) ≡ take s.at (content old q.name k)) (sym same.0) front)
    ] in
    record {
      list = record {
        reads = keeps least limit h.list.reads (λ k from to. b.earlier k from (omega (arith, high))) write_front;
        inside = as-long (content old q.name p.write_file) (content new q.name p.write_file) p.write_at fits write_front;
      };
      depth = h.depth;
      staged = record { reads = keeps least limit h.staged.reads (λ k from to. b.earlier k (omega (arith, low)) to) front; inside = long };
      count = h.count;
      within = h.within;
      mark = if_next q.mark (IsNext least limit (content old q.name) p) (IsNext least limit (content new q.name) p)
          (λ n x.
          let size = x.size in
          record {
            body = x.body;
            there = elim (cases_lt p.read_file s.file) [
              | inl lt ↦ subst (λ (bytes : List ℕ). HasRecord least limit bytes p.read_at x.body) (sym (b.earlier p.read_file (omega arith) lt)) x.there
              | inr past ↦
                  let here : s.file ≡ p.read_file = omega (arith, past, low, high) in
                  record_keeps least limit (content old q.name p.read_file) (content new q.name p.read_file) s.at p.read_at x.body x.there
                  (subst (λ (k : ℕ). take s.at (content new q.name k) ≡ take s.at (content old q.name k)) here front)
                  (elim x.order [
                    | inl lt ↦ absurd (omega (arith, lt, high, past))
                    | inr same ↦ elim ahead [ inl lt ↦ absurd (omega (arith, lt, same.0, past)) | inr end ↦ omega (arith, same.1, end.1, size) ]
                  ])
            ];
            size = x.size;
            order = x.order;
          })
          h.mark;
    }

-- one more record is staged where it stands at the staged end
pub holds_more : (q : Seen) (old new : Files) (bodies waiting : List (List ℕ)) (body : List ℕ) → Before (content old q.name) (content new q.name) q.positions.read_file q.staged.file q.staged.at
    → HasRecord q.options.least q.options.limit (content new q.name q.staged.file) q.staged.at body → Holds q old bodies waiting
    → Holds (record q { staged = record { file = q.staged.file; at = q.staged.at + (4 + length body); count = q.staged.count + 1 } }) new bodies (waiting ++ body ∷ [])
holds_more q old new bodies waiting body b r h =
    let kept = holds_kept q old new bodies waiting b h in
    let count = h.count in
    record {
      list = kept.list;
      depth = kept.depth;
      staged = list_grows q.options.least q.options.limit new new q.name (staged_part q) waiting body kept.staged (λ k from to. refl) refl r;
      count = omega (arith, length-append waiting (body ∷ []), count);
      within = h.within;
      mark = kept.mark;
    }

-- the staged end goes to the next file's start where its file ends there
pub holds_turn : (q : Seen) (files : Files) (bodies waiting : List (List ℕ)) → q.staged.file < 2 ^ 40 → q.staged.at ≡ length (content files q.name q.staged.file) → Holds q files bodies waiting
    → Holds (record q { staged = record { file = q.staged.file + 1; at = 0; count = q.staged.count } }) files bodies waiting
holds_turn q files bodies waiting low end h = record {
  list = h.list;
  depth = h.depth;
  staged = list_turns q.options.least q.options.limit files q.name (staged_part q) waiting h.staged end;
  count = h.count;
  within = omega arith;
  mark = h.mark;
}

-- without the staged records
pub holds_forgotten : (q : Seen) (files : Files) (bodies waiting : List (List ℕ)) → Holds q files bodies waiting → Holds (forgotten q) files bodies []
holds_forgotten q files bodies waiting h =
    let within = h.within in
    let ahead : (q.positions.write_file < q.staged.file) ⊎ ((q.positions.write_file ≡ q.staged.file) × (q.positions.write_at ≤ q.staged.at)) = in_order q.options.least q.options.limit h.staged.reads in
    record {
      list = h.list;
      depth = h.depth;
      staged = record { reads = arrives refl refl; inside = h.list.inside };
      count = refl;
      within = elim ahead [ inl lt ↦ omega (arith, within) | inr same ↦ omega (arith, within, same.0) ];
      mark = tt;
    }

-- what is known of the saves is no matter, and a mark may be dropped
pub holds_as : (q : Seen) (saved : LastSave) (begun : Bool) (files : Files) (bodies waiting : List (List ℕ)) → Holds q files bodies waiting
    → Holds (record q { saved = saved; mark = None; begun = begun }) files bodies waiting
holds_as q saved begun files bodies waiting h = record { list = h.list; depth = h.depth; staged = h.staged; count = h.count; within = h.within; mark = tt }

-- a file whose content is as it was
same_content : (old new : Files) (name : List ℕ) (k : ℕ) → new (data_file name k) ≡ old (data_file name k) → content new name k ≡ content old name k
same_content old new name k same = ap (λ (o : Option (List ℕ)). unwrap_or o []) same

-- where only two data files change, the others are as they were
pub same_below : (old new : Files) (name : List ℕ) (n k : ℕ) → OnlyTwoChange old new (data_file name n) (data_file name (n + 1)) → n < 2 ^ 60 → k < n → content new name k ≡ content old name k
same_below old new name n k only small low =
    same_content old new name k (only (data_file name k) (λ e. omega (arith, one_number name k n (omega arith) (omega arith) e)) (λ e. omega (arith, one_number name k (n + 1) (omega arith) (omega arith) e)))

-- a cut at a place, done or not, keeps what stands before it
pub cut_front : (old new : Option (List ℕ)) (at : ℕ) (did : Did) → Cuts old new at did → at ≤ length (unwrap_or old []) → take at (unwrap_or new []) ≡ take at (unwrap_or old [])
cut_front old new at Done e inside = ap (λ (o : Option (List ℕ)). take at (unwrap_or o [])) e ∙ take-cut (unwrap_or old []) at inside
cut_front old new at Failed (inl e) inside = ap (λ (o : Option (List ℕ)). take at (unwrap_or o [])) e
cut_front old new at Failed (inr e) inside = ap (λ (o : Option (List ℕ)). take at (unwrap_or o [])) e ∙ take-cut (unwrap_or old []) at inside

-- a record's write, done or not, keeps what stands before it
pub record_front : (old new : Option (List ℕ)) (at : ℕ) (body : List ℕ) (did : Did) → WritesRecord old new at body did → at ≤ length (unwrap_or old []) → take at (unwrap_or new []) ≡ take at (unwrap_or old [])
record_front old new at body Done e inside = ap (λ (o : Option (List ℕ)). take at (unwrap_or o [])) e ∙ take-written (unwrap_or old []) at (record_bytes body) inside
record_front old new at body Failed keeps inside = keeps inside

-- what the last save left stands whatever is staged
pub stands_forgotten : (q : Seen) (files : Files) → SaveStands q files → SaveStands (forgotten q) files
stands_forgotten q files s = record { saved = s.saved; unsaved = s.unsaved; within = s.within; removed = s.removed }

-- what is shown of the fields holds of the value
pub through : (q r : Seen) (old new : Files) (bodies bodies' waiting waiting' : List (List ℕ)) → q ≡ r → (Holds q old bodies waiting → Holds q new bodies' waiting') → Holds r old bodies waiting → Holds r new bodies' waiting'
through q r old new bodies bodies' waiting waiting' e step h =
    subst (λ (x : Seen). Holds x new bodies' waiting') e (step (subst (λ (x : Seen). Holds x old bodies waiting) (sym e) h))

-- a queue holds nothing at its making
pub holds_fresh : (name : List ℕ) (options : QueueOptions) (files : Files) → Holds (fresh_queue name options) files [] []
holds_fresh name options files = record {
  list = record { reads = arrives refl refl; inside = omega arith };
  depth = refl;
  staged = record { reads = arrives refl refl; inside = omega arith };
  count = refl;
  within = omega arith;
  mark = tt;
}

pub only_two : (old new : Files) (a b : List ℕ) → OnlyChanges old new a → OnlyTwoChange old new a b
only_two old new a b only other apart _ = only other apart

-- where the file that is written was cut at the staged end, or was to be, and perhaps the next one was changed
pub cut_kept : (q : Seen) (old new : Files) (did : Did) (bodies waiting : List (List ℕ)) → q.staged.file ≤ 2 ^ 40
    → Cuts (old (data_file q.name q.staged.file)) (new (data_file q.name q.staged.file)) q.staged.at did
    → OnlyTwoChange old new (data_file q.name q.staged.file) (data_file q.name (q.staged.file + 1)) → Holds q old bodies waiting → Holds q new bodies waiting
cut_kept q old new did bodies waiting small cut only h =
    holds_kept q old new bodies waiting
    (record { earlier = λ k low high. same_below old new q.name q.staged.file k only (omega (arith, small)) high; here = cut_front (old (data_file q.name q.staged.file)) (new (data_file q.name q.staged.file)) q.staged.at did cut })
    h

-- where it was cut, the staged end may go to the next file
pub cut_turns : (q : Seen) (old new : Files) (bodies waiting : List (List ℕ)) → q.staged.file < 2 ^ 40
    → Cuts (old (data_file q.name q.staged.file)) (new (data_file q.name q.staged.file)) q.staged.at Done
    → OnlyTwoChange old new (data_file q.name q.staged.file) (data_file q.name (q.staged.file + 1)) → Holds q old bodies waiting
    → Holds (record q { staged = record { file = q.staged.file + 1; at = 0; count = q.staged.count } }) new bodies waiting
cut_turns q old new bodies waiting small cut only h =
    holds_turn q new bodies waiting small (sym (ap (λ (o : Option (List ℕ)). length (unwrap_or o [])) cut ∙ length-cut_to (content old q.name q.staged.file) q.staged.at))
    (cut_kept q old new Done bodies waiting (omega (arith, small)) cut only h)

-- the same, where the staged end is another
pub through_staged : (q r : Seen) (s : Staged) (old new : Files) (bodies waiting : List (List ℕ)) → q ≡ r → (Holds q old bodies waiting → Holds (record q { staged = s }) new bodies waiting)
    → Holds r old bodies waiting → Holds (record r { staged = s }) new bodies waiting
through_staged q r s old new bodies waiting e step h =
    subst (λ (x : Seen). Holds (record x { staged = s }) new bodies waiting) e (step (subst (λ (x : Seen). Holds x old bodies waiting) (sym e) h))

-- what is known of the value holds of its fields
pub back : (q r : Seen) (files : Files) (bodies waiting : List (List ℕ)) → q ≡ r → Holds r files bodies waiting → Holds q files bodies waiting
back q r files bodies waiting e h = subst (λ (x : Seen). Holds x files bodies waiting) (sym e) h

-- the same, where the staged end is another
pub back_staged : (q r : Seen) (s : Staged) (files : Files) (bodies waiting : List (List ℕ)) → q ≡ r → Holds (record r { staged = s }) files bodies waiting → Holds (record q { staged = s }) files bodies waiting
back_staged q r s files bodies waiting e h = subst (λ (x : Seen). Holds (record x { staged = s }) files bodies waiting) (sym e) h

-- a file that does not change
other_content : (old new : Files) (name : List ℕ) (n k : ℕ) → n < 2 ^ 60 → k < n → OnlyChanges old new (data_file name n) → content new name k ≡ content old name k
other_content old new name n k small low only = same_content old new name k (only (data_file name k) (λ e. omega (arith, one_number name k n (omega arith) (omega arith) e)))

-- a write of a record that failed leaves the lists
pub record_failed : (q : Seen) (place : Staged) (old new : Files) (bodies waiting : List (List ℕ)) (body : List ℕ) → place ≡ place_for q (length body) → q.staged.file ≤ 2 ^ 40
    → WritesRecord (old (data_file q.name place.file)) (new (data_file q.name place.file)) place.at body Failed → OnlyChanges old new (data_file q.name place.file)
    → Holds q old bodies waiting → Holds q new bodies waiting
record_failed q place old new bodies waiting body e small w only h =
    holds_kept q old new bodies waiting (before (rolls q.options.max_bytes q.staged.file q.staged.at (length body)) e) h
  where
    before : (b : Bool) → place ≡ (if b then record { file = q.staged.file + 1; at = 0; count = q.staged.count } else q.staged)
        → Before (content old q.name) (content new q.name) q.positions.read_file q.staged.file q.staged.at
    before true is =
        let file : place.file ≡ q.staged.file + 1 = ap (λ (s : Staged). s.file) is in
        let others : OnlyChanges old new (data_file q.name (q.staged.file + 1)) = subst (λ (n : ℕ). OnlyChanges old new (data_file q.name n)) file only in
        record {
          earlier = λ k low high. other_content old new q.name (q.staged.file + 1) k (omega (arith, small)) (omega (arith, high)) others;
          here = λ _. ap (take q.staged.at) (other_content old new q.name (q.staged.file + 1) q.staged.file (omega (arith, small)) (omega arith) others);
        }
    before false is =
        let others : OnlyChanges old new (data_file q.name q.staged.file) = subst (λ (s : Staged). OnlyChanges old new (data_file q.name s.file)) is only in
        record {
          earlier = λ k low high. other_content old new q.name q.staged.file k (omega (arith, small)) high others;
          here = record_front (old (data_file q.name q.staged.file)) (new (data_file q.name q.staged.file)) q.staged.at body Failed
              (subst (λ (s : Staged). WritesRecord (old (data_file q.name s.file)) (new (data_file q.name s.file)) s.at body Failed) is w);
        }

-- the place of a record is in the file of the staged end or in the next
pub place_near : (q : Seen) (place : Staged) (size : ℕ) → place ≡ place_for q size → place.file ≤ q.staged.file + 1
place_near q place size e = go (rolls q.options.max_bytes q.staged.file q.staged.at size) e
  where
    go : (b : Bool) → place ≡ (if b then record { file = q.staged.file + 1; at = 0; count = q.staged.count } else q.staged) → place.file ≤ q.staged.file + 1
    go true is = omega (arith, ap (λ (s : Staged). s.file) is)
    go false is = omega (arith, ap (λ (s : Staged). s.file) is)

-- a record that was written is staged
pub record_done : (q : Seen) (place : Staged) (old new : Files) (bodies waiting : List (List ℕ)) (body : List ℕ) → place ≡ place_for q (length body) → q.staged.file ≤ 2 ^ 40 → IsSize q.options.least q.options.limit (length body)
    → WritesRecord (old (data_file q.name place.file)) (new (data_file q.name place.file)) place.at body Done → OnlyChanges old new (data_file q.name place.file)
    → Holds (record q { staged = place }) old bodies waiting
    → Holds (record q { staged = record { file = place.file; at = place.at + (4 + length body); count = place.count + 1 }; mark = None; begun = true }) new bodies (waiting ++ body ∷ [])
record_done q place old new bodies waiting body e low size w only h =
    let small : place.file < 2 ^ 60 = omega (arith, place_near q place (length body) e, low) in
    let old_bytes = content old q.name place.file in
    let is : content new q.name place.file ≡ written_at old_bytes place.at (record_bytes body) = ap (λ (o : Option (List ℕ)). unwrap_or o []) w in
    holds_as (record q { staged = record { file = place.file; at = place.at + (4 + length body); count = place.count + 1 } }) q.saved true new bodies (waiting ++ body ∷ [])
    (holds_more (record q { staged = place }) old new bodies waiting body
    (record {
      earlier = λ k low high. other_content old new q.name place.file k small high only;
      here = record_front (old (data_file q.name place.file)) (new (data_file q.name place.file)) place.at body Done w;
    })
    (subst (λ (x : List ℕ). HasRecord q.options.least q.options.limit x place.at body) (sym is) (has-written q.options.least q.options.limit old_bytes place.at body size)) h)

-- the name may be known by another term
pub holds_named : (q : Seen) (name : List ℕ) (files : Files) (bodies waiting : List (List ℕ)) → name ≡ q.name → Holds q files bodies waiting → Holds (record q { name = name }) files bodies waiting
holds_named q name files bodies waiting e h = subst (λ (n : List ℕ). Holds (record q { name = n }) files bodies waiting) (sym e) h

-- what is known of the value holds of another that is the same but for the mark
pub holds_unmarked : (q r s : Seen) (files : Files) (bodies waiting : List (List ℕ)) → r ≡ q → s ≡ unmarked r → Holds q files bodies waiting → Holds s files bodies waiting
holds_unmarked q r s files bodies waiting e d h =
    subst (λ (x : Seen). Holds x files bodies waiting) (sym (d ∙ ap (λ (x : Seen). unmarked x) e)) (holds_as q q.saved q.begun files bodies waiting h)

-- only files of the queue change where two data files do
pub own_two : (name : List ℕ) (n : ℕ) (old new : Files) → n < 2 ^ 60 → OnlyTwoChange old new (data_file name n) (data_file name (n + 1)) → OwnChange name old new
own_two name n old new small only file other = only file (λ e. other (numbered n (omega arith) e)) (λ e. other (numbered (n + 1) (omega arith) e))

pub own_join : (name : List ℕ) (old mid new : Files) → OwnChange name old mid → OwnChange name mid new → OwnChange name old new
own_join name old mid new a b file other = b file other ∙ a file other

-- where the same two files change twice
pub two_join : (old mid new : Files) (a b : List ℕ) → OnlyTwoChange old mid a b → OnlyTwoChange mid new a b → OnlyTwoChange old new a b
two_join old mid new a b x y file p r = y file p r ∙ x file p r

-- the file that was read at the last save is not above the one where writing stands
saved_below : (q : Seen) → IsSound q → q.saved.positions.read_file ≤ q.staged.file
saved_below q i =
    let low = i.saved_read in
    let mid : q.positions.read_file ≤ q.positions.write_file = file_order q.positions i.ordered in
    let high : q.positions.write_file ≤ q.staged.file = file_order (staged_part q) i.ahead in
    omega arith
  where
    file_order : (p : Positions) → IsOrdered p → p.read_file ≤ p.write_file
    file_order p (inl lt) = omega arith
    file_order p (inr same) = omega (arith, same.0)

-- what the last save left stands where the metadata and the lower data files are as they were
pub stands_kept : (q : Seen) (old new : Files) → new (meta_file q.name) ≡ old (meta_file q.name)
    → ((k : ℕ) → k < q.saved.positions.read_file → new (data_file q.name k) ≡ old (data_file q.name k)) → SaveStands q old → SaveStands q new
stands_kept q old new meta below s = record {
  saved = λ finished sound. subst (λ (file : Option (List ℕ)). Says file q.saved.positions) (sym meta) (s.saved finished sound);
  unsaved = λ none sound. subst IsIdle (sym meta) (s.unsaved none sound);
  within = s.within;
  removed = λ k low. below k low ∙ s.removed k low;
}

-- and so it does whatever is staged
pub stands_two : (q : Seen) (old new : Files) → IsSound q → OnlyTwoChange old new (data_file q.name q.staged.file) (data_file q.name (q.staged.file + 1)) → SaveStands q old → SaveStands q new
stands_two q old new i only s =
    let small = i.staged_file in
    let n = q.staged.file in
    stands_kept q old new
    (only (meta_file q.name) (metadata_apart q.name n (omega (arith, small))).0 (metadata_apart q.name (n + 1) (omega (arith, small))).0)
    (λ k low. only (data_file q.name k) (λ e. omega (arith, saved_below q i, small, one_number q.name k n (omega (arith, saved_below q i, small)) (omega (arith, small)) e))
    (λ e. omega (arith, saved_below q i, small, one_number q.name k (n + 1) (omega (arith, saved_below q i, small)) (omega (arith, small)) e)))
    s

pub stands_after : (q : Seen) (size : ℕ) (answer : Stage) (files : Files) → SaveStands q files → SaveStands (after_stage q size answer) files
stands_after q size IsStaged files s = record { saved = s.saved; unsaved = s.unsaved; within = s.within; removed = s.removed }
stands_after q size Fault files s = record { saved = s.saved; unsaved = s.unsaved; within = s.within; removed = s.removed }
stands_after q size (TooLong _) files s = record { saved = s.saved; unsaved = s.unsaved; within = s.within; removed = s.removed }

pub stands_staged : (q r t : Seen) (size : ℕ) (answer : Stage) (old new : Files) → r ≡ q → t ≡ after_stage r size answer → IsSound q
    → OnlyTwoChange old new (data_file q.name q.staged.file) (data_file q.name (q.staged.file + 1)) → SaveStands q old → SaveStands t new
stands_staged q r t size answer old new e d i only s =
    subst (λ (x : Seen). SaveStands x new) (sym (d ∙ ap (λ (x : Seen). after_stage x size answer) e)) (stands_after q size answer new (stands_two q old new i only s))

-- a record that was written was not too long
pub fits_stays : (limit size : ℕ) (old new : Files) (answer : Stage) → size ≤ limit → StageTooLong limit size answer → StaysWhereTooLong old new answer
fits_stays limit size old new IsStaged fits t = tt
fits_stays limit size old new Fault fits t = tt
fits_stays limit size old new (TooLong told) fits t = absurd (omega (arith, t.0))

-- the metadata is no data file
pub meta_two : (name : List ℕ) (n : ℕ) (old new : Files) → n < 2 ^ 60 → OnlyTwoChange old new (data_file name n) (data_file name (n + 1)) → new (meta_file name) ≡ old (meta_file name)
meta_two name n old new small only = only (meta_file name) (metadata_apart name n (omega arith)).0 (metadata_apart name (n + 1) (omega arith)).0

-- what was cut to nothing, or to a place, and then written
nothing_written : (r : List ℕ) → written_at [] 0 r ≡ r
nothing_written r = grind (arith, common_steps)

cut_written : (bytes : List ℕ) (at : ℕ) (r : List ℕ) → written_at (cut_to bytes at) at r ≡ cut_to bytes at ++ r
cut_written bytes at r =
    let cut = cut_to bytes at in
    let long : length cut ≡ at = length-cut_to bytes at in
    let head : cut_to cut at ≡ cut = cut-inside cut at (omega (arith, long)) ∙ take_all at cut (omega (arith, long)) in
    let tail : drop (at + length r) cut ≡ [] = drop_all (at + length r) cut (omega (arith, long)) in
    ap (λ (x : List ℕ). x ++ r ++ drop (at + length r) cut) head ∙ ap (λ (x : List ℕ). cut ++ r ++ x) tail ∙ append-nil (cut ++ r)

-- what the file has where a record was written at its place
pub with_record_at : (q : Seen) (files : Files) (body : List ℕ) → written_at (base_for q files (length body)) (place_for q (length body)).at (record_bytes body) ≡ with_record q files body
with_record_at q files body = go (rolls q.options.max_bytes q.staged.file q.staged.at (length body)) q.begun
  where
    go : (b c : Bool)
        → written_at (if b then [] else (if c then unwrap_or (files (data_file q.name q.staged.file)) [] else cut_to (unwrap_or (files (data_file q.name q.staged.file)) []) q.staged.at))
        (if b then record { file = q.staged.file + 1; at = 0; count = q.staged.count } else q.staged).at (record_bytes body)
        ≡ (if b then record_bytes body else (if c then written_at (unwrap_or (files (data_file q.name q.staged.file)) []) q.staged.at (record_bytes body)
        else cut_to (unwrap_or (files (data_file q.name q.staged.file)) []) q.staged.at ++ record_bytes body))
    go true c = nothing_written (record_bytes body)
    go false true = refl
    go false false = cut_written (unwrap_or (files (data_file q.name q.staged.file)) []) q.staged.at (record_bytes body)

pub stage_writes : (q r : Seen) (old mid new : Files) (body : List ℕ) (place : Staged) (answer : Stage) → r ≡ q → place ≡ place_for q (length body)
    → unwrap_or (mid (data_file q.name place.file)) [] ≡ base_for q old (length body) → WritesPlace r mid new place body answer → StageWrites q old new body answer
stage_writes q r old mid new body place IsStaged e is base w =
    ap (λ (s : Staged). new (data_file q.name s.file)) (sym is) ∙ ap (λ (x : Seen). new (data_file x.name place.file)) (sym e) ∙ w
    ∙ ap (λ (x : Seen). Some (written_at (unwrap_or (mid (data_file x.name place.file)) []) place.at (record_bytes body))) e
    ∙ ap (λ (x : List ℕ). Some (written_at x place.at (record_bytes body))) base ∙ ap (λ (s : Staged). Some (written_at (base_for q old (length body)) s.at (record_bytes body))) is
    ∙ ap (λ (x : List ℕ). Some x) (with_record_at q old body)
stage_writes q r old mid new body place Fault e is base w = tt
stage_writes q r old mid new body place (TooLong _) e is base w = tt

-- where a record goes, and what stands there, by whether it rolls
pub rolls_on : (max_bytes file at size : ℕ) → true ≡ rolls max_bytes file at size → file < 2 ^ 40
rolls_on max_bytes file at size h = grind (arith, nat_tests)

pub placed_rolled : (q : Seen) (size : ℕ) (result : Option Staged) → true ≡ rolls q.options.max_bytes q.staged.file q.staged.at size
    → IfSome result (λ place. place ≡ record { file = q.staged.file + 1; at = 0; count = q.staged.count }) → IfSome result (λ place. place ≡ place_for q size)
placed_rolled q size result rolled h = subst (λ (b : Bool). IfSome result (λ place. place ≡ (if b then record { file = q.staged.file + 1; at = 0; count = q.staged.count } else q.staged))) rolled h

pub placed_here : (q : Seen) (size : ℕ) (result : Option Staged) → false ≡ rolls q.options.max_bytes q.staged.file q.staged.at size → IfSome result (λ place. place ≡ q.staged) → IfSome result (λ place. place ≡ place_for q size)
placed_here q size result rolled h = subst (λ (b : Bool). IfSome result (λ place. place ≡ (if b then record { file = q.staged.file + 1; at = 0; count = q.staged.count } else q.staged))) rolled h

pub based_rolled : (q : Seen) (old new : Files) (size : ℕ) (result : Option Staged) → true ≡ rolls q.options.max_bytes q.staged.file q.staged.at size
    → IfSome result (λ place. unwrap_or (new (data_file q.name place.file)) [] ≡ []) → IfSome result (λ place. unwrap_or (new (data_file q.name place.file)) [] ≡ base_for q old size)
based_rolled q old new size result rolled h = subst (λ (b : Bool). IfSome result (λ place. unwrap_or (new (data_file q.name place.file)) [] ≡ (if b then [] else first_base q old))) rolled h

pub based_here : (q : Seen) (old new : Files) (size : ℕ) (result : Option Staged) → false ≡ rolls q.options.max_bytes q.staged.file q.staged.at size
    → IfSome result (λ place. unwrap_or (new (data_file q.name place.file)) [] ≡ first_base q old) → IfSome result (λ place. unwrap_or (new (data_file q.name place.file)) [] ≡ base_for q old size)
based_here q old new size result rolled h = subst (λ (b : Bool). IfSome result (λ place. unwrap_or (new (data_file q.name place.file)) [] ≡ (if b then [] else first_base q old))) rolled h

-- what stands where writing stands, where a record was staged before, and where the file was cut
pub begun_base : (p q : Seen) (old : Files) → p ≡ q → p.begun ≡ true → unwrap_or (old (data_file q.name p.staged.file)) [] ≡ first_base q old
begun_base p q old e begun = subst (λ (x : Seen). unwrap_or (old (data_file x.name p.staged.file)) [] ≡ first_base x old) e
    (sym (ap (λ (b : Bool). if b then unwrap_or (old (data_file p.name p.staged.file)) [] else cut_to (unwrap_or (old (data_file p.name p.staged.file)) []) p.staged.at) begun))

pub cut_base : (p q : Seen) (old new : Files) → p ≡ q → p.begun ≡ false → Cuts (old (data_file p.name p.staged.file)) (new (data_file p.name p.staged.file)) p.staged.at Done → unwrap_or (new (data_file q.name p.staged.file)) [] ≡ first_base q old
cut_base p q old new e begun cut = subst (λ (x : Seen). unwrap_or (new (data_file x.name p.staged.file)) [] ≡ first_base x old) e
    (ap (λ (o : Option (List ℕ)). unwrap_or o []) cut
    ∙ sym (ap (λ (b : Bool). if b then unwrap_or (old (data_file p.name p.staged.file)) [] else cut_to (unwrap_or (old (data_file p.name p.staged.file)) []) p.staged.at) begun))

pub staged_changes : (p q : Seen) (old new : Files) → p ≡ q → OnlyChanges old new (data_file p.name p.staged.file) → OnlyTwoChange old new (data_file q.name q.staged.file) (data_file q.name (q.staged.file + 1))
staged_changes p q old new e only = subst (λ (x : Seen). OnlyTwoChange old new (data_file x.name x.staged.file) (data_file x.name (x.staged.file + 1))) e (λ other apart next. only other apart)
