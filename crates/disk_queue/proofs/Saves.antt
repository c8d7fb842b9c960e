-- What a save does to the lists of a queue, and what an opening finds after it.
use Rattle.std.proofs.Common.{◌≡◌, ℕ, ◌+◌, ◌^◌, ◌<◌, ◌≤◌, Bool, true, false, if◌then◌else◌, IsTrue, List, [], ◌++◌, length, take, Option, Some, unwrap_or, refl, sym, ◌∙◌, ap, subst, inl, inr, arith, length-append}
use Rattle.std.proofs.lemmas.Bool.{cases_lt}
use Rattle.nsq_outside.specs.Files.{Files}
use Rattle.nsq_outside.specs.declared.did.Did.{Did}
use Rattle.nsq_outside.specs.declared.did.Did.TheVariants.{Done, Failed}
use Rattle.queue_image.specs.FileNames.{data_file, meta_file, meta_temp}
use Rattle.queue_image.specs.FileNames.IsOwnFile.{numbered, metadata, written}
use Rattle.queue_image.specs.Places.{IsOrdered, IsAtEnd, rolls}
use Rattle.queue_image.specs.Metas.{meta_text, IsIdle}
use Rattle.queue_image.specs.Between.{Between, IsSaved}
use Rattle.queue_image.specs.Finds.{IsFound, Records}
use Rattle.queue_image.specs.Finds.IsFound.{fresh, empty}
use Rattle.queue_image.specs.declared.positions.Positions.{Positions}
use Rattle.queue_image.specs.Between.Reads.{arrives}
use Rattle.queue_image.proofs.Reading.{joined}
use Rattle.queue_image.proofs.Lists.{empty_at_end}
use Rattle.queue_image.proofs.Walking.{list_is_found}
use Rattle.queue_image.proofs.Keeping.{saved_is_found}
use Rattle.queue_image.proofs.MetaLemmas.{reads_back}
use Rattle.queue_image.proofs.Naming.{one_number, metadata_apart}
use Rattle.disk_queue.specs.Seen.{Seen, unmarked, committed, staged_more, after_stage, after_save, IsUnchanged}
use Rattle.disk_queue.specs.Holding.{Holds, staged_part, SaveStands, OwnChange}
use Rattle.disk_queue.specs.Answers.{IsKept, KeptWhereDone, FoundUnlessFailed, NotDueWhere, Saves, PutSaves}
use Rattle.queue_opening.specs.Replaced.{OnlyTwoChange, Replaces}
use Rattle.disk_queue.specs.Parts.{IsSound, OnlySaveChanges, Rewrites, PutChanges, place_for, with_record}
use Rattle.queue_opening.specs.FileCalls.{OnlyNumbersChange, Gone}
use Rattle.disk_queue.specs.declared.answers.Stage.TheVariants.{Staged as IsStaged}
use Rattle.disk_queue.specs.declared.standing.Staged.{Staged}
use Rattle.disk_queue.specs.declared.answers.Put.TheVariants.{Stored}
use Rattle.disk_queue.specs.declared.answers.Sync.{Sync}
use Rattle.disk_queue.specs.declared.answers.Sync.TheVariants.{NotDue, Done as Saved, Failed as Unsaved}
use Rattle.disk_queue.proofs.Kept.{holds_kept, holds_as}

-- the removal leaves the metadata
meta_stays : (name : List ℕ) (from to : ℕ) (old new : Files) → to ≤ 2 ^ 40 → OnlyNumbersChange name old new from to → new (meta_file name) ≡ old (meta_file name)
meta_stays name from to old new small only = only (meta_file name) (λ k _ high. (metadata_apart name k (omega arith)).0)

-- and its temporary
temp_stays : (name : List ℕ) (from to : ℕ) (old new : Files) → to ≤ 2 ^ 40 → OnlyNumbersChange name old new from to → new (meta_temp name) ≡ old (meta_temp name)
temp_stays name from to old new small only = only (meta_temp name) (λ k _ high. (metadata_apart name k (omega arith)).1)

pub rewritten : (q r : Seen) (old mid new : Files) (did : Did) → q ≡ r → q.positions.read_file ≤ 2 ^ 40 → Replaces old mid (meta_file q.name) (meta_temp q.name) (meta_text q.depth q.positions) Done
    → OnlyNumbersChange q.name mid new q.saved.positions.read_file q.positions.read_file → Rewrites r old new did
rewritten q r old mid new Done e small w only =
    let from = q.saved.positions.read_file in
    let to = q.positions.read_file in
    subst (λ (x : Seen). Rewrites x old new Done) e (meta_stays q.name from to mid new small only ∙ w.0, temp_stays q.name from to mid new small only ∙ w.1)
rewritten q r old mid new Failed e small w only =
    subst (λ (x : Seen). Rewrites x old new Failed) e (inr (meta_stays q.name q.saved.positions.read_file q.positions.read_file mid new small only ∙ w.0))

-- where the metadata could not be written no file was removed
pub not_rewritten : (q r : Seen) (old new : Files) → q ≡ r → q.positions.read_file ≤ 2 ^ 40 → Replaces old new (meta_file q.name) (meta_temp q.name) (meta_text q.depth q.positions) Failed
    → OnlyTwoChange old new (meta_file q.name) (meta_temp q.name) → Rewrites r old new Failed
not_rewritten q r old new e small w only = subst (λ (x : Seen). Rewrites x old new Failed) e (go w)
  where
    go : Replaces old new (meta_file q.name) (meta_temp q.name) (meta_text q.depth q.positions) Failed → Rewrites q old new Failed
    go (inl same) =
        inl (
          same,
          λ k low.
              let apart = metadata_apart q.name k (omega (arith, low, small)) in
              only (data_file q.name k) (λ f. apart.0 (sym f)) (λ f. apart.1 (sym f)),
        )
    go (inr text) = inr text

-- the save in a put tells of the metadata before it
pub put_saves : (q p r : Seen) (old mid new : Files) (size : ℕ) (sync : Sync) → p ≡ after_stage q size IsStaged → r ≡ after_save (committed p) sync → mid (meta_file q.name) ≡ old (meta_file q.name)
    → Saves r mid new sync → PutSaves r old new (Stored sync)
put_saves q p r old mid new size sync e d stays s = go sync s
  where
    name : r.name ≡ q.name
    name = ap (λ (x : Seen). x.name) (d ∙ ap (λ (x : Seen). after_save (committed x) sync) e)

    meta : mid (meta_file r.name) ≡ old (meta_file r.name)
    meta = subst (λ (n : List ℕ). mid (meta_file n) ≡ old (meta_file n)) (sym name) stays

    go : (sync : Sync) → Saves r mid new sync → PutSaves r old new (Stored sync)
    go NotDue s = s (meta_file r.name) ∙ meta
    go Saved s = s
    go Unsaved (inl kept) = inl (kept.0 ∙ meta)
    go Unsaved (inr text) = inr text

-- the file where writing stands once a record was staged
more_place : (q : Seen) (size : ℕ) → (staged_more q size).file ≡ (place_for q size).file
more_place q size = go (rolls q.options.max_bytes q.staged.file q.staged.at size)
  where
    more : Bool → Staged
    more b =
        if b
        then record { file = q.staged.file + 1; at = 4 + size; count = q.staged.count + 1 }
        else record { file = q.staged.file; at = q.staged.at + (4 + size); count = q.staged.count + 1 }

    place : Bool → Staged
    place b = if b then record { file = q.staged.file + 1; at = 0; count = q.staged.count } else q.staged

    go : (b : Bool) → (more b).file ≡ (place b).file
    go true = refl
    go false = refl

-- a record that was staged stands in its file after the commit
pub put_writes : (q p : Seen) (old mid new : Files) (body : List ℕ) → p ≡ after_stage q (length body) IsStaged → mid (data_file q.name (place_for q (length body)).file) ≡ Some (with_record q old body)
    → new (data_file p.name p.staged.file) ≡ mid (data_file p.name p.staged.file) → new (data_file q.name (place_for q (length body)).file) ≡ Some (with_record q old body)
put_writes q p old mid new body e there stays =
    let here : new (data_file q.name (staged_more q (length body)).file) ≡ mid (data_file q.name (staged_more q (length body)).file)
    = subst (λ (x : Seen). new (data_file x.name x.staged.file) ≡ mid (data_file x.name x.staged.file)) e stays in
    subst (λ (k : ℕ). new (data_file q.name k) ≡ mid (data_file q.name k)) (more_place q (length body)) here ∙ there

-- a record is staged and committed
pub put_changes : (q : Seen) (size : ℕ) (sync : Sync) (old mid new : Files) → OnlyTwoChange old mid (data_file q.name q.staged.file) (data_file q.name (q.staged.file + 1))
    → OnlySaveChanges (after_stage q size IsStaged) mid new → PutChanges q old new (Stored sync)
put_changes q size sync old mid new two save file a b meta temp below = save file meta temp below ∙ two file a b

module _ (q : Seen) (i : IsSound q) (old new : Files) (only : OnlySaveChanges q old new) where
  reads_low : q.positions.read_file ≤ 2 ^ 40
  reads_low = let range = i.range in range.read_file

  -- the data files from the one that is read on are as they were
  from_read : (k : ℕ) → q.positions.read_file ≤ k → k < 2 ^ 64 → new (data_file q.name k) ≡ old (data_file q.name k)
  from_read k low small =
      let apart = metadata_apart q.name k small in
      only (data_file q.name k) (λ e. apart.0 (sym e)) (λ e. apart.1 (sym e))
      (λ j _ high e. omega (arith, one_number q.name k j small (omega (arith, reads_low)) e))

  -- and those below the one that was read at the last save
  below_saved : (k : ℕ) → k < q.saved.positions.read_file → new (data_file q.name k) ≡ old (data_file q.name k)
  below_saved k low =
      let saved = i.saved_read in
      let small : k < 2 ^ 64 = omega (arith, reads_low) in
      let apart = metadata_apart q.name k small in
      only (data_file q.name k) (λ e. apart.0 (sym e)) (λ e. apart.1 (sym e))
      (λ j from high e. omega (arith, one_number q.name k j small (omega (arith, reads_low)) e))

  -- a save leaves the lists
  pub holds_saved : (bodies waiting : List (List ℕ)) → Holds q old bodies waiting → Holds q new bodies waiting
  holds_saved bodies waiting h =
      let low = i.staged_file in
      let reads : q.positions.read_file ≤ q.positions.write_file = file_order q.positions i.ordered in
      let writes : q.positions.write_file ≤ q.staged.file = file_order (staged_part q) i.ahead in
      holds_kept q old new bodies waiting
      (record {
        earlier = λ k from to. ap (λ (o : Option (List ℕ)). unwrap_or o []) (from_read k from (omega (arith, low)));
        here = λ _. ap (λ (o : Option (List ℕ)). take q.staged.at (unwrap_or o [])) (from_read q.staged.file (omega (arith, reads, writes)) (omega (arith, low)));
      })
      h
    where
      file_order : (p : Positions) → IsOrdered p → p.read_file ≤ p.write_file
      file_order p (inl lt) = omega arith
      file_order p (inr same) = omega (arith, same.0)

  -- the file where writing stands stays
  pub write_saved : new (data_file q.name q.positions.write_file) ≡ old (data_file q.name q.positions.write_file)
  write_saved = let range = i.range in let high = range.write_file in from_read q.positions.write_file (low q.positions i.ordered) (omega (arith, high))
    where
      low : (p : Positions) → IsOrdered p → p.read_file ≤ p.write_file
      low p (inl lt) = omega arith
      low p (inr same) = omega (arith, same.0)

  -- no file of another name changes
  pub own_saved : OwnChange q.name old new
  own_saved file other = only file (λ e. other (metadata e)) (λ e. other (written e)) (λ k _ high e. other (numbered k (omega (arith, reads_low)) e))

  -- after a save that failed what the last one left still stands
  pub stands_failed : SaveStands q old → SaveStands (after_save q Unsaved) new
  stands_failed s = record { saved = λ _ sound. absurd (sound refl); unsaved = λ _ sound. absurd (sound refl); within = s.within; removed = λ k low. below_saved k low ∙ s.removed k low }

  -- after one that was made what it left stands
  pub stands_saved : Rewrites q old new Done → Gone q.name new q.saved.positions.read_file q.positions.read_file Done → SaveStands q old → SaveStands (after_save q Saved) new
  stands_saved meta gone s = record {
    saved = λ _ _. record { text = meta_text q.depth q.positions; depth = q.depth; there = meta.0; is = reads_back q.depth q.positions (depth_fits q i) i.range i.ordered };
    unsaved = λ none _. absurd (none refl);
    within = reads_low;
    removed = λ k low. elim (cases_lt k q.saved.positions.read_file) [ inl below ↦ below_saved k below ∙ s.removed k below | inr past ↦ gone k past low ];
  }
    where
      depth_fits : (q : Seen) → IsSound q → q.depth < 2 ^ 128
      depth_fits q i = let range = i.range in let records = i.records in omega (arith, range.write_file, range.write_at, records)

  -- the list is saved, and an opening finds it
  pub kept_saved : (bodies waiting : List (List ℕ)) → Rewrites q old new Done → Holds q old bodies waiting → IsKept (after_save q Saved) new bodies
  kept_saved bodies waiting meta h =
      let kept = holds_saved bodies waiting h in
      let depth = h.depth in
      let range = i.range in
      let records = i.records in
      let saved : IsSaved q.options.least q.options.limit new q.name q.positions bodies
      = record { text = meta.0 ∙ ap (λ (n : ℕ). Some (meta_text n q.positions)) (sym depth); list = kept.list } in
      record {
        saved = saved;
        found = saved_is_found q.options.least q.options.limit new q.name q.positions bodies (omega (arith, range.write_file, range.write_at, records, depth)) i.range saved;
      }

-- an opening finds the list where the last save still says where it is
pub unchanged_found : (q : Seen) (files : Files) (bodies waiting : List (List ℕ)) → IsSound q → IsUnchanged q → SaveStands q files → Holds q files bodies waiting
    → IsFound q.options.least q.options.limit files q.name (Records bodies [])
unchanged_found q files bodies waiting i u s h = go q.saved.finished refl
  where
    go : (b : Bool) → q.saved.finished ≡ b → IsFound q.options.least q.options.limit files q.name (Records bodies [])
    go true e =
        let says = s.saved e u.sound in
        list_is_found q.options.least q.options.limit files q.name says.text (record { depth = says.depth; positions = q.saved.positions }) bodies says.there says.is
        (subst (λ (p : Positions). Between q.options.least q.options.limit files q.name p bodies) u.positions h.list)
    go false e =
        let none : ¬ IsTrue q.saved.finished = λ t. (let f : false ≡ true = sym e ∙ t in cc) in
        let end : IsAtEnd q.positions = subst IsAtEnd (sym u.positions) (i.making none) in
        let nothing : bodies ≡ [] = empty_at_end q.options.least q.options.limit h.list.reads end.0 end.1 in
        subst (λ (bs : List (List ℕ)). IsFound q.options.least q.options.limit files q.name (Records bs [])) (sym nothing) (idle (s.unsaved none u.sound))
      where
        idle : IsIdle (files (meta_file q.name)) → IsFound q.options.least q.options.limit files q.name (Records [] [])
        idle (inl absent) = fresh absent
        idle (inr (p, says, at)) = empty says.text (record { depth = says.depth; positions = p }) says.there says.is at

-- what holds of a queue after a save holds of the value that is known to be it
pub to_saved : (P : Seen → Type 0) (q r s : Seen) (sync : Sync) → r ≡ q → s ≡ after_save r sync → P (after_save q sync) → P s
to_saved P q r s sync e d p = subst P (sym (d ∙ ap (λ (x : Seen). after_save x sync) e)) p

pub holds_after : (q : Seen) (sync : Sync) (files : Files) (bodies waiting : List (List ℕ)) → Holds q files bodies waiting → Holds (after_save q sync) files bodies waiting
holds_after q NotDue files bodies waiting h = h
holds_after q Saved files bodies waiting h = record { list = h.list; depth = h.depth; staged = h.staged; count = h.count; within = h.within; mark = h.mark }
holds_after q Unsaved files bodies waiting h = record { list = h.list; depth = h.depth; staged = h.staged; count = h.count; within = h.within; mark = h.mark }

-- the staged records join the list
pub holds_committed : (q : Seen) (files : Files) (bodies waiting : List (List ℕ)) → Holds q files bodies waiting → Holds (committed q) files (bodies ++ waiting) []
holds_committed q files bodies waiting h =
    let depth = h.depth in
    let count = h.count in
    record {
      list = record { reads = joined q.options.least q.options.limit h.list.reads h.staged.reads; inside = h.staged.inside };
      depth = omega (arith, length-append bodies waiting, depth, count);
      staged = record { reads = arrives refl refl; inside = h.staged.inside };
      count = refl;
      within = h.within;
      mark = tt;
    }

pub stands_committed : (q : Seen) (files : Files) → SaveStands q files → SaveStands (committed q) files
stands_committed q files s = record { saved = s.saved; unsaved = s.unsaved; within = s.within; removed = s.removed }

pub stands_unmarked : (q : Seen) (files : Files) → SaveStands q files → SaveStands (unmarked q) files
stands_unmarked q files s = record { saved = s.saved; unsaved = s.unsaved; within = s.within; removed = s.removed }

-- the same of the value that is known to be the committed one
pub holds_joined : (q r : Seen) (files : Files) (bodies waiting : List (List ℕ)) → r ≡ committed q → Holds q files bodies waiting → Holds r files (bodies ++ waiting) []
holds_joined q r files bodies waiting e h = subst (λ (x : Seen). Holds x files (bodies ++ waiting) []) (sym e) (holds_committed q files bodies waiting h)

pub stands_joined : (q r : Seen) (files : Files) → r ≡ committed q → SaveStands q files → SaveStands r files
stands_joined q r files e s = subst (λ (x : Seen). SaveStands x files) (sym e) (stands_committed q files s)

pub stands_dropped : (q r : Seen) (files : Files) → r ≡ unmarked q → SaveStands q files → SaveStands r files
stands_dropped q r files e s = subst (λ (x : Seen). SaveStands x files) (sym e) (stands_unmarked q files s)

pub holds_dropped : (q r : Seen) (files : Files) (bodies waiting : List (List ℕ)) → r ≡ unmarked q → Holds q files bodies waiting → Holds r files bodies waiting
holds_dropped q r files bodies waiting e h = subst (λ (x : Seen). Holds x files bodies waiting) (sym e) (holds_as q q.saved q.begun files bodies waiting h)

-- a save that was due, or failed
pub found_saved : (q : Seen) (files : Files) (bodies : List (List ℕ)) (sync : Sync) → NotDueWhere ⊥ sync → KeptWhereDone q files bodies sync → FoundUnlessFailed q files bodies sync
found_saved q files bodies NotDue never kept = absurd never
found_saved q files bodies Saved never kept = kept.found
found_saved q files bodies Unsaved never kept = tt
