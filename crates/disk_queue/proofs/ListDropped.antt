-- The list of a queue is dropped, and its files are removed.
use Rattle.std.proofs.Common.{◌≡◌, ◌≢◌, ◌∙◌, ℕ, ◌+◌, ◌^◌, ◌<◌, ◌≤◌, ◌⊎◌, List, [], Some, None, Bool, IsTrue, true, false, sym, ap, subst, refl, inl, inr, arith}
use Rattle.std.proofs.lemmas.Bool.{cases_lt}
use Rattle.nsq_outside.specs.Causes.{Rose, DidFails, DidCounts, CountsFault}
use Rattle.nsq_outside.specs.Files.{Files, OnlyChanges, Removes}
use Rattle.nsq_outside.specs.declared.did.Did.{Did}
use Rattle.nsq_outside.specs.declared.did.Did.TheVariants.{Done, Failed}
use Rattle.queue_image.specs.FileNames.{data_file, meta_file, meta_temp, IsOwnFile}
use Rattle.queue_image.specs.FileNames.IsOwnFile.{numbered, metadata}
use Rattle.queue_image.specs.Places.{IsOrdered, IsInRange}
use Rattle.queue_image.specs.Metas.{meta_text, IsIdle}
use Rattle.queue_image.specs.Finds.{IsFound, Records}
use Rattle.queue_image.specs.Finds.IsFound.{fresh, empty}
use Rattle.queue_image.specs.Between.Reads.{arrives}
use Rattle.queue_image.specs.declared.positions.Positions.{Positions}
use Rattle.queue_image.proofs.MetaLemmas.{reads_back}
use Rattle.queue_image.proofs.Naming.{one_number, metadata_apart}
use Rattle.disk_queue.specs.Seen.{Seen, unmarked, ended, emptied, after_save}
use Rattle.disk_queue.specs.Holding.{Holds, SaveStands, OwnChange}
use Rattle.disk_queue.specs.Answers.{IsKept}
use Rattle.queue_opening.specs.Replaced.{Replaces, OnlyTwoChange}
use Rattle.disk_queue.specs.Parts.{IsSound, OnlySaveChanges, Rewrites}
use Rattle.queue_opening.specs.FileCalls.{Gone, OnlyNumbersChange}
use Rattle.disk_queue.specs.Emptying.{EmptySeen, EmptyCounts, Deletes, IsForgotten, IsGone}
use Rattle.disk_queue.specs.declared.answers.Sync.{Sync}
use Rattle.disk_queue.specs.declared.answers.Sync.TheVariants.{Done as Saved, Failed as Unsaved}
use Rattle.disk_queue.specs.declared.answers.Emptied.TheVariants.{Done as AllGone}
use Rattle.disk_queue.proofs.Saves.{rewritten, holds_saved, holds_after, own_saved, stands_failed, stands_saved, kept_saved, stands_unmarked}
use Rattle.disk_queue.proofs.Kept.{holds_as}

-- the read position is not past the write position, so its file is none above
in_files : (p : Positions) → IsOrdered p → p.read_file ≤ p.write_file
in_files p (inl lt) = omega arith
in_files p (inr same) = omega (arith, same.0)

pub sound_emptied : (q : Seen) → IsSound q → IsSound (emptied q)
sound_emptied q i =
    let range = i.range in
    let saved = i.saved_read in
    let low = in_files q.positions i.ordered in
    record {
      ordered = inr (refl, omega arith);
      range = record { read_file = range.write_file; read_at = range.write_at; write_file = range.write_file; write_at = range.write_at };
      ahead = i.ahead;
      staged_file = i.staged_file;
      staged_at = i.staged_at;
      records = omega arith;
      more = i.more;
      saved_range = i.saved_range;
      saved_read = omega (arith, saved, low);
      making = i.making;
      marked = tt;
      limit = i.limit;
    }

-- the value that is known to be the one without its mark
pub sound_known : (q u : Seen) → u ≡ unmarked q → IsSound u → IsSound (emptied q)
sound_known q u e i = sound_emptied (unmarked q) (subst IsSound e i)

pub holds_emptied : (q : Seen) (files : Files) (bodies waiting : List (List ℕ)) → Holds q files bodies waiting → Holds (emptied q) files [] waiting
holds_emptied q files bodies waiting h = record {
  list = record { reads = arrives refl refl; inside = h.list.inside };
  depth = refl;
  staged = h.staged;
  count = h.count;
  within = h.within;
  mark = tt;
}

pub stands_emptied : (q : Seen) (files : Files) → SaveStands q files → SaveStands (emptied q) files
stands_emptied q files s = record { saved = s.saved; unsaved = s.unsaved; within = s.within; removed = s.removed }

-- the value after the save, by its parts
pub value_after : (q u w d r s : Seen) (sync : Sync) → u ≡ unmarked q → w ≡ u → d ≡ emptied w → r ≡ d → s ≡ after_save r sync → s ≡ after_save (emptied q) sync
value_after q u w d r s sync e f g h k = k ∙ ap (λ (x : Seen). after_save x sync) (h ∙ g ∙ ap (λ (x : Seen). emptied x) (f ∙ e))

pub value_failed : (q u w s : Seen) → u ≡ unmarked q → w ≡ u → s ≡ after_save w Unsaved → s ≡ after_save (unmarked q) Unsaved
value_failed q u w s e f k = k ∙ ap (λ (x : Seen). after_save x Unsaved) (f ∙ e)

module _ (q u w d : Seen) (old mid new : Files) (e : u ≡ unmarked q) (f : w ≡ u) (g : d ≡ emptied w) (i : IsSound u) where
  is_emptied : d ≡ emptied q
  is_emptied = g ∙ ap (λ (x : Seen). emptied x) (f ∙ e)

  -- the calls on the folder change what a save changes
  pub empty_changes : OnlyTwoChange old mid (meta_file u.name) (meta_temp u.name) → OnlyNumbersChange d.name mid new d.saved.positions.read_file d.positions.read_file → OnlySaveChanges (emptied q) old new
  empty_changes two numbers file meta temp below =
      let two' : OnlyTwoChange old mid (meta_file q.name) (meta_temp q.name) = subst (λ (x : Seen). OnlyTwoChange old mid (meta_file x.name) (meta_temp x.name)) e two in
      let numbers' : OnlyNumbersChange q.name mid new q.saved.positions.read_file q.positions.write_file
      = subst (λ (x : Seen). OnlyNumbersChange x.name mid new x.saved.positions.read_file x.positions.read_file) is_emptied numbers in
      numbers' file below ∙ two' file meta temp

  -- there was a file to remove
  pub tried_some : d.saved.positions.read_file < d.positions.read_file → q.saved.positions.read_file < q.positions.write_file
  tried_some some = subst (λ (x : Seen). x.saved.positions.read_file < x.positions.read_file) is_emptied some

  -- the metadata is that of the empty list
  pub empty_writes : Replaces old mid (meta_file u.name) (meta_temp u.name) (meta_text 0 (ended u.positions)) Done
      → OnlyNumbersChange d.name mid new d.saved.positions.read_file d.positions.read_file → Rewrites (emptied q) old new Done
  empty_writes text numbers =
      let i' = sound_known q u e i in
      rewritten (emptied q) (emptied q) old mid new Done refl i'.range.read_file
      (subst (λ (x : Seen). Replaces old mid (meta_file x.name) (meta_temp x.name) (meta_text 0 (ended x.positions)) Done) e text)
      (subst (λ (x : Seen). OnlyNumbersChange x.name mid new x.saved.positions.read_file x.positions.read_file) is_emptied numbers)

  pub empty_gone : Gone d.name new d.saved.positions.read_file d.positions.read_file Done → Gone q.name new q.saved.positions.read_file q.positions.write_file Done
  empty_gone gone = subst (λ (x : Seen). Gone x.name new x.saved.positions.read_file x.positions.read_file Done) is_emptied gone

module _ (q : Seen) (i : IsSound (emptied q)) (old new : Files) (only : OnlySaveChanges (emptied q) old new) where
  -- what is held then
  pub empty_holds : (s : Seen) (sync : Sync) (bodies waiting : List (List ℕ)) → s ≡ after_save (emptied q) sync → Holds q old bodies waiting → Holds s new [] waiting
  empty_holds s sync bodies waiting e h =
      subst (λ (x : Seen). Holds x new [] waiting) (sym e)
      (holds_after (emptied q) sync new [] waiting (holds_saved (emptied q) i old new only [] waiting (holds_emptied q old bodies waiting h)))

  pub empty_kept : (s : Seen) (sync : Sync) (bodies waiting : List (List ℕ)) → s ≡ after_save (emptied q) sync → Rewrites (emptied q) old new Done → Holds q old bodies waiting → IsKept s new []
  empty_kept s sync bodies waiting e text h =
      let kept = kept_saved (emptied q) i old new only [] waiting text (holds_emptied q old bodies waiting h) in
      subst (λ (x : Seen). IsKept x new []) (sym e) (record { saved = kept.saved; found = kept.found })

  pub empty_stands : (s : Seen) → s ≡ after_save (emptied q) Saved → Rewrites (emptied q) old new Done → Gone q.name new q.saved.positions.read_file q.positions.write_file Done → SaveStands q old
      → SaveStands s new
  empty_stands s e text gone stands =
      subst (λ (x : Seen). SaveStands x new) (sym e) (stands_saved (emptied q) i old new only text gone (stands_emptied q old stands))

  pub empty_fails : (s : Seen) → s ≡ after_save (emptied q) Unsaved → SaveStands q old → SaveStands s new
  empty_fails s e stands = subst (λ (x : Seen). SaveStands x new) (sym e) (stands_failed (emptied q) i old new only (stands_emptied q old stands))

  pub empty_own : OwnChange q.name old new
  empty_own = own_saved (emptied q) i old new only

-- where the metadata is that of the empty list an opening finds nothing
pub nothing_found : (least limit : ℕ) (q : Seen) (files : Files) → IsInRange (ended q.positions) → files (meta_file q.name) ≡ Some (meta_text 0 (ended q.positions))
    → IsFound least limit files q.name (Records [] [])
nothing_found least limit q files range text =
    empty (meta_text 0 (ended q.positions)) (record { depth = 0; positions = ended q.positions }) text (reads_back 0 (ended q.positions) (omega arith) range (inr (refl, omega arith))) (refl, refl)

pub empty_found : (least limit : ℕ) (q : Seen) (files : Files) → IsSound (emptied q) → files (meta_file q.name) ≡ Some (meta_text 0 (ended q.positions)) → IsFound least limit files q.name (Records [] [])
empty_found least limit q files i text = nothing_found least limit q files i.range text

pub nothing_idle : (q : Seen) (files : Files) → IsInRange (ended q.positions) → files (meta_file q.name) ≡ Some (meta_text 0 (ended q.positions)) → IsIdle (files (meta_file q.name))
nothing_idle q files range text =
    inr (ended q.positions, record { text = meta_text 0 (ended q.positions); depth = 0; there = text; is = reads_back 0 (ended q.positions) (omega arith) range (inr (refl, omega arith)) }, (refl, refl))

module _ (q u : Seen) (old new : Files) (e : u ≡ unmarked q) (i : IsSound u) (two : OnlyTwoChange old new (meta_file u.name) (meta_temp u.name)) where
  -- where the metadata could not be written nothing else changed
  pub two_known : OnlyTwoChange old new (meta_file q.name) (meta_temp q.name)
  two_known = subst (λ (x : Seen). OnlyTwoChange old new (meta_file x.name) (meta_temp x.name)) e two

  sound_unmarked : IsSound (unmarked q)
  sound_unmarked = subst IsSound e i

  only_save : OnlySaveChanges (unmarked q) old new
  only_save file meta temp below = two_known file meta temp

  pub fault_changes : OnlySaveChanges (emptied q) old new
  fault_changes file meta temp below = two_known file meta temp

  pub fault_holds : (s : Seen) (bodies waiting : List (List ℕ)) → s ≡ after_save (unmarked q) Unsaved → Holds q old bodies waiting → Holds s new bodies waiting
  fault_holds s bodies waiting is h =
      subst (λ (x : Seen). Holds x new bodies waiting) (sym is)
      (holds_after (unmarked q) Unsaved new bodies waiting (holds_saved (unmarked q) sound_unmarked old new only_save bodies waiting (holds_as q q.saved q.begun old bodies waiting h)))

  pub fault_stands : (s : Seen) → s ≡ after_save (unmarked q) Unsaved → SaveStands q old → SaveStands s new
  fault_stands s is stands = subst (λ (x : Seen). SaveStands x new) (sym is) (stands_failed (unmarked q) sound_unmarked old new only_save (stands_unmarked q old stands))

  pub fault_own : OwnChange q.name old new
  fault_own = own_saved (unmarked q) sound_unmarked old new only_save

-- the metadata is what it was, or that of the empty list
pub fault_writes : (q u : Seen) (old new : Files) → u ≡ unmarked q → Replaces old new (meta_file u.name) (meta_temp u.name) (meta_text 0 (ended u.positions)) Failed
    → (new (meta_file q.name) ≡ old (meta_file q.name)) ⊎ (new (meta_file q.name) ≡ Some (meta_text 0 (ended q.positions)))
fault_writes q u old new e r = subst (λ (x : Seen). Replaces old new (meta_file x.name) (meta_temp x.name) (meta_text 0 (ended x.positions)) Failed) e r

-- what is counted where the removal was made
pub counted_done : (q s : Seen) (a b c : ℕ) → s ≡ after_save (emptied q) Saved → CountsFault a b false → CountsFault b c false → EmptyCounts a c q s AllGone
counted_done q s a b c e one two =
    let failed : s.saved.failed ≡ false = ap (λ (x : Seen). x.saved.failed) e in (
      subst (λ (f : Bool). CountsFault a c f) (sym failed) (two ∙ one),
      λ t. (let contra : false ≡ true = sym failed ∙ t in cc),
    )

-- and where it failed
pub counted_failed : (q s : Seen) (a b c : ℕ) → s ≡ after_save (emptied q) Unsaved → CountsFault a b false → CountsFault b c true → q.saved.positions.read_file < q.positions.write_file
    → EmptyCounts a c q s AllGone
counted_failed q s a b c e one two some =
    let failed : s.saved.failed ≡ true = ap (λ (x : Seen). x.saved.failed) e in
    (subst (λ (f : Bool). CountsFault a c f) (sym failed) (subst (λ (n : ℕ). CountsFault n c true) one two), λ _. some)

-- the deletion's removals behind an emptying
pub counted_twice : (q e : Seen) (a b c : ℕ) → EmptyCounts a b q e AllGone → c ≤ b + 1 → c ≤ a + 2
counted_twice q e a b c one two = go e.saved.failed one.0
  where
    go : (f : Bool) → CountsFault a b f → c ≤ a + 2
    go true k = omega (arith, k, two)
    go false k = omega (arith, k, two)

-- one call after another that didn't fail
pub counted_once : (a b c : ℕ) (did : Did) → b ≡ a → DidCounts b c did → c ≤ a + 1
counted_once a b c Done e d = omega (arith, e, d)
counted_once a b c Failed e d = omega (arith, e, d)

-- a finished save is no failed one
pub not_failed : (q s : Seen) → s ≡ after_save (emptied q) Saved → ¬ IsTrue s.saved.failed
not_failed q s e t = (let f : false ≡ true = sym (ap (λ (x : Seen). x.saved.failed) e) ∙ t in cc)

-- a rise in a part of a call is one in the call
pub rose_within : (a b c d : ℕ) → a ≤ b → c ≤ d → Rose b c → Rose a d
rose_within a b c d low high rise = omega (arith, low, high, rise)

-- the removals in a deletion of which one of a data file failed
pub deletes_failed : (q : Seen) (old new : Files) (a b : ℕ) → q.staged.file ≤ 2 ^ 40 → OnlyNumbersChange q.name old new q.saved.positions.read_file (q.staged.file + 2) → Rose a b → Deletes q old new a b
deletes_failed q old new a b small numbers rose = record {
  meta = inr (rose, meta_stays);
  data_files = inl rose;
  order = inl meta_stays;
  others = λ file apart below. numbers file (λ k from to. below k from (omega (arith, to)));
}
  where
    meta_stays : new (meta_file q.name) ≡ old (meta_file q.name)
    meta_stays = numbers (meta_file q.name) (λ k _ to. (metadata_apart q.name k (omega (arith, to, small))).0)

-- the removals in a deletion of which those of the data files were made
pub deletes : (q : Seen) (old mid new : Files) (two : Did) (a b c : ℕ) → q.staged.file ≤ 2 ^ 40 → Gone q.name mid q.saved.positions.read_file (q.staged.file + 2) Done
    → OnlyNumbersChange q.name old mid q.saved.positions.read_file (q.staged.file + 2) → Removes (mid (meta_file q.name)) (new (meta_file q.name)) two → OnlyChanges mid new (meta_file q.name)
    → DidFails b c two → a ≤ b → b ≤ c → Deletes q old new a c
deletes q old mid new two a b c small gone numbers removes only fails low high = record {
  meta = meta two removes fails;
  data_files = inr numbered_files;
  order = inr numbered_files;
  others = λ file apart below. only file apart ∙ numbers file (λ k from to. below k from (omega (arith, to)));
}
  where
    meta_stays : mid (meta_file q.name) ≡ old (meta_file q.name)
    meta_stays = numbers (meta_file q.name) (λ k _ to. (metadata_apart q.name k (omega (arith, to, small))).0)

    meta : (two : Did) → Removes (mid (meta_file q.name)) (new (meta_file q.name)) two → DidFails b c two
        → (new (meta_file q.name) ≡ None) ⊎ (Rose a c × (new (meta_file q.name) ≡ old (meta_file q.name)))
    meta Done removes fails = inl removes
    meta Failed (inl same) fails = inr (rose_within a b c c low (omega arith) fails, same ∙ meta_stays)
    meta Failed (inr none) fails = inl none

    numbered_files : (k : ℕ) → q.saved.positions.read_file ≤ k → k ≤ q.staged.file + 1 → new (data_file q.name k) ≡ None
    numbered_files k from to = only (data_file q.name k) (λ same. (metadata_apart q.name k (omega (arith, to, small))).0 (sym same)) ∙ gone k from (omega (arith, to))

-- what an emptied queue is
pub record IsEmptied (q e : Seen) : Type 0 where
  pub name : e.name ≡ q.name
  pub positions : e.positions ≡ ended q.positions
  pub staged : e.staged ≡ q.staged

pub is_emptied_by : (q e : Seen) → EmptySeen q e AllGone → IsEmptied q e
is_emptied_by q e (inl s) = record { name = ap (λ (x : Seen). x.name) s; positions = ap (λ (x : Seen). x.positions) s; staged = ap (λ (x : Seen). x.staged) s }
is_emptied_by q e (inr s) = record { name = ap (λ (x : Seen). x.name) s; positions = ap (λ (x : Seen). x.positions) s; staged = ap (λ (x : Seen). x.staged) s }

-- what a deletion leaves
pub all_forgotten : (q e : Seen) (mid new : Files) (b c : ℕ) → IsSound e → EmptySeen q e AllGone → mid (meta_file q.name) ≡ Some (meta_text 0 (ended q.positions)) → Deletes e mid new b c → IsForgotten q new
all_forgotten q e mid new b c i seen text d =
    let is = is_emptied_by q e seen in
    let range = subst IsInRange is.positions i.range in
    elim (subst (λ (n : List ℕ). (new (meta_file n) ≡ None) ⊎ (Rose b c × (new (meta_file n) ≡ mid (meta_file n)))) is.name d.meta) [
      | inl none ↦ record { idle = inl none; found = fresh none }
      | inr same ↦ record { idle = nothing_idle q new range (same.1 ∙ text); found = nothing_found q.options.least q.options.limit q new range (same.1 ∙ text) }
    ]

pub deletes_own : (q e : Seen) (old mid new : Files) (b c : ℕ) → IsSound e → EmptySeen q e AllGone → OwnChange q.name old mid → Deletes e mid new b c → OwnChange q.name old new
deletes_own q e old mid new b c i seen own d file other =
    let is = is_emptied_by q e seen in
    let small = i.staged_file in
    let not_own : ¬ IsOwnFile e.name file = subst (λ (n : List ℕ). ¬ IsOwnFile n file) (sym is.name) other in
    d.others file (λ same. not_own (metadata same)) (λ k _ to same. not_own (numbered k (omega (arith, to, small)) same)) ∙ own file other

-- no data file up to the one behind the staged end is left, where those from the read file of the last save on are gone
no_data : (e : Seen) (mid new : Files) (b c : ℕ) → e.staged.file ≤ 2 ^ 40 → SaveStands e mid → Deletes e mid new b c
    → ((k : ℕ) → e.saved.positions.read_file ≤ k → k ≤ e.staged.file + 1 → new (data_file e.name k) ≡ None) → (k : ℕ) → k ≤ e.staged.file + 1 → new (data_file e.name k) ≡ None
no_data e mid new b c small stands d numbers k inside =
    elim (cases_lt k e.saved.positions.read_file) [
      | inl below ↦ d.others (data_file e.name k) (λ same. (metadata_apart e.name k (omega (arith, inside, small))).0 (sym same))
          (λ j from to same. omega (arith, from, below, to, small, one_number e.name k j (omega (arith, inside, small)) (omega (arith, to, small)) same)) ∙ stands.removed k below
      | inr from ↦ numbers k from inside
    ]

-- the data files go before the metadata
pub in_order : (q e : Seen) (mid new : Files) (b c : ℕ) → IsSound e → EmptySeen q e AllGone → SaveStands e mid → mid (meta_file q.name) ≡ Some (meta_text 0 (ended q.positions)) → Deletes e mid new b c
    → (new (meta_file q.name) ≡ Some (meta_text 0 (ended q.positions))) ⊎ ((k : ℕ) → k ≤ q.staged.file + 1 → new (data_file q.name k) ≡ None)
in_order q e mid new b c i seen stands text d =
    let is = is_emptied_by q e seen in
    let small = i.staged_file in
    elim d.order [
      | inl same ↦ inl (subst (λ (n : List ℕ). new (meta_file n) ≡ mid (meta_file n)) is.name same ∙ text)
      | inr numbers ↦ inr (λ k within.
          subst (λ (n : List ℕ). new (data_file n k) ≡ None) is.name (no_data e mid new b c small stands d numbers k (omega (arith, ap (λ s. s.file) is.staged, within))))
    ]

pub all_gone : (q e : Seen) (mid new : Files) (a b c : ℕ) → a ≤ b → IsSound e → EmptySeen q e AllGone → SaveStands e mid → mid (meta_temp q.name) ≡ None → Deletes e mid new b c → Rose a c ⊎ IsGone q new
all_gone q e mid new a b c low i seen stands temp d =
    let is = is_emptied_by q e seen in
    let small = i.staged_file in
    let apart : (k : ℕ) → k ≤ e.staged.file + 1 → (meta_file e.name ≢ data_file e.name k) × (meta_temp e.name ≢ data_file e.name k) × (meta_temp e.name ≢ meta_file e.name)
    = λ k within. metadata_apart e.name k (omega (arith, within, small)) in
    let none : new (meta_temp e.name) ≡ None
    = d.others (meta_temp e.name) (apart 0 (omega arith)).2 (λ k _ to. (apart k to).1) ∙ subst (λ (n : List ℕ). mid (meta_temp n) ≡ None) (sym is.name) temp in
    elim d.meta [
      | inr rise ↦ inl (rose_within a b c c low (omega arith) rise.0)
      | inl gone ↦ elim d.data_files [
        | inl rise ↦ inl (rose_within a b c c low (omega arith) rise)
        | inr numbers ↦ inr (subst (λ (n : List ℕ). IsGone (record q { name = n }) new) is.name (record {
          meta = gone;
          temp = none;
          data_files = λ k within. no_data e mid new b c small stands d numbers k (omega (arith, ap (λ s. s.file) is.staged, within));
        }))
      ]
    ]
