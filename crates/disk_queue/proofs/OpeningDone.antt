-- What holds of an opened queue.
use Rattle.std.proofs.Common.{◌≡◌, ℕ, ◌^◌, ◌<◌, ◌≤◌, List, [], length, Some, refl, sym, ◌∙◌, ap, subst, arith}
use Rattle.nsq_outside.specs.Files.{Files, SameFiles}
use Rattle.queue_image.specs.FileNames.{data_file, meta_file, meta_temp}
use Rattle.queue_image.specs.FileNames.IsOwnFile.{numbered, metadata, written}
use Rattle.queue_image.specs.FileNames.IsFileOf.{own, aside}
use Rattle.queue_image.specs.Metas.{meta_text}
use Rattle.queue_image.specs.Between.{content, IsSaved}
use Rattle.queue_image.specs.Between.Reads.{arrives}
use Rattle.queue_image.specs.Finds.{Finding, BadMeta, Records, IsFound}
use Rattle.queue_image.proofs.Keeping.{saved_is_found}
use Rattle.queue_image.proofs.Walking.{one_finding}
use Rattle.queue_image.proofs.MetaLemmas.{reads_back}
use Rattle.queue_image.proofs.Naming.{metadata_apart}
use Rattle.disk_queue.specs.Seen.{opened_queue}
use Rattle.disk_queue.specs.Holding.{SaveStands}
use Rattle.disk_queue.specs.Opened.{IsOpened, IsTidied, IsTidiedAt, RefusedWhere, FilesOfChange}
use Rattle.queue_opening.specs.Again.{FindsSameList}
use Rattle.queue_opening.specs.Tidied.{IsSetAside, OnlyTidied, IsTidy, IsPartlyTidy, WrittenWhere, IsWritten, OnlyWritten}
use Rattle.nsq_outside.specs.declared.did.Did.TheVariants.{Failed}
use Rattle.queue_opening.proofs.FoundAgain.{found_tidied, found_written}
use Rattle.queue_opening.specs.Planned.{IsPlan, IsPlanned, FindsBadMeta}
use Rattle.queue_image.specs.declared.positions.Positions.{Positions}
use Rattle.queue_opening.specs.QueueOptions.{QueueOptions}
use Rattle.queue_opening.specs.declared.refusal.Open.{Open}
use Rattle.queue_opening.specs.declared.refusal.Open.TheVariants.{Fault, BadMeta as IsBadMeta, Memory}
use Rattle.queue_opening.specs.declared.plan.Plan.{Plan}
use Rattle.queue_opening.proofs.Finds.{same_files}
use Rattle.queue_opening.proofs.Walks.{file_order}
use Rattle.queue_opening.proofs.Lists.{Listed, listed, ends_all, gone_below, aside_own, aside_from, tidied_at}

abbrev pub bad_of : Finding → List ℕ
bad_of BadMeta = []
bad_of (Records bodies bad) = bad

module _ (options : QueueOptions) (name : List ℕ) (plan : Plan) (f0 f4 f5 : Files) (small : options.limit < 2 ^ 32) (i : IsPlan plan) (pl : IsPlanned options.least options.limit f0 name plan)
    (t : IsTidy name plan f0 f4) (ot : OnlyTidied name plan f0 f4) (w : IsWritten name plan f5) (ow : OnlyWritten name plan f4 f5) where
  few : plan.depth < 2 ^ 128
  few = let range = i.range in let depth = i.depth in omega (arith, range.write_file, range.write_at, depth)

  found_list : Listed options name plan f0 f4 f5 small i pl t ot ow
  found_list = listed options name plan f0 f4 f5 small i pl t ot ow

  pub opened_list : IsOpened (opened_queue name options plan.depth plan.positions) f0 f5
  opened_list =
      let l = found_list in
      let range = i.range in
      let count = l.count in
      let saved : IsSaved options.least options.limit f5 name plan.positions l.bodies
      = record { text = w.meta ∙ ap (λ (n : ℕ). Some (meta_text n plan.positions)) (sym count); list = l.list } in
      record {
        bodies = l.bodies;
        bad = plan.bad.items;
        found = l.found;
        holds = record { list = l.list; depth = count; staged = record { reads = arrives refl refl; inside = inside l }; count = refl; within = range.write_file; mark = tt };
        kept = record { saved = saved; found = saved_is_found options.least options.limit f5 name plan.positions l.bodies (omega (arith, few, count)) range saved };
        ends = ends_all options name plan f0 f4 f5 small i pl t ot ow;
        nothing = l.nothing;
      }
    where
      inside : (l : Listed options name plan f0 f4 f5 small i pl t ot ow) → plan.positions.write_at ≤ length (content f5 name plan.positions.write_file)
      inside l = let b = l.list in b.inside

  pub opened_stands : SaveStands (opened_queue name options plan.depth plan.positions) f5
  opened_stands = record {
    saved = λ _ _. record { text = meta_text plan.depth plan.positions; depth = plan.depth; there = w.meta; is = reads_back plan.depth plan.positions few i.range i.ordered };
    unsaved = λ none _. absurd (none refl);
    within = low;
    removed = λ k below. gone_below options name plan f0 f4 f5 small i pl t ot ow w k below;
  }
    where
      low : plan.positions.read_file ≤ 2 ^ 40
      low = let range = i.range in range.read_file

  pub opened_tidied : IsTidied (opened_queue name options plan.depth plan.positions) f0 f5
  opened_tidied = record {
    without = λ none. let pw = pl.without none in
        let zero : plan.positions.write_file ≡ 0 = ap (λ (x : Positions). x.write_file) pw.positions in (
          zero,
          λ k fits. subst (λ (n : ℕ). IsSetAside name f0 f5 n k) zero (aside_from options name plan f0 f4 f5 small i pl t ot ow w k fits (omega (arith, pw.above))),
        );
    with_meta = λ p says bodies bad_files found.
        let l = found_list in
        let same : plan.bad.items ≡ bad_files
        = ap bad_of (one_finding options.least options.limit f0 name (Records l.bodies plan.bad.items) (Records bodies bad_files) small l.found found) in
        subst (λ (bad : List ℕ). IsTidiedAt name f0 f5 p bad plan.positions) same (tidied_at options name plan f0 f4 f5 small i pl t ot ow w p says);
    temp = w.temp;
    aside_meta = aside_own options name plan f0 f4 f5 small i pl t ot ow (meta_file name) (metadata refl) (λ j fits. (metadata_apart name j fits).0);
    aside_temp = aside_own options name plan f0 f4 f5 small i pl t ot ow (meta_temp name) (written refl) (λ j fits. (metadata_apart name j fits).1);
  }

-- only files of the queue change
pub tidied_own : (name : List ℕ) (plan : Plan) (f0 f4 : Files) → IsPlan plan → OnlyTidied name plan f0 f4 → FilesOfChange name f0 f4
tidied_own name plan f0 f4 i ot file other =
    let range = i.range in
    let high = range.write_file in
    let order = file_order plan.positions i.ordered in
    let low = i.below in
    ot file (λ k fits _ _. (λ e. other (own (numbered k fits e)), λ e. other (aside (data_file name k) (numbered k fits refl) e)))
    (λ k _ below e. other (own (numbered k (omega (arith, below, low, order, high)) e))) (λ e. other (own (numbered plan.positions.write_file (omega (arith, high)) e)))

pub written_own : (name : List ℕ) (plan : Plan) (f4 f5 : Files) → IsPlan plan → OnlyWritten name plan f4 f5 → FilesOfChange name f4 f5
written_own name plan f4 f5 i ow file other =
    let range = i.range in
    let high = range.read_file in
    ow file (λ e. other (own (metadata e))) (λ e. other (own (written e))) (λ k _ below e. other (own (numbered k (omega (arith, below, high)) e)))

pub refused : (least limit : ℕ) (name : List ℕ) (f0 f1 : Files) (e : Open) → SameFiles f0 f1 → FindsBadMeta least limit f0 name e → RefusedWhere least limit name f0 f1 e
refused least limit name f0 f1 Fault same f = λ bodies bad found.
    record { bad = bad; found = subst (λ (files : Files). IsFound least limit files name (Records bodies bad)) (sym (same_files f0 f1 same)) found }
refused least limit name f0 f1 IsBadMeta same f = record { found = f; same = same }
refused least limit name f0 f1 Memory same f = same

-- the name and the files as they are
pub carried : (P : List ℕ → Files → Type 0) (a b : List ℕ) (f g : Files) → a ≡ b → f ≡ g → P a f → P b g
carried P a b f g e h x = subst (λ (files : Files). P b files) h (subst (λ (n : List ℕ). P n f) e x)

-- an opening that was carried out, under the names and over the files that its parts were told
pub record IsDone (options : QueueOptions) (name : List ℕ) (plan : Plan) (f0 f5 : Files) : Type 0 where
  pub list : IsOpened (opened_queue name options plan.depth plan.positions) f0 f5
  pub stands : SaveStands (opened_queue name options plan.depth plan.positions) f5
  pub tidied : IsTidied (opened_queue name options plan.depth plan.positions) f0 f5
  pub others : FilesOfChange name f0 f5

pub done : (options : QueueOptions) (name a b : List ℕ) (plan : Plan) (f0 f1 f4 f5 : Files) → options.limit < 2 ^ 32 → a ≡ name → b ≡ a → SameFiles f0 f1 → IsPlan plan → IsPlanned options.least options.limit f0 name plan
    → IsTidy a plan f1 f4 → OnlyTidied a plan f1 f4 → IsWritten b plan f5 → OnlyWritten b plan f4 f5 → IsDone options name plan f0 f5
done options name a b plan f0 f1 f4 f5 small named named' same i pl t ot w ow =
    let as_before : f1 ≡ f0 = same_files f0 f1 same in
    let tidy : IsTidy name plan f0 f4 = carried (λ n f. IsTidy n plan f f4) a name f1 f0 named as_before t in
    let only : OnlyTidied name plan f0 f4 = carried (λ n f. OnlyTidied n plan f f4) a name f1 f0 named as_before ot in
    let written : IsWritten name plan f5 = subst (λ (n : List ℕ). IsWritten n plan f5) (named' ∙ named) w in
    let changes : OnlyWritten name plan f4 f5 = subst (λ (n : List ℕ). OnlyWritten n plan f4 f5) (named' ∙ named) ow in
    record {
      list = opened_list options name plan f0 f4 f5 small i pl tidy only written changes;
      stands = opened_stands options name plan f0 f4 f5 small i pl tidy only written changes;
      tidied = opened_tidied options name plan f0 f4 f5 small i pl tidy only written changes;
      others = λ file other. written_own name plan f4 f5 i changes file other ∙ tidied_own name plan f0 f4 i only file other;
    }

-- and one that failed on its way
pub record IsUndone (options : QueueOptions) (name : List ℕ) (f0 f5 : Files) : Type 0 where
  pub refused : FindsSameList options.least options.limit name f0 f5
  pub others : FilesOfChange name f0 f5

pub untidied : (options : QueueOptions) (name a : List ℕ) (plan : Plan) (f0 f1 f4 : Files) → options.limit < 2 ^ 32 → a ≡ name → SameFiles f0 f1 → IsPlan plan → IsPlanned options.least options.limit f0 name plan
    → IsPartlyTidy a plan f1 f4 → OnlyTidied a plan f1 f4 → IsUndone options name f0 f4
untidied options name a plan f0 f1 f4 small named same i pl t ot =
    let as_before : f1 ≡ f0 = same_files f0 f1 same in
    let only : OnlyTidied name plan f0 f4 = carried (λ n f. OnlyTidied n plan f f4) a name f1 f0 named as_before ot in
    record {
      refused = found_tidied options name plan f0 f4 small i pl (carried (λ n f. IsPartlyTidy n plan f f4) a name f1 f0 named as_before t) only;
      others = tidied_own name plan f0 f4 i only;
    }

pub unwritten : (options : QueueOptions) (name a b : List ℕ) (plan : Plan) (f0 f1 f4 f5 : Files) → options.limit < 2 ^ 32 → a ≡ name → b ≡ a → SameFiles f0 f1 → IsPlan plan → IsPlanned options.least options.limit f0 name plan
    → IsTidy a plan f1 f4 → IsPartlyTidy a plan f1 f4 → OnlyTidied a plan f1 f4 → WrittenWhere b plan f4 f5 Failed → OnlyWritten b plan f4 f5 → IsUndone options name f0 f5
unwritten options name a b plan f0 f1 f4 f5 small named named' same i pl t p ot w ow =
    let as_before : f1 ≡ f0 = same_files f0 f1 same in
    let only : OnlyTidied name plan f0 f4 = carried (λ n f. OnlyTidied n plan f f4) a name f1 f0 named as_before ot in
    let changes : OnlyWritten name plan f4 f5 = subst (λ (n : List ℕ). OnlyWritten n plan f4 f5) (named' ∙ named) ow in
    record {
      refused =
          found_written options name plan f0 f4 f5 small i pl (carried (λ n f. IsTidy n plan f f4) a name f1 f0 named as_before t) (carried (λ n f. IsPartlyTidy n plan f f4) a name f1 f0 named as_before p) only
          (subst (λ (n : List ℕ). WrittenWhere n plan f4 f5 Failed) (named' ∙ named) w) changes;
      others = λ file other. written_own name plan f4 f5 i changes file other ∙ tidied_own name plan f0 f4 i only file other;
    }
