use Rattle.std.proofs.Common.{◌≡◌, ◌∙◌, ap, refl, subst, arith}
use Rattle.std.proofs.Math.Nat.{le_of_eq}
use Rattle.nsq_outside.specs.Files.{Files}
use Rattle.queue_opening.specs.Refusals.{OpenCounts}
use Rattle.queue_opening.specs.Walked.{HasNumbers}
use Rattle.queue_opening.proofs.Finds.{spoilt_found, not_bad, none_bad, open_later, result_later, err_counts, planned_with, planned_without, same_files}
use Rattle.queue_opening.proofs.plan.make_plan.Goals as goal

pub returns-in_default : goal.returns-in_default
returns-in_default g c = record {
  name = refl;
  plan = λ told. tt;
  sound = tt;
  bad_meta = λ told. tt;
  same = λ told name. refl;
  faults = le_of_eq refl;
  cause = tt;
  exact = λ counts. refl;
}

pub returns-in-Err : goal.returns-in-Err
returns-in-Err g c = record {
  name = refl;
  plan = λ told. tt;
  sound = tt;
  bad_meta = λ told.
      spoilt_found c.args.options.now.least c.args.options.now.limit (g.F.Folder.files c.args.folder.now) c.args.name.now c.as_str.result.now c.in-Err.why (c.as_str.ensures.value ∙ c.in-Ok.ensures) (c.in-Err.ensures.bad_meta told);
  same = c.in-Err.ensures.same;
  faults = c.in-Err.ensures.faults;
  cause = c.in-Err.ensures.cause;
  exact = c.in-Err.ensures.exact;
}

pub returns-in-Err-list_numbers : goal.returns-in-Err-list_numbers
returns-in-Err-list_numbers g c =
    let first = g.F.Folder.folder_faults c.args.folder.now in
    let mid = g.F.Folder.folder_faults c.find_meta.new.folder in
    let last = g.F.Folder.folder_faults c.list_numbers.new.folder in
    let found = c.in-Ok-find_meta.ensures in
    let refused = c.in-Err-list_numbers.ensures in
    record {
      name = refl;
      plan = λ told. tt;
      sound = tt;
      bad_meta = λ told. not_bad c.args.options.now.least c.args.options.now.limit (g.F.Folder.files c.args.folder.now) c.args.name.now c.in-Err-list_numbers.why refused.meta;
      same = λ told name. refused.same told name ∙ found.same told name;
      faults = omega (arith, found.faults, refused.faults);
      cause = open_later first mid last c.in-Err-list_numbers.why found.faults refused.cause;
      exact = λ counts. err_counts first mid last c.in-Err-list_numbers.why (found.exact counts) (refused.exact counts);
    }

pub returns-in-Some : goal.returns-in-Some
returns-in-Some g c =
    let least = c.args.options.now.least in
    let limit = c.args.options.now.limit in
    let f0 = g.F.Folder.files c.args.folder.now in
    let last = g.F.Folder.folder_faults c.with_metadata.new.folder in
    let found = c.in-Ok-find_meta.ensures in
    let listed = c.in-Ok-list_numbers.ensures in
    let made = c.with_metadata.ensures in
    record {
      name = made.name;
      plan = λ told.
          let f1 = g.F.Folder.files c.find_meta.new.folder in
          let f2 = g.F.Folder.files c.list_numbers.new.folder in
          let first : f1 ≡ f0 = same_files f0 f1 (found.same told) in
          planned_with least limit f0 f2 c.args.name.now c.args.files.now c.as_str.result.now c.in-Ok-list_numbers.numbers.items c.in-Some.positions c.in-Ok-find_meta.found c.with_metadata.result
          (same_files f1 f2 (listed.same told) ∙ first) c.requires (c.as_str.ensures.value ∙ c.in-Ok.ensures) c.in-Some.is (found.found told)
          (subst (λ (f : Files). HasNumbers f c.args.name.now c.in-Ok-list_numbers.numbers.items) first (listed.numbers told)) made.numbers (made.plan told);
      sound = made.sound;
      bad_meta = λ told. none_bad least limit f0 c.args.name.now c.with_metadata.result made.meta;
      same = λ told name. made.same told name ∙ listed.same told name ∙ found.same told name;
      faults = omega (arith, found.faults, listed.faults, made.faults);
      cause = result_later (g.F.Folder.folder_faults c.args.folder.now) (g.F.Folder.folder_faults c.list_numbers.new.folder) last c.with_metadata.result (omega (arith, found.faults, listed.faults)) made.cause;
      exact = λ counts. subst (λ n. OpenCounts n last c.with_metadata.result) (listed.exact counts ∙ found.exact counts) (made.exact counts);
    }

pub returns : goal.returns
returns g c =
    let f0 = g.F.Folder.files c.args.folder.now in
    let f1 = g.F.Folder.files c.find_meta.new.folder in
    let found = c.in-Ok-find_meta.ensures in
    let listed = c.in-Ok-list_numbers.ensures in
    let made = c.without_metadata.ensures in
    record {
      name = refl;
      plan = λ told.
          planned_without c.args.options.now.least c.args.options.now.limit f0 f1 c.args.name.now c.as_str.result.now c.in-Ok-list_numbers.numbers.items c.in-Ok-find_meta.found c.without_metadata.result
          (same_files f0 f1 (found.same told)) (c.as_str.ensures.value ∙ c.in-Ok.ensures) c.in-None.is (found.found told) (listed.numbers told) (ap (λ v. v.items) made.numbers) made.plan;
      sound = made.sound;
      bad_meta = λ told. tt;
      same = λ told name. listed.same told name ∙ found.same told name;
      faults = omega (arith, found.faults, listed.faults);
      cause = tt;
      exact = λ counts. listed.exact counts ∙ found.exact counts;
    }
