use Rattle.std.proofs.Common.{◌≡◌, ◌∙◌, ◌^◌, ◌<◌, List, ℕ, IsTrue, true, refl, sym, ap, subst, arith, rules}
use Rattle.std.proofs.Math.Nat.{le_of_eq}
use Rattle.nsq_outside.specs.Causes.{CountsFault}
use Rattle.disk_queue.specs.Seen.{opened_queue, Seen}
use Rattle.disk_queue.specs.Holding.{SaveStands}
use Rattle.disk_queue.specs.Opened.{IsOpened, IsTidied}
use Rattle.disk_queue.proofs.OpeningDone.{IsDone, IsUndone, done, untidied, unwritten, refused}
use Rattle.disk_queue.proofs.ListDropped.{rose_within}
use Rattle.disk_queue.proofs.queue.Queue.open.Goals as goal

pub returns-in_default : goal.returns-in_default
returns-in_default g c = record {
  seen = tt;
  list = λ told. tt;
  stands = λ told. tt;
  tidied = λ told. tt;
  refused = λ told file. refl;
  others = λ told file other. refl;
  faults = le_of_eq refl;
  cause = tt;
  exact = λ counts. refl;
}

pub returns-in_default-new : goal.returns-in_default-new
returns-in_default-new g c = record {
  seen = tt;
  list = λ told. tt;
  stands = λ told. tt;
  tidied = λ told. tt;
  refused = λ told file. refl;
  others = λ told file other. refl;
  faults = le_of_eq refl;
  cause = tt;
  exact = λ counts. refl;
}

pub returns-in-Err : goal.returns-in-Err
returns-in-Err g c =
    let why = c.in-Err.ensures in
    record {
      seen = tt;
      list = λ told. tt;
      stands = λ told. tt;
      tidied = λ told. tt;
      refused = λ told.
          refused c.args.options.least c.args.options.limit c.args.name.now (g.F.Folder.files c.args.folder.now) (g.F.Folder.files c.make_plan.new.folder) c.in-Err.why (why.same told) (why.bad_meta told);
      others = λ told file other. why.same told file;
      faults = why.faults;
      cause = why.cause;
      exact = why.exact;
    }

pub returns-in-Failed : goal.returns-in-Failed
returns-in-Failed g c =
    let planned = c.in-Ok-make_plan.ensures in
    let failed = c.in-Failed.ensures in
    let small : c.args.options.limit < 2 ^ 32 = search rules in
    let f0 = g.F.Folder.files c.args.folder.now in
    let f4 = g.F.Folder.files c.tidy.new.folder in
    let first = g.F.Folder.folder_faults c.args.folder.now in
    let last = g.F.Folder.folder_faults c.tidy.new.folder in
    let way : IsTrue g.F.Folder.tells_files → IsUndone c.args.options c.args.name.now f0 f4
    = λ told.
    untidied c.args.options c.args.name.now c.make_plan.new.files c.in-Ok-make_plan.plan f0 (g.F.Folder.files c.make_plan.new.folder) f4 small (planned.name ∙ c.in-Ok.ensures)
    (planned.same told) planned.sound (planned.plan told) (failed.partly told) (failed.others told) in
    record {
      seen = tt;
      list = λ told. tt;
      stands = λ told. tt;
      tidied = λ told. tt;
      refused = λ told. (way told).refused;
      others = λ told. (way told).others;
      faults = omega (arith, planned.faults, failed.faults);
      cause = rose_within first (g.F.Folder.folder_faults c.make_plan.new.folder) last last planned.faults (le_of_eq refl) failed.cause;
      exact = λ counts. subst (λ n. CountsFault n last true) (planned.exact counts) (failed.exact counts);
    }

pub returns-in-Failed-write_down : goal.returns-in-Failed-write_down
returns-in-Failed-write_down g c =
    let planned = c.in-Ok-make_plan.ensures in
    let tidied = c.in-Done.ensures in
    let failed = c.in-Failed-write_down.ensures in
    let small : c.args.options.limit < 2 ^ 32 = search rules in
    let f0 = g.F.Folder.files c.args.folder.now in
    let f5 = g.F.Folder.files c.write_down.new.folder in
    let first = g.F.Folder.folder_faults c.args.folder.now in
    let last = g.F.Folder.folder_faults c.write_down.new.folder in
    let way : IsTrue g.F.Folder.tells_files → IsUndone c.args.options c.args.name.now f0 f5
    = λ told.
    unwritten c.args.options c.args.name.now c.make_plan.new.files c.tidy.new.files c.in-Ok-make_plan.plan f0 (g.F.Folder.files c.make_plan.new.folder) (g.F.Folder.files c.tidy.new.folder) f5 small
    (planned.name ∙ c.in-Ok.ensures) tidied.name (planned.same told) planned.sound (planned.plan told) (tidied.tidy told) (tidied.partly told) (tidied.others told) (failed.written told) (failed.others told) in
    record {
      seen = tt;
      list = λ told. tt;
      stands = λ told. tt;
      tidied = λ told. tt;
      refused = λ told. (way told).refused;
      others = λ told. (way told).others;
      faults = omega (arith, planned.faults, tidied.faults, failed.faults);
      cause = rose_within first (g.F.Folder.folder_faults c.tidy.new.folder) last last (omega (arith, planned.faults, tidied.faults)) (le_of_eq refl) failed.cause;
      exact = λ counts. subst (λ n. CountsFault n last true) (tidied.exact counts ∙ planned.exact counts) (failed.exact counts);
    }

pub returns : goal.returns
returns g c =
    let planned = c.in-Ok-make_plan.ensures in
    let tidied = c.in-Done.ensures in
    let written = c.in-Done-write_down.ensures in
    let plan = c.in-Ok-make_plan.plan in
    let small : c.args.options.limit < 2 ^ 32 = search rules in
    let f0 = g.F.Folder.files c.args.folder.now in
    let f5 = g.F.Folder.files c.write_down.new.folder in
    let named = planned.name ∙ c.in-Ok.ensures in
    let is = sym (c.opened.ensures ∙ ap (λ (n : List ℕ). opened_queue n c.args.options plan.depth plan.positions) (written.name ∙ tidied.name ∙ named)) in
    let way : IsTrue g.F.Folder.tells_files → IsDone c.args.options c.args.name.now plan f0 f5
    = λ told.
    done c.args.options c.args.name.now c.make_plan.new.files c.tidy.new.files plan f0 (g.F.Folder.files c.make_plan.new.folder) (g.F.Folder.files c.tidy.new.folder) f5 small
    named tidied.name (planned.same told) planned.sound (planned.plan told) (tidied.tidy told) (tidied.others told) (written.written told) (written.others told) in
    record {
      seen = subst (λ (q : Seen). q ≡ opened_queue c.args.name.now c.args.options q.depth q.positions) is refl;
      list = λ told. subst (λ (q : Seen). IsOpened q f0 f5) is (way told).list;
      stands = λ told. subst (λ (q : Seen). SaveStands q f5) is (way told).stands;
      tidied = λ told. subst (λ (q : Seen). IsTidied q f0 f5) is (way told).tidied;
      refused = λ told. tt;
      others = λ told. (way told).others;
      faults = omega (arith, planned.faults, tidied.faults, written.faults);
      cause = tt;
      exact = λ counts. written.exact counts ∙ tidied.exact counts ∙ planned.exact counts;
    }

pub opened-requires-clause-order : goal.opened-requires-clause-order
opened-requires-clause-order g c = c.in-Ok-make_plan.ensures.sound.ordered

pub opened-requires-clause-range : goal.opened-requires-clause-range
opened-requires-clause-range g c = c.in-Ok-make_plan.ensures.sound.range

pub opened-requires-clause-depth : goal.opened-requires-clause-depth
opened-requires-clause-depth g c = c.in-Ok-make_plan.ensures.sound.depth

pub write_down-requires : goal.write_down-requires
write_down-requires g c = c.in-Ok-make_plan.ensures.sound

pub tidy-requires-clause-plan : goal.tidy-requires-clause-plan
tidy-requires-clause-plan g c = c.in-Ok-make_plan.ensures.sound
