use Rattle.std.proofs.Common.{◌≡◌, ◌≤◌, ◌++◌, ◌∙◌, List, ℕ, length, ap, arith, le_of_eq, refl, subst}
use Rattle.queue_image.specs.FileNames.IsFileOf.{own}
use Rattle.path_image.specs.Data.{IsNames, KeptTopic, longest_data, names_text}
use Rattle.names_file.specs.Texts.{kept_of}
use Rattle.broker_floor.specs.Floors.{faults_of, files_of, hall_of}
use Rattle.broker_floor.proofs.PathEnding.{names_failed, names_of_none, names_unwritten, names_written, temp_of_none}
use Rattle.broker_floor.proofs.path.filling.save.Goals as goal

pub store-requires-clause-name : goal.store-requires-clause-name
store-requires-clause-name g c = λ queue named its. names_of_none queue (own its)

pub store-requires-clause-temp : goal.store-requires-clause-temp
store-requires-clause-temp g c = λ queue named its. temp_of_none queue (own its)

pub returns-in_default : goal.returns-in_default
returns-in_default g c = record {
  saved = λ told. tt;
  refused = names_unwritten g.F.Folder.tells_files c.args.topics.now (hall_of c.args.floor.now).epoch (files_of c.args.floor.now) (faults_of c.args.floor.now) (faults_of c.args.floor.now);
  stands = λ told unflushed s holds. holds;
  others = λ told file no_name no_temp. refl;
  held = refl;
  clock = refl;
  journal = refl;
  faults = le_of_eq refl;
}

pub returns-then-len-gt-LONGEST_NAMES : goal.returns-then-len-gt-LONGEST_NAMES
returns-then-len-gt-LONGEST_NAMES g c = record {
  saved = λ told. tt;
  refused = names_unwritten g.F.Folder.tells_files c.args.topics.now (hall_of c.args.floor.now).epoch (files_of c.args.floor.now) (faults_of c.args.floor.now) (faults_of c.args.floor.now);
  stands = λ told unflushed s holds. holds;
  others = λ told file no_name no_temp. refl;
  held = refl;
  clock = refl;
  journal = refl;
  faults = le_of_eq refl;
}

pub returns-in-Done : goal.returns-in-Done
returns-in-Done g c =
    let topics : List KeptTopic = c.args.topics.now in
    let written : c.write_names.new.out.items ≡ names_text (kept_of c.epoch.result topics) = c.in-Ok.ensures.ok ∙ ap (λ (t : List ℕ). t ++ names_text (kept_of c.epoch.result topics)) c.new-text.ensures.items in
    let is : c.deref.result.now ≡ names_text (kept_of (hall_of c.args.floor.now).epoch topics) = c.deref.ensures.value ∙ written ∙ ap (λ (n : ℕ). names_text (kept_of n topics)) c.epoch.ensures.value in
    let low = c.if-len-gt-LONGEST_NAMES.false in
    let size = c.len.ensures in
    let small = c.epoch.ensures.bound in
    let fits : length (names_text (kept_of c.epoch.result topics)) ≤ longest_data = subst (λ (t : List ℕ). length t ≤ longest_data) written (omega (arith, low, size)) in
    let names : IsNames (names_text (kept_of (hall_of c.args.floor.now).epoch topics)) (kept_of (hall_of c.args.floor.now).epoch topics) = subst (λ (n : ℕ). IsNames (names_text (kept_of n topics)) (kept_of n topics)) c.epoch.ensures.value (c.write_names.ensures.keeps (omega (arith, small)) c.requires.can fits) in
    record {
      saved = λ told. names_written (files_of c.args.floor.now) (files_of c.store.new.self) (hall_of c.args.floor.now).epoch topics c.deref.result.now is names (c.in-Done.ensures.content told);
      refused = tt;
      stands = c.store.ensures.stands;
      others = c.store.ensures.others;
      held = c.store.ensures.held;
      clock = c.store.ensures.clock;
      journal = c.store.ensures.journal;
      faults = c.store.ensures.faults;
    }

pub returns : goal.returns
returns g c =
    let topics : List KeptTopic = c.args.topics.now in
    let written : c.write_names.new.out.items ≡ names_text (kept_of c.epoch.result topics) = c.in-Ok.ensures.ok ∙ ap (λ (t : List ℕ). t ++ names_text (kept_of c.epoch.result topics)) c.new-text.ensures.items in
    let is : c.deref.result.now ≡ names_text (kept_of (hall_of c.args.floor.now).epoch topics) = c.deref.ensures.value ∙ written ∙ ap (λ (n : ℕ). names_text (kept_of n topics)) c.epoch.ensures.value in
    let low = c.if-len-gt-LONGEST_NAMES.false in
    let size = c.len.ensures in
    let small = c.epoch.ensures.bound in
    let fits : length (names_text (kept_of c.epoch.result topics)) ≤ longest_data = subst (λ (t : List ℕ). length t ≤ longest_data) written (omega (arith, low, size)) in
    let names : IsNames (names_text (kept_of (hall_of c.args.floor.now).epoch topics)) (kept_of (hall_of c.args.floor.now).epoch topics) = subst (λ (n : ℕ). IsNames (names_text (kept_of n topics)) (kept_of n topics)) c.epoch.ensures.value (c.write_names.ensures.keeps (omega (arith, small)) c.requires.can fits) in
    record {
      saved = λ told. tt;
      refused = names_failed (files_of c.args.floor.now) (files_of c.store.new.self) (hall_of c.args.floor.now).epoch topics c.deref.result.now is names g.F.Folder.tells_files (faults_of c.args.floor.now) (faults_of c.store.new.self) c.in-Failed.ensures.content c.in-Failed.ensures.cause;
      stands = c.store.ensures.stands;
      others = c.store.ensures.others;
      held = c.store.ensures.held;
      clock = c.store.ensures.clock;
      journal = c.store.ensures.journal;
      faults = c.store.ensures.faults;
    }
