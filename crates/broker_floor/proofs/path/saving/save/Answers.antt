use Rattle.std.proofs.Common.{◌≤◌, false, List, ℕ, ap, inl, le_of_eq, refl, subst, sym, ◌∙◌}
use Rattle.queue_files.specs.Replaced.{OnlyTwoChange}
use Rattle.names_file.specs.Texts.{kept_of}
use Rattle.path_image.specs.Data.{Kept, data_name, temp_name}
use Rattle.floor_rooms.specs.Kept.{hall_kept}
use Rattle.floor_rooms.specs.Standing.{HoldsFor}
use Rattle.broker_floor.specs.Floors.{faults_of, files_of, hall_of}
use Rattle.broker_floor.specs.Held.{Held}
use Rattle.broker_floor.specs.Closings.{IsTextOf, KeepsNames, OldOrNew}
use Rattle.broker_floor.proofs.Apart.{names_apart, temp_apart}
use Rattle.broker_floor.proofs.PathStoring.{names_stored, old_or_new}
use Rattle.broker_floor.proofs.path.saving.save.Goals as goal

pub store-requires-clause-name : goal.store-requires-clause-name
store-requires-clause-name g c = λ queue named its. names_apart queue its

pub store-requires-clause-temp : goal.store-requires-clause-temp
store-requires-clause-temp g c = λ queue named its. temp_apart queue its

pub returns-in_default : goal.returns-in_default
returns-in_default g c = record {
  names = λ told. tt;
  held = refl;
  stands = λ told s holds. holds;
  text = λ told. inl refl;
  memory = λ told name. refl;
  others = λ told file no_name no_temp. refl;
  clock = refl;
  journal = refl;
  faults = le_of_eq refl;
  cause = tt;
}

pub returns-in-Done : goal.returns-in-Done
returns-in-Done g c =
    let old = files_of c.args.floor.now in
    let names : Kept = kept_of (hall_of c.args.floor.now).epoch (hall_kept (hall_of c.args.floor.now)) in
    let of : IsTextOf c.deref.result.now names = subst (λ (t : List ℕ). IsTextOf t names) (sym c.deref.ensures.value) c.in-Ok.ensures in
    let same = sym c.saved.ensures.folder in
    record {
      names = λ told. subst (λ f. KeepsNames (g.F.Folder.files f) names) same (names_stored (files_of c.store.new.self) c.deref.result.now names of (c.in-Done.ensures.content told));
      held = c.saved.ensures.held ∙ ap (λ (x : Held). record x { hall = record (x.hall) { unsaved_names = false } }) c.store.ensures.held;
      stands = λ told s holds. subst (λ f. HoldsFor (hall_of c.saved.new.self) (g.F.Folder.files f) s) same (c.saved.ensures.stands (files_of c.store.new.self) s (c.store.ensures.stands told c.requires.unflushed s holds));
      text = λ told. subst (λ f. OldOrNew old (g.F.Folder.files f) names) same (old_or_new old (files_of c.store.new.self) c.deref.result.now names c.store.result of (c.store.ensures.content told));
      memory = λ told. tt;
      others = λ told. subst (λ f. OnlyTwoChange old (g.F.Folder.files f) data_name temp_name) same (c.store.ensures.others told);
      clock = c.saved.ensures.clock ∙ c.store.ensures.clock;
      journal = c.saved.ensures.journal ∙ c.store.ensures.journal;
      faults = subst (λ f. faults_of c.args.floor.now ≤ g.F.Folder.folder_faults f) same c.store.ensures.faults;
      cause = tt;
    }

pub returns : goal.returns
returns g c =
    let names : Kept = kept_of (hall_of c.args.floor.now).epoch (hall_kept (hall_of c.args.floor.now)) in
    let of : IsTextOf c.deref.result.now names = subst (λ (t : List ℕ). IsTextOf t names) (sym c.deref.ensures.value) c.in-Ok.ensures in
    record {
      names = λ told. tt;
      held = c.store.ensures.held;
      stands = λ told s holds. c.store.ensures.stands told c.requires.unflushed s holds;
      text = λ told. old_or_new (files_of c.args.floor.now) (files_of c.store.new.self) c.deref.result.now names c.store.result of (c.store.ensures.content told);
      memory = λ told. tt;
      others = c.store.ensures.others;
      clock = c.store.ensures.clock;
      journal = c.store.ensures.journal;
      faults = c.store.ensures.faults;
      cause = c.in-Failed.ensures.cause;
    }
