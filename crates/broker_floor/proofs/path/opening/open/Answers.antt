use Rattle.std.proofs.Common.{◌≡◌, ◌∙◌, ◌+◌, ◌≤◌, ap, arith, refl, subst, sym}
use Rattle.std.specs.Prelude.{IsTrue}
use Rattle.path_image.specs.Data.{Kept}
use Rattle.names_file.specs.Kept.{CanKeepAll}
use Rattle.names_reading.specs.Durable.{AreDurable}
use Rattle.broker_history.specs.Found.{start}
use Rattle.floor_rooms.specs.Standing.{HoldsFor}
use Rattle.broker_floor.specs.Floors.{faults_of, files_of, hall_of, held_of}
use Rattle.broker_floor.specs.Held.{Held}
use Rattle.broker_floor.specs.Adding.{IsFilled, IsNotFilled, IsReady}
use Rattle.broker_floor.specs.Opening.{IsRefusal}
use Rattle.broker_floor.proofs.PathEnding.{opened_files, opened_finds, opened_hall, opened_names, opened_holds, opened_raises, refused_filling, refused_floor}
use Rattle.broker_floor.proofs.path.opening.open.Goals as goal

pub new-requires-clause-epoch : goal.new-requires-clause-epoch
new-requires-clause-epoch g c = let below = c.in-Ok.ensures.below in let same = ap (λ (x : Kept). x.epoch) c.names.view_is in omega (arith, below, same)

pub fill-requires-clause-can : goal.fill-requires-clause-can
fill-requires-clause-can g c = subst (λ ts. CanKeepAll ts) (sym (c.deref.ensures.value ∙ ap (λ (x : Kept). x.topics) c.names.view_is)) c.in-Ok.ensures.can

pub fill-requires-clause-durable : goal.fill-requires-clause-durable
fill-requires-clause-durable g c = subst (λ ts. AreDurable ts) (sym (c.deref.ensures.value ∙ ap (λ (x : Kept). x.topics) c.names.view_is)) c.in-Ok.ensures.durable

pub returns-in-Err : goal.returns-in-Err
returns-in-Err g c = record {
  found = tt;
  finds = tt;
  stands = tt;
  raised = tt;
  hall = tt;
  moment = tt;
  coming = tt;
  journal = tt;
  faults = tt;
  files = tt;
  why = c.in-Err.ensures.refused.why;
  again = c.in-Err.ensures.refused.again;
  back = refl;
  refused_faults = c.prepare-prepared.ensures.faults;
  refused_files = c.in-Err.ensures.refused.files;
}

pub returns-in-Err-new : goal.returns-in-Err-new
returns-in-Err-new g c =
    let refusal = refused_floor g.F.Folder.tells_files c.in-Ok.names c.in-Ok.ensures.can c.in-Ok.ensures.below (g.F.Folder.files c.args.kit.folder) (g.F.Folder.files c.prepare-prepared.new.folder) (g.F.Folder.files c.in-Err-new.kit.folder) (g.F.Folder.folder_faults c.args.kit.folder) (g.F.Folder.folder_faults c.prepare-prepared.new.folder) (g.F.Folder.folder_faults c.in-Err-new.kit.folder) c.prepare-prepared.ensures.faults c.in-Ok.ensures.ready (ap (λ f. g.F.Folder.files f) c.in-Err-new.ensures.err.0) in
    record {
      found = tt;
      finds = tt;
      stands = tt;
      raised = tt;
      hall = tt;
      moment = tt;
      coming = tt;
      journal = tt;
      faults = tt;
      files = tt;
      why = tt;
      again = refusal.again;
      back = c.in-Err-new.ensures.err.2;
      refused_faults = subst (λ f. g.F.Folder.folder_faults c.args.kit.folder ≤ g.F.Folder.folder_faults f) (sym c.in-Err-new.ensures.err.0) c.prepare-prepared.ensures.faults;
      refused_files = refusal.files;
    }

pub returns-in-Ok-fill : goal.returns-in-Ok-fill
returns-in-Ok-fill g c =
    let names : Kept = c.in-Ok.names in
    let topics : c.deref.result.now ≡ names.topics = c.deref.ensures.value ∙ ap (λ (x : Kept). x.topics) c.names.view_is in
    let ready : IsTrue g.F.Folder.tells_files → IsReady names (g.F.Folder.files c.args.kit.folder) (files_of c.in-Ok-new.floor) = λ tells. subst (λ f. IsReady names (g.F.Folder.files c.args.kit.folder) (g.F.Folder.files f)) (sym c.in-Ok-new.ensures.folder) (c.in-Ok.ensures.ready tells) in
    let low : g.F.Folder.folder_faults c.args.kit.folder ≤ faults_of c.in-Ok-new.floor = subst (λ f. g.F.Folder.folder_faults c.args.kit.folder ≤ g.F.Folder.folder_faults f) (sym c.in-Ok-new.ensures.folder) c.prepare-prepared.ensures.faults in
    let more = c.fill.ensures.faults in
    let rises : g.F.Folder.folder_faults c.args.kit.folder ≤ faults_of c.fill.new.floor = omega (arith, low, more) in
    let filled : IsFilled g.F.Folder.tells_files names.topics (held_of c.in-Ok-new.floor) (held_of c.fill.new.floor) (files_of c.in-Ok-new.floor) (files_of c.fill.new.floor) = subst (λ ts. IsFilled g.F.Folder.tells_files ts (held_of c.in-Ok-new.floor) (held_of c.fill.new.floor) (files_of c.in-Ok-new.floor) (files_of c.fill.new.floor)) topics c.in-Ok-fill.ensures.filled in
    let next : c.names.inside.epoch + 1 ≡ names.epoch + 1 = ap (λ (x : Kept). x.epoch + 1) c.names.view_is in
    let same : (hall_of c.fill.new.floor).epoch ≡ (hall_of c.in-Ok-new.floor).epoch = ap (λ (x : Held). x.hall.epoch) filled.rest in
    let moment : (hall_of c.fill.new.floor).moment ≡ (hall_of c.in-Ok-new.floor).moment = ap (λ (x : Held). x.hall.moment) filled.rest in
    record {
      found = λ told. opened_finds g.F.Folder.tells_files names c.in-Ok.ensures.can c.in-Ok.ensures.below (g.F.Folder.files c.args.kit.folder) (files_of c.in-Ok-new.floor) (files_of c.fill.new.floor) (hall_of c.in-Ok-new.floor) (hall_of c.fill.new.floor) (ready told) (filled.fills told);
      finds = λ told. opened_names g.F.Folder.tells_files names c.in-Ok.ensures.can c.in-Ok.ensures.below (g.F.Folder.files c.args.kit.folder) (files_of c.in-Ok-new.floor) (files_of c.fill.new.floor) (hall_of c.in-Ok-new.floor) (hall_of c.fill.new.floor) (ready told) (filled.fills told);
      stands = λ told found is. subst (λ m. HoldsFor (hall_of c.fill.new.floor) (files_of c.fill.new.floor) (start found c.args.options.now m)) (sym moment)
          (opened_holds g.F.Folder.tells_files names c.in-Ok.ensures.can c.in-Ok.ensures.below (g.F.Folder.files c.args.kit.folder) (files_of c.in-Ok-new.floor) (files_of c.fill.new.floor) (hall_of c.in-Ok-new.floor) (hall_of c.fill.new.floor) (ready told) (filled.fills told) c.args.options.now (c.names.inside.epoch + 1) (hall_of c.in-Ok-new.floor).moment next (c.in-Ok-new.ensures.opens (files_of c.in-Ok-new.floor)) found is);
      raised = λ told. opened_raises g.F.Folder.tells_files names c.in-Ok.ensures.can c.in-Ok.ensures.below (g.F.Folder.files c.args.kit.folder) (files_of c.in-Ok-new.floor) (files_of c.fill.new.floor) (hall_of c.in-Ok-new.floor) (hall_of c.fill.new.floor) (ready told) (filled.fills told) (hall_of c.fill.new.floor).epoch (same ∙ c.in-Ok-new.ensures.hall.epoch ∙ next) (sym same);
      hall = opened_hall c.args.options.now (c.names.inside.epoch + 1) (hall_of c.in-Ok-new.floor).moment (held_of c.in-Ok-new.floor) (held_of c.fill.new.floor) c.in-Ok-new.ensures.hall c.in-Ok-new.ensures.unflushed filled.rest;
      moment = λ told. moment ∙ c.in-Ok-new.ensures.moment told;
      coming = λ told n. ap (λ x. g.C.Clock.coming x n) c.fill.ensures.clock ∙ c.in-Ok-new.ensures.coming told n;
      journal = c.fill.ensures.journal ∙ c.in-Ok-new.ensures.journal;
      faults = rises;
      files = λ told. opened_files g.F.Folder.tells_files names c.in-Ok.ensures.can c.in-Ok.ensures.below (g.F.Folder.files c.args.kit.folder) (files_of c.in-Ok-new.floor) (files_of c.fill.new.floor) (hall_of c.in-Ok-new.floor) (hall_of c.fill.new.floor) (ready told) (filled.fills told);
      why = tt;
      again = tt;
      back = tt;
      refused_faults = tt;
      refused_files = tt;
    }

pub returns : goal.returns
returns g c =
    let names : Kept = c.in-Ok.names in
    let topics : c.deref.result.now ≡ names.topics = c.deref.ensures.value ∙ ap (λ (x : Kept). x.topics) c.names.view_is in
    let ready : IsTrue g.F.Folder.tells_files → IsReady names (g.F.Folder.files c.args.kit.folder) (files_of c.in-Ok-new.floor) = λ tells. subst (λ f. IsReady names (g.F.Folder.files c.args.kit.folder) (g.F.Folder.files f)) (sym c.in-Ok-new.ensures.folder) (c.in-Ok.ensures.ready tells) in
    let low : g.F.Folder.folder_faults c.args.kit.folder ≤ faults_of c.in-Ok-new.floor = subst (λ f. g.F.Folder.folder_faults c.args.kit.folder ≤ g.F.Folder.folder_faults f) (sym c.in-Ok-new.ensures.folder) c.prepare-prepared.ensures.faults in
    let more = c.fill.ensures.faults in
    let rises : g.F.Folder.folder_faults c.args.kit.folder ≤ faults_of c.fill.new.floor = omega (arith, low, more) in
    let next : (hall_of c.in-Ok-new.floor).epoch ≡ names.epoch + 1 = c.in-Ok-new.ensures.hall.epoch ∙ ap (λ (x : Kept). x.epoch + 1) c.names.view_is in
    let refusal : IsRefusal c.in-Err-fill.why g.F.Folder.tells_files (g.F.Folder.files c.args.kit.folder) (files_of c.fill.new.floor) (g.F.Folder.folder_faults c.args.kit.folder) (faults_of c.fill.new.floor) =
    refused_filling g.F.Folder.tells_files names c.in-Ok.ensures.can c.in-Ok.ensures.below (g.F.Folder.files c.args.kit.folder) (files_of c.in-Ok-new.floor) (files_of c.fill.new.floor) (g.F.Folder.folder_faults c.args.kit.folder) (faults_of c.in-Ok-new.floor) (faults_of c.fill.new.floor) low ready c.in-Err-fill.why (hall_of c.in-Ok-new.floor).epoch next
    (subst (λ ts. IsNotFilled c.in-Err-fill.why g.F.Folder.tells_files ts (hall_of c.in-Ok-new.floor).epoch (files_of c.in-Ok-new.floor) (files_of c.fill.new.floor) (faults_of c.in-Ok-new.floor) (faults_of c.fill.new.floor)) topics c.in-Err-fill.ensures.refused) in
    let whole : IsRefusal c.in-Err-fill.why g.F.Folder.tells_files (g.F.Folder.files c.args.kit.folder) (g.F.Folder.files c.end-kit.result.folder) (g.F.Folder.folder_faults c.args.kit.folder) (g.F.Folder.folder_faults c.end-kit.result.folder) = subst (λ f. IsRefusal c.in-Err-fill.why g.F.Folder.tells_files (g.F.Folder.files c.args.kit.folder) (g.F.Folder.files f) (g.F.Folder.folder_faults c.args.kit.folder) (g.F.Folder.folder_faults f)) (sym c.end-kit.ensures.folder) refusal in
    record {
      found = tt;
      finds = tt;
      stands = tt;
      raised = tt;
      hall = tt;
      moment = tt;
      coming = tt;
      journal = tt;
      faults = tt;
      files = tt;
      why = whole.why;
      again = whole.again;
      back = c.end-kit.ensures.journal ∙ c.fill.ensures.journal ∙ c.in-Ok-new.ensures.journal;
      refused_faults = subst (λ f. g.F.Folder.folder_faults c.args.kit.folder ≤ g.F.Folder.folder_faults f) (sym c.end-kit.ensures.folder) rises;
      refused_files = whole.files;
    }
