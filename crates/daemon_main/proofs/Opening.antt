-- A floor that was opened stands for the state that starts with what was found.
use Rattle.std.proofs.Common.{◌≡◌, ◌≤◌, ℕ, ◌+◌, [], false, sym, ap, subst}
use Rattle.nsq_base.specs.declared.options.Options.{Options}
use Rattle.path_image.specs.Found.{Found, IsFound, Names}
use Rattle.broker_history.specs.Entries.{History, own}
use Rattle.broker_history.specs.Found.{start}
use Rattle.broker_history.specs.Moments.{moment_of}
use Rattle.broker_history.specs.Calls.{has_began}
use Rattle.broker_floor.specs.Standing.{HoldsFor}
use Rattle.broker_floor.specs.Scenes.{Scene, Stands}
use Rattle.broker_floor.specs.Opening.{OnlyOpeningFiles}
use Rattle.daemon_main.specs.Sights.{Sight}
use Rattle.daemon_main.proofs.Running.{Opened, Stood}

nobody_began : (n : ℕ) (notes : History) → notes ≡ [] → false ≡ has_began (own n notes)
nobody_began n notes empty = ap (λ (h : History). has_began (own n h)) (sym empty)

module _ {K : Type 0} (options : Options) (old : Sight K) (opened_scene : Scene) (finds : (found : Found) × IsFound old.files (Names found))
    (holds : (found : Found) → IsFound old.files (Names found) → HoldsFor opened_scene.hall opened_scene.files (start found options opened_scene.hall.moment)) where
  stands : opened_scene.notes ≡ [] → Stands opened_scene (start finds.0 options opened_scene.hall.moment)
  stands empty = record { holds = holds finds.0 finds.1; began = λ n. nobody_began n opened_scene.notes empty }

  pub stood : opened_scene.notes ≡ [] → Stood opened_scene
  stood empty = record { state = start finds.0 options opened_scene.hall.moment; stands = stands empty }

  pub opened : opened_scene.hall.stuck ≡ false → opened_scene.hall.moment ≡ moment_of old.coming 1 → ((n : ℕ) → opened_scene.coming n ≡ old.coming (n + 1)) → opened_scene.notes ≡ []
      → old.counts.folder ≤ opened_scene.faults → OnlyOpeningFiles old.files opened_scene.files → Opened options old opened_scene
  opened unstuck moment coming empty faults files = record {
    found = finds.0;
    is_found = finds.1;
    stands = subst (λ m. Stands opened_scene (start finds.0 options m)) moment (stands empty);
    moment = moment;
    ahead = coming;
    unstuck = unstuck;
    empty = empty;
    faults = faults;
    files = files;
  }
