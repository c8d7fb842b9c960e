use Rattle.std.proofs.Common.{ap}
use Rattle.daemon_main.proofs.Going.{saves_behind, went_nowhere, went_saving}
use Rattle.daemon_main.proofs.callers.save_changed.Goals as goal

pub returns-then-changed-clause-went : goal.returns-then-changed-clause-went
returns-then-changed-clause-went g c =
    let saved = c.save-saved in
    let kept = saves_behind saved.result _ _ saved.ensures.held in
    went_saving _ _ _ _ _ (ap g.J.Journal.notes saved.ensures.journal) (ap g.C.Clock.coming saved.ensures.clock) saved.ensures.faults kept.moment kept.stuck saved.ensures.others saved.ensures.stands

pub returns-else-changed-clause-went : goal.returns-else-changed-clause-went
returns-else-changed-clause-went g c = went_nowhere _ _ _ _
