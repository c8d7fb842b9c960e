use Rattle.queue_opening.proofs.Asides.{remove_step}
use Rattle.queue_opening.proofs.tidying.remove_one.Goals as goal

pub returns-clause-step : goal.returns-clause-step
returns-clause-step g c = λ told.
    remove_step c.args.files.now c.args.to c.args.number (g.F.Folder.files c.args.folder.now) (g.F.Folder.files c.remove.new.folder) c.remove.result c.if-number-to.false (c.remove.ensures.gone told)
    (c.remove.ensures.others told)
