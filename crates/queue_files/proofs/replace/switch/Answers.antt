use Rattle.queue_files.proofs.FileSteps.{renames_there}
use Rattle.queue_files.proofs.replace.switch.Goals as goal

pub returns-clause-files : goal.returns-clause-files
returns-clause-files g c = λ told.
    renames_there (g.F.Folder.files c.args.folder.now) (g.F.Folder.files c.rename.new.self) (g.F.Folder.files c.sync_names.new.self) c.args.temp.now c.args.name.now c.sync_names.result (c.in-Done.ensures.files told)
    (c.sync_names.ensures.same told)
