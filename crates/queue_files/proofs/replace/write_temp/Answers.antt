use Rattle.queue_files.proofs.FileSteps.{written_anew}
use Rattle.queue_files.proofs.replace.write_temp.Goals as goal

pub returns-clause-bytes : goal.returns-clause-bytes
returns-clause-bytes g c = λ told.
    written_anew (g.F.Folder.files c.sync_names.new.self) (g.F.Folder.files c.cut.new.self) (g.F.Folder.files c.write_at.new.self) (g.F.Folder.files c.sync.new.self) c.args.temp.now c.args.bytes.now c.sync.result
    (c.in-Done-cut.ensures.bytes told) (c.in-Done-write_at.ensures.bytes told) (c.sync.ensures.same told)
