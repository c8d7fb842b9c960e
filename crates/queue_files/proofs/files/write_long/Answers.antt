use Rattle.std.proofs.Common.{rules}
use Rattle.queue_files.proofs.FileSteps.{both_written}
use Rattle.queue_files.proofs.files.write_long.Goals as goal

pub returns-clause-bytes : goal.returns-clause-bytes
returns-clause-bytes g c = λ told. both_written (g.F.Folder.files c.args.folder.now) (g.F.Folder.files c.write_at.new.self) (g.F.Folder.files c.write_at-2.new.self) c.args.file.now c.args.at c.args.size.now c.args.bytes.now _ (search rules) (c.in-Done.ensures.bytes told) (c.write_at-2.ensures.bytes told)
