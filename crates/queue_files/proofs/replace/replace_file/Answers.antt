use Rattle.queue_files.proofs.FileSteps.{replaces_by, replaces_others}
use Rattle.queue_files.proofs.replace.replace_file.Goals as goal

pub returns-clause-content : goal.returns-clause-content
returns-clause-content g c = λ told.
    replaces_by (g.F.Folder.files c.args.folder.now) (g.F.Folder.files c.write_temp.new.folder) (g.F.Folder.files c.switch.new.folder) c.args.name.now c.args.temp.now c.args.bytes.now c.switch.result c.requires
    (c.in-Done.ensures.bytes told) (c.in-Done.ensures.others told) (c.switch.ensures.files told)

pub returns-clause-others : goal.returns-clause-others
returns-clause-others g c = λ told.
    replaces_others (g.F.Folder.files c.args.folder.now) (g.F.Folder.files c.write_temp.new.folder) (g.F.Folder.files c.switch.new.folder) c.args.name.now c.args.temp.now c.switch.result (c.in-Done.ensures.others told)
    (c.switch.ensures.files told)
