use Rattle.std.proofs.Common.{arith, inl, ◌+◌, ◌∙◌}
use Rattle.queue_image.specs.FileNames.{data_file}
use Rattle.queue_files.proofs.FileSteps.{next_apart, roll_ended, roll_next}
use Rattle.queue_files.proofs.files.QueueFiles.roll.Goals as goal

pub returns-in-Failed-clause-next : goal.returns-in-Failed-clause-next
returns-in-Failed-clause-next g c = λ told. inl (c.in-Failed.ensures.others told (data_file c.args.self.now (c.args.number + 1)) (next_apart c.args.self.now c.args.number (omega (arith, c.requires))))

pub returns-in-Failed-sync-clause-next : goal.returns-in-Failed-sync-clause-next
returns-in-Failed-sync-clause-next g c = λ told.
    let next = data_file c.args.self.now (c.args.number + 1) in
    inl (c.in-Failed-sync.ensures.same told next ∙ c.in-Done.ensures.others told next (next_apart c.args.self.now c.args.number (omega (arith, c.requires))))

pub returns-clause-ended : goal.returns-clause-ended
returns-clause-ended g c = λ told.
    roll_ended c.args.self.now c.args.number c.args.at (g.F.Folder.files c.args.folder.now) (g.F.Folder.files c.cut.new.folder) (g.F.Folder.files c.sync.new.self) (g.F.Folder.files c.cut-2.new.folder) c.cut-2.result (omega (arith, c.requires)) (c.in-Done.ensures.bytes told) (c.in-Done-sync.ensures.same told)
    (rw c.cut.ensures.name at (c.cut-2.ensures.others told))

pub returns-clause-next : goal.returns-clause-next
returns-clause-next g c = λ told.
    roll_next c.args.self.now c.args.number (g.F.Folder.files c.args.folder.now) (g.F.Folder.files c.cut.new.folder) (g.F.Folder.files c.sync.new.self) (g.F.Folder.files c.cut-2.new.folder) c.cut-2.result (omega (arith, c.requires)) (c.in-Done.ensures.others told) (c.in-Done-sync.ensures.same told)
    (rw c.cut.ensures.name at (c.cut-2.ensures.bytes told))

pub returns-clause-others : goal.returns-clause-others
returns-clause-others g c = λ told other first second.
    (rw c.cut.ensures.name at (c.cut-2.ensures.others told)) other second ∙ c.in-Done-sync.ensures.same told other ∙ c.in-Done.ensures.others told other first
