use Rattle.queue_opening.specs.Tidied.{RemovedWhere, OnlyRemovedChange}
use Rattle.queue_opening.proofs.Tidies.{written_where, unwritten_where, written_others, as_named}
use Rattle.queue_opening.proofs.tidying.write_down.Goals as goal

pub returns-clause-written : goal.returns-clause-written
returns-clause-written g c = λ told.
    let name = c.args.files.now in
    let plan = c.args.plan.now in
    let f0 = g.F.Folder.files c.args.folder.now in
    let f1 = g.F.Folder.files c.save.new.folder in
    let f2 = g.F.Folder.files c.remove.new.folder in
    written_where name plan f0 f1 f2 c.remove.result c.requires.range.read_file (c.in-Done.ensures.metadata told)
    (as_named (λ n ns. RemovedWhere n ns plan.positions.read_file f2 c.remove.result) c.save.new.self name c.deref.result.now plan.numbers.items c.in-Done.ensures.name c.deref.ensures.value (c.remove.ensures.removed told))
    (as_named (λ n ns. OnlyRemovedChange n ns plan.positions.read_file f1 f2) c.save.new.self name c.deref.result.now plan.numbers.items c.in-Done.ensures.name c.deref.ensures.value (c.remove.ensures.others told))

pub returns-clause-others : goal.returns-clause-others
returns-clause-others g c = λ told.
    let name = c.args.files.now in
    let plan = c.args.plan.now in
    let f0 = g.F.Folder.files c.args.folder.now in
    let f1 = g.F.Folder.files c.save.new.folder in
    let f2 = g.F.Folder.files c.remove.new.folder in
    written_others name plan f0 f1 f2 (c.in-Done.ensures.others told)
    (as_named (λ n ns. OnlyRemovedChange n ns plan.positions.read_file f1 f2) c.save.new.self name c.deref.result.now plan.numbers.items c.in-Done.ensures.name c.deref.ensures.value (c.remove.ensures.others told))

pub returns-in-Failed-clause-written : goal.returns-in-Failed-clause-written
returns-in-Failed-clause-written g c = λ told.
    unwritten_where c.args.files.now c.args.plan.now (g.F.Folder.files c.args.folder.now) (g.F.Folder.files c.save.new.folder) (c.in-Failed.ensures.metadata told) (c.in-Failed.ensures.others told)
