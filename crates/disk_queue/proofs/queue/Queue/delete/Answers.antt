use Rattle.disk_queue.proofs.ListDropped.{all_forgotten, all_gone, in_order, deletes_own, counted_twice}
use Rattle.disk_queue.proofs.queue.Queue.delete.Goals as goal

pub returns-clause-found : goal.returns-clause-found
returns-clause-found g c = λ told.
    all_forgotten c.args.self c.empty.new.self (g.F.Folder.files c.empty.new.folder) (g.F.Folder.files c.remove_files.new.folder) _ _ c.remove_files.ensures.sound c.in-Done.ensures.seen (c.in-Done.ensures.metadata told).0
    (c.remove_files.ensures.deletes told)

pub returns-clause-gone : goal.returns-clause-gone
returns-clause-gone g c = λ told stands.
    all_gone c.args.self c.empty.new.self (g.F.Folder.files c.empty.new.folder) (g.F.Folder.files c.remove_files.new.folder) (g.F.Folder.folder_faults c.args.folder.now) _ _ c.in-Done.ensures.faults c.remove_files.ensures.sound
    c.in-Done.ensures.seen (c.in-Done.ensures.stands told stands) (c.in-Done.ensures.metadata told).1 (c.remove_files.ensures.deletes told)

pub returns-clause-others : goal.returns-clause-others
returns-clause-others g c = λ told.
    deletes_own c.args.self c.empty.new.self (g.F.Folder.files c.args.folder.now) (g.F.Folder.files c.empty.new.folder) (g.F.Folder.files c.remove_files.new.folder) _ _ c.remove_files.ensures.sound c.in-Done.ensures.seen
    (c.in-Done.ensures.others told) (c.remove_files.ensures.deletes told)

pub returns-clause-order : goal.returns-clause-order
returns-clause-order g c = λ told stands.
    in_order c.args.self c.empty.new.self (g.F.Folder.files c.empty.new.folder) (g.F.Folder.files c.remove_files.new.folder) _ _ c.remove_files.ensures.sound c.in-Done.ensures.seen (c.in-Done.ensures.stands told stands)
    (c.in-Done.ensures.metadata told).0 (c.remove_files.ensures.deletes told)

pub returns-clause-exact : goal.returns-clause-exact
returns-clause-exact g c = λ counts.
    counted_twice c.args.self c.empty.new.self (g.F.Folder.folder_faults c.args.folder.now) (g.F.Folder.folder_faults c.empty.new.folder) (g.F.Folder.folder_faults c.remove_files.new.folder) (c.in-Done.ensures.exact counts)
    (c.remove_files.ensures.exact counts)
