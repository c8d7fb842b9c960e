use Rattle.disk_queue.specs.Holding.{Holds, SaveStands}
use Rattle.disk_queue.specs.Answers.{IsKept, Saves}
use Rattle.disk_queue.specs.declared.answers.Sync.TheVariants.{Done, Failed}
use Rattle.disk_queue.proofs.Saves.{to_saved, holds_after, holds_saved, own_saved, write_saved, stands_failed, stands_saved, kept_saved}
use Rattle.disk_queue.proofs.queue.Queue.save.Goals as goal

pub returns-in-Failed-clause-list : goal.returns-in-Failed-clause-list
returns-in-Failed-clause-list g c = λ told bodies waiting h.
    let old = g.F.Folder.files c.args.folder.now in
    let new = g.F.Folder.files c.save_files.new.folder in
    to_saved (λ q. Holds q new bodies waiting) c.args.self.now c.save_files.new.self c.fail.new.self Failed c.save_files.ensures.seen c.fail.ensures
    (holds_after c.args.self.now Failed new bodies waiting (holds_saved c.args.self.now c.save_files.ensures.sound old new (c.save_files.ensures.files told) bodies waiting h))

pub returns-in-Failed-clause-stands : goal.returns-in-Failed-clause-stands
returns-in-Failed-clause-stands g c = λ told s.
    let old = g.F.Folder.files c.args.folder.now in
    let new = g.F.Folder.files c.save_files.new.folder in
    to_saved (λ q. SaveStands q new) c.args.self.now c.save_files.new.self c.fail.new.self Failed c.save_files.ensures.seen c.fail.ensures
    (stands_failed c.args.self.now c.save_files.ensures.sound old new (c.save_files.ensures.files told) s)

pub returns-in-Failed-clause-metadata : goal.returns-in-Failed-clause-metadata
returns-in-Failed-clause-metadata g c = λ told.
    let old = g.F.Folder.files c.args.folder.now in
    let new = g.F.Folder.files c.save_files.new.folder in
    to_saved (λ q. Saves q old new Failed) c.args.self.now c.save_files.new.self c.fail.new.self Failed c.save_files.ensures.seen c.fail.ensures (c.in-Failed.ensures.metadata told)

pub returns-in-Failed-clause-others : goal.returns-in-Failed-clause-others
returns-in-Failed-clause-others g c = λ told.
    own_saved c.args.self.now c.save_files.ensures.sound (g.F.Folder.files c.args.folder.now) (g.F.Folder.files c.save_files.new.folder) (c.save_files.ensures.files told)

pub returns-clause-list : goal.returns-clause-list
returns-clause-list g c = λ told bodies waiting h.
    let old = g.F.Folder.files c.args.folder.now in
    let new = g.F.Folder.files c.save_files.new.folder in
    to_saved (λ q. Holds q new bodies waiting) c.args.self.now c.save_files.new.self c.finish.new.self Done c.save_files.ensures.seen c.finish.ensures
    (holds_after c.args.self.now Done new bodies waiting (holds_saved c.args.self.now c.save_files.ensures.sound old new (c.save_files.ensures.files told) bodies waiting h))

pub returns-clause-stands : goal.returns-clause-stands
returns-clause-stands g c = λ told s.
    let old = g.F.Folder.files c.args.folder.now in
    let new = g.F.Folder.files c.save_files.new.folder in
    to_saved (λ q. SaveStands q new) c.args.self.now c.save_files.new.self c.finish.new.self Done c.save_files.ensures.seen c.finish.ensures
    (stands_saved c.args.self.now c.save_files.ensures.sound old new (c.save_files.ensures.files told) (c.in-Done.ensures.metadata told) (c.in-Done.ensures.removed told) s)

pub returns-clause-kept : goal.returns-clause-kept
returns-clause-kept g c = λ told bodies waiting h.
    let old = g.F.Folder.files c.args.folder.now in
    let new = g.F.Folder.files c.save_files.new.folder in
    to_saved (λ q. IsKept q new bodies) c.args.self.now c.save_files.new.self c.finish.new.self Done c.save_files.ensures.seen c.finish.ensures
    (kept_saved c.args.self.now c.save_files.ensures.sound old new (c.save_files.ensures.files told) bodies waiting (c.in-Done.ensures.metadata told) h)

pub returns-clause-metadata : goal.returns-clause-metadata
returns-clause-metadata g c = λ told.
    let old = g.F.Folder.files c.args.folder.now in
    let new = g.F.Folder.files c.save_files.new.folder in
    to_saved (λ q. Saves q old new Done) c.args.self.now c.save_files.new.self c.finish.new.self Done c.save_files.ensures.seen c.finish.ensures (c.in-Done.ensures.metadata told)

pub returns-clause-others : goal.returns-clause-others
returns-clause-others g c = λ told.
    own_saved c.args.self.now c.save_files.ensures.sound (g.F.Folder.files c.args.folder.now) (g.F.Folder.files c.save_files.new.folder) (c.save_files.ensures.files told)

pub returns-clause-written : goal.returns-clause-written
returns-clause-written g c = λ told.
    write_saved c.args.self.now c.save_files.ensures.sound (g.F.Folder.files c.args.folder.now) (g.F.Folder.files c.save_files.new.folder) (c.save_files.ensures.files told)

pub returns-in-Failed-clause-written : goal.returns-in-Failed-clause-written
returns-in-Failed-clause-written g c = λ told.
    write_saved c.args.self.now c.save_files.ensures.sound (g.F.Folder.files c.args.folder.now) (g.F.Folder.files c.save_files.new.folder) (c.save_files.ensures.files told)
