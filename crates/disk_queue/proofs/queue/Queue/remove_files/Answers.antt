use Rattle.std.proofs.Common.{subst}
use Rattle.disk_queue.specs.Emptying.{Deletes}
use Rattle.disk_queue.proofs.ListDropped.{deletes, deletes_failed, counted_once}
use Rattle.disk_queue.proofs.queue.Queue.remove_files.Goals as goal

pub returns-in-Failed-clause-deletes : goal.returns-in-Failed-clause-deletes
returns-in-Failed-clause-deletes g c = λ told.
    let old = g.F.Folder.files c.args.folder.now in
    let new = g.F.Folder.files c.remove.new.folder in
    let first = g.F.Folder.folder_faults c.args.folder.now in
    let last = g.F.Folder.folder_faults c.remove.new.folder in
    subst (λ q. Deletes q old new first last) c.self.view_is (deletes_failed _ old new first last c.self.invariant.staged_file (c.in-Failed.ensures.others told) c.in-Failed.ensures.cause)

pub returns-clause-deletes : goal.returns-clause-deletes
returns-clause-deletes g c = λ told.
    let old = g.F.Folder.files c.args.folder.now in
    let mid = g.F.Folder.files c.remove.new.folder in
    let new = g.F.Folder.files c.remove_metadata.new.folder in
    let first = g.F.Folder.folder_faults c.args.folder.now in
    let last = g.F.Folder.folder_faults c.remove_metadata.new.folder in
    subst (λ q. Deletes q old new first last) c.self.view_is
    (deletes _ old mid new c.remove_metadata.result first (g.F.Folder.folder_faults c.remove.new.folder) last c.self.invariant.staged_file (c.in-Done.ensures.gone told) (c.in-Done.ensures.others told)
    (rw c.in-Done.ensures.name at (c.remove_metadata.ensures.gone told)) (rw c.in-Done.ensures.name at (c.remove_metadata.ensures.others told)) c.remove_metadata.ensures.cause c.in-Done.ensures.faults
    c.remove_metadata.ensures.faults)

pub returns-clause-exact : goal.returns-clause-exact
returns-clause-exact g c = λ counts.
    counted_once (g.F.Folder.folder_faults c.args.folder.now) (g.F.Folder.folder_faults c.remove.new.folder) (g.F.Folder.folder_faults c.remove_metadata.new.folder) c.remove_metadata.result (c.in-Done.ensures.exact counts)
    (c.remove_metadata.ensures.exact counts)
