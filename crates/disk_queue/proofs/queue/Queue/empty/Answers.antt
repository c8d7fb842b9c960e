use Rattle.std.proofs.Common.{arith, inl, inr}
use Rattle.disk_queue.specs.declared.answers.Sync.TheVariants.{Done as Saved, Failed as Unsaved}
use Rattle.disk_queue.proofs.ListDropped.{value_after, value_failed, sound_known, empty_changes, empty_writes, empty_gone, empty_holds, empty_kept, empty_stands, empty_fails, empty_own, empty_found, two_known, fault_changes, fault_holds, fault_stands, fault_own, fault_writes, not_failed, rose_within, counted_done, counted_failed, tried_some}
use Rattle.disk_queue.proofs.queue.Queue.empty.Goals as goal

pub returns-clause-seen : goal.returns-clause-seen
returns-clause-seen g c =
    let q = c.args.self.now in
    let u = c.unmark.new.self in
    let w = c.write_empty.new.self in
    let d = c.drop_all.new.self in
    let old = g.F.Folder.files c.args.folder.now in
    let mid = g.F.Folder.files c.write_empty.new.folder in
    let new = g.F.Folder.files c.remove_read.new.folder in
    let sound = sound_known q u c.unmark.ensures c.in-Done.ensures.sound in
    let value = value_after q u w d c.remove_read.new.self c.finish.new.self Saved c.unmark.ensures c.in-Done.ensures.seen c.drop_all.ensures c.in-Done-remove_read.ensures.seen c.finish.ensures in
    inl value

pub returns-clause-list : goal.returns-clause-list
returns-clause-list g c = λ told bodies waiting.
    let q = c.args.self.now in
    let u = c.unmark.new.self in
    let w = c.write_empty.new.self in
    let d = c.drop_all.new.self in
    let old = g.F.Folder.files c.args.folder.now in
    let mid = g.F.Folder.files c.write_empty.new.folder in
    let new = g.F.Folder.files c.remove_read.new.folder in
    let sound = sound_known q u c.unmark.ensures c.in-Done.ensures.sound in
    let value = value_after q u w d c.remove_read.new.self c.finish.new.self Saved c.unmark.ensures c.in-Done.ensures.seen c.drop_all.ensures c.in-Done-remove_read.ensures.seen c.finish.ensures in
    empty_holds q sound old new (empty_changes q u w d old mid new c.unmark.ensures c.in-Done.ensures.seen c.drop_all.ensures c.in-Done.ensures.sound (c.in-Done.ensures.files told) (c.remove_read.ensures.files told)) c.finish.new.self Saved bodies waiting value

pub returns-clause-kept : goal.returns-clause-kept
returns-clause-kept g c = λ told bodies waiting.
    let q = c.args.self.now in
    let u = c.unmark.new.self in
    let w = c.write_empty.new.self in
    let d = c.drop_all.new.self in
    let old = g.F.Folder.files c.args.folder.now in
    let mid = g.F.Folder.files c.write_empty.new.folder in
    let new = g.F.Folder.files c.remove_read.new.folder in
    let sound = sound_known q u c.unmark.ensures c.in-Done.ensures.sound in
    let value = value_after q u w d c.remove_read.new.self c.finish.new.self Saved c.unmark.ensures c.in-Done.ensures.seen c.drop_all.ensures c.in-Done-remove_read.ensures.seen c.finish.ensures in
    empty_kept q sound old new (empty_changes q u w d old mid new c.unmark.ensures c.in-Done.ensures.seen c.drop_all.ensures c.in-Done.ensures.sound (c.in-Done.ensures.files told) (c.remove_read.ensures.files told)) c.finish.new.self Saved bodies waiting value (empty_writes q u w d old mid new c.unmark.ensures c.in-Done.ensures.seen c.drop_all.ensures c.in-Done.ensures.sound (c.in-Done.ensures.metadata told) (c.remove_read.ensures.files told))

pub returns-clause-found : goal.returns-clause-found
returns-clause-found g c = λ told.
    let q = c.args.self.now in
    let u = c.unmark.new.self in
    let w = c.write_empty.new.self in
    let d = c.drop_all.new.self in
    let old = g.F.Folder.files c.args.folder.now in
    let mid = g.F.Folder.files c.write_empty.new.folder in
    let new = g.F.Folder.files c.remove_read.new.folder in
    let sound = sound_known q u c.unmark.ensures c.in-Done.ensures.sound in
    let value = value_after q u w d c.remove_read.new.self c.finish.new.self Saved c.unmark.ensures c.in-Done.ensures.seen c.drop_all.ensures c.in-Done-remove_read.ensures.seen c.finish.ensures in
    empty_found q.options.least q.options.limit q new sound (empty_writes q u w d old mid new c.unmark.ensures c.in-Done.ensures.seen c.drop_all.ensures c.in-Done.ensures.sound (c.in-Done.ensures.metadata told) (c.remove_read.ensures.files told)).0

pub returns-clause-stands : goal.returns-clause-stands
returns-clause-stands g c = λ told.
    let q = c.args.self.now in
    let u = c.unmark.new.self in
    let w = c.write_empty.new.self in
    let d = c.drop_all.new.self in
    let old = g.F.Folder.files c.args.folder.now in
    let mid = g.F.Folder.files c.write_empty.new.folder in
    let new = g.F.Folder.files c.remove_read.new.folder in
    let sound = sound_known q u c.unmark.ensures c.in-Done.ensures.sound in
    let value = value_after q u w d c.remove_read.new.self c.finish.new.self Saved c.unmark.ensures c.in-Done.ensures.seen c.drop_all.ensures c.in-Done-remove_read.ensures.seen c.finish.ensures in
    empty_stands q sound old new (empty_changes q u w d old mid new c.unmark.ensures c.in-Done.ensures.seen c.drop_all.ensures c.in-Done.ensures.sound (c.in-Done.ensures.files told) (c.remove_read.ensures.files told)) c.finish.new.self value (empty_writes q u w d old mid new c.unmark.ensures c.in-Done.ensures.seen c.drop_all.ensures c.in-Done.ensures.sound (c.in-Done.ensures.metadata told) (c.remove_read.ensures.files told)) (empty_gone q u w d old mid new c.unmark.ensures c.in-Done.ensures.seen c.drop_all.ensures c.in-Done.ensures.sound (c.in-Done-remove_read.ensures.removed told))

pub returns-clause-metadata : goal.returns-clause-metadata
returns-clause-metadata g c = λ told.
    let q = c.args.self.now in
    let u = c.unmark.new.self in
    let w = c.write_empty.new.self in
    let d = c.drop_all.new.self in
    let old = g.F.Folder.files c.args.folder.now in
    let mid = g.F.Folder.files c.write_empty.new.folder in
    let new = g.F.Folder.files c.remove_read.new.folder in
    let sound = sound_known q u c.unmark.ensures c.in-Done.ensures.sound in
    let value = value_after q u w d c.remove_read.new.self c.finish.new.self Saved c.unmark.ensures c.in-Done.ensures.seen c.drop_all.ensures c.in-Done-remove_read.ensures.seen c.finish.ensures in
    empty_writes q u w d old mid new c.unmark.ensures c.in-Done.ensures.seen c.drop_all.ensures c.in-Done.ensures.sound (c.in-Done.ensures.metadata told) (c.remove_read.ensures.files told)

pub returns-clause-files : goal.returns-clause-files
returns-clause-files g c = λ told.
    let q = c.args.self.now in
    let u = c.unmark.new.self in
    let w = c.write_empty.new.self in
    let d = c.drop_all.new.self in
    let old = g.F.Folder.files c.args.folder.now in
    let mid = g.F.Folder.files c.write_empty.new.folder in
    let new = g.F.Folder.files c.remove_read.new.folder in
    let sound = sound_known q u c.unmark.ensures c.in-Done.ensures.sound in
    let value = value_after q u w d c.remove_read.new.self c.finish.new.self Saved c.unmark.ensures c.in-Done.ensures.seen c.drop_all.ensures c.in-Done-remove_read.ensures.seen c.finish.ensures in
    empty_changes q u w d old mid new c.unmark.ensures c.in-Done.ensures.seen c.drop_all.ensures c.in-Done.ensures.sound (c.in-Done.ensures.files told) (c.remove_read.ensures.files told)

pub returns-clause-others : goal.returns-clause-others
returns-clause-others g c = λ told.
    let q = c.args.self.now in
    let u = c.unmark.new.self in
    let w = c.write_empty.new.self in
    let d = c.drop_all.new.self in
    let old = g.F.Folder.files c.args.folder.now in
    let mid = g.F.Folder.files c.write_empty.new.folder in
    let new = g.F.Folder.files c.remove_read.new.folder in
    let sound = sound_known q u c.unmark.ensures c.in-Done.ensures.sound in
    let value = value_after q u w d c.remove_read.new.self c.finish.new.self Saved c.unmark.ensures c.in-Done.ensures.seen c.drop_all.ensures c.in-Done-remove_read.ensures.seen c.finish.ensures in
    empty_own q sound old new (empty_changes q u w d old mid new c.unmark.ensures c.in-Done.ensures.seen c.drop_all.ensures c.in-Done.ensures.sound (c.in-Done.ensures.files told) (c.remove_read.ensures.files told))

pub returns-clause-cause : goal.returns-clause-cause
returns-clause-cause g c =
    let q = c.args.self.now in
    let u = c.unmark.new.self in
    let w = c.write_empty.new.self in
    let d = c.drop_all.new.self in
    let old = g.F.Folder.files c.args.folder.now in
    let mid = g.F.Folder.files c.write_empty.new.folder in
    let new = g.F.Folder.files c.remove_read.new.folder in
    let sound = sound_known q u c.unmark.ensures c.in-Done.ensures.sound in
    let value = value_after q u w d c.remove_read.new.self c.finish.new.self Saved c.unmark.ensures c.in-Done.ensures.seen c.drop_all.ensures c.in-Done-remove_read.ensures.seen c.finish.ensures in
    λ failed. absurd (not_failed q c.finish.new.self value failed)

pub returns-in-Failed-remove_read-clause-seen : goal.returns-in-Failed-remove_read-clause-seen
returns-in-Failed-remove_read-clause-seen g c =
    let q = c.args.self.now in
    let u = c.unmark.new.self in
    let w = c.write_empty.new.self in
    let d = c.drop_all.new.self in
    let old = g.F.Folder.files c.args.folder.now in
    let mid = g.F.Folder.files c.write_empty.new.folder in
    let new = g.F.Folder.files c.remove_read.new.folder in
    let sound = sound_known q u c.unmark.ensures c.in-Done.ensures.sound in
    let value = value_after q u w d c.remove_read.new.self c.fail-in-Failed-remove_read.new.self Unsaved c.unmark.ensures c.in-Done.ensures.seen c.drop_all.ensures c.in-Failed-remove_read.ensures.seen c.fail-in-Failed-remove_read.ensures in
    inr value

pub returns-in-Failed-remove_read-clause-list : goal.returns-in-Failed-remove_read-clause-list
returns-in-Failed-remove_read-clause-list g c = λ told bodies waiting.
    let q = c.args.self.now in
    let u = c.unmark.new.self in
    let w = c.write_empty.new.self in
    let d = c.drop_all.new.self in
    let old = g.F.Folder.files c.args.folder.now in
    let mid = g.F.Folder.files c.write_empty.new.folder in
    let new = g.F.Folder.files c.remove_read.new.folder in
    let sound = sound_known q u c.unmark.ensures c.in-Done.ensures.sound in
    let value = value_after q u w d c.remove_read.new.self c.fail-in-Failed-remove_read.new.self Unsaved c.unmark.ensures c.in-Done.ensures.seen c.drop_all.ensures c.in-Failed-remove_read.ensures.seen c.fail-in-Failed-remove_read.ensures in
    empty_holds q sound old new (empty_changes q u w d old mid new c.unmark.ensures c.in-Done.ensures.seen c.drop_all.ensures c.in-Done.ensures.sound (c.in-Done.ensures.files told) (c.remove_read.ensures.files told)) c.fail-in-Failed-remove_read.new.self Unsaved bodies waiting value

pub returns-in-Failed-remove_read-clause-kept : goal.returns-in-Failed-remove_read-clause-kept
returns-in-Failed-remove_read-clause-kept g c = λ told bodies waiting.
    let q = c.args.self.now in
    let u = c.unmark.new.self in
    let w = c.write_empty.new.self in
    let d = c.drop_all.new.self in
    let old = g.F.Folder.files c.args.folder.now in
    let mid = g.F.Folder.files c.write_empty.new.folder in
    let new = g.F.Folder.files c.remove_read.new.folder in
    let sound = sound_known q u c.unmark.ensures c.in-Done.ensures.sound in
    let value = value_after q u w d c.remove_read.new.self c.fail-in-Failed-remove_read.new.self Unsaved c.unmark.ensures c.in-Done.ensures.seen c.drop_all.ensures c.in-Failed-remove_read.ensures.seen c.fail-in-Failed-remove_read.ensures in
    empty_kept q sound old new (empty_changes q u w d old mid new c.unmark.ensures c.in-Done.ensures.seen c.drop_all.ensures c.in-Done.ensures.sound (c.in-Done.ensures.files told) (c.remove_read.ensures.files told)) c.fail-in-Failed-remove_read.new.self Unsaved bodies waiting value (empty_writes q u w d old mid new c.unmark.ensures c.in-Done.ensures.seen c.drop_all.ensures c.in-Done.ensures.sound (c.in-Done.ensures.metadata told) (c.remove_read.ensures.files told))

pub returns-in-Failed-remove_read-clause-found : goal.returns-in-Failed-remove_read-clause-found
returns-in-Failed-remove_read-clause-found g c = λ told.
    let q = c.args.self.now in
    let u = c.unmark.new.self in
    let w = c.write_empty.new.self in
    let d = c.drop_all.new.self in
    let old = g.F.Folder.files c.args.folder.now in
    let mid = g.F.Folder.files c.write_empty.new.folder in
    let new = g.F.Folder.files c.remove_read.new.folder in
    let sound = sound_known q u c.unmark.ensures c.in-Done.ensures.sound in
    let value = value_after q u w d c.remove_read.new.self c.fail-in-Failed-remove_read.new.self Unsaved c.unmark.ensures c.in-Done.ensures.seen c.drop_all.ensures c.in-Failed-remove_read.ensures.seen c.fail-in-Failed-remove_read.ensures in
    empty_found q.options.least q.options.limit q new sound (empty_writes q u w d old mid new c.unmark.ensures c.in-Done.ensures.seen c.drop_all.ensures c.in-Done.ensures.sound (c.in-Done.ensures.metadata told) (c.remove_read.ensures.files told)).0

pub returns-in-Failed-remove_read-clause-stands : goal.returns-in-Failed-remove_read-clause-stands
returns-in-Failed-remove_read-clause-stands g c = λ told.
    let q = c.args.self.now in
    let u = c.unmark.new.self in
    let w = c.write_empty.new.self in
    let d = c.drop_all.new.self in
    let old = g.F.Folder.files c.args.folder.now in
    let mid = g.F.Folder.files c.write_empty.new.folder in
    let new = g.F.Folder.files c.remove_read.new.folder in
    let sound = sound_known q u c.unmark.ensures c.in-Done.ensures.sound in
    let value = value_after q u w d c.remove_read.new.self c.fail-in-Failed-remove_read.new.self Unsaved c.unmark.ensures c.in-Done.ensures.seen c.drop_all.ensures c.in-Failed-remove_read.ensures.seen c.fail-in-Failed-remove_read.ensures in
    empty_fails q sound old new (empty_changes q u w d old mid new c.unmark.ensures c.in-Done.ensures.seen c.drop_all.ensures c.in-Done.ensures.sound (c.in-Done.ensures.files told) (c.remove_read.ensures.files told)) c.fail-in-Failed-remove_read.new.self value

pub returns-in-Failed-remove_read-clause-metadata : goal.returns-in-Failed-remove_read-clause-metadata
returns-in-Failed-remove_read-clause-metadata g c = λ told.
    let q = c.args.self.now in
    let u = c.unmark.new.self in
    let w = c.write_empty.new.self in
    let d = c.drop_all.new.self in
    let old = g.F.Folder.files c.args.folder.now in
    let mid = g.F.Folder.files c.write_empty.new.folder in
    let new = g.F.Folder.files c.remove_read.new.folder in
    let sound = sound_known q u c.unmark.ensures c.in-Done.ensures.sound in
    let value = value_after q u w d c.remove_read.new.self c.fail-in-Failed-remove_read.new.self Unsaved c.unmark.ensures c.in-Done.ensures.seen c.drop_all.ensures c.in-Failed-remove_read.ensures.seen c.fail-in-Failed-remove_read.ensures in
    empty_writes q u w d old mid new c.unmark.ensures c.in-Done.ensures.seen c.drop_all.ensures c.in-Done.ensures.sound (c.in-Done.ensures.metadata told) (c.remove_read.ensures.files told)

pub returns-in-Failed-remove_read-clause-files : goal.returns-in-Failed-remove_read-clause-files
returns-in-Failed-remove_read-clause-files g c = λ told.
    let q = c.args.self.now in
    let u = c.unmark.new.self in
    let w = c.write_empty.new.self in
    let d = c.drop_all.new.self in
    let old = g.F.Folder.files c.args.folder.now in
    let mid = g.F.Folder.files c.write_empty.new.folder in
    let new = g.F.Folder.files c.remove_read.new.folder in
    let sound = sound_known q u c.unmark.ensures c.in-Done.ensures.sound in
    let value = value_after q u w d c.remove_read.new.self c.fail-in-Failed-remove_read.new.self Unsaved c.unmark.ensures c.in-Done.ensures.seen c.drop_all.ensures c.in-Failed-remove_read.ensures.seen c.fail-in-Failed-remove_read.ensures in
    empty_changes q u w d old mid new c.unmark.ensures c.in-Done.ensures.seen c.drop_all.ensures c.in-Done.ensures.sound (c.in-Done.ensures.files told) (c.remove_read.ensures.files told)

pub returns-in-Failed-remove_read-clause-others : goal.returns-in-Failed-remove_read-clause-others
returns-in-Failed-remove_read-clause-others g c = λ told.
    let q = c.args.self.now in
    let u = c.unmark.new.self in
    let w = c.write_empty.new.self in
    let d = c.drop_all.new.self in
    let old = g.F.Folder.files c.args.folder.now in
    let mid = g.F.Folder.files c.write_empty.new.folder in
    let new = g.F.Folder.files c.remove_read.new.folder in
    let sound = sound_known q u c.unmark.ensures c.in-Done.ensures.sound in
    let value = value_after q u w d c.remove_read.new.self c.fail-in-Failed-remove_read.new.self Unsaved c.unmark.ensures c.in-Done.ensures.seen c.drop_all.ensures c.in-Failed-remove_read.ensures.seen c.fail-in-Failed-remove_read.ensures in
    empty_own q sound old new (empty_changes q u w d old mid new c.unmark.ensures c.in-Done.ensures.seen c.drop_all.ensures c.in-Done.ensures.sound (c.in-Done.ensures.files told) (c.remove_read.ensures.files told))

pub returns-in-Failed-remove_read-clause-cause : goal.returns-in-Failed-remove_read-clause-cause
returns-in-Failed-remove_read-clause-cause g c =
    let q = c.args.self.now in
    let u = c.unmark.new.self in
    let w = c.write_empty.new.self in
    let d = c.drop_all.new.self in
    let old = g.F.Folder.files c.args.folder.now in
    let mid = g.F.Folder.files c.write_empty.new.folder in
    let new = g.F.Folder.files c.remove_read.new.folder in
    let sound = sound_known q u c.unmark.ensures c.in-Done.ensures.sound in
    let value = value_after q u w d c.remove_read.new.self c.fail-in-Failed-remove_read.new.self Unsaved c.unmark.ensures c.in-Done.ensures.seen c.drop_all.ensures c.in-Failed-remove_read.ensures.seen c.fail-in-Failed-remove_read.ensures in
    λ failed. rose_within (g.F.Folder.folder_faults c.args.folder.now) (g.F.Folder.folder_faults c.write_empty.new.folder) (g.F.Folder.folder_faults c.remove_read.new.folder) (g.F.Folder.folder_faults c.remove_read.new.folder) c.in-Done.ensures.faults (omega arith) c.in-Failed-remove_read.ensures.cause

pub returns-in-Failed-clause-seen : goal.returns-in-Failed-clause-seen
returns-in-Failed-clause-seen g c =
    let q = c.args.self.now in
    let u = c.unmark.new.self in
    let old = g.F.Folder.files c.args.folder.now in
    let new = g.F.Folder.files c.write_empty.new.folder in
    let value = value_failed q u c.write_empty.new.self c.fail.new.self c.unmark.ensures c.in-Failed.ensures.seen c.fail.ensures in
    value

pub returns-in-Failed-clause-list : goal.returns-in-Failed-clause-list
returns-in-Failed-clause-list g c = λ told bodies waiting.
    let q = c.args.self.now in
    let u = c.unmark.new.self in
    let old = g.F.Folder.files c.args.folder.now in
    let new = g.F.Folder.files c.write_empty.new.folder in
    let value = value_failed q u c.write_empty.new.self c.fail.new.self c.unmark.ensures c.in-Failed.ensures.seen c.fail.ensures in
    fault_holds q u old new c.unmark.ensures c.in-Failed.ensures.sound (c.in-Failed.ensures.files told) c.fail.new.self bodies waiting value

pub returns-in-Failed-clause-stands : goal.returns-in-Failed-clause-stands
returns-in-Failed-clause-stands g c = λ told.
    let q = c.args.self.now in
    let u = c.unmark.new.self in
    let old = g.F.Folder.files c.args.folder.now in
    let new = g.F.Folder.files c.write_empty.new.folder in
    let value = value_failed q u c.write_empty.new.self c.fail.new.self c.unmark.ensures c.in-Failed.ensures.seen c.fail.ensures in
    fault_stands q u old new c.unmark.ensures c.in-Failed.ensures.sound (c.in-Failed.ensures.files told) c.fail.new.self value

pub returns-in-Failed-clause-metadata : goal.returns-in-Failed-clause-metadata
returns-in-Failed-clause-metadata g c = λ told.
    let q = c.args.self.now in
    let u = c.unmark.new.self in
    let old = g.F.Folder.files c.args.folder.now in
    let new = g.F.Folder.files c.write_empty.new.folder in
    let value = value_failed q u c.write_empty.new.self c.fail.new.self c.unmark.ensures c.in-Failed.ensures.seen c.fail.ensures in
    (two_known q u old new c.unmark.ensures c.in-Failed.ensures.sound (c.in-Failed.ensures.files told), fault_writes q u old new c.unmark.ensures (c.in-Failed.ensures.metadata told))

pub returns-in-Failed-clause-files : goal.returns-in-Failed-clause-files
returns-in-Failed-clause-files g c = λ told.
    let q = c.args.self.now in
    let u = c.unmark.new.self in
    let old = g.F.Folder.files c.args.folder.now in
    let new = g.F.Folder.files c.write_empty.new.folder in
    let value = value_failed q u c.write_empty.new.self c.fail.new.self c.unmark.ensures c.in-Failed.ensures.seen c.fail.ensures in
    fault_changes q u old new c.unmark.ensures c.in-Failed.ensures.sound (c.in-Failed.ensures.files told)

pub returns-in-Failed-clause-others : goal.returns-in-Failed-clause-others
returns-in-Failed-clause-others g c = λ told.
    let q = c.args.self.now in
    let u = c.unmark.new.self in
    let old = g.F.Folder.files c.args.folder.now in
    let new = g.F.Folder.files c.write_empty.new.folder in
    let value = value_failed q u c.write_empty.new.self c.fail.new.self c.unmark.ensures c.in-Failed.ensures.seen c.fail.ensures in
    fault_own q u old new c.unmark.ensures c.in-Failed.ensures.sound (c.in-Failed.ensures.files told)

pub returns-clause-exact : goal.returns-clause-exact
returns-clause-exact g c = λ counts.
    let q = c.args.self.now in
    let u = c.unmark.new.self in
    let w = c.write_empty.new.self in
    let d = c.drop_all.new.self in
    let value = value_after q u w d c.remove_read.new.self c.finish.new.self Saved c.unmark.ensures c.in-Done.ensures.seen c.drop_all.ensures c.in-Done-remove_read.ensures.seen c.finish.ensures in
    counted_done q c.finish.new.self (g.F.Folder.folder_faults c.args.folder.now) (g.F.Folder.folder_faults c.write_empty.new.folder) (g.F.Folder.folder_faults c.remove_read.new.folder) value
    (c.in-Done.ensures.exact counts) (c.in-Done-remove_read.ensures.exact counts)

pub returns-in-Failed-remove_read-clause-exact : goal.returns-in-Failed-remove_read-clause-exact
returns-in-Failed-remove_read-clause-exact g c = λ counts.
    let q = c.args.self.now in
    let u = c.unmark.new.self in
    let w = c.write_empty.new.self in
    let d = c.drop_all.new.self in
    let old = g.F.Folder.files c.args.folder.now in
    let mid = g.F.Folder.files c.write_empty.new.folder in
    let new = g.F.Folder.files c.remove_read.new.folder in
    let value = value_after q u w d c.remove_read.new.self c.fail-in-Failed-remove_read.new.self Unsaved c.unmark.ensures c.in-Done.ensures.seen c.drop_all.ensures c.in-Failed-remove_read.ensures.seen c.fail-in-Failed-remove_read.ensures in
    counted_failed q c.fail-in-Failed-remove_read.new.self (g.F.Folder.folder_faults c.args.folder.now) (g.F.Folder.folder_faults c.write_empty.new.folder) (g.F.Folder.folder_faults c.remove_read.new.folder) value
    (c.in-Done.ensures.exact counts) (c.in-Failed-remove_read.ensures.exact counts)
    (tried_some q u w d old mid new c.unmark.ensures c.in-Done.ensures.seen c.drop_all.ensures c.in-Done.ensures.sound c.in-Failed-remove_read.ensures.tried)
