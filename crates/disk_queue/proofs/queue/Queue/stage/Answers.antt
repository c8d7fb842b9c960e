use Rattle.std.proofs.Common.{arith, ap, refl, ◌∙◌, subst, sym, length, ◌+◌}
use Rattle.queue_image.specs.FileNames.{data_file}
use Rattle.disk_queue.specs.Seen.{unmarked, after_stage}
use Rattle.disk_queue.specs.Answers.{StageTooLong, StageCounts}
use Rattle.queue_opening.specs.Replaced.{OnlyTwoChange}
use Rattle.disk_queue.specs.Holding.{SaveStands}
use Rattle.disk_queue.specs.declared.answers.Stage.TheVariants.{Fault}
use Rattle.disk_queue.proofs.Kept.{back, back_staged, holds_unmarked, own_two, two_join, stands_staged, stands_after, fits_stays, meta_two, stage_writes}
use Rattle.disk_queue.proofs.Saves.{holds_dropped}
use Rattle.disk_queue.proofs.Joined.{stage_later}
use Rattle.disk_queue.proofs.queue.Queue.stage.Goals as goal

pub returns-in_default-clause-list : goal.returns-in_default-clause-list
returns-in_default-clause-list g c = λ told bodies waiting h.
    holds_unmarked c.args.self.now c.place.new.self c.unmark-in_default.new.self (g.F.Folder.files c.place.new.folder) bodies waiting c.place.ensures.seen c.unmark-in_default.ensures (c.place.ensures.list told bodies waiting h)

pub returns-in_default-clause-stands : goal.returns-in_default-clause-stands
returns-in_default-clause-stands g c = λ told.
    stands_staged c.args.self.now c.place.new.self c.unmark-in_default.new.self 0 Fault (g.F.Folder.files c.args.folder.now) (g.F.Folder.files c.place.new.folder) c.place.ensures.seen c.unmark-in_default.ensures
    c.limit-limit.ensures.sound (c.place.ensures.files told)

pub returns-in_default-clause-others : goal.returns-in_default-clause-others
returns-in_default-clause-others g c = λ told.
    own_two c.args.self.now.name c.args.self.now.staged.file (g.F.Folder.files c.args.folder.now) (g.F.Folder.files c.place.new.folder) (omega (arith, c.limit-limit.ensures.sound.staged_file))
    (c.place.ensures.files told)

pub returns-clause-list : goal.returns-clause-list
returns-clause-list g c = λ told bodies waiting h.
    let mid = g.F.Folder.files c.place.new.folder in
    c.write.ensures.list told bodies waiting (back c.place.new.self c.args.self.now mid bodies waiting c.place.ensures.seen (c.place.ensures.list told bodies waiting h))
    (back_staged c.place.new.self c.args.self.now c.in-Some.place mid bodies waiting c.place.ensures.seen (c.in-Some.ensures.ready told bodies waiting h))

pub returns-clause-stands : goal.returns-clause-stands
returns-clause-stands g c = λ told.
    let old = g.F.Folder.files c.args.folder.now in
    let mid = g.F.Folder.files c.place.new.folder in
    let new = g.F.Folder.files c.write.new.folder in
    let second = subst (λ q. OnlyTwoChange mid new (data_file q.name q.staged.file) (data_file q.name (q.staged.file + 1))) c.place.ensures.seen (c.write.ensures.files told) in
    stands_staged c.args.self.now c.place.new.self c.write.new.self (length c.args.bytes.now) c.write.result old new c.place.ensures.seen c.write.ensures.seen c.limit-limit.ensures.sound
    (two_join old mid new _ _ (c.place.ensures.files told) second)

pub returns-clause-others : goal.returns-clause-others
returns-clause-others g c = λ told.
    let old = g.F.Folder.files c.args.folder.now in
    let mid = g.F.Folder.files c.place.new.folder in
    let new = g.F.Folder.files c.write.new.folder in
    let second = subst (λ q. OnlyTwoChange mid new (data_file q.name q.staged.file) (data_file q.name (q.staged.file + 1))) c.place.ensures.seen (c.write.ensures.files told) in
    own_two c.args.self.now.name c.args.self.now.staged.file old new (omega (arith, c.limit-limit.ensures.sound.staged_file)) (two_join old mid new _ _ (c.place.ensures.files told) second)

pub returns-then-bytes-limit-clause-stands : goal.returns-then-bytes-limit-clause-stands
returns-then-bytes-limit-clause-stands g c = λ told s.
    let files = g.F.Folder.files c.args.folder.now in
    subst (λ q. SaveStands q files) (sym c.unmark.ensures) (stands_after c.args.self.now 0 Fault files s)

pub returns-in_default-clause-metadata : goal.returns-in_default-clause-metadata
returns-in_default-clause-metadata g c = λ told.
    meta_two c.args.self.now.name c.args.self.now.staged.file (g.F.Folder.files c.args.folder.now) (g.F.Folder.files c.place.new.folder) (omega (arith, c.limit-limit.ensures.sound.staged_file))
    (c.place.ensures.files told)

pub returns-clause-metadata : goal.returns-clause-metadata
returns-clause-metadata g c = λ told.
    let old = g.F.Folder.files c.args.folder.now in
    let mid = g.F.Folder.files c.place.new.folder in
    let new = g.F.Folder.files c.write.new.folder in
    let second = subst (λ q. OnlyTwoChange mid new (data_file q.name q.staged.file) (data_file q.name (q.staged.file + 1))) c.place.ensures.seen (c.write.ensures.files told) in
    meta_two c.args.self.now.name c.args.self.now.staged.file old new (omega (arith, c.limit-limit.ensures.sound.staged_file)) (two_join old mid new _ _ (c.place.ensures.files told) second)

pub returns-clause-refused : goal.returns-clause-refused
returns-clause-refused g c = λ told.
    fits_stays c.limit-limit.result (length c.args.bytes.now) (g.F.Folder.files c.args.folder.now) (g.F.Folder.files c.write.new.folder) c.write.result (omega (arith, c.if-bytes-limit.false))
    (subst (λ n. StageTooLong n (length c.args.bytes.now) c.write.result) (ap (λ q. q.options.limit) c.place.ensures.seen ∙ sym c.limit-limit.ensures.limit) c.write.ensures.limit)

pub returns-clause-written : goal.returns-clause-written
returns-clause-written g c = λ told.
    stage_writes c.args.self.now c.place.new.self (g.F.Folder.files c.args.folder.now) (g.F.Folder.files c.place.new.folder) (g.F.Folder.files c.write.new.folder) c.args.bytes.now c.in-Some.place
    c.write.result c.place.ensures.seen c.in-Some.ensures.end (c.in-Some.ensures.base told) (c.write.ensures.written told)

pub returns-then-bytes-limit-clause-seen : goal.returns-then-bytes-limit-clause-seen
returns-then-bytes-limit-clause-seen g c = c.unmark.ensures

pub returns-then-bytes-limit-clause-list : goal.returns-then-bytes-limit-clause-list
returns-then-bytes-limit-clause-list g c = λ told bodies waiting. holds_dropped c.args.self.now c.unmark.new.self (g.F.Folder.files c.args.folder.now) bodies waiting c.unmark.ensures

pub returns-then-bytes-limit-clause-written : goal.returns-then-bytes-limit-clause-written
returns-then-bytes-limit-clause-written g c = λ told. tt

pub returns-then-bytes-limit-clause-refused : goal.returns-then-bytes-limit-clause-refused
returns-then-bytes-limit-clause-refused g c = λ told name. refl

pub returns-then-bytes-limit-clause-metadata : goal.returns-then-bytes-limit-clause-metadata
returns-then-bytes-limit-clause-metadata g c = λ told. refl

pub returns-then-bytes-limit-clause-files : goal.returns-then-bytes-limit-clause-files
returns-then-bytes-limit-clause-files g c = λ told other first second. refl

pub returns-then-bytes-limit-clause-others : goal.returns-then-bytes-limit-clause-others
returns-then-bytes-limit-clause-others g c = λ told file other. refl

pub returns-then-bytes-limit-clause-cause : goal.returns-then-bytes-limit-clause-cause
returns-then-bytes-limit-clause-cause g c = tt

pub returns-then-bytes-limit-clause-exact : goal.returns-then-bytes-limit-clause-exact
returns-then-bytes-limit-clause-exact g c = λ counts. refl

pub returns-in_default-clause-seen : goal.returns-in_default-clause-seen
returns-in_default-clause-seen g c = c.unmark-in_default.ensures ∙ ap (λ q. unmarked q) c.place.ensures.seen

pub returns-in_default-clause-written : goal.returns-in_default-clause-written
returns-in_default-clause-written g c = λ told. tt

pub returns-in_default-clause-refused : goal.returns-in_default-clause-refused
returns-in_default-clause-refused g c = λ told. tt

pub returns-in_default-clause-files : goal.returns-in_default-clause-files
returns-in_default-clause-files g c = c.place.ensures.files

pub returns-in_default-clause-faults : goal.returns-in_default-clause-faults
returns-in_default-clause-faults g c = c.place.ensures.faults

pub returns-clause-seen : goal.returns-clause-seen
returns-clause-seen g c = c.write.ensures.seen ∙ ap (λ q. after_stage q (length c.args.bytes.now) c.write.result) c.place.ensures.seen

pub returns-clause-too_long : goal.returns-clause-too_long
returns-clause-too_long g c = subst (λ q. StageTooLong q.options.limit (length c.args.bytes.now) c.write.result) c.place.ensures.seen c.write.ensures.limit

pub returns-clause-files : goal.returns-clause-files
returns-clause-files g c = λ told.
    let mid = g.F.Folder.files c.place.new.folder in
    let new = g.F.Folder.files c.write.new.folder in
    two_join (g.F.Folder.files c.args.folder.now) mid new _ _ (c.place.ensures.files told)
    (subst (λ q. OnlyTwoChange mid new (data_file q.name q.staged.file) (data_file q.name (q.staged.file + 1))) c.place.ensures.seen (c.write.ensures.files told))

pub returns-clause-faults : goal.returns-clause-faults
returns-clause-faults g c = omega (arith, c.place.ensures.faults, c.write.ensures.faults)

pub returns-clause-cause : goal.returns-clause-cause
returns-clause-cause g c = stage_later (g.F.Folder.folder_faults c.args.folder.now) (g.F.Folder.folder_faults c.place.new.folder) (g.F.Folder.folder_faults c.write.new.folder) c.write.result c.place.ensures.faults c.write.ensures.cause

pub returns-clause-exact : goal.returns-clause-exact
returns-clause-exact g c = λ counts. subst (λ n. StageCounts n (g.F.Folder.folder_faults c.write.new.folder) c.write.result) (c.in-Some.ensures.exact counts) (c.write.ensures.exact counts)
