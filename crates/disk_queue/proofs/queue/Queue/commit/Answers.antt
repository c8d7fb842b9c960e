use Rattle.std.proofs.Common.{refl, ap, ◌∙◌, subst, ◌≡◌, [], ◌++◌}
use Rattle.queue_image.specs.FileNames.{data_file}
use Rattle.disk_queue.specs.Seen.{after_save, IsEarly}
use Rattle.disk_queue.specs.Holding.{OwnChange}
use Rattle.disk_queue.specs.Parts.{OnlySaveChanges}
use Rattle.disk_queue.proofs.Saves.{holds_joined, stands_joined}
use Rattle.disk_queue.proofs.queue.Queue.commit.Goals as goal

pub returns-then-is_early-clause-list : goal.returns-then-is_early-clause-list
returns-then-is_early-clause-list g c = λ told bodies waiting. holds_joined c.args.self.now c.join.new.self (g.F.Folder.files c.args.folder.now) bodies waiting c.join.ensures

pub returns-clause-list : goal.returns-clause-list
returns-clause-list g c = λ told bodies waiting h.
    c.save.ensures.list told (bodies ++ waiting) [] (holds_joined c.args.self.now c.join.new.self (g.F.Folder.files c.args.folder.now) bodies waiting c.join.ensures h)

pub returns-clause-kept : goal.returns-clause-kept
returns-clause-kept g c = λ told bodies waiting h.
    c.save.ensures.kept told (bodies ++ waiting) [] (holds_joined c.args.self.now c.join.new.self (g.F.Folder.files c.args.folder.now) bodies waiting c.join.ensures h)

pub returns-clause-stands : goal.returns-clause-stands
returns-clause-stands g c = λ told s. c.save.ensures.stands told (stands_joined c.args.self.now c.join.new.self (g.F.Folder.files c.args.folder.now) c.join.ensures s)

pub returns-clause-others : goal.returns-clause-others
returns-clause-others g c = λ told.
    subst (λ q. OwnChange q.name (g.F.Folder.files c.args.folder.now) (g.F.Folder.files c.save.new.folder)) c.join.ensures (c.save.ensures.others told)

pub returns-clause-written : goal.returns-clause-written
returns-clause-written g c = λ told.
    let old = g.F.Folder.files c.args.folder.now in
    let new = g.F.Folder.files c.save.new.folder in
    subst (λ q. new (data_file q.name q.positions.write_file) ≡ old (data_file q.name q.positions.write_file)) c.join.ensures (c.save.ensures.written told)

pub returns-then-is_early-clause-seen : goal.returns-then-is_early-clause-seen
returns-then-is_early-clause-seen g c = c.join.ensures

pub returns-then-is_early-clause-due : goal.returns-then-is_early-clause-due
returns-then-is_early-clause-due g c = subst IsEarly c.join.ensures (c.is_early.ensures.0 c.if-is_early.true)

pub returns-then-is_early-clause-kept : goal.returns-then-is_early-clause-kept
returns-then-is_early-clause-kept g c = λ told bodies waiting h. tt

pub returns-then-is_early-clause-metadata : goal.returns-then-is_early-clause-metadata
returns-then-is_early-clause-metadata g c = λ told file. refl

pub returns-then-is_early-clause-files : goal.returns-then-is_early-clause-files
returns-then-is_early-clause-files g c = λ told file meta temp below. refl

pub returns-then-is_early-clause-others : goal.returns-then-is_early-clause-others
returns-then-is_early-clause-others g c = λ told file other. refl

pub returns-then-is_early-clause-cause : goal.returns-then-is_early-clause-cause
returns-then-is_early-clause-cause g c = tt

pub returns-then-is_early-clause-exact : goal.returns-then-is_early-clause-exact
returns-then-is_early-clause-exact g c = λ counts. refl

pub returns-then-is_early-clause-written : goal.returns-then-is_early-clause-written
returns-then-is_early-clause-written g c = λ told. refl

pub returns-then-is_early-clause-stands : goal.returns-then-is_early-clause-stands
returns-then-is_early-clause-stands g c = λ told. stands_joined c.args.self.now c.join.new.self (g.F.Folder.files c.args.folder.now) c.join.ensures

pub returns-clause-seen : goal.returns-clause-seen
returns-clause-seen g c = c.save.ensures.seen ∙ ap (λ q. after_save q c.save.result) c.join.ensures

pub returns-clause-metadata : goal.returns-clause-metadata
returns-clause-metadata g c = c.save.ensures.metadata

pub returns-clause-faults : goal.returns-clause-faults
returns-clause-faults g c = c.save.ensures.faults

pub returns-clause-cause : goal.returns-clause-cause
returns-clause-cause g c = c.save.ensures.cause

pub returns-clause-exact : goal.returns-clause-exact
returns-clause-exact g c = c.save.ensures.exact

pub returns-clause-files : goal.returns-clause-files
returns-clause-files g c = λ told.
    subst (λ q. OnlySaveChanges q (g.F.Folder.files c.args.folder.now) (g.F.Folder.files c.save.new.folder)) c.join.ensures (c.save.ensures.files told)
