use Rattle.std.proofs.Common.{◌≡◌, length, subst, sym}
use Rattle.queue_image.specs.Records.{IsSize}
use Rattle.disk_queue.specs.Parts.{place_for}
use Rattle.disk_queue.proofs.Kept.{back, back_staged, holds_as, holds_named, record_failed, record_done}
use Rattle.disk_queue.proofs.queue.Queue.write.Goals as goal

pub returns-in-Failed-clause-list : goal.returns-in-Failed-clause-list
returns-in-Failed-clause-list g c = λ told bodies waiting h _.
    let old = g.F.Folder.files c.args.folder.now in
    let new = g.F.Folder.files c.write.new.folder in
    let is = subst (λ x. c.args.place ≡ place_for x (length c.args.bytes.now)) (sym c.self.view_is) c.requires.place in
    holds_named _ c.write.new.self new bodies waiting c.in-Failed.ensures.name
    (holds_as _ c.self.inside.saved c.self.inside.begun new bodies waiting
    (record_failed _ c.args.place old new bodies waiting c.args.bytes.now is
    c.self.invariant.staged_file (c.in-Failed.ensures.bytes told) (c.in-Failed.ensures.others told) (back _ _ old bodies waiting c.self.view_is h)))

pub returns-clause-list : goal.returns-clause-list
returns-clause-list g c = λ told bodies waiting _ h.
    let old = g.F.Folder.files c.args.folder.now in
    let new = g.F.Folder.files c.write.new.folder in
    let is = subst (λ x. c.args.place ≡ place_for x (length c.args.bytes.now)) (sym c.self.view_is) c.requires.place in
    let size = subst (λ x. IsSize x.options.least x.options.limit (length c.args.bytes.now)) (sym c.self.view_is) (c.requires.least, c.requires.limit) in
    holds_named _ c.write.new.self new bodies _ c.in-Done.ensures.name
    (record_done _ c.args.place old new bodies waiting c.args.bytes.now is c.self.invariant.staged_file size
    (c.in-Done.ensures.bytes told) (c.in-Done.ensures.others told) (back_staged _ _ _ old bodies waiting c.self.view_is h))
