use Rattle.std.proofs.Common.{subst}
use Rattle.disk_queue.specs.Holding.{OwnChange}
use Rattle.disk_queue.specs.Parts.{OnlySaveChanges}
use Rattle.disk_queue.proofs.Saves.{holds_dropped, stands_dropped, found_saved, unchanged_found}
use Rattle.disk_queue.proofs.queue.Queue.sync.Goals as goal

pub returns-clause-list : goal.returns-clause-list
returns-clause-list g c = λ told bodies waiting h.
    c.save.ensures.list told bodies waiting (holds_dropped c.args.self.now c.unmark.new.self (g.F.Folder.files c.args.folder.now) bodies waiting c.unmark.ensures h)

pub returns-clause-kept : goal.returns-clause-kept
returns-clause-kept g c = λ told bodies waiting h.
    c.save.ensures.kept told bodies waiting (holds_dropped c.args.self.now c.unmark.new.self (g.F.Folder.files c.args.folder.now) bodies waiting c.unmark.ensures h)

pub returns-clause-found : goal.returns-clause-found
returns-clause-found g c = λ told bodies waiting h s.
    found_saved c.save.new.self (g.F.Folder.files c.save.new.folder) bodies c.save.result c.save.ensures.due
    (c.save.ensures.kept told bodies waiting (holds_dropped c.args.self.now c.unmark.new.self (g.F.Folder.files c.args.folder.now) bodies waiting c.unmark.ensures h))

pub returns-clause-stands : goal.returns-clause-stands
returns-clause-stands g c = λ told s. c.save.ensures.stands told (stands_dropped c.args.self.now c.unmark.new.self (g.F.Folder.files c.args.folder.now) c.unmark.ensures s)

pub returns-clause-files : goal.returns-clause-files
returns-clause-files g c = λ told.
    subst (λ q. OnlySaveChanges q (g.F.Folder.files c.args.folder.now) (g.F.Folder.files c.save.new.folder)) c.unmark.ensures (c.save.ensures.files told)

pub returns-clause-others : goal.returns-clause-others
returns-clause-others g c = λ told.
    subst (λ q. OwnChange q.name (g.F.Folder.files c.args.folder.now) (g.F.Folder.files c.save.new.folder)) c.unmark.ensures (c.save.ensures.others told)

pub returns-then-is_unchanged-clause-found : goal.returns-then-is_unchanged-clause-found
returns-then-is_unchanged-clause-found g c = λ told bodies waiting h s.
    let files = g.F.Folder.files c.args.folder.now in
    unchanged_found c.unmark.new.self files bodies waiting c.is_unchanged.ensures.sound (c.is_unchanged.ensures.unchanged.0 c.if-is_unchanged.true)
    (stands_dropped c.args.self.now c.unmark.new.self files c.unmark.ensures s) (holds_dropped c.args.self.now c.unmark.new.self files bodies waiting c.unmark.ensures h)

pub returns-then-is_unchanged-clause-stands : goal.returns-then-is_unchanged-clause-stands
returns-then-is_unchanged-clause-stands g c = λ told s. stands_dropped c.args.self.now c.unmark.new.self (g.F.Folder.files c.args.folder.now) c.unmark.ensures s
