use Rattle.disk_queue.proofs.Peeked.{peek_seen, peek_keeps, stands_read, gives, peek_holds, peek_kept, stood_turns, stood_reads, found_limit, found_size, same_join}
use Rattle.disk_queue.proofs.Turning.{between_turned}
use Rattle.disk_queue.proofs.queue.Queue.peek.Goals as goal

pub returns-clause-seen : goal.returns-clause-seen
returns-clause-seen g c = peek_seen c.args.self.now c.unmark.new.self c.find-head.new.self c.answer.new.self c.answer.result c.unmark.ensures c.find-head.ensures.seen c.answer.ensures.seen

pub returns-clause-name : goal.returns-clause-name
returns-clause-name g c = (peek_keeps c.args.self.now c.answer.new.self c.answer.result (returns-clause-seen g c)).name

pub returns-clause-options : goal.returns-clause-options
returns-clause-options g c = (peek_keeps c.args.self.now c.answer.new.self c.answer.result (returns-clause-seen g c)).options

pub returns-clause-staged : goal.returns-clause-staged
returns-clause-staged g c = (peek_keeps c.args.self.now c.answer.new.self c.answer.result (returns-clause-seen g c)).staged

pub returns-clause-size : goal.returns-clause-size
returns-clause-size g c = found_size c.args.self.now c.unmark.new.self c.find-head.new.self c.answer.result c.unmark.ensures c.find-head.ensures.seen c.answer.ensures.size

pub returns-clause-moves : goal.returns-clause-moves
returns-clause-moves g c = λ told.
    stood_turns c.args.self.now c.unmark.new.self c.find-head.new.self c.answer.new.self (g.F.Folder.files c.args.folder.now) c.answer.result c.unmark.ensures c.answer.ensures.seen (c.find-head.ensures.moves told)

pub returns-clause-reads : goal.returns-clause-reads
returns-clause-reads g c = λ told.
    stood_reads c.args.self.now c.unmark.new.self c.find-head.new.self c.answer.new.self (g.F.Folder.files c.args.folder.now) (g.F.Folder.files c.find-head.new.folder) c.find-head.result c.answer.new.into c.answer.result
    c.unmark.ensures c.find-head.ensures.seen c.answer.ensures.seen (c.find-head.ensures.same told) (c.find-head.ensures.finds told) (c.answer.ensures.reads told)

pub returns-clause-first : goal.returns-clause-first
returns-clause-first g c = λ told bodies waiting h.
    let q = c.args.self.now in
    let files = g.F.Folder.files c.args.folder.now in
    gives q.options.least q.options.limit files q.name _ bodies c.answer.new.into c.answer.result (found_limit q c.unmark.new.self c.find-head.new.self c.unmark.ensures c.find-head.ensures.seen c.find-head.ensures.sound)
    (between_turned q.options.least q.options.limit files q.name q.positions _ bodies (returns-clause-moves g c told) h.list) (returns-clause-reads g c told)

pub returns-clause-list : goal.returns-clause-list
returns-clause-list g c = λ told bodies waiting h.
    let q = c.args.self.now in
    let old = g.F.Folder.files c.args.folder.now in
    peek_kept q c.answer.new.self old (g.F.Folder.files c.answer.new.folder) bodies waiting (same_join old (g.F.Folder.files c.find-head.new.folder) (g.F.Folder.files c.answer.new.folder) (c.find-head.ensures.same told) (c.answer.ensures.same told))
    (peek_holds q c.answer.new.self old bodies waiting c.answer.new.into c.answer.result (found_limit q c.unmark.new.self c.find-head.new.self c.unmark.ensures c.find-head.ensures.seen c.find-head.ensures.sound)
    (returns-clause-seen g c) (returns-clause-moves g c told) (returns-clause-reads g c told) h)

pub returns-clause-stands : goal.returns-clause-stands
returns-clause-stands g c = λ told.
    let old = g.F.Folder.files c.args.folder.now in
    let new = g.F.Folder.files c.answer.new.folder in
    stands_read c.args.self.now c.answer.new.self old new (peek_keeps c.args.self.now c.answer.new.self c.answer.result (returns-clause-seen g c))
    (same_join old (g.F.Folder.files c.find-head.new.folder) new (c.find-head.ensures.same told) (c.answer.ensures.same told))

pub returns-clause-same : goal.returns-clause-same
returns-clause-same g c = λ told. same_join (g.F.Folder.files c.args.folder.now) (g.F.Folder.files c.find-head.new.folder) (g.F.Folder.files c.answer.new.folder) (c.find-head.ensures.same told) (c.answer.ensures.same told)

pub returns-clause-cause : goal.returns-clause-cause
returns-clause-cause g c = c.answer.ensures.cause (g.F.Folder.folder_faults c.args.folder.now) c.find-head.ensures.faults c.find-head.ensures.cause

pub returns-clause-exact : goal.returns-clause-exact
returns-clause-exact g c = λ counts. c.answer.ensures.exact counts (g.F.Folder.folder_faults c.args.folder.now) (c.find-head.ensures.exact counts)
