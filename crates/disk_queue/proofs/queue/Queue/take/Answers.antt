use Rattle.std.proofs.Common.{ap, ◌∙◌, arith, subst}
use Rattle.queue_image.specs.Between.{content}
use Rattle.disk_queue.specs.Answers.{SyncCounts}
use Rattle.disk_queue.proofs.Advances.{saves_from, take_changes, take_own, take_moves, take_reads}
use Rattle.disk_queue.proofs.Joined.{sync_later, taken_seen}
use Rattle.disk_queue.proofs.queue.Queue.take.Goals as goal

pub returns-clause-list : goal.returns-clause-list
returns-clause-list g c = λ told bodies waiting h. c.advance.ensures.list told bodies waiting (c.in-Got.ensures.list told bodies waiting h)

pub returns-clause-kept : goal.returns-clause-kept
returns-clause-kept g c = λ told bodies waiting h. c.advance.ensures.kept told bodies waiting (c.in-Got.ensures.list told bodies waiting h)

pub returns-clause-metadata : goal.returns-clause-metadata
returns-clause-metadata g c = λ told.
    saves_from c.advance.new.self (g.F.Folder.files c.args.folder.now) (g.F.Folder.files c.peek.new.folder) (g.F.Folder.files c.advance.new.folder) c.advance.result (c.in-Got.ensures.same told) (c.advance.ensures.metadata told)

pub returns-clause-files : goal.returns-clause-files
returns-clause-files g c = λ told.
    take_changes c.args.self.now c.peek.new.self c.advance.new.self c.in-Got.size c.advance.result (g.F.Folder.files c.args.folder.now) (g.F.Folder.files c.peek.new.folder) (g.F.Folder.files c.advance.new.folder)
    c.in-Got.ensures.seen c.advance.ensures.seen (c.in-Got.ensures.same told) (c.advance.ensures.files told)

pub returns-clause-others : goal.returns-clause-others
returns-clause-others g c = λ told.
    take_own c.args.self.now c.peek.new.self (g.F.Folder.files c.args.folder.now) (g.F.Folder.files c.peek.new.folder) (g.F.Folder.files c.advance.new.folder) c.in-Got.ensures.name (c.in-Got.ensures.same told)
    (c.advance.ensures.others told)

pub returns-clause-moves : goal.returns-clause-moves
returns-clause-moves g c = λ told.
    take_moves (content (g.F.Folder.files c.args.folder.now) c.args.self.now.name) c.args.self.now.positions c.args.self.now c.peek.new.self c.advance.new.self c.in-Got.size c.advance.result c.in-Got.ensures.seen
    c.advance.ensures.seen (c.in-Got.ensures.moves told)

pub returns-clause-reads : goal.returns-clause-reads
returns-clause-reads g c = λ told.
    take_reads c.args.self.now.options.least c.args.self.now.options.limit (content (g.F.Folder.files c.args.folder.now) c.args.self.now.name) c.peek.new.into c.args.self.now c.peek.new.self c.advance.new.self c.in-Got.size
    c.advance.result c.in-Got.ensures.seen c.advance.ensures.seen (c.in-Got.ensures.reads told)

pub returns-clause-exact : goal.returns-clause-exact
returns-clause-exact g c = λ counts.
    subst (λ n. SyncCounts n (g.F.Folder.folder_faults c.advance.new.folder) c.advance.result) (c.in-Got.ensures.exact counts) (c.advance.ensures.exact counts)

pub returns-in-Empty-clause-seen : goal.returns-in-Empty-clause-seen
returns-in-Empty-clause-seen g c = c.in-Empty.ensures.seen

pub returns-in-Empty-clause-name : goal.returns-in-Empty-clause-name
returns-in-Empty-clause-name g c = c.in-Empty.ensures.name

pub returns-in-Empty-clause-options : goal.returns-in-Empty-clause-options
returns-in-Empty-clause-options g c = c.in-Empty.ensures.options

pub returns-in-Empty-clause-staged : goal.returns-in-Empty-clause-staged
returns-in-Empty-clause-staged g c = c.in-Empty.ensures.staged

pub returns-in-Empty-clause-moves : goal.returns-in-Empty-clause-moves
returns-in-Empty-clause-moves g c = c.in-Empty.ensures.moves

pub returns-in-Empty-clause-reads : goal.returns-in-Empty-clause-reads
returns-in-Empty-clause-reads g c = c.in-Empty.ensures.reads

pub returns-in-Empty-clause-first : goal.returns-in-Empty-clause-first
returns-in-Empty-clause-first g c = c.in-Empty.ensures.first

pub returns-in-Empty-clause-list : goal.returns-in-Empty-clause-list
returns-in-Empty-clause-list g c = c.in-Empty.ensures.list

pub returns-in-Empty-clause-stands : goal.returns-in-Empty-clause-stands
returns-in-Empty-clause-stands g c = c.in-Empty.ensures.stands

pub returns-in-Empty-clause-faults : goal.returns-in-Empty-clause-faults
returns-in-Empty-clause-faults g c = c.in-Empty.ensures.faults

pub returns-in-Empty-clause-cause : goal.returns-in-Empty-clause-cause
returns-in-Empty-clause-cause g c = c.in-Empty.ensures.cause

pub returns-in-Empty-clause-exact : goal.returns-in-Empty-clause-exact
returns-in-Empty-clause-exact g c = c.in-Empty.ensures.exact

pub returns-in-Empty-clause-size : goal.returns-in-Empty-clause-size
returns-in-Empty-clause-size g c = tt

pub returns-in-Empty-clause-kept : goal.returns-in-Empty-clause-kept
returns-in-Empty-clause-kept g c = λ told bodies waiting h. tt

pub returns-in-Empty-clause-metadata : goal.returns-in-Empty-clause-metadata
returns-in-Empty-clause-metadata g c = c.in-Empty.ensures.same

pub returns-in-Empty-clause-files : goal.returns-in-Empty-clause-files
returns-in-Empty-clause-files g c = λ told file meta temp below. c.in-Empty.ensures.same told file

pub returns-in-Empty-clause-others : goal.returns-in-Empty-clause-others
returns-in-Empty-clause-others g c = λ told file other. c.in-Empty.ensures.same told file

pub returns-in-Fault-clause-seen : goal.returns-in-Fault-clause-seen
returns-in-Fault-clause-seen g c = c.in-Fault.ensures.seen

pub returns-in-Fault-clause-name : goal.returns-in-Fault-clause-name
returns-in-Fault-clause-name g c = c.in-Fault.ensures.name

pub returns-in-Fault-clause-options : goal.returns-in-Fault-clause-options
returns-in-Fault-clause-options g c = c.in-Fault.ensures.options

pub returns-in-Fault-clause-staged : goal.returns-in-Fault-clause-staged
returns-in-Fault-clause-staged g c = c.in-Fault.ensures.staged

pub returns-in-Fault-clause-moves : goal.returns-in-Fault-clause-moves
returns-in-Fault-clause-moves g c = c.in-Fault.ensures.moves

pub returns-in-Fault-clause-reads : goal.returns-in-Fault-clause-reads
returns-in-Fault-clause-reads g c = c.in-Fault.ensures.reads

pub returns-in-Fault-clause-first : goal.returns-in-Fault-clause-first
returns-in-Fault-clause-first g c = c.in-Fault.ensures.first

pub returns-in-Fault-clause-list : goal.returns-in-Fault-clause-list
returns-in-Fault-clause-list g c = c.in-Fault.ensures.list

pub returns-in-Fault-clause-stands : goal.returns-in-Fault-clause-stands
returns-in-Fault-clause-stands g c = c.in-Fault.ensures.stands

pub returns-in-Fault-clause-faults : goal.returns-in-Fault-clause-faults
returns-in-Fault-clause-faults g c = c.in-Fault.ensures.faults

pub returns-in-Fault-clause-cause : goal.returns-in-Fault-clause-cause
returns-in-Fault-clause-cause g c = c.in-Fault.ensures.cause

pub returns-in-Fault-clause-exact : goal.returns-in-Fault-clause-exact
returns-in-Fault-clause-exact g c = c.in-Fault.ensures.exact

pub returns-in-Fault-clause-size : goal.returns-in-Fault-clause-size
returns-in-Fault-clause-size g c = tt

pub returns-in-Fault-clause-kept : goal.returns-in-Fault-clause-kept
returns-in-Fault-clause-kept g c = λ told bodies waiting h. tt

pub returns-in-Fault-clause-metadata : goal.returns-in-Fault-clause-metadata
returns-in-Fault-clause-metadata g c = c.in-Fault.ensures.same

pub returns-in-Fault-clause-files : goal.returns-in-Fault-clause-files
returns-in-Fault-clause-files g c = λ told file meta temp below. c.in-Fault.ensures.same told file

pub returns-in-Fault-clause-others : goal.returns-in-Fault-clause-others
returns-in-Fault-clause-others g c = λ told file other. c.in-Fault.ensures.same told file

pub returns-in-Damaged-clause-seen : goal.returns-in-Damaged-clause-seen
returns-in-Damaged-clause-seen g c = c.in-Damaged.ensures.seen

pub returns-in-Damaged-clause-name : goal.returns-in-Damaged-clause-name
returns-in-Damaged-clause-name g c = c.in-Damaged.ensures.name

pub returns-in-Damaged-clause-options : goal.returns-in-Damaged-clause-options
returns-in-Damaged-clause-options g c = c.in-Damaged.ensures.options

pub returns-in-Damaged-clause-staged : goal.returns-in-Damaged-clause-staged
returns-in-Damaged-clause-staged g c = c.in-Damaged.ensures.staged

pub returns-in-Damaged-clause-moves : goal.returns-in-Damaged-clause-moves
returns-in-Damaged-clause-moves g c = c.in-Damaged.ensures.moves

pub returns-in-Damaged-clause-reads : goal.returns-in-Damaged-clause-reads
returns-in-Damaged-clause-reads g c = c.in-Damaged.ensures.reads

pub returns-in-Damaged-clause-first : goal.returns-in-Damaged-clause-first
returns-in-Damaged-clause-first g c = c.in-Damaged.ensures.first

pub returns-in-Damaged-clause-list : goal.returns-in-Damaged-clause-list
returns-in-Damaged-clause-list g c = c.in-Damaged.ensures.list

pub returns-in-Damaged-clause-stands : goal.returns-in-Damaged-clause-stands
returns-in-Damaged-clause-stands g c = c.in-Damaged.ensures.stands

pub returns-in-Damaged-clause-faults : goal.returns-in-Damaged-clause-faults
returns-in-Damaged-clause-faults g c = c.in-Damaged.ensures.faults

pub returns-in-Damaged-clause-cause : goal.returns-in-Damaged-clause-cause
returns-in-Damaged-clause-cause g c = c.in-Damaged.ensures.cause

pub returns-in-Damaged-clause-exact : goal.returns-in-Damaged-clause-exact
returns-in-Damaged-clause-exact g c = c.in-Damaged.ensures.exact

pub returns-in-Damaged-clause-size : goal.returns-in-Damaged-clause-size
returns-in-Damaged-clause-size g c = tt

pub returns-in-Damaged-clause-kept : goal.returns-in-Damaged-clause-kept
returns-in-Damaged-clause-kept g c = λ told bodies waiting h. tt

pub returns-in-Damaged-clause-metadata : goal.returns-in-Damaged-clause-metadata
returns-in-Damaged-clause-metadata g c = c.in-Damaged.ensures.same

pub returns-in-Damaged-clause-files : goal.returns-in-Damaged-clause-files
returns-in-Damaged-clause-files g c = λ told file meta temp below. c.in-Damaged.ensures.same told file

pub returns-in-Damaged-clause-others : goal.returns-in-Damaged-clause-others
returns-in-Damaged-clause-others g c = λ told file other. c.in-Damaged.ensures.same told file

pub returns-clause-seen : goal.returns-clause-seen
returns-clause-seen g c = taken_seen c.args.self.now c.peek.new.self c.advance.new.self c.in-Got.size c.advance.result c.in-Got.ensures.seen c.advance.ensures.seen c.advance.ensures.due

pub returns-clause-name : goal.returns-clause-name
returns-clause-name g c = ap (λ q. q.name) c.advance.ensures.seen ∙ c.in-Got.ensures.name

pub returns-clause-options : goal.returns-clause-options
returns-clause-options g c = ap (λ q. q.options) c.advance.ensures.seen ∙ c.in-Got.ensures.options

pub returns-clause-staged : goal.returns-clause-staged
returns-clause-staged g c = ap (λ q. q.staged) c.advance.ensures.seen ∙ c.in-Got.ensures.staged

pub returns-clause-size : goal.returns-clause-size
returns-clause-size g c = c.in-Got.ensures.size

pub returns-clause-first : goal.returns-clause-first
returns-clause-first g c = c.in-Got.ensures.first

pub returns-clause-stands : goal.returns-clause-stands
returns-clause-stands g c = λ told s. c.advance.ensures.stands told (c.in-Got.ensures.stands told s)

pub returns-clause-faults : goal.returns-clause-faults
returns-clause-faults g c = omega (arith, c.in-Got.ensures.faults, c.advance.ensures.faults)

pub returns-clause-cause : goal.returns-clause-cause
returns-clause-cause g c = sync_later (g.F.Folder.folder_faults c.args.folder.now) (g.F.Folder.folder_faults c.peek.new.folder) (g.F.Folder.folder_faults c.advance.new.folder) c.advance.result c.in-Got.ensures.faults c.advance.ensures.cause
