use Rattle.std.proofs.Common.{◌∙◌, arith}
use Rattle.floor_moves.specs.Moves.{sight}
use Rattle.floor_moves.proofs.Keeping.{keeps_on}
use Rattle.floor_turns.proofs.Owing.{pays_none, pays_one, pays_clear, pays_most, pays_wants, pays_stuck}
use Rattle.floor_turns.proofs.paying.pay.Goals as goal

pub loop-init : goal.loop-init
loop-init g c = (pays_none g.J.Journal.tells_notes g.F.Folder.tells_files (sight c.args.hall.now (g.J.Journal.notes c.args.journal.now) (g.F.Folder.files c.args.folder.now) (g.F.Folder.folder_faults c.args.folder.now)) c.requires.sound, c.requires.calm)

pub next_move-requires-clause-sound : goal.next_move-requires-clause-sound
next_move-requires-clause-sound g c = c.loop.invariant.0.sound

pub next_move-requires-clause-running : goal.next_move-requires-clause-running
next_move-requires-clause-running g c = c.loop.invariant.0.keeps.stopped ∙ c.requires.running

pub next_move-requires-clause-calm : goal.next_move-requires-clause-calm
next_move-requires-clause-calm g c = c.loop.invariant.1

pub loop-preserved : goal.loop-preserved
loop-preserved g c = (
  pays_one g.J.Journal.tells_notes g.F.Folder.tells_files c.loop.counter c.args.most (sight c.args.hall.now (g.J.Journal.notes c.args.journal.now) (g.F.Folder.files c.args.folder.now) (g.F.Folder.folder_faults c.args.folder.now)) (sight c.loop.hall (g.J.Journal.notes c.loop.journal) (g.F.Folder.files c.loop.folder) (g.F.Folder.folder_faults c.loop.folder)) (sight c.next_move.new.hall (g.J.Journal.notes c.next_move.new.journal) (g.F.Folder.files c.next_move.new.folder) (g.F.Folder.folder_faults c.next_move.new.folder)) c.loop.invariant.0 c.in-Done.ensures.moves c.next_move.ensures.sound c.next_move.ensures.keeps c.next_move.ensures.files,
  c.next_move.ensures.calm,
)

pub returns-in-Stuck-clause-pays : goal.returns-in-Stuck-clause-pays
returns-in-Stuck-clause-pays g c = pays_stuck g.J.Journal.tells_notes g.F.Folder.tells_files c.loop.counter c.args.most (sight c.args.hall.now (g.J.Journal.notes c.args.journal.now) (g.F.Folder.files c.args.folder.now) (g.F.Folder.folder_faults c.args.folder.now)) (sight c.loop.hall (g.J.Journal.notes c.loop.journal) (g.F.Folder.files c.loop.folder) (g.F.Folder.folder_faults c.loop.folder)) (sight c.next_move.new.hall (g.J.Journal.notes c.next_move.new.journal) (g.F.Folder.files c.next_move.new.folder) (g.F.Folder.folder_faults c.next_move.new.folder)) c.loop.invariant.0 c.loop-test.true c.in-Stuck.ensures.moves

pub returns-in-Stuck-clause-keeps : goal.returns-in-Stuck-clause-keeps
returns-in-Stuck-clause-keeps g c = keeps_on c.args.hall.now c.loop.hall c.next_move.new.hall c.loop.invariant.0.keeps c.next_move.ensures.keeps

pub returns-in-Stuck-clause-files : goal.returns-in-Stuck-clause-files
returns-in-Stuck-clause-files g c = λ told file other. c.next_move.ensures.files told file other ∙ c.loop.invariant.0.files told file other

pub returns-in-Memory-clause-pays : goal.returns-in-Memory-clause-pays
returns-in-Memory-clause-pays g c = pays_wants g.J.Journal.tells_notes g.F.Folder.tells_files c.loop.counter c.args.most (sight c.args.hall.now (g.J.Journal.notes c.args.journal.now) (g.F.Folder.files c.args.folder.now) (g.F.Folder.folder_faults c.args.folder.now)) (sight c.loop.hall (g.J.Journal.notes c.loop.journal) (g.F.Folder.files c.loop.folder) (g.F.Folder.folder_faults c.loop.folder)) (sight c.next_move.new.hall (g.J.Journal.notes c.next_move.new.journal) (g.F.Folder.files c.next_move.new.folder) (g.F.Folder.folder_faults c.next_move.new.folder)) c.loop.invariant.0 (let less = c.loop-test.true in omega (arith, less)) c.in-Memory.ensures.moves

pub returns-in-Memory-clause-keeps : goal.returns-in-Memory-clause-keeps
returns-in-Memory-clause-keeps g c = keeps_on c.args.hall.now c.loop.hall c.next_move.new.hall c.loop.invariant.0.keeps c.next_move.ensures.keeps

pub returns-in-Memory-clause-files : goal.returns-in-Memory-clause-files
returns-in-Memory-clause-files g c = λ told file other. c.next_move.ensures.files told file other ∙ c.loop.invariant.0.files told file other

pub returns-in-Nothing-clause-pays : goal.returns-in-Nothing-clause-pays
returns-in-Nothing-clause-pays g c = pays_clear g.J.Journal.tells_notes g.F.Folder.tells_files c.loop.counter c.args.most (sight c.args.hall.now (g.J.Journal.notes c.args.journal.now) (g.F.Folder.files c.args.folder.now) (g.F.Folder.folder_faults c.args.folder.now)) (sight c.loop.hall (g.J.Journal.notes c.loop.journal) (g.F.Folder.files c.loop.folder) (g.F.Folder.folder_faults c.loop.folder)) (sight c.next_move.new.hall (g.J.Journal.notes c.next_move.new.journal) (g.F.Folder.files c.next_move.new.folder) (g.F.Folder.folder_faults c.next_move.new.folder)) c.loop.invariant.0 (let less = c.loop-test.true in omega (arith, less)) c.in-Nothing.ensures.moves

pub returns-in-Nothing-clause-keeps : goal.returns-in-Nothing-clause-keeps
returns-in-Nothing-clause-keeps g c = keeps_on c.args.hall.now c.loop.hall c.next_move.new.hall c.loop.invariant.0.keeps c.next_move.ensures.keeps

pub returns-in-Nothing-clause-files : goal.returns-in-Nothing-clause-files
returns-in-Nothing-clause-files g c = λ told file other. c.next_move.ensures.files told file other ∙ c.loop.invariant.0.files told file other

pub returns-clause-pays : goal.returns-clause-pays
returns-clause-pays g c = pays_most g.J.Journal.tells_notes g.F.Folder.tells_files c.loop.counter c.args.most (sight c.args.hall.now (g.J.Journal.notes c.args.journal.now) (g.F.Folder.files c.args.folder.now) (g.F.Folder.folder_faults c.args.folder.now)) (sight c.loop.hall (g.J.Journal.notes c.loop.journal) (g.F.Folder.files c.loop.folder) (g.F.Folder.folder_faults c.loop.folder)) c.loop.invariant.0 (omega arith)
