use Rattle.floor_turns.specs.Moves.{sight}
use Rattle.floor_turns.proofs.Keeping.{keeps_same}
use Rattle.floor_turns.proofs.Whole.{pays_running, pays_stopped}
use Rattle.floor_serving.proofs.serving.pay_first.Goals as goal

pub returns-clause-pays : goal.returns-clause-pays
returns-clause-pays g c =
    pays_running g.J.Journal.tells_notes g.F.Folder.tells_files c.args.stopping c.most_for.result (sight c.args.hall.now (g.J.Journal.notes c.args.journal.now) (g.F.Folder.files c.args.folder.now) (g.F.Folder.folder_faults c.args.folder.now)) (sight c.pay.new.hall (g.J.Journal.notes c.pay.new.journal) (g.F.Folder.files c.pay.new.folder) (g.F.Folder.folder_faults c.pay.new.folder)) c.pay.result
    c.most_for.ensures c.pay.ensures.sound c.pay.ensures.keeps c.pay.ensures.pays

pub returns-then-hall-clause-pays : goal.returns-then-hall-clause-pays
returns-then-hall-clause-pays g c = pays_stopped g.J.Journal.tells_notes g.F.Folder.tells_files c.args.stopping (sight c.args.hall.now (g.J.Journal.notes c.args.journal.now) (g.F.Folder.files c.args.folder.now) (g.F.Folder.folder_faults c.args.folder.now)) c.requires.once c.if-hall.true

pub returns-then-hall-clause-keeps : goal.returns-then-hall-clause-keeps
returns-then-hall-clause-keeps g c = keeps_same c.args.hall.now
