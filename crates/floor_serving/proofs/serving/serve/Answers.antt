use Rattle.std.proofs.Common.{refl, sym, arith}
use Rattle.std.proofs.lemmas.List.{append-nil}
use Rattle.floor_turns.proofs.Carrying.{acts_none, stays_same}
use Rattle.floor_serving.proofs.serving.serve.Goals as goal

pub returns-in-Err-clause-acts : goal.returns-in-Err-clause-acts
returns-in-Err-clause-acts g c =
    acts_none g.J.Journal.tells_notes g.F.Folder.tells_files c.args.number c.args.call c.args.hall.now c.args.hall.now (g.J.Journal.notes c.args.journal.now) (g.J.Journal.notes c.args.journal.now) (g.F.Folder.files c.args.folder.now) (g.F.Folder.files c.args.folder.now) (g.F.Folder.folder_faults c.args.folder.now) (g.F.Folder.folder_faults c.args.folder.now)
    c.requires.sound (stays_same c.args.hall.now) (omega arith) (λ told. sym (append-nil (g.J.Journal.notes c.args.journal.now))) (λ told s holds. (s, refl, holds)) (record { there = λ m. refl; stopped = refl })
