use Rattle.std.proofs.Common.{◌≡◌, Some}
use Rattle.std.specs.Prelude.{IsTrue}
use Rattle.floor_turns.proofs.Carrying.{noted_act}
use Rattle.floor_turns.specs.Drawing.{entry_of}
use Rattle.floor_turns.proofs.Sent.{on_ok}
use Rattle.floor_turns.proofs.noting.note_idle.Goals as goal

pub returns-clause-noted : goal.returns-clause-noted
returns-clause-noted g c =
    noted_act g.J.Journal.tells_notes (g.J.Journal.notes c.args.journal.now) (g.J.Journal.notes c.lend-act.new.journal) (g.J.Journal.notes c.note.new.self) (g.J.Journal.kept c.lend-act.new.journal) (entry_of c.args.number c.args.at c.args.act) c.args.end c.requires.end
    (on_ok c.lend-act.result.1 _ (IsTrue g.J.Journal.tells_notes → g.J.Journal.kept c.lend-act.new.journal ≡ Some (entry_of c.args.number c.args.at c.args.act)) c.in-Ok.is c.lend-act.ensures.kept) c.lend-act.ensures.notes c.note.ensures.notes
