use Rattle.std.proofs.Common.{◌∙◌, Some, ap, refl}
use Rattle.broker_history.specs.declared.entry.Act.{Act}
use Rattle.floor_moves.specs.Moves.{entry_at}
use Rattle.floor_moves.proofs.Keeping.{keeps_same}
use Rattle.floor_moves.proofs.PuttingBack.{due_done, due_stuck}
use Rattle.floor_moves.proofs.Stepping.{rests_same}
use Rattle.floor_moves.proofs.moving.move_due.Goals as goal

pub returns-in_default-clause-keeps : goal.returns-in_default-clause-keeps
returns-in_default-clause-keeps g c = keeps_same c.args.hall.now

pub returns-then-put_due-clause-moves : goal.returns-then-put_due-clause-moves
returns-then-put_due-clause-moves g c = record {
  due = c.due_at-due.result;
  first = c.due_at-due.ensures;
  moves =
      due_done g.J.Journal.tells_notes g.F.Folder.tells_files c.args.hall.now c.put_due.new.hall (g.F.Folder.files c.args.folder.now) (g.F.Folder.files c.put_due.new.folder) (g.F.Folder.folder_faults c.args.folder.now) (g.F.Folder.folder_faults c.put_due.new.folder)
      (g.J.Journal.notes c.args.journal.now) (g.J.Journal.notes c.announce.new.journal) (g.J.Journal.notes c.note.new.self) (g.J.Journal.kept c.announce.new.journal) c.due_at-due.result c.requires.sound c.requires.running c.put_due.ensures.keeps c.put_due.ensures.faults
      (λ told. c.in-Ok.ensures.kept told ∙ ap (λ (a : Act). Some (entry_at c.args.hall.now.moment a)) c.act_of.ensures, c.announce.ensures.notes, c.note.ensures.notes)
      (c.if-put_due.ensures.puts c.due_at-due.result c.due_at-due.ensures);
}

pub returns-clause-moves : goal.returns-clause-moves
returns-clause-moves g c = record {
  due = c.due_at-due.result;
  first = c.due_at-due.ensures;
  moves =
      due_stuck g.J.Journal.tells_notes g.F.Folder.tells_files c.args.hall.now c.put_due.new.hall (g.F.Folder.files c.args.folder.now) (g.F.Folder.files c.put_due.new.folder) (g.F.Folder.folder_faults c.args.folder.now) (g.F.Folder.folder_faults c.put_due.new.folder)
      (g.J.Journal.notes c.args.journal.now) (g.J.Journal.notes c.announce.new.journal) (g.J.Journal.notes c.note-2.new.self) (g.J.Journal.kept c.announce.new.journal) c.due_at-due.result c.requires.sound c.requires.running c.put_due.ensures.keeps c.put_due.ensures.faults
      (λ told. c.in-Ok.ensures.kept told ∙ ap (λ (a : Act). Some (entry_at c.args.hall.now.moment a)) c.act_of.ensures, c.announce.ensures.notes, c.note-2.ensures.notes)
      (c.if-put_due.ensures.puts c.due_at-due.result c.due_at-due.ensures) c.if-put_due.ensures.cause;
}

pub due_at-due-requires : goal.due_at-due-requires
due_at-due-requires g c = c.requires.due

pub announce-requires : goal.announce-requires
announce-requires g c = c.requires.calm

pub returns-in_default-clause-moves : goal.returns-in_default-clause-moves
returns-in_default-clause-moves g c = record {
  due = c.due_at-due.result;
  first = c.due_at-due.ensures;
  moves =
      rests_same g.J.Journal.tells_notes g.F.Folder.tells_files c.args.hall.now (g.J.Journal.notes c.args.journal.now) (g.J.Journal.notes c.announce.new.journal) (g.F.Folder.files c.args.folder.now) (g.F.Folder.folder_faults c.args.folder.now) c.announce.ensures.notes;
}

pub returns-in_default-clause-sound : goal.returns-in_default-clause-sound
returns-in_default-clause-sound g c = c.requires.sound

pub returns-in_default-clause-files : goal.returns-in_default-clause-files
returns-in_default-clause-files g c = λ told file other. refl

pub put_due-requires-clause-sound : goal.put_due-requires-clause-sound
put_due-requires-clause-sound g c = c.requires.sound

pub put_due-requires-clause-due : goal.put_due-requires-clause-due
put_due-requires-clause-due g c = c.requires.due

pub put_due-requires-clause-scratch : goal.put_due-requires-clause-scratch
put_due-requires-clause-scratch g c = c.requires.scratch

pub note-requires : goal.note-requires
note-requires g c = c.in-Ok.ensures.aside

pub returns-then-put_due-clause-sound : goal.returns-then-put_due-clause-sound
returns-then-put_due-clause-sound g c = c.put_due.ensures.sound

pub returns-then-put_due-clause-calm : goal.returns-then-put_due-clause-calm
returns-then-put_due-clause-calm g c = c.note.ensures.aside

pub returns-then-put_due-clause-keeps : goal.returns-then-put_due-clause-keeps
returns-then-put_due-clause-keeps g c = c.put_due.ensures.keeps

pub returns-then-put_due-clause-files : goal.returns-then-put_due-clause-files
returns-then-put_due-clause-files g c = c.put_due.ensures.files

pub note-requires-2 : goal.note-requires-2
note-requires-2 g c = c.in-Ok.ensures.aside

pub returns-clause-sound : goal.returns-clause-sound
returns-clause-sound g c = c.put_due.ensures.sound

pub returns-clause-calm : goal.returns-clause-calm
returns-clause-calm g c = c.note-2.ensures.aside

pub returns-clause-keeps : goal.returns-clause-keeps
returns-clause-keeps g c = c.put_due.ensures.keeps

pub returns-clause-files : goal.returns-clause-files
returns-clause-files g c = c.put_due.ensures.files

pub returns-clause-fault : goal.returns-clause-fault
returns-clause-fault g c = λ e. c.if-put_due.ensures.cause
