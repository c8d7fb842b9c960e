use Rattle.std.proofs.Common.{◌∙◌}
use Rattle.floor_moves.specs.Moves.{sight}
use Rattle.floor_turns.proofs.Rounds.{held_acts, held_ends, held_none, held_one}
use Rattle.floor_turns.proofs.Serving.{served_at, served_kept}
use Rattle.floor_turns.proofs.drawing.draw.Goals as goal

pub loop-init : goal.loop-init
loop-init g c = (held_none g.J.Journal.tells_notes g.F.Folder.tells_files (sight c.args.hall.now (g.J.Journal.notes c.args.journal.now) (g.F.Folder.files c.args.folder.now) (g.F.Folder.folder_faults c.args.folder.now)) c.requires.sound, c.requires.calm)

pub draw_next-requires-clause-sound : goal.draw_next-requires-clause-sound
draw_next-requires-clause-sound g c = c.loop.invariant.0.sound

pub draw_next-requires-clause-running : goal.draw_next-requires-clause-running
draw_next-requires-clause-running g c = c.loop.invariant.0.keeps.stopped ∙ c.requires.running

pub draw_next-requires-clause-serves : goal.draw_next-requires-clause-serves
draw_next-requires-clause-serves g c = served_kept c.args.hall.now c.loop.hall c.args.number c.args.place c.loop.invariant.0.keeps (served_at c.args.hall.now c.args.number c.args.place c.requires.draws)

pub draw_next-requires-clause-calm : goal.draw_next-requires-clause-calm
draw_next-requires-clause-calm g c = c.loop.invariant.1

pub loop-preserved : goal.loop-preserved
loop-preserved g c = (
  held_one g.J.Journal.tells_notes g.F.Folder.tells_files (sight c.args.hall.now (g.J.Journal.notes c.args.journal.now) (g.F.Folder.files c.args.folder.now) (g.F.Folder.folder_faults c.args.folder.now)) (sight c.loop.hall (g.J.Journal.notes c.loop.journal) (g.F.Folder.files c.loop.folder) (g.F.Folder.folder_faults c.loop.folder)) c.loop.invariant.0 (sight c.draw_next.new.hall (g.J.Journal.notes c.draw_next.new.journal) (g.F.Folder.files c.draw_next.new.folder) (g.F.Folder.folder_faults c.draw_next.new.folder)) c.in-HeldBack.ensures.rounds.0 c.draw_next.ensures.sound c.in-HeldBack.ensures.rounds.1 c.draw_next.ensures.files,
  c.draw_next.ensures.calm,
)

pub returns-in-Answered : goal.returns-in-Answered
returns-in-Answered g c = record {
  acts = held_acts g.J.Journal.tells_notes g.F.Folder.tells_files (sight c.args.hall.now (g.J.Journal.notes c.args.journal.now) (g.F.Folder.files c.args.folder.now) (g.F.Folder.folder_faults c.args.folder.now)) (sight c.loop.hall (g.J.Journal.notes c.loop.journal) (g.F.Folder.files c.loop.folder) (g.F.Folder.folder_faults c.loop.folder)) c.loop.invariant.0 c.args.number c.in-Answered.answer (sight c.draw_next.new.hall (g.J.Journal.notes c.draw_next.new.journal) (g.F.Folder.files c.draw_next.new.folder) (g.F.Folder.folder_faults c.draw_next.new.folder)) c.in-Answered.ensures.rounds;
  files = λ told file other. c.draw_next.ensures.files told file other ∙ c.loop.invariant.0.files told file other;
  sound = c.draw_next.ensures.sound;
  calm = c.draw_next.ensures.calm;
}

pub returns : goal.returns
returns g c = record {
  acts = held_ends g.J.Journal.tells_notes g.F.Folder.tells_files (sight c.args.hall.now (g.J.Journal.notes c.args.journal.now) (g.F.Folder.files c.args.folder.now) (g.F.Folder.folder_faults c.args.folder.now)) (sight c.loop.hall (g.J.Journal.notes c.loop.journal) (g.F.Folder.files c.loop.folder) (g.F.Folder.folder_faults c.loop.folder)) c.loop.invariant.0 c.args.number;
  sound = c.loop.invariant.0.sound;
  calm = c.loop.invariant.1;
  files = c.loop.invariant.0.files;
}
