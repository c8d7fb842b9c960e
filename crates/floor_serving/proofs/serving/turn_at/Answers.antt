use Rattle.std.proofs.Common.{refl, sym, ◌∙◌}
use Rattle.floor_turns.specs.Moves.{sight}
use Rattle.floor_turns.proofs.Whole.{turn_strange, turn_stopped, turn_wants, turn_served, serves_here, serves_then, stop_once, not_false}
use Rattle.floor_serving.proofs.serving.turn_at.Goals as goal

pub is_strange-requires : goal.is_strange-requires
is_strange-requires g c = c.requires.sound

pub pay_first-paid-requires-clause-sound : goal.pay_first-paid-requires-clause-sound
pay_first-paid-requires-clause-sound g c = c.requires.sound

pub pay_first-paid-requires-clause-once : goal.pay_first-paid-requires-clause-once
pay_first-paid-requires-clause-once g c = stop_once c.args.hall.now c.args.call c.is_stopping-stopping.result c.is_stopping-stopping.ensures (sym c.is_stopped.ensures ∙ c.if-is_stopped.false)

pub pay_first-paid-requires-clause-calm : goal.pay_first-paid-requires-clause-calm
pay_first-paid-requires-clause-calm g c = c.requires.calm

pub serve-answer-requires-clause-sound : goal.serve-answer-requires-clause-sound
serve-answer-requires-clause-sound g c = c.pay_first-paid.ensures.sound

pub serve-answer-requires-clause-can : goal.serve-answer-requires-clause-can
serve-answer-requires-clause-can g c = c.requires.can

pub serve-answer-requires-clause-serves : goal.serve-answer-requires-clause-serves
serve-answer-requires-clause-serves g c =
    serves_then c.args.hall.now c.pay_first-paid.new.hall c.args.number c.args.call c.pay_first-paid.ensures.keeps.clients c.pay_first-paid.ensures.keeps.stopped (serves_here c.args.hall.now c.args.number c.args.call (sym c.is_strange.ensures ∙ c.if-is_strange.false) (sym c.is_stopped.ensures ∙ c.if-is_stopped.false))

pub serve-answer-requires-clause-calm : goal.serve-answer-requires-clause-calm
serve-answer-requires-clause-calm g c = c.pay_first-paid.ensures.calm

pub settle-requires : goal.settle-requires
settle-requires g c = c.serve-answer.ensures.sound

pub returns-then-is_strange : goal.returns-then-is_strange
returns-then-is_strange g c = record {
  turn = turn_strange g.J.Journal.tells_notes g.F.Folder.tells_files c.args.number c.args.call (sight c.args.hall.now (g.J.Journal.notes c.args.journal.now) (g.F.Folder.files c.args.folder.now) (g.F.Folder.folder_faults c.args.folder.now)) (sym c.is_strange.ensures ∙ c.if-is_strange.true);
  sound = c.requires.sound;
  calm = c.requires.calm;
  files = λ told file other. refl;
}

pub returns-then-is_stopped : goal.returns-then-is_stopped
returns-then-is_stopped g c = record {
  turn = turn_stopped g.J.Journal.tells_notes g.F.Folder.tells_files c.args.number c.args.call (sight c.args.hall.now (g.J.Journal.notes c.args.journal.now) (g.F.Folder.files c.args.folder.now) (g.F.Folder.folder_faults c.args.folder.now)) (sym c.is_strange.ensures ∙ c.if-is_strange.false) (sym c.is_stopped.ensures ∙ c.if-is_stopped.true);
  sound = c.requires.sound;
  calm = c.requires.calm;
  files = λ told file other. refl;
}

pub returns-then-lacks : goal.returns-then-lacks
returns-then-lacks g c = record {
  turn = turn_wants g.J.Journal.tells_notes g.F.Folder.tells_files c.args.number c.args.call c.is_stopping-stopping.result c.is_stopping-stopping.ensures (sight c.args.hall.now (g.J.Journal.notes c.args.journal.now) (g.F.Folder.files c.args.folder.now) (g.F.Folder.folder_faults c.args.folder.now)) (sight c.pay_first-paid.new.hall (g.J.Journal.notes c.pay_first-paid.new.journal) (g.F.Folder.files c.pay_first-paid.new.folder) (g.F.Folder.folder_faults c.pay_first-paid.new.folder)) c.pay_first-paid.result c.pay_first-paid.ensures.pays c.pay_first-paid.ensures.keeps (serves_here c.args.hall.now c.args.number c.args.call (sym c.is_strange.ensures ∙ c.if-is_strange.false) (sym c.is_stopped.ensures ∙ c.if-is_stopped.false));
  sound = c.pay_first-paid.ensures.sound;
  calm = c.pay_first-paid.ensures.calm;
  files = c.pay_first-paid.ensures.files;
}

pub returns : goal.returns
returns g c = record {
  turn = turn_served g.J.Journal.tells_notes g.F.Folder.tells_files c.args.number c.args.call c.is_stopping-stopping.result c.is_stopping-stopping.ensures (sight c.args.hall.now (g.J.Journal.notes c.args.journal.now) (g.F.Folder.files c.args.folder.now) (g.F.Folder.folder_faults c.args.folder.now)) (sight c.pay_first-paid.new.hall (g.J.Journal.notes c.pay_first-paid.new.journal) (g.F.Folder.files c.pay_first-paid.new.folder) (g.F.Folder.folder_faults c.pay_first-paid.new.folder)) c.pay_first-paid.result c.pay_first-paid.ensures.pays c.pay_first-paid.ensures.keeps (serves_here c.args.hall.now c.args.number c.args.call (sym c.is_strange.ensures ∙ c.if-is_strange.false) (sym c.is_stopped.ensures ∙ c.if-is_stopped.false)) c.serve-answer.result
      (sight c.serve-answer.new.hall (g.J.Journal.notes c.serve-answer.new.journal) (g.F.Folder.files c.serve-answer.new.folder) (g.F.Folder.folder_faults c.serve-answer.new.folder)) (sight c.settle.new.hall (g.J.Journal.notes c.serve-answer.new.journal) (g.F.Folder.files c.settle.new.folder) (g.F.Folder.folder_faults c.settle.new.folder)) c.serve-answer.ensures.acts
      (not_false _ (sym c.lacks.ensures ∙ c.if-lacks.false)) (c.settle.ensures.settles (g.J.Journal.notes c.serve-answer.new.journal)) c.settle.ensures.stuck (c.settle.ensures.timely c.args.call (sym c.is_ticking-ticking.ensures));
  sound = c.settle.ensures.sound;
  calm = c.serve-answer.ensures.calm;
  files = λ told file other. c.settle.ensures.files told file other ∙ c.serve-answer.ensures.files told file other ∙ c.pay_first-paid.ensures.files told file other;
}
