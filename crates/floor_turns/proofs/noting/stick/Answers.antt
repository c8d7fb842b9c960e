use Rattle.floor_turns.proofs.Answering.{sticks_found}
use Rattle.floor_turns.proofs.noting.stick.Goals as goal

pub returns-clause-noted : goal.returns-clause-noted
returns-clause-noted g c =
    sticks_found g.J.Journal.tells_notes c.args.number c.args.place c.args.hall.now (g.J.Journal.notes c.args.journal.now) (g.J.Journal.notes c.note_idle-act.new.journal) c.note_idle-act.result.1 c.index-room.result.now c.index.result.now c.requires.room c.requires.stall c.index-room.ensures c.index.ensures
    c.name.result c.name-2.result c.name.ensures.value c.name-2.ensures.value c.note_idle-act.ensures.noted
