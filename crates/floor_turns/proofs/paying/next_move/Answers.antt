use Rattle.std.proofs.Common.{◌≡◌, false, sym, ap, subst, arith}
use Rattle.floor_rooms.specs.declared.hall.Hall.{Hall}
use Rattle.floor_moves.proofs.Keeping.{keeps_on, keeps_quiet}
use Rattle.floor_turns.proofs.Owing.{moved_on, next_on}
use Rattle.floor_turns.proofs.paying.next_move.Goals as goal

pub returns-in-Some-clause-moves : goal.returns-in-Some-clause-moves
returns-in-Some-clause-moves g c =
    moved_on g.J.Journal.tells_notes g.F.Folder.tells_files c.args.hall.now c.due_place.new.hall (g.J.Journal.notes c.args.journal.now) (g.F.Folder.files c.args.folder.now) (g.F.Folder.folder_faults c.args.folder.now) _ c.due_place.ensures.stands
    _ c.move_due.result c.ended.result c.ended.ensures (ap (λ (x : Hall). x.moment) c.due_place.ensures.rest) c.move_due.ensures.moves.moves

pub returns-in-Some-clause-keeps : goal.returns-in-Some-clause-keeps
returns-in-Some-clause-keeps g c = keeps_on c.args.hall.now c.due_place.new.hall c.move_due.new.hall (keeps_quiet c.args.hall.now c.due_place.new.hall c.due_place.new.hall.quiet_until c.due_place.ensures.rest) c.move_due.ensures.keeps

pub returns-in-None-clause-moves : goal.returns-in-None-clause-moves
returns-in-None-clause-moves g c =
    next_on g.J.Journal.tells_notes g.F.Folder.tells_files c.args.hall.now c.due_place.new.hall (g.J.Journal.notes c.args.journal.now) (g.F.Folder.files c.args.folder.now) (g.F.Folder.folder_faults c.args.folder.now) _ c.due_place.ensures.stands
    (ap (λ (x : Hall). x.moment) c.due_place.ensures.rest) c.next_owed.result c.next_owed.ensures.moves

pub returns-in-None-clause-keeps : goal.returns-in-None-clause-keeps
returns-in-None-clause-keeps g c = keeps_on c.args.hall.now c.due_place.new.hall c.next_owed.new.hall (keeps_quiet c.args.hall.now c.due_place.new.hall c.due_place.new.hall.quiet_until c.due_place.ensures.rest) c.next_owed.ensures.keeps

pub move_due-requires-clause-running : goal.move_due-requires-clause-running
move_due-requires-clause-running g c = subst (λ (x : Hall). x.stopped ≡ false) (sym c.due_place.ensures.rest) c.requires.running

pub next_owed-requires-clause-running : goal.next_owed-requires-clause-running
next_owed-requires-clause-running g c = subst (λ (x : Hall). x.stopped ≡ false) (sym c.due_place.ensures.rest) c.requires.running

pub next_owed-requires-clause-quiet : goal.next_owed-requires-clause-quiet
next_owed-requires-clause-quiet g c =
    let moment : c.due_place.new.hall.moment ≡ c.args.hall.now.moment = ap (λ (x : Hall). x.moment) c.due_place.ensures.rest in
    let later = c.in-None.ensures.found in
    omega (arith, moment, later)
