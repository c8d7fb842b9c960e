use Rattle.std.proofs.Common.{◌≡◌, refl, sym, ap, subst, ◌∙◌, arith}
use Rattle.std.proofs.lemmas.List.{append-nil}
use Rattle.floor_turns.specs.Acting.{ActCarries, IsPlanned, IsPlannedFor, LeavesClients, conn_of}
use Rattle.floor_turns.proofs.Carrying.{acts_made, acts_none, entry_of, noted_act, noted_none, planned_conn, stays_same}
use Rattle.floor_serving.proofs.Closing.{kept_so}
use Rattle.floor_serving.proofs.acting.make_act.Goals as goal

pub carry_out-requires-clause-plan : goal.carry_out-requires-clause-plan
carry_out-requires-clause-plan g c =
    subst (λ a. IsPlanned c.args.hall.now c.conn_of-conn.result a c.args.planned.said) (sym c.in-Ok.ensures.same)
    (subst (λ n. IsPlanned c.args.hall.now n c.args.planned.act c.args.planned.said) (sym c.conn_of-conn.ensures) (planned_conn c.args.hall.now c.args.number c.args.planned.act c.args.planned.said c.requires.plan))

pub returns-in_default-clause-acts : goal.returns-in_default-clause-acts
returns-in_default-clause-acts g c =
    λ d planned.
    acts_none g.J.Journal.tells_notes g.F.Folder.tells_files c.args.number d c.args.hall.now c.args.hall.now (g.J.Journal.notes c.args.journal.now) (g.J.Journal.notes c.announce_act.new.journal) (g.F.Folder.files c.args.folder.now) (g.F.Folder.files c.args.folder.now) (g.F.Folder.folder_faults c.args.folder.now) (g.F.Folder.folder_faults c.args.folder.now)
    c.requires.sound (stays_same c.args.hall.now) (omega arith) (λ told. c.announce_act.ensures.notes told ∙ sym (append-nil (g.J.Journal.notes c.args.journal.now))) (λ told s holds. (s, refl, holds)) (record { there = λ m. refl; stopped = refl })

pub returns-in-Ok-carry_out-clause-acts : goal.returns-in-Ok-carry_out-clause-acts
returns-in-Ok-carry_out-clause-acts g c =
    λ d planned.
    let same = c.in-Ok.ensures.same in
    let conn : c.conn_of-conn.result ≡ conn_of c.in-Ok.act c.args.number = c.conn_of-conn.ensures ∙ ap (λ a. conn_of a c.args.number) (sym same) in
    acts_made g.J.Journal.tells_notes g.F.Folder.tells_files c.args.number d c.args.hall.now c.carry_out.new.hall (g.J.Journal.notes c.args.journal.now) (g.J.Journal.notes c.note.new.self) (g.F.Folder.files c.args.folder.now) (g.F.Folder.files c.carry_out.new.folder) (g.F.Folder.folder_faults c.args.folder.now) (g.F.Folder.folder_faults c.carry_out.new.folder)
    c.requires.sound c.carry_out.ensures.around.stays c.carry_out.ensures.around.faults c.in-Ok.act c.in-Ok-carry_out.carried.end c.in-Ok-carry_out.carried.answer (subst (λ a. IsPlannedFor c.args.hall.now c.args.number d a) (sym same) planned) c.in-Ok-carry_out.ensures.ends.noted c.in-Ok-carry_out.ensures.ends.answer c.in-Ok-carry_out.ensures.ends.short
    (noted_act g.J.Journal.tells_notes (g.J.Journal.notes c.args.journal.now) (g.J.Journal.notes c.announce_act.new.journal) (g.J.Journal.notes c.note.new.self) (g.J.Journal.kept c.announce_act.new.journal) (entry_of (conn_of c.in-Ok.act c.args.number) c.args.hall.now.moment c.in-Ok.act) c.in-Ok-carry_out.carried.end c.in-Ok-carry_out.ensures.ends.noted
    (kept_so g.J.Journal.tells_notes (g.J.Journal.kept c.announce_act.new.journal) c.conn_of-conn.result (conn_of c.in-Ok.act c.args.number) c.args.hall.now.moment c.args.planned.act c.in-Ok.act c.in-Ok.ensures.kept same conn) c.announce_act.ensures.notes c.note.ensures.notes)
    (λ told. subst (λ m. ActCarries c.args.hall.now (g.F.Folder.files c.args.folder.now) c.carry_out.new.hall (g.F.Folder.files c.carry_out.new.folder) m c.in-Ok.act c.in-Ok-carry_out.carried.end) conn (c.in-Ok-carry_out.ensures.ends.does told))
    c.in-Ok-carry_out.ensures.ends.cause (subst (λ m. LeavesClients c.in-Ok.act m c.args.hall.now c.carry_out.new.hall) conn c.in-Ok-carry_out.ensures.ends.clients)

pub returns-in-Err-clause-acts : goal.returns-in-Err-clause-acts
returns-in-Err-clause-acts g c =
    λ d planned.
    acts_none g.J.Journal.tells_notes g.F.Folder.tells_files c.args.number d c.args.hall.now c.carry_out.new.hall (g.J.Journal.notes c.args.journal.now) (g.J.Journal.notes c.note-in-Err.new.self) (g.F.Folder.files c.args.folder.now) (g.F.Folder.files c.carry_out.new.folder) (g.F.Folder.folder_faults c.args.folder.now) (g.F.Folder.folder_faults c.carry_out.new.folder)
    c.requires.sound c.carry_out.ensures.around.stays c.carry_out.ensures.around.faults
    (noted_none g.J.Journal.tells_notes (g.J.Journal.notes c.args.journal.now) (g.J.Journal.notes c.announce_act.new.journal) (g.J.Journal.notes c.note-in-Err.new.self) (g.J.Journal.kept c.announce_act.new.journal) (entry_of c.conn_of-conn.result c.args.hall.now.moment c.args.planned.act) c.in-Ok.ensures.kept c.announce_act.ensures.notes c.note-in-Err.ensures.notes)
    c.in-Err.ensures.ends.rests c.in-Err.ensures.ends.same

pub returns-in-Ok-carry_out-clause-sound : goal.returns-in-Ok-carry_out-clause-sound
returns-in-Ok-carry_out-clause-sound g c = c.carry_out.ensures.around.sound

pub returns-in-Ok-carry_out-clause-files : goal.returns-in-Ok-carry_out-clause-files
returns-in-Ok-carry_out-clause-files g c = c.carry_out.ensures.around.files

pub returns-in-Err-clause-sound : goal.returns-in-Err-clause-sound
returns-in-Err-clause-sound g c = c.carry_out.ensures.around.sound

pub returns-in-Err-clause-files : goal.returns-in-Err-clause-files
returns-in-Err-clause-files g c = c.carry_out.ensures.around.files
