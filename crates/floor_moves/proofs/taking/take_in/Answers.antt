use Rattle.std.proofs.Common.{◌≡◌, Some, refl, subst, sym}
use Rattle.floor_rooms.specs.declared.room.Room.{Room}
use Rattle.topic_core.specs.declared.answers.Head.TheVariants as head
use Rattle.floor_moves.proofs.Heads.{damage_in, drawn_named, empty_in, fault_in, has_head, has_names, kept_now, leaves_looked, leaves_same, leaves_settled, leaves_undone, taken_in, untouched_same, untouched_undone, want_in}
use Rattle.floor_moves.specs.Taking.{TakesNext, names_of}
use Rattle.floor_moves.proofs.taking.take_in.Goals as goal

pub fill_names-requires-clause-order : goal.fill_names-requires-clause-order
fill_names-requires-clause-order g c = c.requires.order

pub fill_names-requires-clause-names : goal.fill_names-requires-clause-names
fill_names-requires-clause-names g c = c.requires.names

pub returns-in_default-clause-takes : goal.returns-in_default-clause-takes
returns-in_default-clause-takes g c = untouched_same g.J.Journal.tells_notes g.F.Folder.tells_files (g.F.Folder.files c.args.folder.now) (g.J.Journal.notes c.args.journal.now) (g.J.Journal.notes c.args.journal.now) c.args.room.now c.fill_names.new.room c.in_default.ensures.refused c.requires.takes.none (λ told. refl)

pub returns-in_default-clause-leaves : goal.returns-in_default-clause-leaves
returns-in_default-clause-leaves g c = leaves_same g.F.Folder.tells_files (g.F.Folder.files c.args.folder.now) (g.F.Folder.folder_faults c.args.folder.now) c.args.room.now c.fill_names.new.room c.in_default.ensures.refused c.requires.settled c.requires.names

pub returns-in_default-clause-calm : goal.returns-in_default-clause-calm
returns-in_default-clause-calm g c = c.requires.calm

pub draw-requires-clause-takes : goal.draw-requires-clause-takes
draw-requires-clause-takes g c = subst TakesNext (sym c.in-Ok.ensures.named) (record { busy = c.requires.takes.busy; none = c.requires.takes.none })

pub draw-requires-clause-names : goal.draw-requires-clause-names
draw-requires-clause-names g c = subst (λ (r : Room). r.names ≡ Some (names_of r)) (sym c.in-Ok.ensures.named) refl

pub draw-requires-clause-scratch : goal.draw-requires-clause-scratch
draw-requires-clause-scratch g c = c.requires.scratch

pub stick-requires : goal.stick-requires
stick-requires g c = c.requires.calm

pub stick-requires-in-Damaged : goal.stick-requires-in-Damaged
stick-requires-in-Damaged g c = c.requires.calm

pub returns-in-Fault-clause-calm : goal.returns-in-Fault-clause-calm
returns-in-Fault-clause-calm g c = c.stick.ensures.calm

pub returns-in-Damaged-clause-calm : goal.returns-in-Damaged-clause-calm
returns-in-Damaged-clause-calm g c = c.stick-in-Damaged.ensures.calm

pub returns-in-Empty-clause-takes : goal.returns-in-Empty-clause-takes
returns-in-Empty-clause-takes g c =
    empty_in g.J.Journal.tells_notes g.F.Folder.tells_files (g.F.Folder.files c.args.folder.now) (g.F.Folder.files c.draw.new.folder) (g.F.Folder.folder_faults c.args.folder.now) (g.F.Folder.folder_faults c.draw.new.folder) (g.J.Journal.notes c.args.journal.now) (g.J.Journal.notes c.args.journal.now) c.args.room.now c.draw.new.room
    (drawn_named g.F.Folder.tells_files head.Empty (g.F.Folder.files c.args.folder.now) (g.F.Folder.files c.draw.new.folder) (g.F.Folder.folder_faults c.args.folder.now) (g.F.Folder.folder_faults c.draw.new.folder) c.args.room.now c.fill_names.new.room c.draw.new.room c.draw.new.room c.in-Ok.ensures.named refl c.in-Empty.ensures)
    c.requires.takes.none (λ told. refl)

pub returns-in-Empty-clause-leaves : goal.returns-in-Empty-clause-leaves
returns-in-Empty-clause-leaves g c =
    leaves_looked g.F.Folder.tells_files head.Empty (g.F.Folder.files c.args.folder.now) (g.F.Folder.files c.draw.new.folder) (g.F.Folder.folder_faults c.args.folder.now) (g.F.Folder.folder_faults c.draw.new.folder) c.args.room.now c.draw.new.room
    (drawn_named g.F.Folder.tells_files head.Empty (g.F.Folder.files c.args.folder.now) (g.F.Folder.files c.draw.new.folder) (g.F.Folder.folder_faults c.args.folder.now) (g.F.Folder.folder_faults c.draw.new.folder) c.args.room.now c.fill_names.new.room c.draw.new.room c.draw.new.room c.in-Ok.ensures.named refl c.in-Empty.ensures)
    c.in-Empty.ensures.lends

pub returns-in-Empty-clause-calm : goal.returns-in-Empty-clause-calm
returns-in-Empty-clause-calm g c = c.requires.calm

pub returns-in-Memory-clause-takes : goal.returns-in-Memory-clause-takes
returns-in-Memory-clause-takes g c =
    want_in g.J.Journal.tells_notes g.F.Folder.tells_files (g.F.Folder.files c.args.folder.now) (g.F.Folder.files c.draw.new.folder) (g.F.Folder.folder_faults c.args.folder.now) (g.F.Folder.folder_faults c.draw.new.folder) (g.J.Journal.notes c.args.journal.now) (g.J.Journal.notes c.args.journal.now) c.args.room.now c.draw.new.room
    (drawn_named g.F.Folder.tells_files head.Memory (g.F.Folder.files c.args.folder.now) (g.F.Folder.files c.draw.new.folder) (g.F.Folder.folder_faults c.args.folder.now) (g.F.Folder.folder_faults c.draw.new.folder) c.args.room.now c.fill_names.new.room c.draw.new.room c.draw.new.room c.in-Ok.ensures.named refl c.in-Memory.ensures)
    c.requires.takes.none (λ told. refl)

pub returns-in-Memory-clause-calm : goal.returns-in-Memory-clause-calm
returns-in-Memory-clause-calm g c = c.requires.calm

pub announce_taken-requires-clause-names : goal.announce_taken-requires-clause-names
announce_taken-requires-clause-names g c =
    has_names g.F.Folder.tells_files (g.F.Folder.files c.args.folder.now) (g.F.Folder.files c.draw.new.folder) (g.F.Folder.folder_faults c.args.folder.now) (g.F.Folder.folder_faults c.draw.new.folder) c.args.room.now c.draw.new.room
    (drawn_named g.F.Folder.tells_files head.Ready (g.F.Folder.files c.args.folder.now) (g.F.Folder.files c.draw.new.folder) (g.F.Folder.folder_faults c.args.folder.now) (g.F.Folder.folder_faults c.draw.new.folder) c.args.room.now c.fill_names.new.room c.draw.new.room c.draw.new.room c.in-Ok.ensures.named refl c.in-Ready.ensures)

pub announce_taken-requires-clause-head : goal.announce_taken-requires-clause-head
announce_taken-requires-clause-head g c =
    has_head g.F.Folder.tells_files (g.F.Folder.files c.args.folder.now) (g.F.Folder.files c.draw.new.folder) (g.F.Folder.folder_faults c.args.folder.now) (g.F.Folder.folder_faults c.draw.new.folder) c.args.room.now c.draw.new.room
    (drawn_named g.F.Folder.tells_files head.Ready (g.F.Folder.files c.args.folder.now) (g.F.Folder.files c.draw.new.folder) (g.F.Folder.folder_faults c.args.folder.now) (g.F.Folder.folder_faults c.draw.new.folder) c.args.room.now c.fill_names.new.room c.draw.new.room c.draw.new.room c.in-Ok.ensures.named refl c.in-Ready.ensures)

pub announce_taken-requires-clause-calm : goal.announce_taken-requires-clause-calm
announce_taken-requires-clause-calm g c = c.requires.calm

pub undo_head-requires : goal.undo_head-requires
undo_head-requires g c =
    let d =
    drawn_named g.F.Folder.tells_files head.Ready (g.F.Folder.files c.args.folder.now) (g.F.Folder.files c.draw.new.folder) (g.F.Folder.folder_faults c.args.folder.now) (g.F.Folder.folder_faults c.draw.new.folder) c.args.room.now c.fill_names.new.room c.draw.new.room c.announce_taken.new.room c.in-Ok.ensures.named c.announce_taken.ensures.same c.in-Ready.ensures in
    d.lends

pub settle_head-requires : goal.settle_head-requires
settle_head-requires g c =
    let d =
    drawn_named g.F.Folder.tells_files head.Ready (g.F.Folder.files c.args.folder.now) (g.F.Folder.files c.draw.new.folder) (g.F.Folder.folder_faults c.args.folder.now) (g.F.Folder.folder_faults c.draw.new.folder) c.args.room.now c.fill_names.new.room c.draw.new.room c.announce_taken.new.room c.in-Ok.ensures.named c.announce_taken.ensures.same c.in-Ready.ensures in
    d.lends

pub returns-in_default-announce_taken-clause-takes : goal.returns-in_default-announce_taken-clause-takes
returns-in_default-announce_taken-clause-takes g c =
    untouched_undone g.F.Folder.tells_files (g.F.Folder.files c.args.folder.now) (g.F.Folder.files c.draw.new.folder) (g.F.Folder.folder_faults c.args.folder.now) (g.F.Folder.folder_faults c.draw.new.folder) c.args.room.now c.announce_taken.new.room
    (drawn_named g.F.Folder.tells_files head.Ready (g.F.Folder.files c.args.folder.now) (g.F.Folder.files c.draw.new.folder) (g.F.Folder.folder_faults c.args.folder.now) (g.F.Folder.folder_faults c.draw.new.folder) c.args.room.now c.fill_names.new.room c.draw.new.room c.announce_taken.new.room c.in-Ok.ensures.named c.announce_taken.ensures.same c.in-Ready.ensures)
    c.undo_head.new.self c.undo_head.ensures.settled_now c.undo_head.ensures.queue c.undo_head.ensures.seen g.J.Journal.tells_notes (g.J.Journal.notes c.args.journal.now) (g.J.Journal.notes c.announce_taken.new.journal) c.announce_taken.ensures.notes c.undo_head.ensures.row

pub returns-in_default-announce_taken-clause-calm : goal.returns-in_default-announce_taken-clause-calm
returns-in_default-announce_taken-clause-calm g c = c.in_default-announce_taken.ensures.err

pub note-requires : goal.note-requires
note-requires g c = c.in-Ok-announce_taken.ensures.aside

pub returns-clause-calm : goal.returns-clause-calm
returns-clause-calm g c = c.note.ensures.aside

pub returns-in-Fault-clause-takes : goal.returns-in-Fault-clause-takes
returns-in-Fault-clause-takes g c =
    fault_in g.J.Journal.tells_notes g.F.Folder.tells_files c.args.at (g.F.Folder.files c.args.folder.now) (g.F.Folder.files c.draw.new.folder) (g.F.Folder.folder_faults c.args.folder.now) (g.F.Folder.folder_faults c.draw.new.folder) (g.J.Journal.notes c.args.journal.now) (g.J.Journal.notes c.stick.new.journal) c.args.room.now c.draw.new.room
    (drawn_named g.F.Folder.tells_files head.Fault (g.F.Folder.files c.args.folder.now) (g.F.Folder.files c.draw.new.folder) (g.F.Folder.folder_faults c.args.folder.now) (g.F.Folder.folder_faults c.draw.new.folder) c.args.room.now c.fill_names.new.room c.draw.new.room c.draw.new.room c.in-Ok.ensures.named refl c.in-Fault.ensures)
    c.requires.takes.none c.stick.result c.stick.ensures.noted

pub returns-in-Damaged-clause-takes : goal.returns-in-Damaged-clause-takes
returns-in-Damaged-clause-takes g c =
    damage_in g.J.Journal.tells_notes g.F.Folder.tells_files c.args.at (g.F.Folder.files c.args.folder.now) (g.F.Folder.files c.draw.new.folder) (g.F.Folder.folder_faults c.args.folder.now) (g.F.Folder.folder_faults c.draw.new.folder) (g.J.Journal.notes c.args.journal.now) (g.J.Journal.notes c.stick-in-Damaged.new.journal) c.args.room.now c.draw.new.room
    (drawn_named g.F.Folder.tells_files head.Damaged (g.F.Folder.files c.args.folder.now) (g.F.Folder.files c.draw.new.folder) (g.F.Folder.folder_faults c.args.folder.now) (g.F.Folder.folder_faults c.draw.new.folder) c.args.room.now c.fill_names.new.room c.draw.new.room c.draw.new.room c.in-Ok.ensures.named refl c.in-Damaged.ensures)
    c.requires.takes.none c.stick-in-Damaged.result c.stick-in-Damaged.ensures.noted

pub returns-in-Fault-clause-leaves : goal.returns-in-Fault-clause-leaves
returns-in-Fault-clause-leaves g c =
    leaves_looked g.F.Folder.tells_files head.Fault (g.F.Folder.files c.args.folder.now) (g.F.Folder.files c.draw.new.folder) (g.F.Folder.folder_faults c.args.folder.now) (g.F.Folder.folder_faults c.draw.new.folder) c.args.room.now c.draw.new.room
    (drawn_named g.F.Folder.tells_files head.Fault (g.F.Folder.files c.args.folder.now) (g.F.Folder.files c.draw.new.folder) (g.F.Folder.folder_faults c.args.folder.now) (g.F.Folder.folder_faults c.draw.new.folder) c.args.room.now c.fill_names.new.room c.draw.new.room c.draw.new.room c.in-Ok.ensures.named refl c.in-Fault.ensures)
    c.in-Fault.ensures.lends

pub returns-in-Damaged-clause-leaves : goal.returns-in-Damaged-clause-leaves
returns-in-Damaged-clause-leaves g c =
    leaves_looked g.F.Folder.tells_files head.Damaged (g.F.Folder.files c.args.folder.now) (g.F.Folder.files c.draw.new.folder) (g.F.Folder.folder_faults c.args.folder.now) (g.F.Folder.folder_faults c.draw.new.folder) c.args.room.now c.draw.new.room
    (drawn_named g.F.Folder.tells_files head.Damaged (g.F.Folder.files c.args.folder.now) (g.F.Folder.files c.draw.new.folder) (g.F.Folder.folder_faults c.args.folder.now) (g.F.Folder.folder_faults c.draw.new.folder) c.args.room.now c.fill_names.new.room c.draw.new.room c.draw.new.room c.in-Ok.ensures.named refl c.in-Damaged.ensures)
    c.in-Damaged.ensures.lends

pub returns-in-Memory-clause-leaves : goal.returns-in-Memory-clause-leaves
returns-in-Memory-clause-leaves g c =
    leaves_looked g.F.Folder.tells_files head.Memory (g.F.Folder.files c.args.folder.now) (g.F.Folder.files c.draw.new.folder) (g.F.Folder.folder_faults c.args.folder.now) (g.F.Folder.folder_faults c.draw.new.folder) c.args.room.now c.draw.new.room
    (drawn_named g.F.Folder.tells_files head.Memory (g.F.Folder.files c.args.folder.now) (g.F.Folder.files c.draw.new.folder) (g.F.Folder.folder_faults c.args.folder.now) (g.F.Folder.folder_faults c.draw.new.folder) c.args.room.now c.fill_names.new.room c.draw.new.room c.draw.new.room c.in-Ok.ensures.named refl c.in-Memory.ensures)
    c.in-Memory.ensures.lends

pub returns-in_default-announce_taken-clause-leaves : goal.returns-in_default-announce_taken-clause-leaves
returns-in_default-announce_taken-clause-leaves g c =
    leaves_undone g.F.Folder.tells_files (g.F.Folder.files c.args.folder.now) (g.F.Folder.files c.draw.new.folder) (g.F.Folder.folder_faults c.args.folder.now) (g.F.Folder.folder_faults c.draw.new.folder) c.args.room.now c.announce_taken.new.room
    (drawn_named g.F.Folder.tells_files head.Ready (g.F.Folder.files c.args.folder.now) (g.F.Folder.files c.draw.new.folder) (g.F.Folder.folder_faults c.args.folder.now) (g.F.Folder.folder_faults c.draw.new.folder) c.args.room.now c.fill_names.new.room c.draw.new.room c.announce_taken.new.room c.in-Ok.ensures.named c.announce_taken.ensures.same c.in-Ready.ensures)
    c.undo_head.new.self c.undo_head.ensures.settled_now c.undo_head.ensures.queue c.undo_head.ensures.seen

pub returns-clause-leaves : goal.returns-clause-leaves
returns-clause-leaves g c =
    leaves_settled g.F.Folder.tells_files (g.F.Folder.files c.args.folder.now) (g.F.Folder.files c.draw.new.folder) (g.F.Folder.folder_faults c.args.folder.now) (g.F.Folder.folder_faults c.draw.new.folder) c.args.room.now c.announce_taken.new.room
    (drawn_named g.F.Folder.tells_files head.Ready (g.F.Folder.files c.args.folder.now) (g.F.Folder.files c.draw.new.folder) (g.F.Folder.folder_faults c.args.folder.now) (g.F.Folder.folder_faults c.draw.new.folder) c.args.room.now c.fill_names.new.room c.draw.new.room c.announce_taken.new.room c.in-Ok.ensures.named c.announce_taken.ensures.same c.in-Ready.ensures)
    c.settle_head.new.self (g.F.Folder.files c.settle_head.new.folder) (g.F.Folder.folder_faults c.settle_head.new.folder) c.settle_head.ensures.settled_now c.settle_head.ensures.queue c.settle_head.ensures.seen c.settle_head.ensures.backlog
    c.settle_head.ensures.stands c.settle_head.ensures.others c.settle_head.ensures.faults

pub returns-clause-takes : goal.returns-clause-takes
returns-clause-takes g c =
    taken_in g.F.Folder.tells_files (g.F.Folder.files c.args.folder.now) (g.F.Folder.files c.draw.new.folder) (g.F.Folder.folder_faults c.args.folder.now) (g.F.Folder.folder_faults c.draw.new.folder) c.args.room.now c.announce_taken.new.room
    (drawn_named g.F.Folder.tells_files head.Ready (g.F.Folder.files c.args.folder.now) (g.F.Folder.files c.draw.new.folder) (g.F.Folder.folder_faults c.args.folder.now) (g.F.Folder.folder_faults c.draw.new.folder) c.args.room.now c.fill_names.new.room c.draw.new.room c.announce_taken.new.room c.in-Ok.ensures.named c.announce_taken.ensures.same c.in-Ready.ensures)
    g.J.Journal.tells_notes c.args.at c.settle_head.new.self (g.F.Folder.files c.settle_head.new.folder) (g.J.Journal.notes c.args.journal.now) (g.J.Journal.notes c.announce_taken.new.journal) (g.J.Journal.notes c.note.new.self) (g.J.Journal.kept c.announce_taken.new.journal) c.settle_head.ensures.seen
    (kept_now g.J.Journal.tells_notes c.args.at c.draw.new.room c.announce_taken.new.room (g.J.Journal.kept c.announce_taken.new.journal) c.announce_taken.ensures.same c.in-Ok-announce_taken.ensures.kept) c.announce_taken.ensures.notes c.note.ensures.notes c.settle_head.ensures.row
