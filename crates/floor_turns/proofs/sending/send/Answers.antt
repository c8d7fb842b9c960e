use Rattle.std.proofs.Common.{◌≡◌, Some, refl, subst}
use Rattle.std.specs.Prelude.{HoldsAt, IsTrue}
use Rattle.broker_history.specs.declared.entry.Act.TheVariants.{Sent}
use Rattle.broker_history.specs.Reply.{message_frame}
use Rattle.broker_history.specs.Step.{DoesSend}
use Rattle.floor_rooms.specs.ClientPlaces.{StandsAt}
use Rattle.floor_rooms.specs.declared.room.Room.{Room}
use Rattle.floor_rooms.specs.Changes.{KeepsRooms, OnlyQueueFiles}
use Rattle.floor_rooms.specs.Sound.{IsSound}
use Rattle.floor_rooms.specs.Standing.{Carries}
use Rattle.floor_acts.specs.Replies.{IsShortFrame}
use Rattle.floor_acts.specs.Sending.{IsToSend}
use Rattle.floor_turns.specs.Drawing.{entry_of}
use Rattle.floor_turns.proofs.Sent.{acts_back, at_its_place, if_ok, lent_drawn, lent_to_send, of_client, on_ok, sending_acts, undo_drawn}
use Rattle.floor_turns.proofs.sending.send.Goals as goal

pub undo_sent-requires-clause-drawn : goal.undo_sent-requires-clause-drawn
undo_sent-requires-clause-drawn g c = undo_drawn c.args.hall.now.moment c.args.number c.args.message c.announce_sent-message.result.0 c.args.hall.now.rooms.items c.args.place.room c.args.place.stall c.announce_sent-message.ensures.same c.requires.drawn

pub settle_sent-requires-clause-client : goal.settle_sent-requires-clause-client
settle_sent-requires-clause-client g c = (subst (λ cs. StandsAt cs c.args.number c.in-Ok.k) c.deref.ensures.value c.in-Ok.ensures).in_range

pub settle_sent-requires-clause-drawn : goal.settle_sent-requires-clause-drawn
settle_sent-requires-clause-drawn g c =
    at_its_place (λ n. HoldsAt (λ (r : Room). HoldsAt (IsToSend c.args.hall.now.moment n c.announce_sent-message.result.0) r.stalls.items c.args.place.stall) c.args.hall.now.rooms.items c.args.place.room) c.args.hall.now.clients.items c.args.number c.in-Ok.k (subst (λ cs. StandsAt cs c.args.number c.in-Ok.k) c.deref.ensures.value c.in-Ok.ensures)
    (lent_to_send c.args.hall.now.moment c.args.number c.args.message c.announce_sent-message.result.0 c.args.hall.now.rooms.items c.args.place.room c.args.place.stall c.announce_sent-message.ensures.same c.requires.drawn)

pub returns-clause-acts : goal.returns-clause-acts
returns-clause-acts g c = λ before old faults d sound running s.
    sending_acts g.J.Journal.tells_notes g.F.Folder.tells_files c.args.number c.args.place c.args.message c.announce_sent-message.result.0 c.announce_sent-message.ensures.same (g.F.Folder.files c.args.folder.now) (g.F.Folder.files c.settle_sent.new.folder) (g.F.Folder.folder_faults c.args.folder.now) (g.F.Folder.folder_faults c.settle_sent.new.folder) c.args.hall.now c.settle_sent.new.hall c.in-Ok.k c.requires.client (subst (λ cs. StandsAt cs c.args.number c.in-Ok.k) c.deref.ensures.value c.in-Ok.ensures) c.settle_sent.ensures.rest c.settle_sent.ensures.clients c.settle_sent.ensures.faults before old faults (g.J.Journal.notes c.args.journal.now) (g.J.Journal.notes c.announce_sent-message.new.journal) (g.J.Journal.notes c.note.new.self) (g.J.Journal.kept c.announce_sent-message.new.journal) c.in-Ok-ready.frame d sound running s
    (of_client g.J.Journal.tells_notes g.F.Folder.tells_files c.args.number c.args.place c.args.message c.announce_sent-message.result.0 c.announce_sent-message.ensures.same (g.F.Folder.files c.args.folder.now) (g.F.Folder.files c.settle_sent.new.folder) (g.F.Folder.folder_faults c.args.folder.now) (g.F.Folder.folder_faults c.settle_sent.new.folder) c.args.hall.now c.settle_sent.new.hall c.in-Ok.k c.requires.client (subst (λ cs. StandsAt cs c.args.number c.in-Ok.k) c.deref.ensures.value c.in-Ok.ensures) (λ n. KeepsRooms before.moment before.rooms.items c.settle_sent.new.hall.rooms.items) before old faults (c.settle_sent.ensures.keeps before old faults) d)
    (λ told. of_client g.J.Journal.tells_notes g.F.Folder.tells_files c.args.number c.args.place c.args.message c.announce_sent-message.result.0 c.announce_sent-message.ensures.same (g.F.Folder.files c.args.folder.now) (g.F.Folder.files c.settle_sent.new.folder) (g.F.Folder.folder_faults c.args.folder.now) (g.F.Folder.folder_faults c.settle_sent.new.folder) c.args.hall.now c.settle_sent.new.hall c.in-Ok.k c.requires.client (subst (λ cs. StandsAt cs c.args.number c.in-Ok.k) c.deref.ensures.value c.in-Ok.ensures) (λ n. Carries before old c.settle_sent.new.hall (g.F.Folder.files c.settle_sent.new.folder) (λ u t. DoesSend u before.moment n c.announce_sent-message.result.0 t)) before old faults (c.settle_sent.ensures.told told before old faults) d)
    (if_ok c.announce_sent-message.result.1 c.in-Ok-ready.frame (λ frame. frame ≡ message_frame c.args.message) c.in-Ok-ready.is c.announce_sent-message.ensures.frame)
    (if_ok c.announce_sent-message.result.1 c.in-Ok-ready.frame IsShortFrame c.in-Ok-ready.is c.announce_sent-message.ensures.short)
    (on_ok c.announce_sent-message.result.1 c.in-Ok-ready.frame (IsTrue g.J.Journal.tells_notes → g.J.Journal.kept c.announce_sent-message.new.journal ≡ Some (entry_of c.args.number c.args.hall.now.moment (Sent c.args.message))) c.in-Ok-ready.is c.announce_sent-message.ensures.kept)
    c.announce_sent-message.ensures.notes c.note.ensures.notes

pub returns-clause-sound : goal.returns-clause-sound
returns-clause-sound g c = λ before old faults d. of_client g.J.Journal.tells_notes g.F.Folder.tells_files c.args.number c.args.place c.args.message c.announce_sent-message.result.0 c.announce_sent-message.ensures.same (g.F.Folder.files c.args.folder.now) (g.F.Folder.files c.settle_sent.new.folder) (g.F.Folder.folder_faults c.args.folder.now) (g.F.Folder.folder_faults c.settle_sent.new.folder) c.args.hall.now c.settle_sent.new.hall c.in-Ok.k c.requires.client (subst (λ cs. StandsAt cs c.args.number c.in-Ok.k) c.deref.ensures.value c.in-Ok.ensures) (λ n. IsSound c.settle_sent.new.hall) before old faults (c.settle_sent.ensures.sound before old faults) d

pub returns-clause-files : goal.returns-clause-files
returns-clause-files g c = λ before old faults d. of_client g.J.Journal.tells_notes g.F.Folder.tells_files c.args.number c.args.place c.args.message c.announce_sent-message.result.0 c.announce_sent-message.ensures.same (g.F.Folder.files c.args.folder.now) (g.F.Folder.files c.settle_sent.new.folder) (g.F.Folder.folder_faults c.args.folder.now) (g.F.Folder.folder_faults c.settle_sent.new.folder) c.args.hall.now c.settle_sent.new.hall c.in-Ok.k c.requires.client (subst (λ cs. StandsAt cs c.args.number c.in-Ok.k) c.deref.ensures.value c.in-Ok.ensures) (λ n. IsTrue g.F.Folder.tells_files → OnlyQueueFiles (g.F.Folder.files c.args.folder.now) (g.F.Folder.files c.settle_sent.new.folder)) before old faults (c.settle_sent.ensures.files before old faults) d

pub returns-in_default-ready-clause-acts : goal.returns-in_default-ready-clause-acts
returns-in_default-ready-clause-acts g c = λ before old faults d sound running s.
    acts_back g.J.Journal.tells_notes g.F.Folder.tells_files c.args.number c.args.place c.announce_sent-message.result.0 old (g.F.Folder.files c.args.folder.now) faults (g.F.Folder.folder_faults c.args.folder.now) before c.args.hall.now (lent_drawn g.F.Folder.tells_files c.args.place.room c.args.place.stall c.args.number c.args.message c.announce_sent-message.result.0 old (g.F.Folder.files c.args.folder.now) faults (g.F.Folder.folder_faults c.args.folder.now) before c.args.hall.now c.announce_sent-message.ensures.same d) c.undo_sent.new.hall c.undo_sent.ensures.rest (c.undo_sent.ensures.keeps g.F.Folder.tells_files c.args.number old (g.F.Folder.files c.args.folder.now) faults (g.F.Folder.folder_faults c.args.folder.now) before (lent_drawn g.F.Folder.tells_files c.args.place.room c.args.place.stall c.args.number c.args.message c.announce_sent-message.result.0 old (g.F.Folder.files c.args.folder.now) faults (g.F.Folder.folder_faults c.args.folder.now) before c.args.hall.now c.announce_sent-message.ensures.same d))
    (g.J.Journal.notes c.args.journal.now) (g.J.Journal.notes c.announce_sent-message.new.journal) sound (λ e. c.undo_sent.ensures.told c.args.number old (g.F.Folder.files c.args.folder.now) faults (g.F.Folder.folder_faults c.args.folder.now) before e) c.announce_sent-message.ensures.notes

pub returns-in_default-ready-clause-sound : goal.returns-in_default-ready-clause-sound
returns-in_default-ready-clause-sound g c = λ before old faults d. c.undo_sent.ensures.sound g.F.Folder.tells_files c.args.number old (g.F.Folder.files c.args.folder.now) faults (g.F.Folder.folder_faults c.args.folder.now) before (lent_drawn g.F.Folder.tells_files c.args.place.room c.args.place.stall c.args.number c.args.message c.announce_sent-message.result.0 old (g.F.Folder.files c.args.folder.now) faults (g.F.Folder.folder_faults c.args.folder.now) before c.args.hall.now c.announce_sent-message.ensures.same d)

pub returns-in_default-ready-clause-files : goal.returns-in_default-ready-clause-files
returns-in_default-ready-clause-files g c = λ before old faults d told file other. refl
