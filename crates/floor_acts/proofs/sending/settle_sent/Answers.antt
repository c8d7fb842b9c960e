use Rattle.std.proofs.Common.{◌<◌, HoldsAt, length, refl, subst, sym}
use Rattle.std.specs.Vec.{with_item}
use Rattle.std.specs.Prelude.{IsTrue}
use Rattle.broker_history.specs.State.{Client, counted}
use Rattle.broker_history.specs.Step.{DoesSend}
use Rattle.channel_core.specs.declared.answers.Next.TheVariants.{Send}
use Rattle.floor_rooms.specs.declared.room.Room.{Room}
use Rattle.floor_rooms.specs.Changes.{AtStall, KeepsRooms, OnlyQueueFiles}
use Rattle.floor_rooms.specs.Sound.{IsSound}
use Rattle.floor_rooms.specs.Standing.{Carries}
use Rattle.floor_acts.specs.Sending.{HasDrawn, IsToSend, SendsStall}
use Rattle.floor_acts.proofs.Putting.{changed_again, holds_read, read_holds, sound_client}
use Rattle.floor_acts.proofs.Flying.{counts_same, range_behind, stall_range_behind}
use Rattle.floor_acts.proofs.Acting.{counted_rest}
use Rattle.floor_acts.proofs.Delivering.{clients_kept, drawn_there, member_there, sent_clients, sent_files, sent_keeps, sent_told, sent_touches}
use Rattle.floor_acts.proofs.sending.settle_sent.Goals as goal

pub sent_at-requires-clause-drawn : goal.sent_at-requires-clause-drawn
sent_at-requires-clause-drawn g c =
    drawn_there c.args.i c.args.j c.args.hall.now.moment c.number-number.result c.index.result.now.number c.args.message c.args.hall.now.rooms.items c.number-number.ensures (read_holds (λ (d : Client). HoldsAt (λ (r : Room). HoldsAt (IsToSend c.args.hall.now.moment d.number c.args.message) r.stalls.items c.args.j) c.args.hall.now.rooms.items c.args.i) c.args.hall.now.clients.items c.args.k c.index.result.now c.requires.client c.index.ensures c.requires.drawn)

pub sent_at-requires-clause-client : goal.sent_at-requires-clause-client
sent_at-requires-clause-client g c =
    member_there c.args.i c.args.j c.args.hall.now.moment c.number-number.result c.index.result.now.number c.args.message c.args.hall.now.rooms.items c.number-number.ensures (read_holds (λ (d : Client). HoldsAt (λ (r : Room). HoldsAt (IsToSend c.args.hall.now.moment d.number c.args.message) r.stalls.items c.args.j) c.args.hall.now.rooms.items c.args.i) c.args.hall.now.clients.items c.args.k c.index.result.now c.requires.client c.index.ensures c.requires.drawn)

pub settle_stall-requires-clause-room : goal.settle_stall-requires-clause-room
settle_stall-requires-clause-room g c = range_behind c.args.i c.args.j _ c.args.hall.now.rooms.items c.sent_at.new.hall.rooms.items c.sent_at.ensures.stall

pub settle_stall-requires-clause-stall : goal.settle_stall-requires-clause-stall
settle_stall-requires-clause-stall g c = stall_range_behind c.args.i c.args.j _ c.args.hall.now.rooms.items c.sent_at.new.hall.rooms.items c.sent_at.ensures.stall

pub index_mut-requires : goal.index_mut-requires
index_mut-requires g c =
    let there : c.args.k < length c.settle_stall.new.self.clients.items = subst (λ cs. c.args.k < length cs) (sym (clients_kept c.args.hall.now c.sent_at.new.hall c.settle_stall.new.self c.sent_at.ensures.rest c.settle_stall.ensures.rest)) c.requires.client in
    subst (λ n. c.args.k < n) (sym c.settle_stall.new.self.clients.ok.0) there

pub returns-clause-rest : goal.returns-clause-rest
returns-clause-rest g c = counted_rest c.args.hall.now c.args.hall.now c.sent_at.new.hall c.settle_stall.new.self _ refl c.sent_at.ensures.rest c.settle_stall.ensures.rest refl

pub returns-clause-clients : goal.returns-clause-clients
returns-clause-clients g c =
    changed_again (λ (d : Client). record d { message_count = counted d.message_count }) c.args.k c.args.hall.now.clients.items c.settle_stall.new.self.clients.items c.index.result.now c.index_mut.result.now c.receive.new.self c.requires.client c.index.ensures (clients_kept c.args.hall.now c.sent_at.new.hall c.settle_stall.new.self c.sent_at.ensures.rest c.settle_stall.ensures.rest) c.index_mut.ensures.value c.receive.ensures

pub returns-clause-keeps : goal.returns-clause-keeps
returns-clause-keeps g c = λ hb f0 n0.
    holds_read (λ (w : Client). HasDrawn g.F.Folder.tells_files c.args.i c.args.j w.number (Send c.args.message) f0 (g.F.Folder.files c.args.folder.now) n0 (g.F.Folder.folder_faults c.args.folder.now) hb c.args.hall.now → KeepsRooms hb.moment hb.rooms.items c.settle_stall.new.self.rooms.items) c.args.hall.now.clients.items c.args.k c.index.result.now c.requires.client c.index.ensures
    (λ d. sent_keeps g.F.Folder.tells_files c.args.i c.args.j c.args.message f0 (g.F.Folder.files c.args.folder.now) (g.F.Folder.files c.sent_at.new.folder) n0 (g.F.Folder.folder_faults c.args.folder.now) (g.F.Folder.folder_faults c.sent_at.new.folder) hb c.args.hall.now c.sent_at.new.hall c.settle_stall.new.self c.args.k c.index.result.now d c.requires.client c.index.ensures (read_holds (λ (d : Client). HoldsAt (λ (r : Room). HoldsAt (IsToSend c.args.hall.now.moment d.number c.args.message) r.stalls.items c.args.j) c.args.hall.now.rooms.items c.args.i) c.args.hall.now.clients.items c.args.k c.index.result.now c.requires.client c.index.ensures c.requires.drawn) c.sent_at.ensures.rest (subst (λ n. AtStall c.args.i c.args.j (SendsStall g.F.Folder.tells_files n c.args.hall.now.moment c.args.message (g.F.Folder.files c.args.folder.now) (g.F.Folder.files c.sent_at.new.folder) (g.F.Folder.folder_faults c.args.folder.now) (g.F.Folder.folder_faults c.sent_at.new.folder)) c.args.hall.now.rooms.items c.sent_at.new.hall.rooms.items) c.number-number.ensures c.sent_at.ensures.stall) c.settle_stall.ensures.rest)

pub returns-clause-files : goal.returns-clause-files
returns-clause-files g c = λ hb f0 n0.
    holds_read (λ (w : Client). HasDrawn g.F.Folder.tells_files c.args.i c.args.j w.number (Send c.args.message) f0 (g.F.Folder.files c.args.folder.now) n0 (g.F.Folder.folder_faults c.args.folder.now) hb c.args.hall.now → IsTrue g.F.Folder.tells_files → OnlyQueueFiles (g.F.Folder.files c.args.folder.now) (g.F.Folder.files c.sent_at.new.folder)) c.args.hall.now.clients.items c.args.k c.index.result.now c.requires.client c.index.ensures
    (λ d. sent_files g.F.Folder.tells_files c.args.i c.args.j c.args.message f0 (g.F.Folder.files c.args.folder.now) (g.F.Folder.files c.sent_at.new.folder) n0 (g.F.Folder.folder_faults c.args.folder.now) (g.F.Folder.folder_faults c.sent_at.new.folder) hb c.args.hall.now c.sent_at.new.hall c.settle_stall.new.self c.args.k c.index.result.now d c.requires.client c.index.ensures (read_holds (λ (d : Client). HoldsAt (λ (r : Room). HoldsAt (IsToSend c.args.hall.now.moment d.number c.args.message) r.stalls.items c.args.j) c.args.hall.now.rooms.items c.args.i) c.args.hall.now.clients.items c.args.k c.index.result.now c.requires.client c.index.ensures c.requires.drawn) c.sent_at.ensures.rest (subst (λ n. AtStall c.args.i c.args.j (SendsStall g.F.Folder.tells_files n c.args.hall.now.moment c.args.message (g.F.Folder.files c.args.folder.now) (g.F.Folder.files c.sent_at.new.folder) (g.F.Folder.folder_faults c.args.folder.now) (g.F.Folder.folder_faults c.sent_at.new.folder)) c.args.hall.now.rooms.items c.sent_at.new.hall.rooms.items) c.number-number.ensures c.sent_at.ensures.stall) c.settle_stall.ensures.rest)

pub returns-clause-sound : goal.returns-clause-sound
returns-clause-sound g c = λ hb f0 n0.
    holds_read (λ (w : Client). HasDrawn g.F.Folder.tells_files c.args.i c.args.j w.number (Send c.args.message) f0 (g.F.Folder.files c.args.folder.now) n0 (g.F.Folder.folder_faults c.args.folder.now) hb c.args.hall.now → IsSound (record (c.settle_stall.new.self) { clients = with_item c.settle_stall.new.self.clients c.args.k c.receive.new.self })) c.args.hall.now.clients.items c.args.k c.index.result.now c.requires.client c.index.ensures
    (λ d.
    sound_client c.settle_stall.new.self _ c.args.k c.index_mut.result.now c.receive.new.self (c.settle_stall.ensures.sound d.marked (sent_touches g.F.Folder.tells_files c.args.i c.args.j c.args.message f0 (g.F.Folder.files c.args.folder.now) (g.F.Folder.files c.sent_at.new.folder) n0 (g.F.Folder.folder_faults c.args.folder.now) (g.F.Folder.folder_faults c.sent_at.new.folder) hb c.args.hall.now c.sent_at.new.hall c.settle_stall.new.self c.args.k c.index.result.now d c.requires.client c.index.ensures (read_holds (λ (d : Client). HoldsAt (λ (r : Room). HoldsAt (IsToSend c.args.hall.now.moment d.number c.args.message) r.stalls.items c.args.j) c.args.hall.now.rooms.items c.args.i) c.args.hall.now.clients.items c.args.k c.index.result.now c.requires.client c.index.ensures c.requires.drawn) c.sent_at.ensures.rest (subst (λ n. AtStall c.args.i c.args.j (SendsStall g.F.Folder.tells_files n c.args.hall.now.moment c.args.message (g.F.Folder.files c.args.folder.now) (g.F.Folder.files c.sent_at.new.folder) (g.F.Folder.folder_faults c.args.folder.now) (g.F.Folder.folder_faults c.sent_at.new.folder)) c.args.hall.now.rooms.items c.sent_at.new.hall.rooms.items) c.number-number.ensures c.sent_at.ensures.stall) c.settle_stall.ensures.rest))
    (subst (λ cs. c.args.k < length cs) (sym (sent_clients g.F.Folder.tells_files c.args.i c.args.j c.args.message f0 (g.F.Folder.files c.args.folder.now) (g.F.Folder.files c.sent_at.new.folder) n0 (g.F.Folder.folder_faults c.args.folder.now) (g.F.Folder.folder_faults c.sent_at.new.folder) hb c.args.hall.now c.sent_at.new.hall c.settle_stall.new.self c.args.k c.index.result.now d c.requires.client c.index.ensures (read_holds (λ (d : Client). HoldsAt (λ (r : Room). HoldsAt (IsToSend c.args.hall.now.moment d.number c.args.message) r.stalls.items c.args.j) c.args.hall.now.rooms.items c.args.i) c.args.hall.now.clients.items c.args.k c.index.result.now c.requires.client c.index.ensures c.requires.drawn) c.sent_at.ensures.rest (subst (λ n. AtStall c.args.i c.args.j (SendsStall g.F.Folder.tells_files n c.args.hall.now.moment c.args.message (g.F.Folder.files c.args.folder.now) (g.F.Folder.files c.sent_at.new.folder) (g.F.Folder.folder_faults c.args.folder.now) (g.F.Folder.folder_faults c.sent_at.new.folder)) c.args.hall.now.rooms.items c.sent_at.new.hall.rooms.items) c.number-number.ensures c.sent_at.ensures.stall) c.settle_stall.ensures.rest)) c.requires.client) c.index_mut.ensures.value
    (counts_same c.index_mut.result.now c.receive.new.self _ _ _ c.receive.ensures) refl refl)

pub returns-clause-told : goal.returns-clause-told
returns-clause-told g c = λ told hb f0 n0.
    holds_read (λ (w : Client). HasDrawn g.F.Folder.tells_files c.args.i c.args.j w.number (Send c.args.message) f0 (g.F.Folder.files c.args.folder.now) n0 (g.F.Folder.folder_faults c.args.folder.now) hb c.args.hall.now → Carries hb f0 (record (c.settle_stall.new.self) { clients = with_item c.settle_stall.new.self.clients c.args.k c.receive.new.self }) (g.F.Folder.files c.sent_at.new.folder) (λ s t. DoesSend s hb.moment w.number c.args.message t)) c.args.hall.now.clients.items c.args.k c.index.result.now c.requires.client c.index.ensures
    (λ d. sent_told g.F.Folder.tells_files c.args.i c.args.j c.args.message f0 (g.F.Folder.files c.args.folder.now) (g.F.Folder.files c.sent_at.new.folder) n0 (g.F.Folder.folder_faults c.args.folder.now) (g.F.Folder.folder_faults c.sent_at.new.folder) hb c.args.hall.now c.sent_at.new.hall c.settle_stall.new.self c.args.k c.index.result.now d c.requires.client c.index.ensures (read_holds (λ (d : Client). HoldsAt (λ (r : Room). HoldsAt (IsToSend c.args.hall.now.moment d.number c.args.message) r.stalls.items c.args.j) c.args.hall.now.rooms.items c.args.i) c.args.hall.now.clients.items c.args.k c.index.result.now c.requires.client c.index.ensures c.requires.drawn) c.sent_at.ensures.rest (subst (λ n. AtStall c.args.i c.args.j (SendsStall g.F.Folder.tells_files n c.args.hall.now.moment c.args.message (g.F.Folder.files c.args.folder.now) (g.F.Folder.files c.sent_at.new.folder) (g.F.Folder.folder_faults c.args.folder.now) (g.F.Folder.folder_faults c.sent_at.new.folder)) c.args.hall.now.rooms.items c.sent_at.new.hall.rooms.items) c.number-number.ensures c.sent_at.ensures.stall) c.settle_stall.ensures.rest _ c.index_mut.result.now c.receive.new.self told (λ s holds. c.settle_stall.ensures.stands (g.F.Folder.files c.sent_at.new.folder) s holds) (c.settle_stall.ensures.sound d.marked (sent_touches g.F.Folder.tells_files c.args.i c.args.j c.args.message f0 (g.F.Folder.files c.args.folder.now) (g.F.Folder.files c.sent_at.new.folder) n0 (g.F.Folder.folder_faults c.args.folder.now) (g.F.Folder.folder_faults c.sent_at.new.folder) hb c.args.hall.now c.sent_at.new.hall c.settle_stall.new.self c.args.k c.index.result.now d c.requires.client c.index.ensures (read_holds (λ (d : Client). HoldsAt (λ (r : Room). HoldsAt (IsToSend c.args.hall.now.moment d.number c.args.message) r.stalls.items c.args.j) c.args.hall.now.rooms.items c.args.i) c.args.hall.now.clients.items c.args.k c.index.result.now c.requires.client c.index.ensures c.requires.drawn) c.sent_at.ensures.rest (subst (λ n. AtStall c.args.i c.args.j (SendsStall g.F.Folder.tells_files n c.args.hall.now.moment c.args.message (g.F.Folder.files c.args.folder.now) (g.F.Folder.files c.sent_at.new.folder) (g.F.Folder.folder_faults c.args.folder.now) (g.F.Folder.folder_faults c.sent_at.new.folder)) c.args.hall.now.rooms.items c.sent_at.new.hall.rooms.items) c.number-number.ensures c.sent_at.ensures.stall) c.settle_stall.ensures.rest)) c.index_mut.ensures.value c.receive.ensures refl refl)

pub returns-clause-faults : goal.returns-clause-faults
returns-clause-faults g c = c.sent_at.ensures.stall.does.does.disk.faults
