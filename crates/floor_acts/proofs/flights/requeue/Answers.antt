use Rattle.std.proofs.Common.{◌<◌, length, refl, subst, sym}
use Rattle.broker_history.specs.State.{Client, counted}
use Rattle.broker_history.specs.Step.{spoke}
use Rattle.channel_core.specs.Answers.{RequeueFails}
use Rattle.floor_acts.proofs.Putting.{changed_range, changed_twice, sound_client}
use Rattle.floor_acts.proofs.Flying.{counts_same, range_behind, stall_range_behind}
use Rattle.floor_acts.proofs.Acting.{Spoke, no_spot, room_at, spoken_in, spoken_range, stall_at}
use Rattle.floor_acts.proofs.Returning.{clients_m, delay_fits, given_cause, given_faults, given_files, given_touches, is_marked, kept_rest, kept_told, returned_keeps, returned_rest, returned_told, yours_marked}
use Rattle.floor_acts.proofs.flights.requeue.Goals as goal

pub unreachable-requires : goal.unreachable-requires
unreachable-requires g c = no_spot c.args.hall.now c.args.k c.index.result.now c.args.id c.requires.client c.index.ensures c.in_default.ensures c.requires.flies

pub mark_stall-requires-clause-room : goal.mark_stall-requires-clause-room
mark_stall-requires-clause-room g c =
    let p : Spoke c.args.hall.now c.speak.new.hall c.args.k c.index.result.now c.in-Some.spot = record { sound = c.requires.sound; within = c.requires.client; read = c.index.ensures; of = c.in-Some.ensures; rest = c.speak.ensures.rest; changed = c.speak.ensures.clients; nop = c.speak.ensures.nop } in
    room_at c.args.hall.now c.speak.new.hall c.args.k c.index.result.now c.in-Some.spot p

pub mark_stall-requires-clause-stall : goal.mark_stall-requires-clause-stall
mark_stall-requires-clause-stall g c =
    let p : Spoke c.args.hall.now c.speak.new.hall c.args.k c.index.result.now c.in-Some.spot = record { sound = c.requires.sound; within = c.requires.client; read = c.index.ensures; of = c.in-Some.ensures; rest = c.speak.ensures.rest; changed = c.speak.ensures.clients; nop = c.speak.ensures.nop } in
    stall_at c.args.hall.now c.speak.new.hall c.args.k c.index.result.now c.in-Some.spot p

pub give_back_at-answer-requires-clause-room : goal.give_back_at-answer-requires-clause-room
give_back_at-answer-requires-clause-room g c = range_behind c.in-Some.spot.room c.in-Some.spot.stall _ c.speak.new.hall.rooms.items c.mark_stall.new.self.rooms.items c.mark_stall.ensures.stall

pub give_back_at-answer-requires-clause-stall : goal.give_back_at-answer-requires-clause-stall
give_back_at-answer-requires-clause-stall g c = stall_range_behind c.in-Some.spot.room c.in-Some.spot.stall _ c.speak.new.hall.rooms.items c.mark_stall.new.self.rooms.items c.mark_stall.ensures.stall

pub give_back_at-answer-requires-clause-delay : goal.give_back_at-answer-requires-clause-delay
give_back_at-answer-requires-clause-delay g c = delay_fits c.args.hall.now c.args.delay c.requires.sound c.requires.delay

pub give_back_at-answer-requires-clause-yours : goal.give_back_at-answer-requires-clause-yours
give_back_at-answer-requires-clause-yours g c =
    let p : Spoke c.args.hall.now c.speak.new.hall c.args.k c.index.result.now c.in-Some.spot = record { sound = c.requires.sound; within = c.requires.client; read = c.index.ensures; of = c.in-Some.ensures; rest = c.speak.ensures.rest; changed = c.speak.ensures.clients; nop = c.speak.ensures.nop } in
    yours_marked c.args.hall.now c.speak.new.hall c.mark_stall.new.self c.args.k c.index.result.now c.in-Some.spot p c.mark_stall.ensures.rest c.mark_stall.ensures.stall c.args.id c.number-number.result c.number-number.ensures c.requires.flies

pub settle_stall-requires-clause-room : goal.settle_stall-requires-clause-room
settle_stall-requires-clause-room g c = range_behind c.in-Some.spot.room c.in-Some.spot.stall _ c.mark_stall.new.self.rooms.items c.give_back_at-answer.new.hall.rooms.items c.give_back_at-answer.ensures.stall

pub settle_stall-requires-clause-stall : goal.settle_stall-requires-clause-stall
settle_stall-requires-clause-stall g c = stall_range_behind c.in-Some.spot.room c.in-Some.spot.stall _ c.mark_stall.new.self.rooms.items c.give_back_at-answer.new.hall.rooms.items c.give_back_at-answer.ensures.stall

pub index_mut-requires : goal.index_mut-requires
index_mut-requires g c =
    let p : Spoke c.args.hall.now c.speak.new.hall c.args.k c.index.result.now c.in-Some.spot = record { sound = c.requires.sound; within = c.requires.client; read = c.index.ensures; of = c.in-Some.ensures; rest = c.speak.ensures.rest; changed = c.speak.ensures.clients; nop = c.speak.ensures.nop } in
    let there : c.args.k < length c.settle_stall.new.self.clients.items = spoken_range c.args.hall.now c.speak.new.hall c.args.k c.index.result.now c.in-Some.spot p c.settle_stall.new.self (clients_m c.args.hall.now c.speak.new.hall c.mark_stall.new.self c.args.k c.index.result.now c.in-Some.spot p c.mark_stall.ensures.rest c.mark_stall.ensures.stall g.F.Folder.tells_files c.number-number.result c.args.id c.args.delay c.give_back_at-answer.result (g.F.Folder.files c.args.folder.now) (g.F.Folder.files c.give_back_at-answer.new.folder) (g.F.Folder.folder_faults c.args.folder.now) (g.F.Folder.folder_faults c.give_back_at-answer.new.folder) c.give_back_at-answer.new.hall c.settle_stall.new.self c.mark_stall.ensures.sound c.give_back_at-answer.ensures.rest c.give_back_at-answer.ensures.stall c.settle_stall.ensures.rest) in
    subst (λ n. c.args.k < n) (sym c.settle_stall.new.self.clients.ok.0) there

pub returns-in-Done-clause-rest : goal.returns-in-Done-clause-rest
returns-in-Done-clause-rest g c = returned_rest c.args.hall.now c.speak.new.hall c.mark_stall.new.self c.give_back_at-answer.new.hall c.settle_stall.new.self _ c.speak.ensures.rest c.mark_stall.ensures.rest c.give_back_at-answer.ensures.rest c.settle_stall.ensures.rest refl

pub returns-in-Done-clause-clients : goal.returns-in-Done-clause-clients
returns-in-Done-clause-clients g c =
    let p : Spoke c.args.hall.now c.speak.new.hall c.args.k c.index.result.now c.in-Some.spot = record { sound = c.requires.sound; within = c.requires.client; read = c.index.ensures; of = c.in-Some.ensures; rest = c.speak.ensures.rest; changed = c.speak.ensures.clients; nop = c.speak.ensures.nop } in
    changed_twice (spoke c.args.hall.now.moment) (λ (d : Client). record d { requeue_count = counted d.requeue_count }) c.args.k c.args.hall.now.clients.items c.settle_stall.new.self.clients.items c.index_mut.result.now c.give_back.new.self c.requires.client
    (spoken_in c.args.hall.now c.speak.new.hall c.args.k c.index.result.now c.in-Some.spot p c.settle_stall.new.self (clients_m c.args.hall.now c.speak.new.hall c.mark_stall.new.self c.args.k c.index.result.now c.in-Some.spot p c.mark_stall.ensures.rest c.mark_stall.ensures.stall g.F.Folder.tells_files c.number-number.result c.args.id c.args.delay c.give_back_at-answer.result (g.F.Folder.files c.args.folder.now) (g.F.Folder.files c.give_back_at-answer.new.folder) (g.F.Folder.folder_faults c.args.folder.now) (g.F.Folder.folder_faults c.give_back_at-answer.new.folder) c.give_back_at-answer.new.hall c.settle_stall.new.self c.mark_stall.ensures.sound c.give_back_at-answer.ensures.rest c.give_back_at-answer.ensures.stall c.settle_stall.ensures.rest)) c.index_mut.ensures.value c.give_back.ensures

pub returns-in-Done-clause-sound : goal.returns-in-Done-clause-sound
returns-in-Done-clause-sound g c =
    let p : Spoke c.args.hall.now c.speak.new.hall c.args.k c.index.result.now c.in-Some.spot = record { sound = c.requires.sound; within = c.requires.client; read = c.index.ensures; of = c.in-Some.ensures; rest = c.speak.ensures.rest; changed = c.speak.ensures.clients; nop = c.speak.ensures.nop } in
    sound_client c.settle_stall.new.self _ c.args.k c.index_mut.result.now c.give_back.new.self (c.settle_stall.ensures.sound c.mark_stall.new.self (given_touches g.F.Folder.tells_files c.number-number.result c.args.id c.mark_stall.new.self.moment c.args.delay c.give_back_at-answer.result (g.F.Folder.files c.args.folder.now) (g.F.Folder.files c.give_back_at-answer.new.folder) (g.F.Folder.folder_faults c.args.folder.now) (g.F.Folder.folder_faults c.give_back_at-answer.new.folder) c.mark_stall.new.self c.give_back_at-answer.new.hall c.in-Some.spot c.mark_stall.ensures.sound c.give_back_at-answer.ensures.rest c.give_back_at-answer.ensures.stall (is_marked c.args.hall.now c.speak.new.hall c.mark_stall.new.self c.args.k c.index.result.now c.in-Some.spot p c.mark_stall.ensures.rest c.mark_stall.ensures.stall g.F.Folder.tells_files c.number-number.result c.args.id c.args.delay c.give_back_at-answer.result (g.F.Folder.files c.args.folder.now) (g.F.Folder.files c.give_back_at-answer.new.folder) (g.F.Folder.folder_faults c.args.folder.now) (g.F.Folder.folder_faults c.give_back_at-answer.new.folder) c.give_back_at-answer.new.hall c.settle_stall.new.self c.mark_stall.ensures.sound c.give_back_at-answer.ensures.rest c.give_back_at-answer.ensures.stall c.settle_stall.ensures.rest)))
    (changed_range (spoke c.args.hall.now.moment) c.args.k c.args.hall.now.clients.items c.settle_stall.new.self.clients.items c.requires.client (spoken_in c.args.hall.now c.speak.new.hall c.args.k c.index.result.now c.in-Some.spot p c.settle_stall.new.self (clients_m c.args.hall.now c.speak.new.hall c.mark_stall.new.self c.args.k c.index.result.now c.in-Some.spot p c.mark_stall.ensures.rest c.mark_stall.ensures.stall g.F.Folder.tells_files c.number-number.result c.args.id c.args.delay c.give_back_at-answer.result (g.F.Folder.files c.args.folder.now) (g.F.Folder.files c.give_back_at-answer.new.folder) (g.F.Folder.folder_faults c.args.folder.now) (g.F.Folder.folder_faults c.give_back_at-answer.new.folder) c.give_back_at-answer.new.hall c.settle_stall.new.self c.mark_stall.ensures.sound c.give_back_at-answer.ensures.rest c.give_back_at-answer.ensures.stall c.settle_stall.ensures.rest))) c.index_mut.ensures.value
    (counts_same c.index_mut.result.now c.give_back.new.self _ _ _ c.give_back.ensures) refl refl

pub returns-in-Done-clause-told : goal.returns-in-Done-clause-told
returns-in-Done-clause-told g c = λ told d wait.
    let p : Spoke c.args.hall.now c.speak.new.hall c.args.k c.index.result.now c.in-Some.spot = record { sound = c.requires.sound; within = c.requires.client; read = c.index.ensures; of = c.in-Some.ensures; rest = c.speak.ensures.rest; changed = c.speak.ensures.clients; nop = c.speak.ensures.nop } in
    returned_told c.args.hall.now c.speak.new.hall c.mark_stall.new.self c.args.k c.index.result.now c.in-Some.spot p c.mark_stall.ensures.rest c.mark_stall.ensures.stall g.F.Folder.tells_files c.number-number.result c.args.id c.args.delay c.give_back_at-answer.result (g.F.Folder.files c.args.folder.now) (g.F.Folder.files c.give_back_at-answer.new.folder) (g.F.Folder.folder_faults c.args.folder.now) (g.F.Folder.folder_faults c.give_back_at-answer.new.folder) c.give_back_at-answer.new.hall c.settle_stall.new.self c.mark_stall.ensures.sound c.give_back_at-answer.ensures.rest c.give_back_at-answer.ensures.stall c.settle_stall.ensures.rest _ c.index_mut.result.now c.give_back.new.self d c.number-number.ensures c.in-Done.is told wait (λ s holds. c.mark_stall.ensures.stands (g.F.Folder.files c.args.folder.now) s holds) (λ s holds. c.settle_stall.ensures.stands (g.F.Folder.files c.give_back_at-answer.new.folder) s holds) (c.settle_stall.ensures.sound c.mark_stall.new.self (given_touches g.F.Folder.tells_files c.number-number.result c.args.id c.mark_stall.new.self.moment c.args.delay c.give_back_at-answer.result (g.F.Folder.files c.args.folder.now) (g.F.Folder.files c.give_back_at-answer.new.folder) (g.F.Folder.folder_faults c.args.folder.now) (g.F.Folder.folder_faults c.give_back_at-answer.new.folder) c.mark_stall.new.self c.give_back_at-answer.new.hall c.in-Some.spot c.mark_stall.ensures.sound c.give_back_at-answer.ensures.rest c.give_back_at-answer.ensures.stall (is_marked c.args.hall.now c.speak.new.hall c.mark_stall.new.self c.args.k c.index.result.now c.in-Some.spot p c.mark_stall.ensures.rest c.mark_stall.ensures.stall g.F.Folder.tells_files c.number-number.result c.args.id c.args.delay c.give_back_at-answer.result (g.F.Folder.files c.args.folder.now) (g.F.Folder.files c.give_back_at-answer.new.folder) (g.F.Folder.folder_faults c.args.folder.now) (g.F.Folder.folder_faults c.give_back_at-answer.new.folder) c.give_back_at-answer.new.hall c.settle_stall.new.self c.mark_stall.ensures.sound c.give_back_at-answer.ensures.rest c.give_back_at-answer.ensures.stall c.settle_stall.ensures.rest))) c.index_mut.ensures.value c.give_back.ensures refl refl

pub returns-in-Done-clause-keeps : goal.returns-in-Done-clause-keeps
returns-in-Done-clause-keeps g c =
    let p : Spoke c.args.hall.now c.speak.new.hall c.args.k c.index.result.now c.in-Some.spot = record { sound = c.requires.sound; within = c.requires.client; read = c.index.ensures; of = c.in-Some.ensures; rest = c.speak.ensures.rest; changed = c.speak.ensures.clients; nop = c.speak.ensures.nop } in
    returned_keeps c.args.hall.now c.speak.new.hall c.mark_stall.new.self c.args.k c.index.result.now c.in-Some.spot p c.mark_stall.ensures.rest c.mark_stall.ensures.stall g.F.Folder.tells_files c.number-number.result c.args.id c.args.delay c.give_back_at-answer.result (g.F.Folder.files c.args.folder.now) (g.F.Folder.files c.give_back_at-answer.new.folder) (g.F.Folder.folder_faults c.args.folder.now) (g.F.Folder.folder_faults c.give_back_at-answer.new.folder) c.give_back_at-answer.new.hall c.settle_stall.new.self c.mark_stall.ensures.sound c.give_back_at-answer.ensures.rest c.give_back_at-answer.ensures.stall c.settle_stall.ensures.rest

pub returns-in-Done-clause-files : goal.returns-in-Done-clause-files
returns-in-Done-clause-files g c = given_files g.F.Folder.tells_files c.number-number.result c.args.id c.mark_stall.new.self.moment c.args.delay c.give_back_at-answer.result (g.F.Folder.files c.args.folder.now) (g.F.Folder.files c.give_back_at-answer.new.folder) (g.F.Folder.folder_faults c.args.folder.now) (g.F.Folder.folder_faults c.give_back_at-answer.new.folder) c.mark_stall.new.self c.give_back_at-answer.new.hall c.in-Some.spot c.mark_stall.ensures.sound c.give_back_at-answer.ensures.rest c.give_back_at-answer.ensures.stall

pub returns-in-Done-clause-faults : goal.returns-in-Done-clause-faults
returns-in-Done-clause-faults g c = given_faults g.F.Folder.tells_files c.number-number.result c.args.id c.mark_stall.new.self.moment c.args.delay c.give_back_at-answer.result (g.F.Folder.files c.args.folder.now) (g.F.Folder.files c.give_back_at-answer.new.folder) (g.F.Folder.folder_faults c.args.folder.now) (g.F.Folder.folder_faults c.give_back_at-answer.new.folder) c.mark_stall.new.self c.give_back_at-answer.new.hall c.in-Some.spot c.mark_stall.ensures.sound c.give_back_at-answer.ensures.rest c.give_back_at-answer.ensures.stall

pub returns-in-Done-clause-cause : goal.returns-in-Done-clause-cause
returns-in-Done-clause-cause g c = tt

pub returns-in-Fault-clause-rest : goal.returns-in-Fault-clause-rest
returns-in-Fault-clause-rest g c = kept_rest c.args.hall.now c.speak.new.hall c.mark_stall.new.self c.give_back_at-answer.new.hall c.settle_stall.new.self c.speak.ensures.rest c.mark_stall.ensures.rest c.give_back_at-answer.ensures.rest c.settle_stall.ensures.rest

pub returns-in-Fault-clause-clients : goal.returns-in-Fault-clause-clients
returns-in-Fault-clause-clients g c =
    let p : Spoke c.args.hall.now c.speak.new.hall c.args.k c.index.result.now c.in-Some.spot = record { sound = c.requires.sound; within = c.requires.client; read = c.index.ensures; of = c.in-Some.ensures; rest = c.speak.ensures.rest; changed = c.speak.ensures.clients; nop = c.speak.ensures.nop } in
    spoken_in c.args.hall.now c.speak.new.hall c.args.k c.index.result.now c.in-Some.spot p c.settle_stall.new.self (clients_m c.args.hall.now c.speak.new.hall c.mark_stall.new.self c.args.k c.index.result.now c.in-Some.spot p c.mark_stall.ensures.rest c.mark_stall.ensures.stall g.F.Folder.tells_files c.number-number.result c.args.id c.args.delay c.give_back_at-answer.result (g.F.Folder.files c.args.folder.now) (g.F.Folder.files c.give_back_at-answer.new.folder) (g.F.Folder.folder_faults c.args.folder.now) (g.F.Folder.folder_faults c.give_back_at-answer.new.folder) c.give_back_at-answer.new.hall c.settle_stall.new.self c.mark_stall.ensures.sound c.give_back_at-answer.ensures.rest c.give_back_at-answer.ensures.stall c.settle_stall.ensures.rest)

pub returns-in-Fault-clause-sound : goal.returns-in-Fault-clause-sound
returns-in-Fault-clause-sound g c =
    let p : Spoke c.args.hall.now c.speak.new.hall c.args.k c.index.result.now c.in-Some.spot = record { sound = c.requires.sound; within = c.requires.client; read = c.index.ensures; of = c.in-Some.ensures; rest = c.speak.ensures.rest; changed = c.speak.ensures.clients; nop = c.speak.ensures.nop } in
    c.settle_stall.ensures.sound c.mark_stall.new.self (given_touches g.F.Folder.tells_files c.number-number.result c.args.id c.mark_stall.new.self.moment c.args.delay c.give_back_at-answer.result (g.F.Folder.files c.args.folder.now) (g.F.Folder.files c.give_back_at-answer.new.folder) (g.F.Folder.folder_faults c.args.folder.now) (g.F.Folder.folder_faults c.give_back_at-answer.new.folder) c.mark_stall.new.self c.give_back_at-answer.new.hall c.in-Some.spot c.mark_stall.ensures.sound c.give_back_at-answer.ensures.rest c.give_back_at-answer.ensures.stall (is_marked c.args.hall.now c.speak.new.hall c.mark_stall.new.self c.args.k c.index.result.now c.in-Some.spot p c.mark_stall.ensures.rest c.mark_stall.ensures.stall g.F.Folder.tells_files c.number-number.result c.args.id c.args.delay c.give_back_at-answer.result (g.F.Folder.files c.args.folder.now) (g.F.Folder.files c.give_back_at-answer.new.folder) (g.F.Folder.folder_faults c.args.folder.now) (g.F.Folder.folder_faults c.give_back_at-answer.new.folder) c.give_back_at-answer.new.hall c.settle_stall.new.self c.mark_stall.ensures.sound c.give_back_at-answer.ensures.rest c.give_back_at-answer.ensures.stall c.settle_stall.ensures.rest))

pub returns-in-Fault-clause-told : goal.returns-in-Fault-clause-told
returns-in-Fault-clause-told g c = λ told d.
    let p : Spoke c.args.hall.now c.speak.new.hall c.args.k c.index.result.now c.in-Some.spot = record { sound = c.requires.sound; within = c.requires.client; read = c.index.ensures; of = c.in-Some.ensures; rest = c.speak.ensures.rest; changed = c.speak.ensures.clients; nop = c.speak.ensures.nop } in
    kept_told c.args.hall.now c.speak.new.hall c.mark_stall.new.self c.args.k c.index.result.now c.in-Some.spot p c.mark_stall.ensures.rest c.mark_stall.ensures.stall g.F.Folder.tells_files c.number-number.result c.args.id c.args.delay c.give_back_at-answer.result (g.F.Folder.files c.args.folder.now) (g.F.Folder.files c.give_back_at-answer.new.folder) (g.F.Folder.folder_faults c.args.folder.now) (g.F.Folder.folder_faults c.give_back_at-answer.new.folder) c.give_back_at-answer.new.hall c.settle_stall.new.self c.mark_stall.ensures.sound c.give_back_at-answer.ensures.rest c.give_back_at-answer.ensures.stall c.settle_stall.ensures.rest d c.in-Fault.is told (λ s holds. c.mark_stall.ensures.stands (g.F.Folder.files c.args.folder.now) s holds) (λ s holds. c.settle_stall.ensures.stands (g.F.Folder.files c.give_back_at-answer.new.folder) s holds)

pub returns-in-Fault-clause-keeps : goal.returns-in-Fault-clause-keeps
returns-in-Fault-clause-keeps g c =
    let p : Spoke c.args.hall.now c.speak.new.hall c.args.k c.index.result.now c.in-Some.spot = record { sound = c.requires.sound; within = c.requires.client; read = c.index.ensures; of = c.in-Some.ensures; rest = c.speak.ensures.rest; changed = c.speak.ensures.clients; nop = c.speak.ensures.nop } in
    returned_keeps c.args.hall.now c.speak.new.hall c.mark_stall.new.self c.args.k c.index.result.now c.in-Some.spot p c.mark_stall.ensures.rest c.mark_stall.ensures.stall g.F.Folder.tells_files c.number-number.result c.args.id c.args.delay c.give_back_at-answer.result (g.F.Folder.files c.args.folder.now) (g.F.Folder.files c.give_back_at-answer.new.folder) (g.F.Folder.folder_faults c.args.folder.now) (g.F.Folder.folder_faults c.give_back_at-answer.new.folder) c.give_back_at-answer.new.hall c.settle_stall.new.self c.mark_stall.ensures.sound c.give_back_at-answer.ensures.rest c.give_back_at-answer.ensures.stall c.settle_stall.ensures.rest

pub returns-in-Fault-clause-files : goal.returns-in-Fault-clause-files
returns-in-Fault-clause-files g c = given_files g.F.Folder.tells_files c.number-number.result c.args.id c.mark_stall.new.self.moment c.args.delay c.give_back_at-answer.result (g.F.Folder.files c.args.folder.now) (g.F.Folder.files c.give_back_at-answer.new.folder) (g.F.Folder.folder_faults c.args.folder.now) (g.F.Folder.folder_faults c.give_back_at-answer.new.folder) c.mark_stall.new.self c.give_back_at-answer.new.hall c.in-Some.spot c.mark_stall.ensures.sound c.give_back_at-answer.ensures.rest c.give_back_at-answer.ensures.stall

pub returns-in-Fault-clause-faults : goal.returns-in-Fault-clause-faults
returns-in-Fault-clause-faults g c = given_faults g.F.Folder.tells_files c.number-number.result c.args.id c.mark_stall.new.self.moment c.args.delay c.give_back_at-answer.result (g.F.Folder.files c.args.folder.now) (g.F.Folder.files c.give_back_at-answer.new.folder) (g.F.Folder.folder_faults c.args.folder.now) (g.F.Folder.folder_faults c.give_back_at-answer.new.folder) c.mark_stall.new.self c.give_back_at-answer.new.hall c.in-Some.spot c.mark_stall.ensures.sound c.give_back_at-answer.ensures.rest c.give_back_at-answer.ensures.stall

pub returns-in-Fault-clause-cause : goal.returns-in-Fault-clause-cause
returns-in-Fault-clause-cause g c = subst (RequeueFails c.args.delay (g.F.Folder.folder_faults c.args.folder.now) (g.F.Folder.folder_faults c.give_back_at-answer.new.folder)) c.in-Fault.is (given_cause g.F.Folder.tells_files c.number-number.result c.args.id c.mark_stall.new.self.moment c.args.delay c.give_back_at-answer.result (g.F.Folder.files c.args.folder.now) (g.F.Folder.files c.give_back_at-answer.new.folder) (g.F.Folder.folder_faults c.args.folder.now) (g.F.Folder.folder_faults c.give_back_at-answer.new.folder) c.mark_stall.new.self c.give_back_at-answer.new.hall c.in-Some.spot c.mark_stall.ensures.sound c.give_back_at-answer.ensures.rest c.give_back_at-answer.ensures.stall)
