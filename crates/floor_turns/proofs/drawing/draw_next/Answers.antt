use Rattle.std.proofs.Common.{◌∙◌, refl}
use Rattle.std.specs.Prelude.{IsSome}
use Rattle.channel_copies.specs.Clients.{client_of}
use Rattle.channel_core.specs.declared.answers.Next.TheVariants as next
use Rattle.floor_rooms.specs.declared.stall.Stall.{Stall}
use Rattle.floor_moves.specs.Moves.{sight}
use Rattle.floor_acts.proofs.Flying.{spot_holds, spot_range, spot_stall_range}
use Rattle.floor_turns.proofs.Answering.{acts_damage, acts_fault, acts_no_credit, acts_none_queued, acts_paused, acts_wants}
use Rattle.floor_turns.proofs.Rounds.{drawn_from, held_keeps, held_moment, held_round, held_there, held_wants, marked_running}
use Rattle.floor_turns.proofs.Sent.{client_behind, drawn_behind, drawn_short, moment_behind, order_behind, room_behind, some_is, stall_behind}
use Rattle.floor_turns.proofs.Serving.{member_at, spot_at}
use Rattle.floor_turns.proofs.drawing.draw_next.Goals as goal

pub draw-requires-clause-room : goal.draw-requires-clause-room
draw-requires-clause-room g c = spot_range c.args.hall.now.rooms.items (spot_at c.args.place) c.requires.serves.from.route c.requires.serves.from.stands

pub draw-requires-clause-stall : goal.draw-requires-clause-stall
draw-requires-clause-stall g c = spot_stall_range c.args.hall.now.rooms.items (spot_at c.args.place) c.requires.serves.from.route c.requires.serves.from.stands

pub draw-requires-clause-client : goal.draw-requires-clause-client
draw-requires-clause-client g c =
    spot_holds c.args.hall.now.rooms.items (spot_at c.args.place) c.requires.serves.from.route (λ (s : Stall). IsSome (client_of s.channel.clients c.args.number)) c.requires.serves.from.stands
    (some_is _ _ (member_at c.args.hall.now c.args.number c.requires.serves.client (spot_at c.args.place) c.requires.serves.from.route c.requires.sound c.requires.serves.there c.requires.serves.from.gets c.requires.serves.from.on c.requires.serves.from.stands))

pub send-requires-clause-order : goal.send-requires-clause-order
send-requires-clause-order g c = order_behind g.F.Folder.tells_files c.args.number c.args.place (next.Send c.in-Send.message) (g.F.Folder.files c.args.folder.now) (g.F.Folder.files c.draw.new.folder) (g.F.Folder.folder_faults c.args.folder.now) (g.F.Folder.folder_faults c.draw.new.folder) c.args.hall.now c.draw.new.hall c.in-Send.ensures.drawn

pub send-requires-clause-client : goal.send-requires-clause-client
send-requires-clause-client g c = client_behind g.F.Folder.tells_files c.args.number c.args.place (next.Send c.in-Send.message) (g.F.Folder.files c.args.folder.now) (g.F.Folder.files c.draw.new.folder) (g.F.Folder.folder_faults c.args.folder.now) (g.F.Folder.folder_faults c.draw.new.folder) c.args.hall.now c.draw.new.hall c.in-Send.ensures.drawn c.requires.serves

pub send-requires-clause-room : goal.send-requires-clause-room
send-requires-clause-room g c = room_behind g.F.Folder.tells_files c.args.number c.args.place (next.Send c.in-Send.message) (g.F.Folder.files c.args.folder.now) (g.F.Folder.files c.draw.new.folder) (g.F.Folder.folder_faults c.args.folder.now) (g.F.Folder.folder_faults c.draw.new.folder) c.args.hall.now c.draw.new.hall c.in-Send.ensures.drawn

pub send-requires-clause-stall : goal.send-requires-clause-stall
send-requires-clause-stall g c = stall_behind g.F.Folder.tells_files c.args.number c.args.place (next.Send c.in-Send.message) (g.F.Folder.files c.args.folder.now) (g.F.Folder.files c.draw.new.folder) (g.F.Folder.folder_faults c.args.folder.now) (g.F.Folder.folder_faults c.draw.new.folder) c.args.hall.now c.draw.new.hall c.in-Send.ensures.drawn

pub send-requires-clause-drawn : goal.send-requires-clause-drawn
send-requires-clause-drawn g c = drawn_behind g.F.Folder.tells_files c.args.number c.args.place c.in-Send.message (g.F.Folder.files c.args.folder.now) (g.F.Folder.files c.draw.new.folder) (g.F.Folder.folder_faults c.args.folder.now) (g.F.Folder.folder_faults c.draw.new.folder) c.args.hall.now c.draw.new.hall c.in-Send.ensures.drawn c.requires.serves

pub send-requires-clause-short : goal.send-requires-clause-short
send-requires-clause-short g c = drawn_short g.F.Folder.tells_files c.args.number c.args.place c.in-Send.message (g.F.Folder.files c.args.folder.now) (g.F.Folder.files c.draw.new.folder) (g.F.Folder.folder_faults c.args.folder.now) (g.F.Folder.folder_faults c.draw.new.folder) c.args.hall.now c.draw.new.hall c.in-Send.ensures.drawn

pub send-requires-clause-moment : goal.send-requires-clause-moment
send-requires-clause-moment g c = moment_behind g.F.Folder.tells_files c.args.number c.args.place (next.Send c.in-Send.message) (g.F.Folder.files c.args.folder.now) (g.F.Folder.files c.draw.new.folder) (g.F.Folder.folder_faults c.args.folder.now) (g.F.Folder.folder_faults c.draw.new.folder) c.args.hall.now c.draw.new.hall c.in-Send.ensures.drawn

pub returns-in-Send : goal.returns-in-Send
returns-in-Send g c = record {
  rounds = c.send.ensures.acts c.args.hall.now (g.F.Folder.files c.args.folder.now) (g.F.Folder.folder_faults c.args.folder.now) c.in-Send.ensures.drawn c.requires.sound c.requires.running c.requires.serves;
  sound = c.send.ensures.sound c.args.hall.now (g.F.Folder.files c.args.folder.now) (g.F.Folder.folder_faults c.args.folder.now) c.in-Send.ensures.drawn;
  files = λ told file other. c.send.ensures.files c.args.hall.now (g.F.Folder.files c.args.folder.now) (g.F.Folder.folder_faults c.args.folder.now) c.in-Send.ensures.drawn told file other ∙ c.draw.ensures.files told file other;
  calm = c.send.ensures.calm;
}

pub hold_back-requires-clause-held : goal.hold_back-requires-clause-held
hold_back-requires-clause-held g c = held_there g.J.Journal.tells_notes g.F.Folder.tells_files c.args.number c.args.place c.in-Held.id (g.F.Folder.files c.args.folder.now) (g.F.Folder.files c.draw.new.folder) (g.F.Folder.folder_faults c.args.folder.now) (g.F.Folder.folder_faults c.draw.new.folder) c.args.hall.now c.draw.new.hall c.in-Held.ensures.drawn

pub hold_back-requires-clause-moment : goal.hold_back-requires-clause-moment
hold_back-requires-clause-moment g c = held_moment g.J.Journal.tells_notes g.F.Folder.tells_files c.args.number c.args.place c.in-Held.id (g.F.Folder.files c.args.folder.now) (g.F.Folder.files c.draw.new.folder) (g.F.Folder.folder_faults c.args.folder.now) (g.F.Folder.folder_faults c.draw.new.folder) c.args.hall.now c.draw.new.hall c.in-Held.ensures.drawn

pub returns-in-Ok : goal.returns-in-Ok
returns-in-Ok g c = record {
  rounds = (
    held_round g.J.Journal.tells_notes g.F.Folder.tells_files c.args.number c.args.place c.in-Held.id (g.F.Folder.files c.args.folder.now) (g.F.Folder.files c.draw.new.folder) (g.F.Folder.folder_faults c.args.folder.now) (g.F.Folder.folder_faults c.draw.new.folder) c.args.hall.now c.draw.new.hall c.in-Held.ensures.drawn (g.J.Journal.notes c.args.journal.now) (sight c.hold_back.new.hall (g.J.Journal.notes c.hold_back.new.journal) (g.F.Folder.files c.hold_back.new.folder) (g.F.Folder.folder_faults c.hold_back.new.folder)) (c.in-Ok.ensures.moves (sight c.in-Held.ensures.drawn.marked (g.J.Journal.notes c.args.journal.now) (g.F.Folder.files c.args.folder.now) (g.F.Folder.folder_faults c.args.folder.now)) (drawn_from g.J.Journal.tells_notes g.F.Folder.tells_files c.args.number c.args.place c.in-Held.id (g.F.Folder.files c.args.folder.now) (g.F.Folder.files c.draw.new.folder) (g.F.Folder.folder_faults c.args.folder.now) (g.F.Folder.folder_faults c.draw.new.folder) c.args.hall.now c.draw.new.hall c.in-Held.ensures.drawn (g.J.Journal.notes c.args.journal.now)) (marked_running g.J.Journal.tells_notes g.F.Folder.tells_files c.args.number c.args.place c.in-Held.id (g.F.Folder.files c.args.folder.now) (g.F.Folder.files c.draw.new.folder) (g.F.Folder.folder_faults c.args.folder.now) (g.F.Folder.folder_faults c.draw.new.folder) c.args.hall.now c.draw.new.hall c.in-Held.ensures.drawn c.requires.running)),
    held_keeps g.J.Journal.tells_notes g.F.Folder.tells_files c.args.number c.args.place c.in-Held.id (g.F.Folder.files c.args.folder.now) (g.F.Folder.files c.draw.new.folder) (g.F.Folder.folder_faults c.args.folder.now) (g.F.Folder.folder_faults c.draw.new.folder) c.args.hall.now c.draw.new.hall c.in-Held.ensures.drawn c.hold_back.new.hall (c.hold_back.ensures.keeps (sight c.in-Held.ensures.drawn.marked (g.J.Journal.notes c.args.journal.now) (g.F.Folder.files c.args.folder.now) (g.F.Folder.folder_faults c.args.folder.now)) (drawn_from g.J.Journal.tells_notes g.F.Folder.tells_files c.args.number c.args.place c.in-Held.id (g.F.Folder.files c.args.folder.now) (g.F.Folder.files c.draw.new.folder) (g.F.Folder.folder_faults c.args.folder.now) (g.F.Folder.folder_faults c.draw.new.folder) c.args.hall.now c.draw.new.hall c.in-Held.ensures.drawn (g.J.Journal.notes c.args.journal.now))),
  );
  sound = c.hold_back.ensures.sound (sight c.in-Held.ensures.drawn.marked (g.J.Journal.notes c.args.journal.now) (g.F.Folder.files c.args.folder.now) (g.F.Folder.folder_faults c.args.folder.now)) (drawn_from g.J.Journal.tells_notes g.F.Folder.tells_files c.args.number c.args.place c.in-Held.id (g.F.Folder.files c.args.folder.now) (g.F.Folder.files c.draw.new.folder) (g.F.Folder.folder_faults c.args.folder.now) (g.F.Folder.folder_faults c.draw.new.folder) c.args.hall.now c.draw.new.hall c.in-Held.ensures.drawn (g.J.Journal.notes c.args.journal.now));
  files = c.hold_back.ensures.files (sight c.in-Held.ensures.drawn.marked (g.J.Journal.notes c.args.journal.now) (g.F.Folder.files c.args.folder.now) (g.F.Folder.folder_faults c.args.folder.now)) (drawn_from g.J.Journal.tells_notes g.F.Folder.tells_files c.args.number c.args.place c.in-Held.id (g.F.Folder.files c.args.folder.now) (g.F.Folder.files c.draw.new.folder) (g.F.Folder.folder_faults c.args.folder.now) (g.F.Folder.folder_faults c.draw.new.folder) c.args.hall.now c.draw.new.hall c.in-Held.ensures.drawn (g.J.Journal.notes c.args.journal.now));
  calm = c.hold_back.ensures.calm;
}

pub returns-in-Err : goal.returns-in-Err
returns-in-Err g c = record {
  rounds = held_wants g.J.Journal.tells_notes g.F.Folder.tells_files c.args.number c.args.place c.in-Held.id (g.F.Folder.files c.args.folder.now) (g.F.Folder.files c.draw.new.folder) (g.F.Folder.folder_faults c.args.folder.now) (g.F.Folder.folder_faults c.draw.new.folder) c.args.hall.now c.draw.new.hall c.in-Held.ensures.drawn (g.J.Journal.notes c.args.journal.now) c.hold_back.new.hall (g.J.Journal.notes c.hold_back.new.journal) (g.F.Folder.files c.hold_back.new.folder) (g.F.Folder.folder_faults c.hold_back.new.folder) c.requires.sound (c.hold_back.ensures.keeps (sight c.in-Held.ensures.drawn.marked (g.J.Journal.notes c.args.journal.now) (g.F.Folder.files c.args.folder.now) (g.F.Folder.folder_faults c.args.folder.now)) (drawn_from g.J.Journal.tells_notes g.F.Folder.tells_files c.args.number c.args.place c.in-Held.id (g.F.Folder.files c.args.folder.now) (g.F.Folder.files c.draw.new.folder) (g.F.Folder.folder_faults c.args.folder.now) (g.F.Folder.folder_faults c.draw.new.folder) c.args.hall.now c.draw.new.hall c.in-Held.ensures.drawn (g.J.Journal.notes c.args.journal.now))) (c.in-Err.ensures.rests (sight c.in-Held.ensures.drawn.marked (g.J.Journal.notes c.args.journal.now) (g.F.Folder.files c.args.folder.now) (g.F.Folder.folder_faults c.args.folder.now)) (drawn_from g.J.Journal.tells_notes g.F.Folder.tells_files c.args.number c.args.place c.in-Held.id (g.F.Folder.files c.args.folder.now) (g.F.Folder.files c.draw.new.folder) (g.F.Folder.folder_faults c.args.folder.now) (g.F.Folder.folder_faults c.draw.new.folder) c.args.hall.now c.draw.new.hall c.in-Held.ensures.drawn (g.J.Journal.notes c.args.journal.now)));
  sound = c.hold_back.ensures.sound (sight c.in-Held.ensures.drawn.marked (g.J.Journal.notes c.args.journal.now) (g.F.Folder.files c.args.folder.now) (g.F.Folder.folder_faults c.args.folder.now)) (drawn_from g.J.Journal.tells_notes g.F.Folder.tells_files c.args.number c.args.place c.in-Held.id (g.F.Folder.files c.args.folder.now) (g.F.Folder.files c.draw.new.folder) (g.F.Folder.folder_faults c.args.folder.now) (g.F.Folder.folder_faults c.draw.new.folder) c.args.hall.now c.draw.new.hall c.in-Held.ensures.drawn (g.J.Journal.notes c.args.journal.now));
  files = c.hold_back.ensures.files (sight c.in-Held.ensures.drawn.marked (g.J.Journal.notes c.args.journal.now) (g.F.Folder.files c.args.folder.now) (g.F.Folder.folder_faults c.args.folder.now)) (drawn_from g.J.Journal.tells_notes g.F.Folder.tells_files c.args.number c.args.place c.in-Held.id (g.F.Folder.files c.args.folder.now) (g.F.Folder.files c.draw.new.folder) (g.F.Folder.folder_faults c.args.folder.now) (g.F.Folder.folder_faults c.draw.new.folder) c.args.hall.now c.draw.new.hall c.in-Held.ensures.drawn (g.J.Journal.notes c.args.journal.now));
  calm = c.hold_back.ensures.calm;
}

pub returns-in-NoCredit : goal.returns-in-NoCredit
returns-in-NoCredit g c = record {
  rounds = acts_no_credit g.J.Journal.tells_notes g.F.Folder.tells_files c.args.number c.args.place c.args.hall.now c.draw.new.hall (g.J.Journal.notes c.args.journal.now) (g.J.Journal.notes c.rest.new.journal) (g.F.Folder.files c.args.folder.now) (g.F.Folder.files c.draw.new.folder) (g.F.Folder.folder_faults c.args.folder.now) (g.F.Folder.folder_faults c.draw.new.folder) c.requires.sound c.requires.running c.requires.serves c.rest.result c.in-NoCredit.ensures.drawn (c.in-NoCredit.ensures.told tt) c.rest.ensures.noted;
  sound = c.in-NoCredit.ensures.sound tt;
  calm = c.rest.ensures.calm;
  files = c.draw.ensures.files;
}

pub returns-in-Paused : goal.returns-in-Paused
returns-in-Paused g c = record {
  rounds = acts_paused g.J.Journal.tells_notes g.F.Folder.tells_files c.args.number c.args.place c.args.hall.now c.draw.new.hall (g.J.Journal.notes c.args.journal.now) (g.J.Journal.notes c.rest-in-Paused.new.journal) (g.F.Folder.files c.args.folder.now) (g.F.Folder.files c.draw.new.folder) (g.F.Folder.folder_faults c.args.folder.now) (g.F.Folder.folder_faults c.draw.new.folder) c.requires.sound c.requires.running c.requires.serves c.rest-in-Paused.result c.in-Paused.ensures.drawn (c.in-Paused.ensures.told tt) c.rest-in-Paused.ensures.noted;
  sound = c.in-Paused.ensures.sound tt;
  calm = c.rest-in-Paused.ensures.calm;
  files = c.draw.ensures.files;
}

pub returns-in-NoneQueued : goal.returns-in-NoneQueued
returns-in-NoneQueued g c = record {
  rounds = acts_none_queued g.J.Journal.tells_notes g.F.Folder.tells_files c.args.number c.args.place c.args.hall.now c.draw.new.hall (g.J.Journal.notes c.args.journal.now) (g.J.Journal.notes c.rest-in-NoneQueued.new.journal) (g.F.Folder.files c.args.folder.now) (g.F.Folder.files c.draw.new.folder) (g.F.Folder.folder_faults c.args.folder.now) (g.F.Folder.folder_faults c.draw.new.folder) c.requires.sound c.requires.running c.requires.serves c.rest-in-NoneQueued.result c.in-NoneQueued.ensures.drawn (c.in-NoneQueued.ensures.told tt) c.rest-in-NoneQueued.ensures.noted;
  sound = c.in-NoneQueued.ensures.sound tt;
  calm = c.rest-in-NoneQueued.ensures.calm;
  files = c.draw.ensures.files;
}

pub returns-in-Fault : goal.returns-in-Fault
returns-in-Fault g c = record {
  rounds = acts_fault g.J.Journal.tells_notes g.F.Folder.tells_files c.args.number c.args.place c.args.hall.now c.draw.new.hall (g.J.Journal.notes c.args.journal.now) (g.J.Journal.notes c.stick.new.journal) (g.F.Folder.files c.args.folder.now) (g.F.Folder.files c.draw.new.folder) (g.F.Folder.folder_faults c.args.folder.now) (g.F.Folder.folder_faults c.draw.new.folder) c.requires.sound c.requires.running c.requires.serves c.stick.result c.in-Fault.ensures.drawn (c.in-Fault.ensures.told tt) c.in-Fault.ensures.fault c.stick.ensures.noted;
  sound = c.in-Fault.ensures.sound tt;
  calm = c.stick.ensures.calm;
  files = c.draw.ensures.files;
}

pub returns-in-Damaged : goal.returns-in-Damaged
returns-in-Damaged g c = record {
  rounds = acts_damage g.J.Journal.tells_notes g.F.Folder.tells_files c.args.number c.args.place c.args.hall.now c.draw.new.hall (g.J.Journal.notes c.args.journal.now) (g.J.Journal.notes c.stick-in-Damaged.new.journal) (g.F.Folder.files c.args.folder.now) (g.F.Folder.files c.draw.new.folder) (g.F.Folder.folder_faults c.args.folder.now) (g.F.Folder.folder_faults c.draw.new.folder) c.requires.sound c.requires.running c.requires.serves c.stick-in-Damaged.result c.in-Damaged.ensures.drawn (c.in-Damaged.ensures.told tt) c.stick-in-Damaged.ensures.noted;
  sound = c.in-Damaged.ensures.sound tt;
  calm = c.stick-in-Damaged.ensures.calm;
  files = c.draw.ensures.files;
}

pub returns-in-Memory : goal.returns-in-Memory
returns-in-Memory g c = record {
  rounds = acts_wants g.J.Journal.tells_notes g.F.Folder.tells_files c.args.number c.args.place c.args.hall.now c.draw.new.hall (g.J.Journal.notes c.args.journal.now) (g.J.Journal.notes c.args.journal.now) (g.F.Folder.files c.args.folder.now) (g.F.Folder.files c.draw.new.folder) (g.F.Folder.folder_faults c.args.folder.now) (g.F.Folder.folder_faults c.draw.new.folder) c.requires.sound c.requires.running c.requires.serves c.in-Memory.ensures.drawn (c.in-Memory.ensures.told tt) (λ told. refl);
  sound = c.in-Memory.ensures.sound tt;
  calm = c.requires.calm;
  files = c.draw.ensures.files;
}

pub stick-requires-clause-room : goal.stick-requires-clause-room
stick-requires-clause-room g c = room_behind g.F.Folder.tells_files c.args.number c.args.place next.Fault (g.F.Folder.files c.args.folder.now) (g.F.Folder.files c.draw.new.folder) (g.F.Folder.folder_faults c.args.folder.now) (g.F.Folder.folder_faults c.draw.new.folder) c.args.hall.now c.draw.new.hall c.in-Fault.ensures.drawn

pub stick-requires-clause-stall : goal.stick-requires-clause-stall
stick-requires-clause-stall g c = stall_behind g.F.Folder.tells_files c.args.number c.args.place next.Fault (g.F.Folder.files c.args.folder.now) (g.F.Folder.files c.draw.new.folder) (g.F.Folder.folder_faults c.args.folder.now) (g.F.Folder.folder_faults c.draw.new.folder) c.args.hall.now c.draw.new.hall c.in-Fault.ensures.drawn

pub stick-requires-in-Damaged-clause-room : goal.stick-requires-in-Damaged-clause-room
stick-requires-in-Damaged-clause-room g c = room_behind g.F.Folder.tells_files c.args.number c.args.place next.Damaged (g.F.Folder.files c.args.folder.now) (g.F.Folder.files c.draw.new.folder) (g.F.Folder.folder_faults c.args.folder.now) (g.F.Folder.folder_faults c.draw.new.folder) c.args.hall.now c.draw.new.hall c.in-Damaged.ensures.drawn

pub stick-requires-in-Damaged-clause-stall : goal.stick-requires-in-Damaged-clause-stall
stick-requires-in-Damaged-clause-stall g c = stall_behind g.F.Folder.tells_files c.args.number c.args.place next.Damaged (g.F.Folder.files c.args.folder.now) (g.F.Folder.files c.draw.new.folder) (g.F.Folder.folder_faults c.args.folder.now) (g.F.Folder.folder_faults c.draw.new.folder) c.args.hall.now c.draw.new.hall c.in-Damaged.ensures.drawn

pub draw-requires-clause-sound : goal.draw-requires-clause-sound
draw-requires-clause-sound g c = c.requires.sound

pub draw-requires-clause-scratch : goal.draw-requires-clause-scratch
draw-requires-clause-scratch g c = c.requires.scratch

pub send-requires-clause-calm : goal.send-requires-clause-calm
send-requires-clause-calm g c = c.requires.calm

pub hold_back-requires-clause-calm : goal.hold_back-requires-clause-calm
hold_back-requires-clause-calm g c = c.requires.calm

pub stick-requires-clause-calm : goal.stick-requires-clause-calm
stick-requires-clause-calm g c = c.requires.calm

pub stick-requires-in-Damaged-clause-calm : goal.stick-requires-in-Damaged-clause-calm
stick-requires-in-Damaged-clause-calm g c = c.requires.calm
