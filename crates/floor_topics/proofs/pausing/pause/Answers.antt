use Rattle.std.proofs.Common.{◌≡◌, ◌<◌, List, length, sym, ap, subst}
use Rattle.floor_rooms.specs.declared.hall.Hall.{Hall}
use Rattle.floor_rooms.specs.declared.room.Room.{Room}
use Rattle.floor_rooms.specs.Standing.{Carries}
use Rattle.floor_topics.proofs.Frames.{frame_paused, frame_spaced, on_error, spaced_names, spaced_since, spaced_stays}
use Rattle.floor_topics.proofs.Marks.{range_behind}
use Rattle.floor_topics.proofs.Paused.{pause_names, pause_notes, pause_since, pause_sound, pause_told}
use Rattle.floor_topics.proofs.pausing.pause.Goals as goal

pub returns : goal.returns
returns c = record {
  paused = λ files d s holds. pause_told c.args.hall.now c.reserve_room.new.self c.list_room.new.self c.set_paused.new.hall c.args.i c.args.on c.reserve_room.ensures.rest c.reserve_room.ensures.rooms c.list_room.ensures.rest c.list_room.ensures.room (c.list_room.ensures.sound (c.reserve_room.ensures.sound c.requires.sound)) c.set_paused.ensures.rest c.set_paused.ensures.room files d s (c.list_room.ensures.stands files s (c.reserve_room.ensures.stands files s holds));
  stays = λ files. tt;
  unsaved = λ d. pause_notes c.args.hall.now c.reserve_room.new.self c.list_room.new.self c.set_paused.new.hall c.args.i c.args.on c.reserve_room.ensures.rest c.reserve_room.ensures.rooms c.list_room.ensures.rest c.list_room.ensures.room (c.list_room.ensures.sound (c.reserve_room.ensures.sound c.requires.sound)) c.set_paused.ensures.rest c.set_paused.ensures.room c.set_paused.ensures.unsaved d;
  none = tt;
  rest = frame_paused c.args.hall.now c.reserve_room.new.self c.list_room.new.self c.set_paused.new.hall c.reserve_room.ensures.rest c.list_room.ensures.rest c.set_paused.ensures.rest;
  sound = pause_sound c.args.hall.now c.reserve_room.new.self c.list_room.new.self c.set_paused.new.hall c.args.i c.args.on c.reserve_room.ensures.rest c.reserve_room.ensures.rooms c.list_room.ensures.rest c.list_room.ensures.room (c.list_room.ensures.sound (c.reserve_room.ensures.sound c.requires.sound)) c.set_paused.ensures.rest c.set_paused.ensures.room;
  names = pause_names c.args.hall.now c.reserve_room.new.self c.list_room.new.self c.set_paused.new.hall c.args.i c.args.on c.reserve_room.ensures.rest c.reserve_room.ensures.rooms c.list_room.ensures.rest c.list_room.ensures.room (c.list_room.ensures.sound (c.reserve_room.ensures.sound c.requires.sound)) c.set_paused.ensures.rest c.set_paused.ensures.room c.set_paused.ensures.unsaved;
  since = pause_since c.args.hall.now c.reserve_room.new.self c.list_room.new.self c.set_paused.new.hall c.args.i c.args.on c.reserve_room.ensures.rest c.reserve_room.ensures.rooms c.list_room.ensures.rest c.list_room.ensures.room (c.list_room.ensures.sound (c.reserve_room.ensures.sound c.requires.sound)) c.set_paused.ensures.rest c.set_paused.ensures.room;
}

pub returns-in_err-reserve_room-clause-rest : goal.returns-in_err-reserve_room-clause-rest
returns-in_err-reserve_room-clause-rest c = frame_spaced c.args.hall.now c.reserve_room.new.self c.reserve_room.ensures.rest

pub returns-in_err-reserve_room-clause-stays : goal.returns-in_err-reserve_room-clause-stays
returns-in_err-reserve_room-clause-stays c = λ files. on_error c.from_residual.result (Carries c.args.hall.now files c.reserve_room.new.self files (λ s t. t ≡ s)) (spaced_stays c.args.hall.now c.reserve_room.new.self files (c.reserve_room.ensures.stands files))

pub returns-in_err-reserve_room-clause-none : goal.returns-in_err-reserve_room-clause-none
returns-in_err-reserve_room-clause-none c = on_error c.from_residual.result (c.reserve_room.new.self.unsaved_names ≡ c.args.hall.now.unsaved_names) (ap (λ (x : Hall). x.unsaved_names) c.reserve_room.ensures.rest)

pub returns-in_err-reserve_room-clause-sound : goal.returns-in_err-reserve_room-clause-sound
returns-in_err-reserve_room-clause-sound c = c.reserve_room.ensures.sound c.requires.sound

pub returns-in_err-reserve_room-clause-names : goal.returns-in_err-reserve_room-clause-names
returns-in_err-reserve_room-clause-names c = spaced_names c.args.hall.now c.reserve_room.new.self c.reserve_room.ensures.rest c.reserve_room.ensures.rooms

pub returns-in_err-reserve_room-clause-since : goal.returns-in_err-reserve_room-clause-since
returns-in_err-reserve_room-clause-since c = spaced_since c.args.hall.now c.reserve_room.new.self c.reserve_room.ensures.rooms

pub list_room-requires-clause-room : goal.list_room-requires-clause-room
list_room-requires-clause-room c = subst (λ (rs : List Room). c.args.i < length rs) (sym c.reserve_room.ensures.rooms) c.requires.room

pub list_room-requires-clause-space : goal.list_room-requires-clause-space
list_room-requires-clause-space c = c.in_ok-reserve_room.ensures.list

pub set_paused-requires-clause-sound : goal.set_paused-requires-clause-sound
set_paused-requires-clause-sound c = c.list_room.ensures.sound (c.reserve_room.ensures.sound c.requires.sound)

pub set_paused-requires-clause-room : goal.set_paused-requires-clause-room
set_paused-requires-clause-room c = range_behind c.args.i _ c.reserve_room.new.self.rooms.items c.list_room.new.self.rooms.items c.list_room.ensures.room
