use Rattle.std.proofs.Common.{min}
use Rattle.floor_topics.proofs.Emptied.{empty_files, topic_emptied, topic_names, topic_since, topic_sound}
use Rattle.floor_topics.proofs.Frames.{frame_marked}
use Rattle.floor_topics.proofs.Marks.{range_behind}
use Rattle.floor_topics.proofs.emptying.empty_topic.Goals as goal

pub returns : goal.returns
returns g c = record {
  told = λ told d s holds. topic_emptied g.F.Folder.tells_files c.args.hall.now c.mark_room.new.self c.empty_room.new.hall (g.F.Folder.files c.args.folder.now) (g.F.Folder.files c.empty_room.new.folder) c.empty_room.result c.args.i (min c.args.hall.now.unsaved_from c.args.hall.now.moment) c.mark_room.ensures.rest c.mark_room.ensures.room c.mark_room.ensures.sound c.empty_room.ensures.rest c.empty_room.ensures.room told d s (c.mark_room.ensures.stands (g.F.Folder.files c.args.folder.now) s holds);
  rest = frame_marked c.args.hall.now c.mark_room.new.self c.empty_room.new.hall (min c.args.hall.now.unsaved_from c.args.hall.now.moment) c.mark_room.ensures.rest c.empty_room.ensures.rest;
  sound = topic_sound g.F.Folder.tells_files c.args.hall.now c.mark_room.new.self c.empty_room.new.hall (g.F.Folder.files c.args.folder.now) (g.F.Folder.files c.empty_room.new.folder) c.empty_room.result c.args.i (min c.args.hall.now.unsaved_from c.args.hall.now.moment) c.mark_room.ensures.rest c.mark_room.ensures.room c.mark_room.ensures.sound c.empty_room.ensures.rest c.empty_room.ensures.room;
  names = topic_names g.F.Folder.tells_files c.args.hall.now c.mark_room.new.self c.empty_room.new.hall (g.F.Folder.files c.args.folder.now) (g.F.Folder.files c.empty_room.new.folder) c.empty_room.result c.args.i (min c.args.hall.now.unsaved_from c.args.hall.now.moment) c.mark_room.ensures.rest c.mark_room.ensures.room c.mark_room.ensures.sound c.empty_room.ensures.rest c.empty_room.ensures.room;
  since = topic_since g.F.Folder.tells_files c.args.hall.now c.mark_room.new.self c.empty_room.new.hall (g.F.Folder.files c.args.folder.now) (g.F.Folder.files c.empty_room.new.folder) c.empty_room.result c.args.i (min c.args.hall.now.unsaved_from c.args.hall.now.moment) c.mark_room.ensures.rest c.mark_room.ensures.room c.mark_room.ensures.sound c.empty_room.ensures.rest c.empty_room.ensures.room;
  files = λ told. empty_files g.F.Folder.tells_files c.mark_room.new.self c.empty_room.new.hall (g.F.Folder.files c.args.folder.now) (g.F.Folder.files c.empty_room.new.folder) c.empty_room.result c.args.i c.mark_room.ensures.sound c.empty_room.ensures.rest c.empty_room.ensures.room told;
  faults = c.empty_room.ensures.faults;
  cause = c.empty_room.ensures.cause;
}

pub mark_room-requires-clause-sound : goal.mark_room-requires-clause-sound
mark_room-requires-clause-sound g c = c.requires.sound

pub mark_room-requires-clause-room : goal.mark_room-requires-clause-room
mark_room-requires-clause-room g c = c.requires.room

pub empty_room-requires-clause-sound : goal.empty_room-requires-clause-sound
empty_room-requires-clause-sound g c = c.mark_room.ensures.sound

pub empty_room-requires-clause-room : goal.empty_room-requires-clause-room
empty_room-requires-clause-room g c = range_behind c.args.i _ c.args.hall.now.rooms.items c.mark_room.new.self.rooms.items c.mark_room.ensures.room
