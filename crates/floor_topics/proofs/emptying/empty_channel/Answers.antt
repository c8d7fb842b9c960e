use Rattle.std.proofs.Common.{min}
use Rattle.floor_topics.proofs.Copies.{channel_emptied, channel_names, channel_since, channel_touches, copies_files}
use Rattle.floor_topics.proofs.Frames.{frame_settled}
use Rattle.floor_topics.proofs.Marks.{range_behind, stall_range_behind}
use Rattle.floor_topics.proofs.emptying.empty_channel.Goals as goal

pub returns : goal.returns
returns g c = record {
  told =
      λ told d x s holds.
      let r = channel_emptied g.F.Folder.tells_files c.args.hall.now c.mark_stall.new.self c.empty_stall-emptied.new.hall c.settle_stall.new.self (g.F.Folder.files c.args.folder.now) (g.F.Folder.files c.empty_stall-emptied.new.folder) (g.F.Folder.folder_faults c.args.folder.now) (g.F.Folder.folder_faults c.empty_stall-emptied.new.folder) c.empty_stall-emptied.result c.args.i c.args.j (min c.args.hall.now.unsaved_from c.args.hall.now.moment) c.mark_stall.ensures.rest c.mark_stall.ensures.stall c.mark_stall.ensures.sound c.empty_stall-emptied.ensures.rest c.empty_stall-emptied.ensures.stall c.settle_stall.ensures.rest told d x s (c.mark_stall.ensures.stands (g.F.Folder.files c.args.folder.now) s holds) in
      (r.0, r.1, c.settle_stall.ensures.stands (g.F.Folder.files c.empty_stall-emptied.new.folder) r.0 r.2);
  rest = frame_settled c.args.hall.now c.mark_stall.new.self c.empty_stall-emptied.new.hall c.settle_stall.new.self (min c.args.hall.now.unsaved_from c.args.hall.now.moment) c.mark_stall.ensures.rest c.empty_stall-emptied.ensures.rest c.settle_stall.ensures.rest;
  sound = c.settle_stall.ensures.sound c.mark_stall.new.self (channel_touches g.F.Folder.tells_files c.args.hall.now c.mark_stall.new.self c.empty_stall-emptied.new.hall c.settle_stall.new.self (g.F.Folder.files c.args.folder.now) (g.F.Folder.files c.empty_stall-emptied.new.folder) (g.F.Folder.folder_faults c.args.folder.now) (g.F.Folder.folder_faults c.empty_stall-emptied.new.folder) c.empty_stall-emptied.result c.args.i c.args.j (min c.args.hall.now.unsaved_from c.args.hall.now.moment) c.mark_stall.ensures.rest c.mark_stall.ensures.stall c.mark_stall.ensures.sound c.empty_stall-emptied.ensures.rest c.empty_stall-emptied.ensures.stall c.settle_stall.ensures.rest);
  names = channel_names g.F.Folder.tells_files c.args.hall.now c.mark_stall.new.self c.empty_stall-emptied.new.hall c.settle_stall.new.self (g.F.Folder.files c.args.folder.now) (g.F.Folder.files c.empty_stall-emptied.new.folder) (g.F.Folder.folder_faults c.args.folder.now) (g.F.Folder.folder_faults c.empty_stall-emptied.new.folder) c.empty_stall-emptied.result c.args.i c.args.j (min c.args.hall.now.unsaved_from c.args.hall.now.moment) c.mark_stall.ensures.rest c.mark_stall.ensures.stall c.mark_stall.ensures.sound c.empty_stall-emptied.ensures.rest c.empty_stall-emptied.ensures.stall c.settle_stall.ensures.rest;
  since = channel_since g.F.Folder.tells_files c.args.hall.now c.mark_stall.new.self c.empty_stall-emptied.new.hall c.settle_stall.new.self (g.F.Folder.files c.args.folder.now) (g.F.Folder.files c.empty_stall-emptied.new.folder) (g.F.Folder.folder_faults c.args.folder.now) (g.F.Folder.folder_faults c.empty_stall-emptied.new.folder) c.empty_stall-emptied.result c.args.i c.args.j (min c.args.hall.now.unsaved_from c.args.hall.now.moment) c.mark_stall.ensures.rest c.mark_stall.ensures.stall c.mark_stall.ensures.sound c.empty_stall-emptied.ensures.rest c.empty_stall-emptied.ensures.stall c.settle_stall.ensures.rest;
  files = λ told. copies_files g.F.Folder.tells_files c.mark_stall.new.self c.empty_stall-emptied.new.hall (g.F.Folder.files c.args.folder.now) (g.F.Folder.files c.empty_stall-emptied.new.folder) (g.F.Folder.folder_faults c.args.folder.now) (g.F.Folder.folder_faults c.empty_stall-emptied.new.folder) c.empty_stall-emptied.result c.args.i c.args.j c.mark_stall.ensures.sound c.empty_stall-emptied.ensures.rest c.empty_stall-emptied.ensures.stall told;
  faults = c.empty_stall-emptied.ensures.stall.does.does.disk.faults;
  cause = c.empty_stall-emptied.ensures.cause;
}

pub mark_stall-requires-clause-sound : goal.mark_stall-requires-clause-sound
mark_stall-requires-clause-sound g c = c.requires.sound

pub mark_stall-requires-clause-room : goal.mark_stall-requires-clause-room
mark_stall-requires-clause-room g c = c.requires.room

pub mark_stall-requires-clause-stall : goal.mark_stall-requires-clause-stall
mark_stall-requires-clause-stall g c = c.requires.stall

pub empty_stall-emptied-requires-clause-sound : goal.empty_stall-emptied-requires-clause-sound
empty_stall-emptied-requires-clause-sound g c = c.mark_stall.ensures.sound

pub empty_stall-emptied-requires-clause-room : goal.empty_stall-emptied-requires-clause-room
empty_stall-emptied-requires-clause-room g c = range_behind c.args.i _ c.args.hall.now.rooms.items c.mark_stall.new.self.rooms.items c.mark_stall.ensures.stall

pub empty_stall-emptied-requires-clause-stall : goal.empty_stall-emptied-requires-clause-stall
empty_stall-emptied-requires-clause-stall g c = stall_range_behind c.args.i c.args.j _ c.args.hall.now.rooms.items c.mark_stall.new.self.rooms.items c.mark_stall.ensures.stall

pub settle_stall-requires-clause-room : goal.settle_stall-requires-clause-room
settle_stall-requires-clause-room g c = range_behind c.args.i _ c.mark_stall.new.self.rooms.items c.empty_stall-emptied.new.hall.rooms.items c.empty_stall-emptied.ensures.stall

pub settle_stall-requires-clause-stall : goal.settle_stall-requires-clause-stall
settle_stall-requires-clause-stall g c = stall_range_behind c.args.i c.args.j _ c.mark_stall.new.self.rooms.items c.empty_stall-emptied.new.hall.rooms.items c.empty_stall-emptied.ensures.stall
