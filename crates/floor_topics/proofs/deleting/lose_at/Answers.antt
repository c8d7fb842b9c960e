use Rattle.std.proofs.Common.{get_or, is_some, ap, ◌∙◌}
use Rattle.floor_rooms.specs.declared.hall.Hall.{Hall}
use Rattle.floor_topics.specs.declared.lost.Lost.TheVariants.{Done, Fault}
use Rattle.floor_rooms.specs.Rooms.{channel_name, client_in, topic_name}
use Rattle.floor_rooms.proofs.Forming.{some_at}
use Rattle.floor_rooms.proofs.Naming.{names_then}
use Rattle.floor_topics.proofs.Frames.{frame_lost}
use Rattle.floor_topics.proofs.LosingChannels.{lost_room, lost_since, lost_told, lost_within}
use Rattle.floor_topics.proofs.Numbers.{numbers_lost}
use Rattle.floor_topics.proofs.deleting.lose_at.Goals as goal

pub forget_empty-requires-clause-room : goal.forget_empty-requires-clause-room
forget_empty-requires-clause-room g c =
    let d = (some_at c.args.hall.now.rooms.items c.args.i c.requires.room).0 in
    let x = (some_at (get_or c.args.hall.now.rooms.items c.args.i d).stalls.items c.args.j (c.requires.stall d)).0 in
    lost_within c.args.hall.now c.lose_stall.new.hall c.lose_stall.new.hall (g.F.Folder.files c.args.folder.now) (g.F.Folder.files c.lose_stall.new.folder) c.args.i c.args.j (channel_name (get_or (get_or c.args.hall.now.rooms.items c.args.i d).stalls.items c.args.j x)) c.requires.sound c.lose_stall.ensures.sound (c.in-Done.ensures.rooms d x)

pub returns-in-Done : goal.returns-in-Done
returns-in-Done g c = record {
  told =
      λ told d x s holds.
      let r = c.in-Done.ensures.stands told d x s holds in
      let at = c.in-Done.ensures.rooms d x in
      let f = c.forget_empty.ensures.stands at.after (g.F.Folder.files c.lose_stall.new.folder) r.0 r.2 in
      (f.0, lost_told c.args.hall.now c.lose_stall.new.hall c.forget_empty.new.hall (g.F.Folder.files c.args.folder.now) (g.F.Folder.files c.lose_stall.new.folder) c.args.i c.args.j (channel_name (get_or (get_or c.args.hall.now.rooms.items c.args.i d).stalls.items c.args.j x)) c.requires.sound c.lose_stall.ensures.sound (c.in-Done.ensures.rooms d x) (topic_name (get_or c.args.hall.now.rooms.items c.args.i d)) (lost_room c.args.hall.now c.lose_stall.new.hall c.forget_empty.new.hall (g.F.Folder.files c.args.folder.now) (g.F.Folder.files c.lose_stall.new.folder) c.args.i c.args.j (channel_name (get_or (get_or c.args.hall.now.rooms.items c.args.i d).stalls.items c.args.j x)) c.requires.sound c.lose_stall.ensures.sound (c.in-Done.ensures.rooms d x) d) s r.0 f.0 holds r.1 r.2 f.1, f.2);
  rest = frame_lost c.args.hall.now c.lose_stall.new.hall c.forget_empty.new.hall c.lose_stall.ensures.rest c.forget_empty.ensures.rest;
  sound = c.forget_empty.ensures.sound;
  names = names_then c.args.hall.now c.lose_stall.new.hall c.forget_empty.new.hall c.lose_stall.ensures.names c.forget_empty.ensures.names;
  since =
      let d = (some_at c.args.hall.now.rooms.items c.args.i c.requires.room).0 in
      lost_since c.args.hall.now.moment c.lose_stall.new.hall.moment (get_or c.lose_stall.new.hall.rooms.items c.args.i d) c.args.hall.now.rooms.items c.lose_stall.new.hall.rooms.items c.forget_empty.new.hall.rooms.items (ap (λ (h : Hall). h.moment) c.lose_stall.ensures.rest) (c.forget_empty.ensures.rooms d) c.lose_stall.ensures.since c.forget_empty.ensures.since;
  files = c.lose_stall.ensures.files;
  faults = c.lose_stall.ensures.faults;
  cause = tt;
  numbers =
      let d = (some_at c.args.hall.now.rooms.items c.args.i c.requires.room).0 in
      let x = (some_at (get_or c.args.hall.now.rooms.items c.args.i d).stalls.items c.args.j (c.requires.stall d)).0 in
      λ m. ap (λ (h : Hall). is_some (client_in h.clients.items m)) c.forget_empty.ensures.rest ∙ numbers_lost Done (topic_name (get_or c.args.hall.now.rooms.items c.args.i d)) (channel_name (get_or (get_or c.args.hall.now.rooms.items c.args.i d).stalls.items c.args.j x)) c.args.hall.now.clients.items c.lose_stall.new.hall.clients.items (c.in-Done.ensures.clients d x) m;
}

pub returns-in-Fault-clause-numbers : goal.returns-in-Fault-clause-numbers
returns-in-Fault-clause-numbers g c =
    let d = (some_at c.args.hall.now.rooms.items c.args.i c.requires.room).0 in
    let x = (some_at (get_or c.args.hall.now.rooms.items c.args.i d).stalls.items c.args.j (c.requires.stall d)).0 in
    numbers_lost Fault (topic_name (get_or c.args.hall.now.rooms.items c.args.i d)) (channel_name (get_or (get_or c.args.hall.now.rooms.items c.args.i d).stalls.items c.args.j x)) c.args.hall.now.clients.items c.lose_stall.new.hall.clients.items (c.in-Fault.ensures.clients d x)

pub returns-in-Fault-clause-rest : goal.returns-in-Fault-clause-rest
returns-in-Fault-clause-rest g c = c.lose_stall.ensures.rest

pub returns-in-Fault-clause-sound : goal.returns-in-Fault-clause-sound
returns-in-Fault-clause-sound g c = c.lose_stall.ensures.sound

pub returns-in-Fault-clause-names : goal.returns-in-Fault-clause-names
returns-in-Fault-clause-names g c = c.lose_stall.ensures.names

pub returns-in-Fault-clause-since : goal.returns-in-Fault-clause-since
returns-in-Fault-clause-since g c = c.lose_stall.ensures.since

pub returns-in-Fault-clause-files : goal.returns-in-Fault-clause-files
returns-in-Fault-clause-files g c = c.lose_stall.ensures.files

pub returns-in-Fault-clause-faults : goal.returns-in-Fault-clause-faults
returns-in-Fault-clause-faults g c = c.lose_stall.ensures.faults

pub returns-in-Fault-clause-cause : goal.returns-in-Fault-clause-cause
returns-in-Fault-clause-cause g c = c.in-Fault.ensures.cause

pub lose_stall-requires-clause-sound : goal.lose_stall-requires-clause-sound
lose_stall-requires-clause-sound g c = c.requires.sound

pub lose_stall-requires-clause-room : goal.lose_stall-requires-clause-room
lose_stall-requires-clause-room g c = c.requires.room

pub lose_stall-requires-clause-stall : goal.lose_stall-requires-clause-stall
lose_stall-requires-clause-stall g c = c.requires.stall

pub forget_empty-requires-clause-sound : goal.forget_empty-requires-clause-sound
forget_empty-requires-clause-sound g c = c.lose_stall.ensures.sound
